-- A line that is read and judged.
use Rattle.drill_text.proofs.Common.{◌≡◌, ℕ, ◌<◌, List, [], ◌∷◌, ◌++◌, length, map, None, Some, Result, Ok, Err, sym, ap, subst, ◌∙◌, refl, arith, map-append, Reason, Fault, Fail, fault, with_place, IfFault, DrillCommand, Settings, without_end_blanks, HasReadLines, DrillState, Keep, StateView, settings_after, rule_in, Kind, add_unless, checked_by, spelled_in, with_rest, IsStateAfter, ResultsIn, ResultsInLine, Profile}
use Rattle.drill_lines.specs.declared.line_reader.LineReader.{LineReader}
use Rattle.drill_text.specs.declared.kept.KeptCommands.{KeptCommands}

pub checked_kept : (kind : Kind) (before : List DrillCommand) (place byte : ℕ) (c : DrillCommand) → rule_in kind.profile kind.plating before c ≡ None → with_place place byte (checked_by (rule_in kind.profile kind.plating) before (Some c)) ≡ Ok (before ++ c ∷ [])
checked_kept kind before place byte c legal = ap (λ o. with_place place byte (add_unless o before c)) legal

pub checked_broken : (kind : Kind) (before : List DrillCommand) (place byte : ℕ) (c : DrillCommand) (r : Reason) → rule_in kind.profile kind.plating before c ≡ Some r → with_place place byte (checked_by (rule_in kind.profile kind.plating) before (Some c)) ≡ Err (fault place byte r)
checked_broken kind before place byte c r broken = ap (λ o. with_place place byte (add_unless o before c)) broken

-- the settings of a state are those after its commands
pub settings_are : (state : DrillState) (kind : Kind) (before : List DrillCommand) → IsStateAfter state kind before → state.settings ≡ settings_after before
settings_are state kind before h = ap (λ (s : StateView). s.settings) h.state_after

-- one more line without the blanks at its end
pub trimmed_more : (earlier : List (List ℕ)) (line : List ℕ) → map without_end_blanks (earlier ++ line ∷ []) ≡ map without_end_blanks earlier ++ without_end_blanks line ∷ []
trimmed_more earlier line = map-append without_end_blanks earlier (line ∷ [])

-- lines that were read, with one more
pub lines_more : (reader : LineReader) (p : Profile) (s : Settings) (earlier : List (List ℕ)) (line : List ℕ) → HasReadLines reader p s (map without_end_blanks earlier ++ without_end_blanks line ∷ []) → HasReadLines reader p s (map without_end_blanks (earlier ++ line ∷ []))
lines_more reader p s earlier line h = subst (λ (e : List (List ℕ)). HasReadLines reader p s e) (sym (trimmed_more earlier line)) h

-- the judged command of a line that was read
pub line_results : {X : Type 0} (result : Result X Fail) (reader : LineReader) (state : DrillState) (kept : KeptCommands) (p : Kind) (keep : Keep) (earlier : List (List ℕ)) (line : List ℕ) (judged read : Result (List DrillCommand) Fault)
    → read ≡ judged → ((after : List DrillCommand) → HasReadLines reader p.profile (settings_after after) (map without_end_blanks (earlier ++ line ∷ []))) → ResultsIn result state kept p keep judged → ResultsInLine result reader state kept p keep earlier line read
line_results (Ok x) reader state kept p keep earlier line judged read same lines h = (h.0, same ∙ h.1, record { lines = lines h.0; has_read = h.2 })
line_results (Err e) reader state kept p keep earlier line judged read same lines h = subst (λ r. IfFault (λ f. r ≡ Err f) e) (sym same) h

-- a rest with a byte is a line
pub rest_is_line : (p : Kind) (lines : List (List ℕ)) (rest : List ℕ) (commands : List DrillCommand) → 0 < length rest → with_rest p lines rest commands ≡ spelled_in p lines rest commands
rest_is_line p lines [] commands some = absurd (omega arith)
rest_is_line p lines (b ∷ bs) commands some = refl

-- what a last line leaves
pub rest_results : {X : Type 0} (result : Result X Fail) (reader : LineReader) (state : DrillState) (kept : KeptCommands) (p : Kind) (keep : Keep) (earlier : List (List ℕ)) (line : List ℕ) (read rest : Result (List DrillCommand) Fault)
    → rest ≡ read → ResultsInLine result reader state kept p keep earlier line read → ResultsIn result state kept p keep rest
rest_results (Ok x) reader state kept p keep earlier line read rest same h = (h.0, same ∙ h.1, h.2.has_read)
rest_results (Err e) reader state kept p keep earlier line read rest same h = subst (λ r. IfFault (λ f. r ≡ Err f) e) (sym same) h
