-- A text that spells commands, and one that is written for them.
use Rattle.drill_text.proofs.Common.{◌≡◌, ℕ, zero, suc, true, cond, ◌||◌, List, [], ◌∷◌, ◌++◌, map, Option, None, Ok, refl, sym, ap, subst, ◌∙◌, arith, append_assoc, list_any, flat_map, AllByRecursion, Contains, onto_first, option_to_list, ne_eqb, ◌>>=◌, bind_ok, Strict, CoordinateFormat, DrillCommand, without_end_blanks, meaning, written_is_answered, bytes_of, HasNoBreak, Splits, settings_after, is_finish, said_first, spelled_after, AreWithinLimit, SpellsText, lines_of, AreEntries, IsText, IsWithinLimits, SpelledIsWritten}
use Rattle.grid_units.proofs.ListLemmas.{list_any_element}
use Rattle.drill_lines.specs.declared.command.DrillCommand.TheVariants as command
use Rattle.drill_lines.proofs.Runs.{or_right}
use Rattle.drill_lines.proofs.Written.{answers_are_written}
use Rattle.drill_text.proofs.FirstFaults.{cut}

-- ---- lines

-- the lines of entries, in order
abbrev pub lines_in : List (List (List ℕ)) → List (List ℕ)
lines_in entries = flat_map (λ entry. entry) entries

entries_spell : (earlier : List (List ℕ)) (before : List DrillCommand) (entries : List (List (List ℕ))) (commands : List DrillCommand) → AreEntries Strict earlier before entries commands → spelled_after before (lines_in entries) ≡ Ok commands
entries_spell earlier before [] commands e = ap (λ (cs : List DrillCommand). Ok cs) (sym e)
entries_spell earlier before ((line ∷ []) ∷ entries) commands (spelled, (one, is, same), rest) =
    ap (λ r. r >>= λ o. spelled_after (before ++ option_to_list o) (lines_in entries)) (written_is_answered (settings_after before) (without_end_blanks line) one is)
    ∙ (ap (λ (cs : List DrillCommand). spelled_after (before ++ cs) (lines_in entries)) (sym same) ∙ entries_spell (earlier ++ line ∷ []) (before ++ spelled) entries commands rest)
entries_spell earlier before (entry ∷ entries) commands (spelled, never, rest) = absurd never

-- each line alone
alone : List ℕ → List (List ℕ)
alone line = line ∷ []

lines_alone : (lines : List (List ℕ)) → lines_in (map alone lines) ≡ lines
unfolding alone
lines_alone [] = refl
lines_alone (line ∷ lines) = ap (λ (ls : List (List ℕ)). line ∷ ls) (lines_alone lines)

spelled_entries : (earlier : List (List ℕ)) (before : List DrillCommand) (lines : List (List ℕ)) (commands : List DrillCommand) → spelled_after before lines ≡ Ok commands → AreEntries Strict earlier before (map alone lines) commands
unfolding alone
spelled_entries earlier before [] commands e = let same : before ≡ commands = cc in sym same
spelled_entries earlier before (line ∷ lines) commands e =
    let b = bind_ok (meaning (settings_after before) (without_end_blanks line)) (λ o. spelled_after (before ++ option_to_list o) lines) commands e in
    (option_to_list b.0, (b.0, answers_are_written (settings_after before) (without_end_blanks line) b.0 b.1, refl), spelled_entries (earlier ++ line ∷ []) (before ++ option_to_list b.0) lines commands b.2)

-- ---- cutting at LF

cut_line : (line rest : List ℕ) → HasNoBreak line → lines_of (line ++ 10 ∷ rest) ≡ line ∷ lines_of rest
cut_line [] rest h = refl
cut_line (b ∷ line) rest h =
    ap (λ t. cond t ([] ∷ lines_of (line ++ 10 ∷ rest)) (onto_first b (lines_of (line ++ 10 ∷ rest)))) (ne_eqb b 10 h.0)
    ∙ ap (onto_first b) (cut_line line rest h.1)

cut_rest : (rest : List ℕ) → HasNoBreak rest → lines_of rest ≡ rest ∷ []
cut_rest [] h = refl
cut_rest (b ∷ rest) h = ap (λ t. cond t ([] ∷ lines_of rest) (onto_first b (lines_of rest))) (ne_eqb b 10 h.0) ∙ ap (onto_first b) (cut_rest rest h.1)

cut_lines : (lines : List (List ℕ)) (rest : List ℕ) → AllByRecursion HasNoBreak lines → HasNoBreak rest → lines_of (bytes_of lines ++ rest) ≡ lines ++ rest ∷ []
cut_lines [] rest each partial = cut_rest rest partial
cut_lines (line ∷ lines) rest each partial =
    ap lines_of (append_assoc (line ++ 10 ∷ []) (bytes_of lines) rest ∙ append_assoc line (10 ∷ []) (bytes_of lines ++ rest))
    ∙ (cut_line line (bytes_of lines ++ rest) each.0 ∙ ap (λ (ls : List (List ℕ)). line ∷ ls) (cut_lines lines rest each.1 partial))

pub same_lines : (text : List ℕ) (lines : List (List ℕ)) (rest : List ℕ) → Splits text lines rest → lines_of text ≡ lines ++ rest ∷ []
same_lines text lines rest s = ap lines_of s.whole ∙ cut_lines lines rest s.each s.partial

-- ---- the end of the file

pub is_end : (c : DrillCommand) → is_finish c ≡ true → c ≡ command.Finish
is_end command.Finish e = refl
is_end c e = absurd cc

pub has_end : (commands : List DrillCommand) → list_any is_finish commands ≡ true → Contains commands command.Finish
has_end commands e = let there = list_any_element is_finish commands e in subst (Contains commands) (is_end there.0 there.2) there.1

pub end_found : (commands : List DrillCommand) → Contains commands command.Finish → list_any is_finish commands ≡ true
end_found [] (k, less, e) = absurd (omega (arith, less))
end_found (c ∷ cs) (zero, less, e) = ap (λ d. is_finish d || list_any is_finish cs) e
end_found (c ∷ cs) (suc k, less, e) = or_right (is_finish c) (list_any is_finish cs) (end_found cs (k, omega (arith, less), e))

-- ---- texts

spelled_written : (text : List ℕ) (commands : List DrillCommand) → SpellsText text commands → IsWithinLimits text × IsText Strict None text commands
spelled_written text commands s =
    let lines : List (List ℕ) = s.lines ++ s.rest ∷ [] in
    let same : lines ≡ lines_of text = sym (same_lines text s.lines s.rest s.splits) in (
      (s.within, subst AreWithinLimit same s.short),
      record { entries = map alone lines; lines = lines_alone lines ∙ same; spells = spelled_entries [] [] lines commands s.spelling; ends = has_end commands s.ends },
    )

-- what the lines of a text spell
pub text_spells : (format : Option CoordinateFormat) (text : List ℕ) (commands : List DrillCommand) → IsText Strict format text commands → spelled_after (said_first format) (lines_of text) ≡ Ok commands
text_spells format text commands t = subst (λ ls. spelled_after (said_first format) ls ≡ Ok commands) t.lines (entries_spell [] (said_first format) t.entries commands t.spells)

written_spelled : (text : List ℕ) (commands : List DrillCommand) → IsWithinLimits text → IsText Strict None text commands → SpellsText text commands
written_spelled text commands within t =
    let c = cut text in
    let same = same_lines text c.lines c.rest c.splits in
    record {
      lines = c.lines;
      rest = c.rest;
      splits = c.splits;
      within = within.0;
      short = subst AreWithinLimit same within.1;
      spelling = subst (λ ls. spelled_after [] ls ≡ Ok commands) same (text_spells None text commands t);
      ends = end_found commands t.ends;
    }

pub spelled_is_written : SpelledIsWritten
spelled_is_written text commands = (spelled_written text commands, λ h. written_spelled text commands h.0 h.1)
