-- The flashes of one command more, and the commands of an operation that was passed.
use Rattle.layer_image.proofs.Common.{◌≡◌, ◌∙◌, ℕ, Result, Ok, Err, OnOk, List, [], ◌∷◌, ◌++◌, drop, length, Option, None, Some, sym, ap, subst, append-nil, append_assoc, map-append, Command, text_command, Placed, Entries, item_entries, without_places, Flash, added_flashes, flashes_of, HasScannedLegal, scanned_flashes, without_flashes, state_after, Mode, Interpolation, modes_of, Scan, Profile}
use Rattle.gerber_text.specs.declared.text_items.TextKind.{TextKind}
use Rattle.gerber_text.specs.declared.text_items.TextKind.TheVariants as kinds
use Rattle.gerber_text.proofs.SpelledIsWritten.{bare}
use Rattle.layer_state.proofs.OwnFlashes.{drop_first, flashes_of-more}

-- an interpolation makes no flash
pub flashes_with_mode : (before : List Command) (mode : Option Interpolation) → flashes_of (before ++ modes_of mode) ≡ flashes_of before
flashes_with_mode before None = ap flashes_of (append-nil before)
flashes_with_mode before (Some mode) = flashes_of-more before (Mode mode) ∙ append-nil (flashes_of before)

-- a comment or an attribute makes no flash
flashes_with_text : (before : List Command) (kind : TextKind) (text : List ℕ) → flashes_of (before ++ text_command kind text ∷ []) ≡ flashes_of before
flashes_with_text before kind text = flashes_of-more before (text_command kind text) ∙ by kind
  where
    by : (k : TextKind) → flashes_of before ++ added_flashes (state_after before) (text_command k text) ≡ flashes_of before
    by kinds.Comment = append-nil (flashes_of before)
    by (kinds.Attribute which) = append-nil (flashes_of before)
    by kinds.Remove = append-nil (flashes_of before)

-- where all flashes before a command were dropped, those that are held are its own
pub own_flashes : (profile : Profile) (scan : Scan) (dropped : List Flash) (entries : Entries) (commands : List Command) (c : Command) → HasScannedLegal scan (without_flashes profile dropped) entries → without_places entries ≡ commands ++ c ∷ [] → dropped ≡ flashes_of commands
    → scanned_flashes scan ≡ added_flashes (state_after commands) c
own_flashes profile scan dropped entries commands c h is same =
    let own : List Flash = added_flashes (state_after commands) c in
    let all : dropped ++ scanned_flashes scan ≡ dropped ++ own = h.met.is_state.flashes.all ∙ ap flashes_of is ∙ flashes_of-more commands c ∙ ap (λ (l : List Flash). l ++ own) (sym same) in
    sym (drop_first dropped (scanned_flashes scan)) ∙ ap (drop (length dropped)) all ∙ drop_first dropped own

-- once these are dropped too, all flashes of the commands are
pub all_dropped : (profile : Profile) (old new : Scan) (dropped : List Flash) (entries : Entries) → HasScannedLegal old (without_flashes profile dropped) entries → HasScannedLegal new (without_flashes profile (dropped ++ scanned_flashes old)) entries
    → HasScannedLegal new (without_flashes profile (flashes_of (without_places entries))) entries
all_dropped profile old new dropped entries was is = subst (λ (l : List Flash). HasScannedLegal new (without_flashes profile l) entries) was.met.is_state.flashes.all is

-- one entry more
pub next_entry : (before : Entries) (e : Placed Command) → without_places (before ++ e ∷ []) ≡ without_places before ++ e.what ∷ []
next_entry before e = map-append (λ (d : Placed Command). d.what) before (e ∷ [])

-- the commands of an item after others
after_item : (before : Entries) (place byte : ℕ) (cs : List Command) → without_places (before ++ item_entries place byte cs) ≡ without_places before ++ cs
after_item before place byte cs = map-append (λ (d : Placed Command). d.what) before (item_entries place byte cs) ∙ ap (λ (l : List Command). without_places before ++ l) (bare place byte cs)

-- the commands of an operation after others: its interpolation, if it has one, comes first
pub after_operation : (before : Entries) (place byte : ℕ) (mode : Option Interpolation) (what : Command) → without_places (before ++ item_entries place byte (modes_of mode ++ what ∷ [])) ≡ (without_places before ++ modes_of mode) ++ what ∷ []
after_operation before place byte mode what = after_item before place byte (modes_of mode ++ what ∷ []) ∙ sym (append_assoc (without_places before) (modes_of mode) (what ∷ []))

-- the command of a text after others
pub after_text : (before : Entries) (place byte : ℕ) (what : Command) → without_places (before ++ item_entries place byte (what ∷ [])) ≡ without_places before ++ what ∷ []
after_text before place byte what = after_item before place byte (what ∷ [])

-- after a text no flash is held, as before it
pub text_dropped : (profile : Profile) (scan : Scan) (before : Entries) (place byte : ℕ) (kind : TextKind) (text : List ℕ) → HasScannedLegal scan (without_flashes profile (flashes_of (without_places before))) (before ++ item_entries place byte (text_command kind text ∷ []))
    → HasScannedLegal scan (without_flashes profile (flashes_of (without_places (before ++ item_entries place byte (text_command kind text ∷ []))))) (before ++ item_entries place byte (text_command kind text ∷ []))
text_dropped profile scan before place byte kind text h =
    subst (λ (l : List Flash). HasScannedLegal scan (without_flashes profile l) (before ++ item_entries place byte (text_command kind text ∷ []))) (sym (ap flashes_of (after_text before place byte (text_command kind text)) ∙ flashes_with_text (without_places before) kind text)) h

-- what follows where a call goes on
pub and_then : {P Q E : Type 0} (r : Result (Unit {0}) E) → OnOk r P → (P → Q) → OnOk r Q
and_then (Ok x) h f = f h
and_then (Err e) h f = tt
