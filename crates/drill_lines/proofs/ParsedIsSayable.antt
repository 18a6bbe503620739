-- What a line spells is sayable, since the grammar writes it.
use Rattle.drill_lines.proofs.Common.{◌≡◌, ◌≢◌, ℕ, ◌≤◌, true, false, not, ◌||◌, ◌&&◌, eqb, List, [], ◌∷◌, length, Option, Some, None, Ok, refl, sym, ap, ◌∙◌, arith, list_all, list_any, AllByRecursion, length-append, All-contains, All-from_recursion, list_all-append, le-leb, eq-eqb, Zeros, both_true, Part, Settings, DrillCommand, Comment, UnitLine, Tool, Pick, Hit, Slot, without_end_blanks, meaning, fixed_lines, zeros_words, IsLine, can_give_zeros, is_comment_text, is_sayable}
use Rattle.std.proofs.Common.{Contains}
use Rattle.std.specs.Prelude.{IfSome}
use Rattle.std.proofs.lemmas.Bool.{lt-ltb}
use Rattle.grid_units.proofs.BoolLemmas.{not_true}
use Rattle.drill_lines.specs.declared.command.Part.TheVariants as part
use Rattle.drill_lines.proofs.TrimmedLemmas.{trimmed_twice, trimmed_front}
use Rattle.drill_lines.proofs.Written.{answers_are_written}

-- ---- forms

fixed_sayable : (p : Part) → AllByRecursion (λ form. IfSome form.1 (λ c. is_sayable p c ≡ true)) (([], None) ∷ fixed_lines p)
fixed_sayable part.Before = (tt, (refl, (tt, tt)))
fixed_sayable part.Header = (tt, (refl, (refl, (refl, (refl, (tt, (tt, (tt, (tt, (tt, tt))))))))))
fixed_sayable part.Body = (tt, (refl, (refl, (refl, (tt, (tt, (tt, (tt, (tt, tt)))))))))
fixed_sayable part.After = (tt, tt)

listed_sayable : (p : Part) (line : List ℕ) (c : DrillCommand) → Contains (([], None) ∷ fixed_lines p) (line, Some c) → is_sayable p c ≡ true
listed_sayable p line c h =
    let Says : List ℕ × Option DrillCommand → Type 0 = λ form. IfSome form.1 (λ d. is_sayable p d ≡ true) in
    let forms = ([], None) ∷ fixed_lines p in
    All-contains Says forms (line, Some c) (All-from_recursion Says forms (fixed_sayable p)) h

zeros_given : (named : List ℕ) (zeros : Option Zeros) → Contains zeros_words (named, zeros) → can_give_zeros zeros ≡ true
zeros_given named zeros h =
    let Gives : List ℕ × Option Zeros → Type 0 = λ form. can_give_zeros form.1 ≡ true in
    All-contains Gives zeros_words (named, zeros) (All-from_recursion Gives zeros_words (refl, (refl, (refl, tt)))) h

-- ---- comments

no_break : (text : List ℕ) → list_all (λ b. not (eqb b 10)) text ≡ true → list_any (λ b. eqb b 10) text ≡ false
no_break [] h = refl
no_break (b ∷ text) h = let k = both_true (not (eqb b 10)) (list_all (λ c. not (eqb c 10)) text) h in λ i. not_true (eqb b 10) k.0 i || no_break text k.1 i

comment_text : (text : List ℕ) → without_end_blanks (59 ∷ text) ≡ 59 ∷ text → list_all (λ b. not (eqb b 10)) text ≡ true → length (59 ∷ text) ≤ 1048576 → is_comment_text text ≡ true
comment_text text kept inside short =
    let same : without_end_blanks text ≡ text = let whole : 59 ∷ without_end_blanks text ≡ 59 ∷ text = kept in cc in
    λ i. not (no_break text inside i) && (eq-eqb (length (without_end_blanks text)) (length text) (ap length same) i && lt-ltb (length text) 1048576 (omega (arith, short)) i)

comment_sayable : (p : Part) (text : List ℕ) → p ≢ part.After → is_comment_text text ≡ true → is_sayable p (Comment text) ≡ true
comment_sayable part.Before text h k = k
comment_sayable part.Header text h k = k
comment_sayable part.Body text h k = k
comment_sayable part.After text h k = absurd (h refl)

-- ---- lines

-- a command that a line is written for, without blanks at its end or LF, and within the limit
written_sayable : (s : Settings) (line : List ℕ) (c : DrillCommand) → IsLine s line (Some c) → without_end_blanks line ≡ line → list_all (λ b. not (eqb b 10)) line ≡ true → length line ≤ 1048576 → is_sayable s.part c ≡ true
written_sayable s line (Comment text) h kept inside short =
    comment_sayable s.part text h.0 (comment_text text (ap without_end_blanks (sym h.1) ∙ (kept ∙ h.1)) (ap (list_all (λ b. not (eqb b 10))) (sym h.1) ∙ inside) (omega (arith, short, ap length h.1)))
written_sayable s line (UnitLine unit zeros format) h kept inside short = ap (λ p. is_sayable p (UnitLine unit zeros format)) h.0 ∙ zeros_given h.1.1 zeros h.1.4
written_sayable s line (Tool n diameter) h kept inside short = ap (λ p. is_sayable p (Tool n diameter)) h.0 ∙ (λ i. le-leb 1 n h.1.6 i && le-leb n 999 h.1.5.2 i)
written_sayable s line (Pick n) h kept inside short = ap (λ p. is_sayable p (Pick n)) h.0 ∙ le-leb n 999 h.1.3.2
written_sayable s line (Hit point) h kept inside short = ap (λ p. is_sayable p (Hit point)) h.0 ∙ h.1.5
written_sayable s line (Slot from to) h kept inside short = ap (λ p. is_sayable p (Slot from to)) h.0 ∙ (λ i. h.1.3.5 i && h.1.4.5 i)
written_sayable s line c h kept inside short = listed_sayable s.part line c h

-- the command that a line without LF spells is sayable
pub line_sayable : (s : Settings) (line : List ℕ) (c : DrillCommand) → list_all (λ b. not (eqb b 10)) line ≡ true → length line ≤ 1048576 → meaning s (without_end_blanks line) ≡ Ok (Some c) → is_sayable s.part c ≡ true
line_sayable s line c inside short e =
    let front = trimmed_front line in
    let parts = both_true (list_all (λ b. not (eqb b 10)) (without_end_blanks line)) (list_all (λ b. not (eqb b 10)) front.0) (sym (list_all-append (λ b. not (eqb b 10)) (without_end_blanks line) front.0) ∙ (ap (list_all (λ b. not (eqb b 10))) (sym front.1) ∙ inside)) in
    written_sayable s (without_end_blanks line) c (answers_are_written s (without_end_blanks line) (Some c) e) (trimmed_twice line) parts.0 (omega (arith, short, ap length front.1, length-append (without_end_blanks line) front.0))
