-- Those hits that are read by the fast path.
use Rattle.drill_text.proofs.Common.{◌≡◌, ◌≤◌, ◌<◌, ◌+◌, ◌-◌, ℕ, zero, suc, ℤ, true, not, eqb, cond, List, [], ◌∷◌, ◌++◌, length, replicate, Option, Some, None, Result, Ok, refl, sym, ap, ◌∙◌, arith, append_assoc, list_all, append-nil, length-append, Reason, is_number_char, ◌>>=◌, both, without_end_blanks, one_command, meaning, line_in, begins_comment, Coordinates, Settings, Runs, runs_of, coordinate, coordinates, coordinate_of, field, hole_from, hole_line, IsLeadingRun, MayLead, HasLineEnd, HasLeadingHit}
use Rattle.grid_units.specs.ReadPrefix.{IsPrefixDecimal}
use Rattle.drill_lines.specs.declared.command.Part.TheVariants as part
use Rattle.drill_lines.specs.declared.command.DrillCommand.TheVariants as command
use Rattle.drill_lines.proofs.Runs.{is_no_blank_or_break, solid_kept}
use Rattle.drill_lines.proofs.TrimmedLemmas.{trim_blank}
use Rattle.drill_lines.proofs.CanonicalParses.{numbers_solid, solid_no_break}
use Rattle.drill_lines.proofs.Fronts.{pointed_coordinate}
use Rattle.grid_units.proofs.ListLemmas.{list_all_weaker, list_all_append, take_while_append, drop_run_append, take_while_all, drop_run_all}

-- a decimal with a point is such a run, whatever the settings
pub pointed_run : (s : Settings) (v : ℤ) (rest bytes : List ℕ) → IsPrefixDecimal v rest bytes → IsLeadingRun s v rest bytes
pointed_run s v rest bytes h = record { run = h.run; whole = h.whole; numbers = h.numbers; reads = pointed_coordinate s h.run v h.point h.reads; short = h.short }

-- ---- the line

-- a short line without blanks that in the body spells a hit
record Spells (s : Settings) (point : Coordinates) (line : List ℕ) : Type 0 where
  pub short : length line ≤ 34
  pub solid : list_all is_no_blank_or_break line ≡ true
  pub spells : s.part ≡ part.Body → meaning s line ≡ Ok (Some (command.Hit point))

run_read : (s : Settings) (run : List ℕ) (v : ℤ) → coordinate_of s run ≡ Ok v → coordinate s (Some run) ≡ Ok (Some v)
unfolding coordinate
run_read s run v reads = ap (λ (r : Result ℤ Reason). r >>= λ w. Ok (Some w)) reads

-- what a line of these runs alone spells
runs_hit : (s : Settings) (line : List ℕ) (runs : Runs) (x y : Option ℤ) → runs_of line ≡ (runs, []) → coordinate s runs.x ≡ Ok x → coordinate s runs.y ≡ Ok y → hole_line s line ≡ Ok (command.Hit (record { x = x; y = y }))
unfolding hole_line hole_from coordinates
runs_hit s line runs x y is rx ry = ap (λ (r : Runs × List ℕ). hole_from s r.0 r.1) is ∙ (λ i. (both (rx i) (ry i) >>= λ p. Ok (record { x = p.0; y = p.1 })) >>= λ p. Ok (command.Hit p))

x_in_body : (s : Settings) (bs : List ℕ) → s.part ≡ part.Body → meaning s (88 ∷ bs) ≡ one_command (hole_line s (88 ∷ bs))
unfolding meaning line_in
x_in_body s bs body = ap (λ p. cond (begins_comment p 88) (Ok (Some (command.Comment bs))) (line_in p s (88 ∷ bs))) body

y_in_body : (s : Settings) (bs : List ℕ) → s.part ≡ part.Body → meaning s (89 ∷ bs) ≡ one_command (hole_line s (89 ∷ bs))
unfolding meaning line_in
y_in_body s bs body = ap (λ p. cond (begins_comment p 89) (Ok (Some (command.Comment bs))) (line_in p s (89 ∷ bs))) body

x_alone : (xs : List ℕ) → list_all is_number_char xs ≡ true → field 88 (88 ∷ xs) ≡ (Some xs, [])
x_alone xs nx = λ i. (Some (take_while_all is_number_char xs nx i), drop_run_all is_number_char xs nx i)

y_alone : (ys : List ℕ) → list_all is_number_char ys ≡ true → field 89 (89 ∷ ys) ≡ (Some ys, [])
y_alone ys ny = λ i. (Some (take_while_all is_number_char ys ny i), drop_run_all is_number_char ys ny i)

x_spelled : (s : Settings) (x : ℤ) (rest bytes : List ℕ) (h : IsLeadingRun s x rest bytes) → Spells s (record { x = Some x; y = None }) (88 ∷ h.run)
unfolding is_no_blank_or_break coordinate
x_spelled s x rest bytes h = record {
  short = omega (arith, h.short);
  solid = numbers_solid h.run h.numbers;
  spells = λ body. x_in_body s h.run body ∙ ap one_command (runs_hit s (88 ∷ h.run) (record { x = Some h.run; y = None }) (Some x) None
      (ap (λ (f : Option (List ℕ) × List ℕ). (record { x = f.0; y = (field 89 f.1).0 }, (field 89 f.1).1)) (x_alone h.run h.numbers)) (run_read s h.run x h.reads) refl);
}

y_spelled : (s : Settings) (y : ℤ) (rest bytes : List ℕ) (h : IsLeadingRun s y rest bytes) → Spells s (record { x = None; y = Some y }) (89 ∷ h.run)
unfolding is_no_blank_or_break coordinate
y_spelled s y rest bytes h = record {
  short = omega (arith, h.short);
  solid = numbers_solid h.run h.numbers;
  spells = λ body. y_in_body s h.run body ∙ ap one_command (runs_hit s (89 ∷ h.run) (record { x = None; y = Some h.run }) None (Some y)
      (ap (λ (f : Option (List ℕ) × List ℕ). (record { x = None; y = f.0 }, f.1)) (y_alone h.run h.numbers)) refl (run_read s h.run y h.reads));
}

both_spelled : (s : Settings) (x y : ℤ) (after_x from_x rest from_y : List ℕ) (h : IsLeadingRun s x after_x from_x) (k : IsLeadingRun s y rest from_y) → Spells s (record { x = Some x; y = Some y }) (88 ∷ (h.run ++ 89 ∷ k.run))
unfolding is_no_blank_or_break
both_spelled s x y after_x from_x rest from_y h k =
    let xs = h.run in
    let ys = k.run in
    let fx : field 88 (88 ∷ (xs ++ 89 ∷ ys)) ≡ (Some xs, 89 ∷ ys) = λ i. (Some (take_while_append is_number_char xs (89 ∷ ys) h.numbers refl i), drop_run_append is_number_char xs (89 ∷ ys) h.numbers refl i) in
    record {
      short = omega (arith, length-append xs (89 ∷ ys), h.short, k.short);
      solid = list_all_append is_no_blank_or_break xs (89 ∷ ys) (numbers_solid xs h.numbers) (numbers_solid ys k.numbers);
      spells = λ body. x_in_body s (xs ++ 89 ∷ ys) body ∙ ap one_command (runs_hit s (88 ∷ (xs ++ 89 ∷ ys)) (record { x = Some xs; y = Some ys }) (Some x) (Some y)
          (ap (λ (f : Option (List ℕ) × List ℕ). (record { x = f.0; y = (field 89 f.1).0 }, (field 89 f.1).1)) fx ∙ ap (λ (f : Option (List ℕ) × List ℕ). (record { x = Some xs; y = f.0 }, f.1)) (y_alone ys k.numbers))
          (run_read s xs x h.reads) (run_read s ys y k.reads));
    }

-- a CR at the end is dropped, and breaks no line
one_return : (xs : List ℕ) (n : ℕ) → n ≤ 1 → (without_end_blanks (xs ++ replicate n 13) ≡ without_end_blanks xs) × (list_all (λ b. not (eqb b 10)) (replicate n 13) ≡ true) × (length {A = ℕ} (replicate n 13) ≡ n)
one_return xs zero le = (ap without_end_blanks (append-nil xs), refl, refl)
one_return xs (suc zero) le = (trim_blank xs 13 refl, refl, refl)
one_return xs (suc (suc n)) le = absurd (omega arith)

-- such a line, a CR or none, and an LF
leads_hit : (s : Settings) (point : Coordinates) (line bytes rest : List ℕ) (count len : ℕ) → Spells s point line → bytes ≡ line ++ rest → HasLineEnd count rest → len ≡ length bytes - length rest + count → HasLeadingHit s point len bytes
leads_hit s point line bytes rest count len h whole (le, more, e) lens =
    let returns : List ℕ = replicate count 13 in
    let r = one_return line count le in
    let total : length bytes ≡ length line + length rest = ap length whole ∙ length-append line rest in
    let sum : length (line ++ returns) ≡ length line + count = length-append line returns ∙ ap (λ n. length line + n) r.2 in
    record {
      line = line ++ returns;
      more = more;
      whole = whole ∙ (ap (λ (l : List ℕ). line ++ l) e ∙ sym (append_assoc line returns (10 ∷ more)));
      count = omega (arith, sum, total, lens);
      short = omega (arith, sum, total, lens, h.short, le);
      inside = list_all_append (λ b. not (eqb b 10)) line returns (list_all_weaker is_no_blank_or_break (λ b. not (eqb b 10)) solid_no_break line h.solid) r.1;
      spells = λ body. ap (meaning s) (r.0 ∙ solid_kept line h.solid) ∙ h.spells body;
    }

-- a hit that was found, with an X, a Y or both
pub hit_found : (s : Settings) (bytes rest : List ℕ) (x y : Option ℤ) (count len : ℕ) → (after_x : List ℕ) × MayLead s 88 x after_x bytes × MayLead s 89 y rest after_x → HasLineEnd count rest → 0 < length bytes - length rest → len ≡ length bytes - length rest + count → HasLeadingHit s (record { x = x; y = y }) len bytes
hit_found s bytes rest None None count len (after_x, h, k) e some lens = absurd (omega (arith, some, ap length h, ap length k))
hit_found s bytes rest (Some x) None count len (after_x, (tail, letter, h), k) e some lens =
    leads_hit s _ (88 ∷ h.run) bytes rest count len (x_spelled s x after_x tail h) (letter ∙ (λ i. 88 ∷ (h.whole ∙ ap (λ (r : List ℕ). h.run ++ r) (sym k)) i)) e lens
hit_found s bytes rest None (Some y) count len (after_x, h, (tail, letter, k)) e some lens =
    leads_hit s _ (89 ∷ k.run) bytes rest count len (y_spelled s y rest tail k) (sym h ∙ (letter ∙ (λ i. 89 ∷ k.whole i))) e lens
hit_found s bytes rest (Some x) (Some y) count len (after_x, (from_x, letter, h), (from_y, next, k)) e some lens =
    leads_hit s _ (88 ∷ (h.run ++ 89 ∷ k.run)) bytes rest count len (both_spelled s x y after_x from_x rest from_y h k)
    (letter ∙ (λ i. 88 ∷ (h.whole ∙ (ap (λ (r : List ℕ). h.run ++ r) (next ∙ (λ j. 89 ∷ k.whole j)) ∙ sym (append_assoc h.run (89 ∷ k.run) rest))) i)) e lens
