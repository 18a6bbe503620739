-- Holes that are moved one by one, and the factor with the fewest of them bare.
use Rattle.report.proofs.Common.{◌≡◌, ◌↔◌, ℕ, ℤ, ◌+◌, ◌-◌, ◌<◌, ◌&&◌, ◌||◌, not, Bool, true, false, cond, Option, Some, None, List, [], ◌∷◌, ◌++◌, length, take, get_or, refl, sym, subst, ap, ◌∙◌, arith, IsSome, IfSome, unsigned_abs, int_eq, count_by, sum_by, Decides-int_eq, length-append, GridPoint, IsCoordinate, max_coordinate, both_le, le_both, GridHole, is_round, WidePad, Drilled, UnitFactor, bare_count, bare_count_with, is_bare, is_bare_with, is_on_grid, is_uncovered, round_count, scaled_coordinate, scaled_point, AreRescaled, IsRescaled, IsScaledPoint}
use Rattle.std.proofs.lemmas.List.Sums.{sum_by-append, sum_by-cons, sum_by_more}

-- how many of a list there are with one more at its end
counted_push : (p : Drilled → Bool) (xs : List Drilled) (x : Drilled) → count_by p (xs ++ x ∷ []) ≡ count_by p xs + cond (p x) 1 0
counted_push p xs x =
    let all = sum_by-append (λ (d : Drilled). cond (p d) 1 0) xs (x ∷ []) in
    let one = sum_by-cons (λ (d : Drilled). cond (p d) 1 0) x [] in
    let none : sum_by (λ (d : Drilled). cond (p d) 1 0) [] ≡ 0 = refl in
    omega (arith, all, one, none)

round_at : (a : GridHole) → a.from ≡ a.to → is_round a ≡ true
round_at a e = same (int_eq a.from.x a.to.x) (int_eq a.from.y a.to.y) ((Decides-int_eq a.from.x a.to.x).1 (ap (λ (p : GridPoint). p.x) e)) ((Decides-int_eq a.from.y a.to.y).1 (ap (λ (p : GridPoint). p.y) e))
  where
    same : (s t : Bool) → s ≡ true → t ≡ true → (s && t) ≡ true
    same true true h k = refl
    same true false h k = absurd cc
    same false t h k = absurd cc

-- one where a test passes
abbrev one_if : Bool → ℕ
one_if t = cond t 1 0

-- a round hole without a place counts as bare, and a slot does not
not_rescaled : (round place uncovered : Bool) → (round && place) ≡ false → (round && (not place || uncovered)) ≡ round
not_rescaled true true u e = absurd cc
not_rescaled true false u e = refl
not_rescaled false p u e = refl

-- any other hole is bare where its new place is uncovered
as_rescaled : (round place uncovered : Bool) → round ≡ true → place ≡ true → (round && (not place || uncovered)) ≡ uncovered
as_rescaled true true u e f = refl
as_rescaled true false u e f = absurd cc
as_rescaled false p u e f = absurd cc

module _ (factor : UnitFactor) (holes : List Drilled) (i : ℕ) (d : Drilled) (inside : i < length holes) (is : d ≡ get_or holes i d) where
  bare_next : (pads : List WidePad) → bare_count_with pads (take (i + 1) holes) factor ≡ bare_count_with pads (take i holes) factor + one_if (is_bare_with pads factor d)
  bare_next pads =
      let more = sum_by_more (λ (e : Drilled). cond (is_bare_with pads factor e) 1 0) holes i d inside in
      let at : one_if (is_bare_with pads factor d) ≡ one_if (is_bare_with pads factor (get_or holes i d)) = ap (λ (e : Drilled). one_if (is_bare_with pads factor e)) is in
      omega (arith, more, at)

  round_next : round_count (take (i + 1) holes) ≡ round_count (take i holes) + one_if (is_round d.hole)
  round_next =
      let more = sum_by_more (λ (e : Drilled). cond (is_round e.hole) 1 0) holes i d inside in
      let at : one_if (is_round d.hole) ≡ one_if (is_round (get_or holes i d).hole) = ap (λ (e : Drilled). one_if (is_round e.hole)) is in
      omega (arith, more, at)

  -- a hole without a place is skipped
  pub passed_over : (rescaled : List Drilled) → IsRescaled factor d None → AreRescaled factor (take i holes) rescaled → AreRescaled factor (take (i + 1) holes) rescaled
  passed_over rescaled none was = record {
    bare = λ pads.
        let same : one_if (is_bare_with pads factor d) ≡ one_if (is_round d.hole) =
        ap one_if (not_rescaled (is_round d.hole) (is_on_grid (scaled_point factor d.hole.from)) (is_uncovered pads (scaled_point factor d.hole.from)) none) in
        omega (arith, bare_next pads, round_next, was.bare pads, same);
    few = omega (arith, round_next, was.few);
  }

  -- a hole with a place is added
  pub taken_in : (old new : List Drilled) (x : Drilled) → IsRescaled factor d (Some x) → new ≡ old ++ x ∷ [] → AreRescaled factor (take i holes) old → AreRescaled factor (take (i + 1) holes) new
  taken_in old new x at more was =
      let size : length new ≡ length old + 1 = ap length more ∙ length-append old (x ∷ []) in
      let one : one_if (is_round d.hole) ≡ 1 = ap one_if at.0 in
      record {
        bare = λ pads.
            let there = is_uncovered pads (scaled_point factor d.hole.from) in
            let asked : is_bare_with pads factor d ≡ there = as_rescaled (is_round d.hole) (is_on_grid (scaled_point factor d.hole.from)) there at.0 at.1 in
            let here : is_bare pads x ≡ there = ap (λ (t : Bool). t && is_uncovered pads x.hole.from) (round_at x.hole (at.2 ∙ sym at.3)) ∙ ap (is_uncovered pads) at.2 in
            let same : one_if (is_bare_with pads factor d) ≡ one_if (is_bare pads x) = ap one_if (asked ∙ sym here) in
            let listed : bare_count pads new ≡ bare_count pads old + one_if (is_bare pads x) = ap (bare_count pads) more ∙ counted_push (is_bare pads) old x in
            omega (arith, bare_next pads, round_next, was.bare pads, same, listed, size, one);
        few = omega (arith, round_next, was.few, size, one);
      }

pub none_yet : (factor : UnitFactor) (holes : List Drilled) → AreRescaled factor (take 0 holes) []
none_yet factor holes = record { bare = λ pads. refl; few = omega arith }

-- the bare holes are those that are bare at their new places, and the round ones without a place
pub all_bare : (factor : UnitFactor) (pads : List WidePad) (holes rescaled : List Drilled) (round few bare : ℕ) → AreRescaled factor holes rescaled → round ≡ round_count holes → few ≡ length rescaled → bare ≡ bare_count pads rescaled
    → round - few + bare ≡ bare_count_with pads holes factor
all_bare factor pads holes rescaled round few bare is all size among = omega (arith, is.bare pads, is.few, all, size, among)

-- a point at its new place
pub placed_at : (factor : UnitFactor) (p : GridPoint) (x y : ℤ) (r : Option GridPoint) → x ≡ scaled_coordinate factor p.x → y ≡ scaled_coordinate factor p.y → IsSome r ↔ (IsCoordinate x × IsCoordinate y) → IfSome r (λ q. q ≡ record { x = x; y = y }) → IsScaledPoint factor p r
placed_at factor p x y None at_x at_y valid value = refused (is_on_grid (scaled_point factor p)) (λ e.
    let both = both_le (unsigned_abs (scaled_coordinate factor p.x)) max_coordinate (unsigned_abs (scaled_coordinate factor p.y)) max_coordinate e in
    let some = valid.1 (subst IsCoordinate (sym at_x) both.0, subst IsCoordinate (sym at_y) both.1) in cc)
  where
    refused : (b : Bool) → (b ≡ true → ⊥) → b ≡ false
    refused true f = absurd (f refl)
    refused false f = refl
placed_at factor p x y (Some q) at_x at_y valid value =
    let both = valid.0 refl in (
      le_both (unsigned_abs (scaled_coordinate factor p.x)) max_coordinate (unsigned_abs (scaled_coordinate factor p.y)) max_coordinate (subst IsCoordinate at_x both.0) (subst IsCoordinate at_y both.1),
      value ∙ (λ i. record { x = at_x i; y = at_y i }),
    )
