-- Lengths of a drill file in pm.
use Rattle.drill_text.proofs.Common.{◌≡◌, ℕ, ℤ, pos, ◌≤ℤ◌, ◌≤◌, ◌||◌, ◌↔◌, Bool, true, false, cond, unsigned_abs, refl, sym, ap, subst, ◌∙◌, arith, Option, Some, None, Result, Ok, Err, IfOk, IsSome, IfSome, ok_or, ints, ltb-false, Inch, Millimetre, Reason, TooFar, picometres, is_too_far, within_limit, guard_ok, eqb, int_le, option_map_or, unwrap_or, NoTool, BadSize, coordinate_in, IsWidth, width_with}
use Rattle.grid_units.specs.declared.lengths.Unit.{Unit as Units}
use Rattle.grid_units.specs.Points.{GridPoint, IsCoordinate, max_coordinate}

pub no_length : (unit : Units) → Ok (pos 0) ≡ within_limit (picometres unit 8 (pos 0))
unfolding within_limit
no_length Inch = refl
no_length Millimetre = refl

near : (p w : ℤ) → pos 2 ≤ℤ p → within_limit p ≡ Ok w → IsWidth w
unfolding within_limit
near p w some e =
    let g = guard_ok (is_too_far p) TooFar p w e in
    let le : unsigned_abs p ≤ max_coordinate = ltb-false _ _ g.0 in
    subst IsWidth g.1 (some, omega (arith, ints, le))

width_ok : (unit : Units) (v : ℤ) (r : Result ℤ Reason) → pos 1 ≤ℤ v → r ≡ within_limit (picometres unit 8 v) → IfOk r IsWidth
width_ok Inch v (Ok w) some e = near (picometres Inch 8 v) w (omega (arith, ints, some)) (sym e)
width_ok Millimetre v (Ok w) some e = near (picometres Millimetre 8 v) w (omega (arith, ints, some)) (sym e)
width_ok unit v (Err reason) some e = tt

above_zero : (unit : Units) (v : ℤ) → int_le (picometres unit 8 v) (pos 0) ≡ false → pos 1 ≤ℤ v
above_zero Inch v e = grind (arith, ints)
above_zero Millimetre v e = grind (arith, ints)

-- a diameter that breaks no rule is one that a hole can have
pub width_held : (unit : Units) (tool : Option ℕ) (d : Option ℤ) → IfOk (width_with unit tool d) IsWidth
unfolding width_with
width_held unit tool d = by (option_map_or (λ number. eqb number 0) tool true) (int_le (coordinate_in unit d) (pos 0)) refl
  where
    by : (t u : Bool) → int_le (coordinate_in unit d) (pos 0) ≡ u → IfOk (cond t (Err NoTool) (cond u (Err BadSize) (within_limit (coordinate_in unit d)))) IsWidth
    by true u e = tt
    by false true e = tt
    by false false e = width_ok unit (unwrap_or d (pos 0)) (within_limit (coordinate_in unit d)) (above_zero unit (unwrap_or d (pos 0)) e) refl

-- a length that is within the limit, and is a coordinate
pub within : (a x : ℤ) → Ok x ≡ within_limit a → (is_too_far a ≡ false) × (x ≡ a) × IsCoordinate x
unfolding within_limit
within a x e =
    let g = guard_ok (is_too_far a) TooFar a x (sym e) in
    let near : IsCoordinate a = ltb-false _ _ g.0 in
    (g.0, sym g.1, subst IsCoordinate g.1 near)

-- neither of two tests
neither : {A : Type 0} (t u : Bool) (x y : A) → t ≡ false → u ≡ false → y ≡ cond (t || u) x y
neither false false x y e f = refl
neither false true x y e f = absurd cc
neither true u x y e f = absurd cc

-- the point of two lengths that are both within the limit
pub point_within : (a b x y : ℤ) (point : Option GridPoint) → Ok x ≡ within_limit a → Ok y ≡ within_limit b → (IsSome point ↔ (IsCoordinate x × IsCoordinate y))
    → IfSome point (λ p. p ≡ record { x = x; y = y }) → ok_or point TooFar ≡ cond (is_too_far a || is_too_far b) (Err TooFar) (Ok (record { x = a; y = b }))
point_within a b x y None ea eb valid value = let some = valid.1 ((within a x ea).2, (within b y eb).2) in absurd cc
point_within a b x y (Some p) ea eb valid value =
    let u = within a x ea in
    let v = within b y eb in
    let same : p ≡ record { x = a; y = b } = value ∙ (λ i. record { x = u.1 i; y = v.1 i }) in
    ap (λ (q : GridPoint). Ok q) same ∙ neither (is_too_far a) (is_too_far b) (Err TooFar) (Ok (record { x = a; y = b })) u.0 v.0
