-- Gaps from roots that are rounded down.
use Rattle.board.proofs.Common.{◌≡◌, ◌↔◌, ℕ, ℤ, pos, ◌+◌, ◌≤◌, ◌+ℤ◌, ◌-ℤ◌, ◌≤ℤ◌, true, subst, arith, nat_le, ints, nat_tests, square, GridHole, square_of_cores, IsGap}

-- the lengths that are no longer than the distance of the cores are those up to the gap and both radii
pub gap_exact : (radii far root t : ℕ) → (square t ≤ far) ↔ (t ≤ root) → (square t ≤ far) ↔ (pos t ≤ℤ ((pos root -ℤ pos radii) +ℤ pos radii))
gap_exact radii far root t exact = (
  λ h. let u : t ≤ root = exact.0 h in omega (arith, ints),
  λ h. exact.1 (omega (arith, ints)),
)

-- and the gaps under which the holes are clear those up to the gap
pub gap_same : (radii far root gap : ℕ) → ((t : ℕ) → (square t ≤ far) ↔ (t ≤ root)) → (nat_le (square (radii + gap)) far ≡ true) ↔ (pos gap ≤ℤ (pos root -ℤ pos radii))
gap_same radii far root gap exact = (
  λ e. let s : square (radii + gap) ≤ far = grind (arith, nat_tests) in let u : radii + gap ≤ root = (exact (radii + gap)).0 s in omega (arith, ints),
  λ h. let s : square (radii + gap) ≤ far = (exact (radii + gap)).1 (omega (arith, ints)) in grind (arith, nat_tests),
)

-- a root that is rounded down, by equal numbers
pub root_of : (dx dy a b root : ℕ) → dx ≡ a → dy ≡ b → ((t : ℕ) → (square t ≤ square dx + square dy) ↔ (t ≤ root)) → (t : ℕ) → (square t ≤ square a + square b) ↔ (t ≤ root)
root_of dx dy a b root x y exact = subst (λ (k : ℕ). (t : ℕ) → (square t ≤ square a + square k) ↔ (t ≤ root)) y (subst (λ (k : ℕ). (t : ℕ) → (square t ≤ square k + square dy) ↔ (t ≤ root)) x exact)

-- a gap of two holes is at least minus both radii
pub gap_of_none : (a b : GridHole) (z g : ℤ) → (z +ℤ pos (a.radius + b.radius)) ≤ℤ pos 0 → IsGap a b g → z ≤ℤ g
gap_of_none a b z g none gap = let low : pos 0 ≤ℤ (g +ℤ pos (a.radius + b.radius)) = (gap 0).0 (omega arith) in omega (arith, ints, low, none)

-- a gap that with both radii is no longer than the distance of the cores is at most that of the holes
pub gap_of_far : (a b : GridHole) (z g : ℤ) (n : ℕ) → pos n ≡ z +ℤ pos (a.radius + b.radius) → nat_le (square n) (square_of_cores a b) ≡ true → IsGap a b g → z ≤ℤ g
gap_of_far a b z g n is test gap =
    let far : square n ≤ square_of_cores a b = grind (arith, nat_tests) in
    let low : pos n ≤ℤ (g +ℤ pos (a.radius + b.radius)) = (gap n).0 far in omega (arith, ints, low, is)
