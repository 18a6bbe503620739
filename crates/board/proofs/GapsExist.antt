-- Any two holes have a gap, so the nearest two give the greatest gap that a board meets.
use Rattle.board.proofs.Common.{◌↔◌, ℕ, ℤ, pos, zero, suc, ◌+◌, ◌*◌, ◌<◌, ◌≤◌, ◌-ℤ◌, inl, inr, List, arith, cases_lt, square, GridHole, square-le, le_of_squares, square_of_cores, hole_at, Drilled, IsGap, IsPair, IsNearest, HasLeast, HasGap, Nearest}
use Rattle.board.proofs.GapsLemmas.{gap_exact}

-- each number has a root that is rounded down
root : (n : ℕ) → (t : ℕ) × ((s : ℕ) → (square s ≤ n) ↔ (s ≤ t))
root zero = (0, λ s. (λ h. le_of_squares s 0 h, λ h. square-le s 0 h))
root (suc n) =
    let w = root n in
    let above : n < (w.0 + 1) * (w.0 + 1) = elim (cases_lt n ((w.0 + 1) * (w.0 + 1))) [
      | inl less ↦ less
      | inr more ↦ absurd (let f : w.0 + 1 ≤ w.0 = (w.1 (w.0 + 1)).0 more in omega (arith, f))
    ] in
    elim (cases_lt (suc n) ((w.0 + 1) * (w.0 + 1))) [
      | inl small ↦ (
        w.0,
        λ s. (
          λ h. elim (cases_lt w.0 s) [
            | inl more ↦ absurd (let q : (w.0 + 1) * (w.0 + 1) ≤ s * s = square-le (w.0 + 1) s (omega (arith, more)) in omega (arith, q, h, small))
            | inr within ↦ within
          ],
          λ h. (let q : square s ≤ n = (w.1 s).1 h in omega (arith, q)),
        ),
      )
      | inr big ↦ (
        w.0 + 1,
        λ s. (
          λ h. elim (cases_lt (w.0 + 1) s) [
            | inl more ↦ absurd (let q : (w.0 + 2) * (w.0 + 2) ≤ s * s = square-le (w.0 + 2) s (omega (arith, more)) in omega (arith, q, h, above))
            | inr within ↦ within
          ],
          λ h. (let q : s * s ≤ (w.0 + 1) * (w.0 + 1) = square-le s (w.0 + 1) h in omega (arith, q, big)),
        ),
      )
    ]

-- any two holes have a gap
pub gap_of : (a b : GridHole) → (gap : ℤ) × IsGap a b gap
gap_of a b = let w = root (square_of_cores a b) in (pos w.0 -ℤ pos (a.radius + b.radius), λ t. gap_exact (a.radius + b.radius) (square_of_cores a b) w.0 t (w.1 t))

-- the gap of the nearest holes is the least
pub nearest_least : (holes : List Drilled) (pair : Nearest) → IsNearest holes (IsPair holes) pair → HasLeast (IsPair holes) (HasGap holes) pair.gap
nearest_least holes pair so = record {
  i = pair.first;
  j = pair.second;
  there = so.there;
  reached = so.gap;
  least = λ k l required.
      let w = gap_of (hole_at holes k) (hole_at holes l) in (w.0, w.1, (so.least k l w.0 required w.1).by_gap);
}
