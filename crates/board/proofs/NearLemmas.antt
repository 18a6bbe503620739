-- The nearest of some pairs of holes, pair by pair.
use Rattle.board.proofs.Common.{◌≡◌, ℕ, ℤ, pos, ◌+◌, ◌<◌, ◌+ℤ◌, ◌≤ℤ◌, List, length, get_or, sym, subst, arith, unsigned_abs, ints, get_or_default, GridHole, default_hole, hole_at, Drilled, IsGap, IsNoFurther, Nearest}

-- two holes have one gap
least_gap : (a b : GridHole) (g h : ℤ) → IsGap a b g → IsGap a b h → g ≤ℤ h
least_gap a b g h first other =
    let none : pos 0 ≤ℤ (g +ℤ pos (a.radius + b.radius)) = (first 0).0 (omega arith) in
    let top : pos (unsigned_abs (g +ℤ pos (a.radius + b.radius))) ≤ℤ (g +ℤ pos (a.radius + b.radius)) = omega (arith, ints) in
    let under : pos (unsigned_abs (g +ℤ pos (a.radius + b.radius))) ≤ℤ (h +ℤ pos (a.radius + b.radius)) = (other (unsigned_abs (g +ℤ pos (a.radius + b.radius)))).0 ((first (unsigned_abs (g +ℤ pos (a.radius + b.radius)))).1 top) in
    omega (arith, ints, none, under)

pub one_gap : (a b : GridHole) (g h : ℤ) → IsGap a b g → IsGap a b h → g ≡ h
one_gap a b g h first other =
    let up : g ≤ℤ h = least_gap a b g h first other in
    let down : h ≤ℤ g = least_gap a b h g other first in omega (arith, ints, up, down)

pub no_further_trans : (a b : Nearest) (i j : ℕ) (g : ℤ) → IsNoFurther a b.first b.second b.gap → IsNoFurther b i j g → IsNoFurther a i j g
no_further_trans a b i j g p q =
    let up : a.gap ≤ℤ b.gap = p.by_gap in
    let more : b.gap ≤ℤ g = q.by_gap in
    record {
      by_gap = omega (arith, ints, up, more);
      by_first = λ e.
          let x : a.gap ≡ b.gap = omega (arith, ints, up, more, e) in
          let y : b.gap ≡ g = omega (arith, ints, up, more, e) in omega (arith, p.by_first x, q.by_first y);
      by_second = λ e f.
          let x : a.gap ≡ b.gap = omega (arith, ints, up, more, e) in
          let y : b.gap ≡ g = omega (arith, ints, up, more, e) in
          let s : a.first ≡ b.first = omega (arith, p.by_first x, q.by_first y, f) in
          let t : b.first ≡ i = omega (arith, p.by_first x, q.by_first y, f) in omega (arith, p.by_second x s, q.by_second y t);
    }

pub no_further_self : (a : Nearest) → IsNoFurther a a.first a.second a.gap
no_further_self a = record { by_gap = omega (arith, ints); by_first = λ e. omega arith; by_second = λ e f. omega arith }

-- the same pair with the same gap
pub no_further_same : (a : Nearest) (i j k l : ℕ) (g h : ℤ) → k ≡ i → l ≡ j → h ≡ g → IsNoFurther a i j g → IsNoFurther a k l h
no_further_same a i j k l g h x y z p = subst (λ (n : ℕ). IsNoFurther a n l h) (sym x) (subst (λ (n : ℕ). IsNoFurther a i n h) (sym y) (subst (λ (n : ℤ). IsNoFurther a i j n) (sym z) p))

-- and the gap of the holes at two places is that of the holes that were read
pub gap_of_read_holes : (holes : List Drilled) (i j : ℕ) (d e : Drilled) (gap : ℤ) → i < length holes → j < length holes → IsGap (hole_at holes i) (hole_at holes j) gap → IsGap (get_or holes i d).hole (get_or holes j e).hole gap
gap_of_read_holes holes i j d e gap first second is =
    subst (λ (x : Drilled). IsGap (get_or holes i d).hole x.hole gap) (sym (get_or_default holes j e default_hole second))
    (subst (λ (x : Drilled). IsGap x.hole (hole_at holes j) gap) (sym (get_or_default holes i d default_hole first)) is)
