-- Holes that are drilled off their places and wider than designed: what is near them is near the designed ones.
use Rattle.package_check.proofs.Common.{◌≡◌, ◌≤◌, ◌<◌, ◌+◌, ◌*◌, ℕ, pos, arith, inl, inr, refl, subst, sym, GridHole}
use Rattle.std.proofs.Common.{ℤ, ◌+ℤ◌, ◌-ℤ◌, ◌*ℤ◌, ◌≤ℤ◌, negsuc, max, unsigned_abs, mul-le-mul_left}
use Rattle.std.specs.Int.{int_min, int_max}
use Rattle.std.proofs.lemmas.Int.{ints, clamps}
use Rattle.std.proofs.lemmas.Bool.{cases_lt}
use Rattle.std.proofs.lemmas.Bool.Decides.{nat_tests}
use Rattle.grid_units.specs.Holes.{AreClear}
use Rattle.grid_units.specs.Laws.{square_length}
use Rattle.grid_units.specs.Points.{GridPoint, square, square_distance}
use Rattle.grid_units.proofs.TriangleInequalities.{abs_diff_comm, square-le, square_distance_comm, strict_triangle_inequality, triangle_inequality}
use Rattle.pad_shapes.specs.Holding.{IsNearCentreLine}
use Rattle.pad_shapes.specs.Inner.Identities.{is_add, is_mul, is_n, is_sub, is_z, same, scaled-le, scaled_length, times-le}
use Rattle.pad_shapes.specs.Inner.Means.{length_same}
use Rattle.ring_rules.specs.Cores.{positive_part, range_distance}
use Rattle.ring_rules.proofs.CoreLemmas.{test_from_clear}
use Rattle.package_check.specs.Tolerances.{AreHolesApart, IsDrilledFor, SoundTolerates}

-- ---- rings

-- from a mean of two points to that of two others
moved_step : (i j : ℕ) (p f t f' t' : ℤ) → pos (i + j) *ℤ p -ℤ (pos i *ℤ f +ℤ pos j *ℤ t) ≡ (pos (i + j) *ℤ p -ℤ (pos i *ℤ f' +ℤ pos j *ℤ t')) +ℤ (pos i *ℤ (f' -ℤ f) +ℤ pos j *ℤ (t' -ℤ t))
moved_step i j p f t f' t' =
    same (is_sub (is_mul (is_n (i + j)) (is_z p)) (is_add (is_mul (is_n i) (is_z f)) (is_mul (is_n j) (is_z t))))
    (is_add (is_sub (is_mul (is_n (i + j)) (is_z p)) (is_add (is_mul (is_n i) (is_z f')) (is_mul (is_n j) (is_z t')))) (is_add (is_mul (is_n i) (is_sub (is_z f') (is_z f))) (is_mul (is_n j) (is_sub (is_z t') (is_z t))))) (omega arith)

-- what is near a hole as it is drilled is near the designed one
nearer : (off wide inner outer : ℕ) (a h : GridHole) → inner + (off + wide) ≤ outer → IsDrilledFor off wide a h → (p : GridPoint) → IsNearCentreLine h (h.radius + inner) p → IsNearCentreLine a (a.radius + outer) p
nearer off wide inner outer a h room is p near =
    let i = near.first in
    let j = near.second in
    let from = scaled-le i off (h.from.x -ℤ a.from.x) (h.from.y -ℤ a.from.y) is.from in
    let to = scaled-le j off (h.to.x -ℤ a.to.x) (h.to.y -ℤ a.to.y) is.to in
    let ends = triangle_inequality (pos i *ℤ (h.from.x -ℤ a.from.x)) (pos i *ℤ (h.from.y -ℤ a.from.y)) (pos j *ℤ (h.to.x -ℤ a.to.x)) (pos j *ℤ (h.to.y -ℤ a.to.y)) (i * off) (j * off) from to in
    let reach = (i + j) * (h.radius + inner) + (i * off + j * off) in
    let all = triangle_inequality (pos (i + j) *ℤ p.x -ℤ (pos i *ℤ h.from.x +ℤ pos j *ℤ h.to.x)) (pos (i + j) *ℤ p.y -ℤ (pos i *ℤ h.from.y +ℤ pos j *ℤ h.to.y))
    (pos i *ℤ (h.from.x -ℤ a.from.x) +ℤ pos j *ℤ (h.to.x -ℤ a.to.x)) (pos i *ℤ (h.from.y -ℤ a.from.y) +ℤ pos j *ℤ (h.to.y -ℤ a.to.y)) ((i + j) * (h.radius + inner)) (i * off + j * off) near.near ends in
    let moved = length_same _ _ _ _ reach reach (moved_step i j p.x a.from.x a.to.x h.from.x h.to.x) (moved_step i j p.y a.from.y a.to.y h.from.y h.to.y) refl all in
    let each : (i + j) * (h.radius + inner + off) ≤ (i + j) * (a.radius + outer) = mul-le-mul_left (i + j) (omega (arith, is.radius, room)) in
    let within : reach ≤ (i + j) * (a.radius + outer) = omega (arith, each) in
    record { first = i; second = j; some = near.some; near = omega (arith, square-le reach ((i + j) * (a.radius + outer)) within, moved) }

-- ---- gaps

-- a step times a whole number, below a bound
scaled-lt : (n m : ℕ) (a b : ℤ) → 1 ≤ n → square_length a b < square m → square_length (pos n *ℤ a) (pos n *ℤ b) < square (n * m)
scaled-lt n m a b some h =
    let k : (n * n) * (square_length a b + 1) ≤ (n * n) * (m * m) = mul-le-mul_left (n * n) (omega (arith, h)) in
    let one : n * 1 ≤ n * n = mul-le-mul_left n some in
    subst (λ x. x < square (n * m)) (sym (scaled_length n a b)) (omega (arith, k, one, some))

-- a mean of two numbers is at least what both are, and at most what both are
mean_above : (i j : ℕ) (f t low : ℤ) → low ≤ℤ f → low ≤ℤ t → (pos (i + j) *ℤ low) ≤ℤ (pos i *ℤ f +ℤ pos j *ℤ t)
mean_above i j f t low h k =
    let split : pos (i + j) *ℤ low ≡ pos i *ℤ low +ℤ pos j *ℤ low = same (is_mul (is_n (i + j)) (is_z low)) (is_add (is_mul (is_n i) (is_z low)) (is_mul (is_n j) (is_z low))) (omega arith) in
    omega (arith, ints, split, times-le i low f h, times-le j low t k)

mean_below : (i j : ℕ) (f t high : ℤ) → f ≤ℤ high → t ≤ℤ high → (pos i *ℤ f +ℤ pos j *ℤ t) ≤ℤ (pos (i + j) *ℤ high)
mean_below i j f t high h k =
    let split : pos (i + j) *ℤ high ≡ pos i *ℤ high +ℤ pos j *ℤ high = same (is_mul (is_n (i + j)) (is_z high)) (is_add (is_mul (is_n i) (is_z high)) (is_mul (is_n j) (is_z high))) (omega arith) in
    omega (arith, ints, split, times-le i f high h, times-le j t high k)

scaled_part : (n : ℕ) (z w : ℤ) → (pos n *ℤ z) ≤ℤ w → n * positive_part z ≤ unsigned_abs w
scaled_part n (pos k) w h = omega (arith, ints, h)
scaled_part n (negsuc k) w h = omega arith

factors : (n m : ℕ) (low high : ℤ) → pos (n * m) *ℤ (low -ℤ high) ≡ pos n *ℤ (pos m *ℤ low) -ℤ pos m *ℤ (pos n *ℤ high)
factors n m low high =
    same (is_mul (is_n (n * m)) (is_sub (is_z low) (is_z high))) (is_sub (is_mul (is_n n) (is_mul (is_n m) (is_z low))) (is_mul (is_n m) (is_mul (is_n n) (is_z high)))) (omega arith)

-- two means, of which one is of numbers up to some bound, and the other of numbers from another one on
means_apart : (n m : ℕ) (low high p q : ℤ) → p ≤ℤ (pos n *ℤ high) → (pos m *ℤ low) ≤ℤ q → (n * m) * positive_part (low -ℤ high) ≤ unsigned_abs (pos n *ℤ q -ℤ pos m *ℤ p)
means_apart n m low high p q h k =
    let above = times-le m p (pos n *ℤ high) h in
    let below = times-le n (pos m *ℤ low) q k in
    scaled_part (n * m) (low -ℤ high) (pos n *ℤ q -ℤ pos m *ℤ p) (omega (arith, ints, factors n m low high, above, below))

-- two means of the ends of two ranges are as far apart as the ranges
lines_apart : (i j k l : ℕ) (f t g u : ℤ)
    → ((i + j) * (k + l)) * range_distance f t g u ≤ unsigned_abs (pos (i + j) *ℤ (pos k *ℤ g +ℤ pos l *ℤ u) -ℤ pos (k + l) *ℤ (pos i *ℤ f +ℤ pos j *ℤ t))
lines_apart i j k l f t g u =
    let n = i + j in
    let m = k + l in
    let p = pos i *ℤ f +ℤ pos j *ℤ t in
    let q = pos k *ℤ g +ℤ pos l *ℤ u in
    let after = means_apart n m (int_min g u) (int_max f t) p q (mean_below i j f t (int_max f t) (omega (arith, ints, clamps)) (omega (arith, ints, clamps))) (mean_above k l g u (int_min g u) (omega (arith, ints, clamps)) (omega (arith, ints, clamps))) in
    let before = means_apart m n (int_min f t) (int_max g u) q p (mean_below k l g u (int_max g u) (omega (arith, ints, clamps)) (omega (arith, ints, clamps))) (mean_above i j f t (int_min f t) (omega (arith, ints, clamps)) (omega (arith, ints, clamps))) in
    greater (n * m) (positive_part (int_min g u -ℤ int_max f t)) (positive_part (int_min f t -ℤ int_max g u)) _ after (omega (arith, before, abs_diff_comm (pos n *ℤ q) (pos m *ℤ p)))
  where
    greater : (n a b x : ℕ) → n * a ≤ x → n * b ≤ x → n * max a b ≤ x
    greater n a b x h k = elim (cases_lt a b) [
      | inl less ↦ subst (λ c. n * c ≤ x) (omega (arith, less)) k
      | inr more ↦ subst (λ c. n * c ≤ x) (omega (arith, more)) h
    ]

-- no step is at least as long as two others that are apart, and shorter
no_room : (n r dx dy x y : ℕ) → r * r ≤ dx * dx + dy * dy → n * dx ≤ x → n * dy ≤ y → x * x + y * y < (n * r) * (n * r) → ⊥
no_room n r dx dy x y far h k short =
    let all : (n * n) * (r * r) ≤ (n * n) * (dx * dx + dy * dy) = mul-le-mul_left (n * n) far in
    omega (arith, all, square-le (n * dx) x h, square-le (n * dy) y k, short)

-- from a point of one line by two points to a point of another line
joined_step : (n m : ℕ) (p q a b : ℤ) → pos n *ℤ b -ℤ pos m *ℤ a ≡ (pos m *ℤ (pos n *ℤ p -ℤ a) +ℤ pos (n * m) *ℤ (q -ℤ p)) +ℤ pos n *ℤ (b -ℤ pos m *ℤ q)
joined_step n m p q a b =
    same (is_sub (is_mul (is_n n) (is_z b)) (is_mul (is_n m) (is_z a)))
    (is_add (is_add (is_mul (is_n m) (is_sub (is_mul (is_n n) (is_z p)) (is_z a))) (is_mul (is_n (n * m)) (is_sub (is_z q) (is_z p)))) (is_mul (is_n n) (is_sub (is_z b) (is_mul (is_n m) (is_z q))))) (omega arith)

-- what is near the centre lines of two clear holes is apart by what is left of the gap
near_apart : (a b : GridHole) (gap more : ℕ) → AreClear (gap + 2 * more) a b → (p q : GridPoint) → IsNearCentreLine a (a.radius + more) p → IsNearCentreLine b (b.radius + more) q → square gap ≤ square_distance q p
near_apart a b gap more clear p q near near' = elim (cases_lt (square_distance q p) (square gap)) [
  | inr far ↦ far
  | inl short ↦
      let i = near.first in
      let j = near.second in
      let k = near'.first in
      let l = near'.second in
      let n = i + j in
      let m = k + l in
      let ax = pos i *ℤ a.from.x +ℤ pos j *ℤ a.to.x in
      let ay = pos i *ℤ a.from.y +ℤ pos j *ℤ a.to.y in
      let bx = pos k *ℤ b.from.x +ℤ pos l *ℤ b.to.x in
      let by = pos k *ℤ b.from.y +ℤ pos l *ℤ b.to.y in
      let some : 1 ≤ n * m = (let one : n * 1 ≤ n * m = mul-le-mul_left n near'.some in omega (arith, one, near.some)) in
      let first = scaled-le m (n * (a.radius + more)) (pos n *ℤ p.x -ℤ ax) (pos n *ℤ p.y -ℤ ay) near.near in
      let between = scaled-lt (n * m) gap (q.x -ℤ p.x) (q.y -ℤ p.y) some short in
      let back : square_length (bx -ℤ pos m *ℤ q.x) (by -ℤ pos m *ℤ q.y) ≤ square (m * (b.radius + more)) =
      subst (λ s. s ≤ square (m * (b.radius + more))) (λ t. square (abs_diff_comm (pos m *ℤ q.x) bx t) + square (abs_diff_comm (pos m *ℤ q.y) by t)) near'.near in
      let last = scaled-le n (m * (b.radius + more)) (bx -ℤ pos m *ℤ q.x) (by -ℤ pos m *ℤ q.y) back in
      let two = strict_triangle_inequality (pos m *ℤ (pos n *ℤ p.x -ℤ ax)) (pos m *ℤ (pos n *ℤ p.y -ℤ ay)) (pos (n * m) *ℤ (q.x -ℤ p.x)) (pos (n * m) *ℤ (q.y -ℤ p.y)) (m * (n * (a.radius + more))) ((n * m) * gap) first (omega (arith, between)) (inr between) in
      let three = strict_triangle_inequality (pos m *ℤ (pos n *ℤ p.x -ℤ ax) +ℤ pos (n * m) *ℤ (q.x -ℤ p.x)) (pos m *ℤ (pos n *ℤ p.y -ℤ ay) +ℤ pos (n * m) *ℤ (q.y -ℤ p.y)) (pos n *ℤ (bx -ℤ pos m *ℤ q.x)) (pos n *ℤ (by -ℤ pos m *ℤ q.y))
      (m * (n * (a.radius + more)) + (n * m) * gap) (n * (m * (b.radius + more))) (omega (arith, two)) last (inl two) in
      let whole : m * (n * (a.radius + more)) + (n * m) * gap + n * (m * (b.radius + more)) ≡ (n * m) * (a.radius + b.radius + (gap + 2 * more)) = omega arith in
      let short_of : square_length (pos n *ℤ bx -ℤ pos m *ℤ ax) (pos n *ℤ by -ℤ pos m *ℤ ay) < square ((n * m) * (a.radius + b.radius + (gap + 2 * more))) =
      subst (λ s. square_length (pos n *ℤ bx -ℤ pos m *ℤ ax) (pos n *ℤ by -ℤ pos m *ℤ ay) < square s) whole
      (subst (λ s. s < square (m * (n * (a.radius + more)) + (n * m) * gap + n * (m * (b.radius + more)))) (λ t. square_length (sym (joined_step n m p.x q.x ax bx) t) (sym (joined_step n m p.y q.y ay by) t)) three) in
      let dx = range_distance a.from.x a.to.x b.from.x b.to.x in
      let dy = range_distance a.from.y a.to.y b.from.y b.to.y in
      let test = test_from_clear (gap + 2 * more) a b clear in
      let far : square (a.radius + b.radius + (gap + 2 * more)) ≤ square dx + square dy = grind (arith, nat_tests, test) in
      absurd (no_room (n * m) (a.radius + b.radius + (gap + 2 * more)) dx dy _ _ far (lines_apart i j k l a.from.x a.to.x b.from.x b.to.x) (lines_apart i j k l a.from.y a.to.y b.from.y b.to.y) short_of)
]

-- ---- packages

pub sound_tolerates : SoundTolerates
sound_tolerates sources rules sound off wide ring gap of_ring of_gap = (
  (λ layer d hole inside among plated through is.
      let held = (sound.held layer d inside among plated through).1 in
      record { pad = held.pad; flashed = held.flashed; holds = λ p near. held.holds p (nearer off wide ring rules.ring d.hole hole of_ring is p near) }),
  (λ i j d less below first second is is' p q near near'.
      let clear = sound.gaps i j d less below in
      sooner first second gap off wide rules.gap _ _ of_gap clear is is' p q near near'),
)
  where
    without_ring : (h : GridHole) (p : GridPoint) → IsNearCentreLine h h.radius p → IsNearCentreLine h (h.radius + 0) p
    without_ring h p near = subst (λ r. IsNearCentreLine h r p) (omega arith) near

    less_gap : (a b : GridHole) (less more : ℕ) → less ≤ more → AreClear more a b → AreClear less a b
    less_gap a b less more le clear p q h k = omega (arith, clear p q h k, square-le (a.radius + b.radius + less) (a.radius + b.radius + more) (omega (arith, le)))

    sooner : (first second : GridHole) (gap off wide asked : ℕ) (a b : GridHole) → gap + 2 * (off + wide) ≤ asked → AreClear asked a b → IsDrilledFor off wide a first → IsDrilledFor off wide b second → AreHolesApart gap first second
    sooner first second gap off wide asked a b room clear is is' p q near near' =
        let one = nearer off wide 0 (off + wide) a first (omega arith) is p (without_ring first p near) in
        let other = nearer off wide 0 (off + wide) b second (omega arith) is' q (without_ring second q near') in
        near_apart b a gap (off + wide) (λ c d h k. omega (arith, less_gap a b (gap + 2 * (off + wide)) asked room clear d c k h, square_distance_comm c d)) q p other one
