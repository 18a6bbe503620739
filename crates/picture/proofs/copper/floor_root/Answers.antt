-- The whole part of a square root is the one number whose square is at most the number, and the square of the next is above it.
use Rattle.picture.proofs.Common.{◌≡◌, ◌≤◌, ◌<◌, ◌+◌, ◌*◌, ℕ, zero, suc, pos, ◌∙◌, ap, w64, arith, to_z_pos, floor_root, next_root}
use Rattle.std.proofs.lemmas.Grind.{common_steps}
use Rattle.picture.proofs.copper.floor_root.Goals as goal

next_root-le : (r n : ℕ) → r * r ≤ n → next_root r (suc n) * next_root r (suc n) ≤ suc n
next_root-le r n h = grind (arith, common_steps)

next_root-gt : (r n : ℕ) → n < (r + 1) * (r + 1) → suc n < (next_root r (suc n) + 1) * (next_root r (suc n) + 1)
next_root-gt r n h = grind (arith, common_steps)

floor_root-le : (n : ℕ) → floor_root n * floor_root n ≤ n
unfolding floor_root
floor_root-le zero = omega arith
floor_root-le (suc n) = next_root-le (floor_root n) n (floor_root-le n)

floor_root-gt : (n : ℕ) → n < (floor_root n + 1) * (floor_root n + 1)
unfolding floor_root
floor_root-gt zero = omega arith
floor_root-gt (suc n) = next_root-gt (floor_root n) n (floor_root-gt n)

below : (a b n : ℕ) → a * a ≤ n → n < (b + 1) * (b + 1) → a ≤ b
below a b n = grind arith

is_floor_root : (r n : ℕ) → r * r ≤ n → n < (r + 1) * (r + 1) → r ≡ floor_root n
is_floor_root r n le gt =
    let up = below r (floor_root n) n le (floor_root-gt n) in
    let down = below (floor_root n) r n (floor_root-le n) gt in
    omega arith

small : (r : ℕ) → r * r ≤ 800000000000000000000000000 → r < 30000000000000
small r = grind arith

pub returns : goal.returns
returns c =
    let low = small c.isqrt.result (omega arith) in
    to_z_pos w64 c.isqrt.result (omega arith) ∙ ap pos (is_floor_root c.isqrt.result c.args.n c.isqrt.ensures.square_le c.isqrt.ensures.next_square_gt)
