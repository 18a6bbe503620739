-- Two bounded steps, in natural numbers and in whole ones.
use Rattle.std.proofs.Common.{◌≡◌, ℕ, ℤ, ◌+◌, ◌-◌, ◌*◌, ◌≤◌, ◌<◌, ◌⊎◌, ◌+ℤ◌, ◌∙◌, ap, subst, inl, inr, arith}
use Rattle.std.specs.Prelude.{unsigned_abs}
use Rattle.std.proofs.lemmas.Nat.{mul-le}
use Rattle.std.proofs.lemmas.Int.{ints}
use Rattle.std.proofs.lemmas.Bool.{cases_lt}
use Rattle.grid_units.specs.Points.{GridPoint, abs_diff, square, square_distance}
use Rattle.grid_units.specs.Laws.{TriangleInequality, StrictTriangleInequality}

pub square-le : (m n : ℕ) → m ≤ n → m * m ≤ n * n
square-le m n h = mul-le m m n n h h

-- the order of squares is that of the numbers
pub le_of_squares : (m n : ℕ) → m * m ≤ n * n → m ≤ n
le_of_squares m n h = elim (cases_lt n m) [
  | inl more ↦ absurd (omega (arith, mul-le (n + 1) (n + 1) m m (omega arith) (omega arith)))
  | inr less ↦ less
]

-- twice a product is at most the sum of the squares
two_products_above : (u k : ℕ) → 2 * (u * (u + k)) ≤ u * u + (u + k) * (u + k)
two_products_above u k = omega arith

two_products_ordered : (u v : ℕ) → u ≤ v → 2 * (u * v) ≤ u * u + v * v
two_products_ordered u v h =
    let e : u + (v - u) ≡ v = omega arith in
    subst (λ w. 2 * (u * w) ≤ u * u + w * w) e (two_products_above u (v - u))

two_products : (u v : ℕ) → 2 * (u * v) ≤ u * u + v * v
two_products u v = elim (cases_lt u v) [
  | inl less ↦ two_products_ordered u v (omega arith)
  | inr more ↦ omega (arith, two_products_ordered v u more)
]

-- the inner product of two steps is at most the product of their bounds
pub inner_product-le : (a b c d m n : ℕ) → a * a + b * b ≤ m * m → c * c + d * d ≤ n * n → a * c + b * d ≤ m * n
inner_product-le a b c d m n p q =
    le_of_squares _ _ (omega (arith, two_products (a * d) (b * c), mul-le (a * a + b * b) (c * c + d * d) (m * m) (n * n) p q))

-- the sum of two steps is at most the sum of their bounds, where e and f are at most the sums of their parts
pub two_steps-le : (a b c d e f m n : ℕ) → e ≤ a + c → f ≤ b + d → a * a + b * b ≤ m * m → c * c + d * d ≤ n * n → e * e + f * f ≤ (m + n) * (m + n)
two_steps-le a b c d e f m n h k p q =
    omega (arith, inner_product-le a b c d m n p q, square-le e (a + c) h, square-le f (b + d) k)

pub two_steps-lt : (a b c d e f m n : ℕ) → e ≤ a + c → f ≤ b + d → a * a + b * b ≤ m * m → c * c + d * d ≤ n * n → (a * a + b * b < m * m) ⊎ (c * c + d * d < n * n) → e * e + f * f < (m + n) * (m + n)
two_steps-lt a b c d e f m n h k p q less = elim less [
  | inl first ↦ omega (arith, inner_product-le a b c d m n p q, square-le e (a + c) h, square-le f (b + d) k)
  | inr second ↦ omega (arith, inner_product-le a b c d m n p q, square-le e (a + c) h, square-le f (b + d) k)
]

unsigned_abs-+ℤ : (a b : ℤ) → unsigned_abs (a +ℤ b) ≤ unsigned_abs a + unsigned_abs b
unsigned_abs-+ℤ a b = omega (arith, ints)

pub triangle_inequality : TriangleInequality
triangle_inequality a b c d m n p q =
    two_steps-le (unsigned_abs a) (unsigned_abs b) (unsigned_abs c) (unsigned_abs d) _ _ m n (unsigned_abs-+ℤ a c) (unsigned_abs-+ℤ b d) p q

pub strict_triangle_inequality : StrictTriangleInequality
strict_triangle_inequality a b c d m n p q less =
    two_steps-lt (unsigned_abs a) (unsigned_abs b) (unsigned_abs c) (unsigned_abs d) _ _ m n (unsigned_abs-+ℤ a c) (unsigned_abs-+ℤ b d) p q less

pub abs_diff_comm : (a b : ℤ) → abs_diff a b ≡ abs_diff b a
abs_diff_comm a b = omega (arith, ints)

pub abs_diff_triangle : (a b c : ℤ) → abs_diff a c ≤ abs_diff a b + abs_diff b c
abs_diff_triangle a b c = omega (arith, ints)

pub square_distance_comm : (p q : GridPoint) → square_distance p q ≡ square_distance q p
square_distance_comm p q = ap (λ n. square n + square (abs_diff p.y q.y)) (abs_diff_comm p.x q.x) ∙ ap (λ n. square (abs_diff q.x p.x) + square n) (abs_diff_comm p.y q.y)

-- the two laws, of three points
pub square_distance-le : (p q r : GridPoint) (m n : ℕ) → square_distance p q ≤ square m → square_distance q r ≤ square n → square_distance p r ≤ square (m + n)
square_distance-le p q r m n h k =
    two_steps-le (abs_diff p.x q.x) (abs_diff p.y q.y) (abs_diff q.x r.x) (abs_diff q.y r.y) _ _ m n (abs_diff_triangle p.x q.x r.x) (abs_diff_triangle p.y q.y r.y) h k

pub square_distance-lt : (p q r : GridPoint) (m n : ℕ) → square_distance p q ≤ square m → square_distance q r ≤ square n → (square_distance p q < square m) ⊎ (square_distance q r < square n) → square_distance p r < square (m + n)
square_distance-lt p q r m n h k less =
    two_steps-lt (abs_diff p.x q.x) (abs_diff p.y q.y) (abs_diff q.x r.x) (abs_diff q.y r.y) _ _ m n (abs_diff_triangle p.x q.x r.x) (abs_diff_triangle p.y q.y r.y) h k less
