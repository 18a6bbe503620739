-- Identities of whole numbers: each number is read as a difference of two natural ones, and `omega` multiplies those out.
use Rattle.std.proofs.Common.{◌≡◌, ℕ, ℤ, pos, negsuc, ◌+◌, ◌*◌, ◌≤◌, ◌<◌, ◌+ℤ◌, ◌-ℤ◌, ◌*ℤ◌, ◌≤ℤ◌, unsigned_abs, refl, sym, ap, subst, ◌∙◌, ◌⊎◌, inl, inr, arith, mul-le-mul_left}
use Rattle.std.proofs.lemmas.Int.{ints, unsigned_abs-mul}
use Rattle.std.proofs.lemmas.Bool.{cases_lt}
use Rattle.std.proofs.lemmas.Nat.{mul-le}
use borrow.Author.Differences.{up, down, product_is, same_in}
use Rattle.grid_units.specs.Laws.{square_length}
use Rattle.grid_units.specs.Points.{square}

-- z is p less m
pub record Is (z : ℤ) (p m : ℕ) : Type 0 where
  pub is : up z + m ≡ p + down z

pub is_z : (z : ℤ) → Is z (up z) (down z)
is_z z = record { is = refl }

pub is_n : (n : ℕ) → Is (pos n) n 0
is_n n = record { is = omega arith }

pub is_add : {z w : ℤ} {p m q n : ℕ} → Is z p m → Is w q n → Is (z +ℤ w) (p + q) (m + n)
is_add {z} {w} a b = record { is = omega (arith, ints, a.is, b.is) }

pub is_sub : {z w : ℤ} {p m q n : ℕ} → Is z p m → Is w q n → Is (z -ℤ w) (p + n) (m + q)
is_sub {z} {w} a b = record { is = omega (arith, ints, a.is, b.is) }

-- the product of two differences, in natural numbers
product_of_differences : (a b c d p m q n u v : ℕ) → a + m ≡ p + b → c + n ≡ q + d → u ≡ a * c + b * d → v ≡ a * d + b * c → u + (p * n + m * q) ≡ (p * q + m * n) + v
product_of_differences a b c d p m q n u v e f g h =
    omega (arith, g, h, ap (λ x. x * c) e, ap (λ x. x * d) e, ap (λ x. p * x) f, ap (λ x. m * x) f)

pub is_mul : {z w : ℤ} {p m q n : ℕ} → Is z p m → Is w q n → Is (z *ℤ w) (p * q + m * n) (p * n + m * q)
is_mul {z} {w} {p} {m} {q} {n} a b =
    record { is = product_of_differences (up z) (down z) (up w) (down w) p m q n (up (z *ℤ w)) (down (z *ℤ w)) a.is b.is (product_is z w).0 (product_is z w).1 }

pub same : {z w : ℤ} {p m q n : ℕ} → Is z p m → Is w q n → p + n ≡ q + m → z ≡ w
same {z} {w} a b e = same_in z w (omega (arith, a.is, b.is, e))

-- a square is that of the absolute value
pub square_is : (z : ℤ) → z *ℤ z ≡ pos (square (unsigned_abs z))
square_is (pos n) = refl
square_is (negsuc n) = refl

pub pos_injective : (m n : ℕ) → pos m ≡ pos n → m ≡ n
pos_injective m n e = ap unsigned_abs e

pub of_natural : (z : ℤ) → pos 0 ≤ℤ z → pos (unsigned_abs z) ≡ z
of_natural (pos n) h = refl
of_natural (negsuc n) h = absurd (omega (arith, ints))

-- a step times a whole number
pub scaled_length : (n : ℕ) (a b : ℤ) → square_length (pos n *ℤ a) (pos n *ℤ b) ≡ (n * n) * square_length a b
scaled_length n a b = let e = unsigned_abs-mul (pos n) a in let f = unsigned_abs-mul (pos n) b in
    (λ i. square (e i) + square (f i)) ∙ omega arith

pub scaled-le : (n m : ℕ) (a b : ℤ) → square_length a b ≤ square m → square_length (pos n *ℤ a) (pos n *ℤ b) ≤ square (n * m)
scaled-le n m a b h =
    let e = scaled_length n a b in
    let k : (n * n) * square_length a b ≤ (n * n) * (m * m) = mul-le-mul_left (n * n) h in
    subst (λ x. x ≤ square (n * m)) (sym e) (omega (arith, k))

-- a common factor of both sides of an order
pub cancel : (n a b : ℕ) → 1 ≤ n → n * a ≤ n * b → a ≤ b
cancel n a b some h = by (cases_lt b a)
  where
    by : (b < a) ⊎ (a ≤ b) → a ≤ b
    by (inl more) = let k : n * (b + 1) ≤ n * a = mul-le-mul_left n (omega (arith, more)) in absurd (omega (arith, k, h, some))
    by (inr within) = within

pub unscaled-le : (n m : ℕ) (a b : ℤ) → 1 ≤ n → square_length (pos n *ℤ a) (pos n *ℤ b) ≤ square (n * m) → square_length a b ≤ square m
unscaled-le n m a b some h =
    let e = scaled_length n a b in
    let k : (n * n) * square_length a b ≤ (n * n) * (m * m) = subst (λ x. x ≤ (n * n) * (m * m)) e (omega (arith, h)) in
    let one : 1 ≤ n * n = mul-le 1 1 n n some some in
    cancel (n * n) (square_length a b) (m * m) one k

pub times-le : (n : ℕ) (a b : ℤ) → a ≤ℤ b → (pos n *ℤ a) ≤ℤ (pos n *ℤ b)
times-le n a b h =
    let k : up a + down b ≤ up b + down a = omega (arith, ints, h) in
    let t : n * (up a + down b) ≤ n * (up b + down a) = mul-le-mul_left n k in
    omega (arith, ints, t)

pub untimes-le : (n : ℕ) (a b : ℤ) → 1 ≤ n → (pos n *ℤ a) ≤ℤ (pos n *ℤ b) → a ≤ℤ b
untimes-le n a b some h =
    let k : n * up a + n * down b ≤ n * up b + n * down a = omega (arith, ints, h) in
    let t : up a + down b ≤ up b + down a = cancel n (up a + down b) (up b + down a) some (omega (arith, k)) in
    omega (arith, ints, t)

-- Lagrange's identity: of two steps, the square of the area between them and that of their inner product make up the product of their squares
lagrange_z : (a b c d : ℤ) → (a *ℤ d -ℤ b *ℤ c) *ℤ (a *ℤ d -ℤ b *ℤ c) +ℤ (a *ℤ c +ℤ b *ℤ d) *ℤ (a *ℤ c +ℤ b *ℤ d) ≡ (a *ℤ a +ℤ b *ℤ b) *ℤ (c *ℤ c +ℤ d *ℤ d)
lagrange_z a b c d =
    let area = is_sub (is_mul (is_z a) (is_z d)) (is_mul (is_z b) (is_z c)) in
    let inner = is_add (is_mul (is_z a) (is_z c)) (is_mul (is_z b) (is_z d)) in
    let first = is_add (is_mul (is_z a) (is_z a)) (is_mul (is_z b) (is_z b)) in
    let second = is_add (is_mul (is_z c) (is_z c)) (is_mul (is_z d) (is_z d)) in
    same (is_add (is_mul area area) (is_mul inner inner)) (is_mul first second) (omega arith)

pub length_is : (a b : ℤ) → a *ℤ a +ℤ b *ℤ b ≡ pos (square_length a b)
length_is a b = λ i. square_is a i +ℤ square_is b i

pub lagrange : (a b c d : ℤ) → square (unsigned_abs (a *ℤ d -ℤ b *ℤ c)) + square (unsigned_abs (a *ℤ c +ℤ b *ℤ d)) ≡ square_length a b * square_length c d
lagrange a b c d = pos_injective _ _
    (sym (length_is (a *ℤ d -ℤ b *ℤ c) (a *ℤ c +ℤ b *ℤ d)) ∙ lagrange_z a b c d ∙ (λ i. length_is a b i *ℤ length_is c d i))

-- so the area is at most the product of the lengths
pub area-le : (a b c d : ℤ) (n : ℕ) → square_length c d ≤ square n → square (unsigned_abs (a *ℤ d -ℤ b *ℤ c)) ≤ square_length a b * square n
area-le a b c d n h =
    let k : square_length a b * square_length c d ≤ square_length a b * square n = mul-le-mul_left (square_length a b) h in
    omega (arith, lagrange a b c d, k)
