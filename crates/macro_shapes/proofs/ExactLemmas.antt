-- Products and quotients are exact.
use Rattle.macro_shapes.proofs.Common.{◌≡◌, ℕ, zero, suc, ◌*◌, ◌/◌, ◌%◌, ◌^◌, ℤ, pos, negsuc, ◌*ℤ◌, unsigned_abs, Bool, true, false, cond, not, ◌||◌, eqb, leb, None, Some, refl, sym, ap, subst, ◌∙◌, arith, int_lt, eqb-true, le-ltb, ints, div-add-mod', same_Some, Is, is_n, is_mul, same, exact_quotient, have_other_signs}
use Rattle.std.specs.Prelude.{neg_ℤ}
use Rattle.grid_units.specs.Numbers.{max_units}
use Rattle.macro_shapes.specs.Laws.{ProductsAreExact, QuotientsAreExact}

-- a number below zero where this is so: `-5` of 5
abbrev negated_if : Bool → ℕ → ℤ
negated_if negative n = cond negative (neg_ℤ (pos n)) (pos n)

-- a quotient times the divisor is the dividend
exact_parts : (t : Bool) (n d : ℕ) (v : ℤ) → exact_quotient t n d ≡ Some v → (q : ℕ) × (q * d ≡ n) × (negated_if t q ≡ v)
unfolding exact_quotient
exact_parts t n d v e = by (eqb d 0) (eqb (n % d) 0) (leb (unsigned_abs (negated_if t (n / d))) max_units) refl e
  where
    by : (z r s : Bool) → eqb (n % d) 0 ≡ r → cond (z || not r) None (cond s (Some (negated_if t (n / d))) None) ≡ Some v → (q : ℕ) × (q * d ≡ n) × (negated_if t q ≡ v)
    by false true true p h = let whole : n / d * d ≡ n = omega (arith, div-add-mod' n d, eqb-true (n % d) 0 p) in (n / d, whole, same_Some (negated_if t (n / d)) v h)
    by z r s p h = absurd cc

below : (n : ℕ) → Is (negated_if true n) 0 n
below zero = record { is = omega arith }
below (suc n) = record { is = omega (arith, ints) }

-- what one number times a factor above zero is, and the product of two numbers
abbrev Sign : Bool → ℤ → ℕ → Type 0
Sign false a m = Is a m 0
Sign true a m = Is a 0 m

signed_of : (a : ℤ) → Sign (int_lt a (pos 0)) a (unsigned_abs a)
signed_of (pos n) = subst (λ (t : Bool). Sign t (pos n) n) (sym (le-ltb n 0 (omega arith))) (is_n n)
signed_of (negsuc n) = record { is = omega (arith, ints) }

negated_sign : (t : Bool) (n : ℕ) → Sign t (negated_if t n) n
negated_sign false n = is_n n
negated_sign true n = below n

-- numbers whose absolute values and signs have equal products
equal_products : (t s : Bool) (a b v w : ℤ) (m n q d : ℕ) → Sign t a m → Sign s b n → Sign (cond t (not s) s) v q → Is w d 0 → q * d ≡ m * n → v *ℤ w ≡ a *ℤ b
equal_products false false a b v w m n q d x y z k e = same (is_mul z k) (is_mul x y) (omega (arith, e))
equal_products false true a b v w m n q d x y z k e = same (is_mul z k) (is_mul x y) (omega (arith, e))
equal_products true false a b v w m n q d x y z k e = same (is_mul z k) (is_mul x y) (omega (arith, e))
equal_products true true a b v w m n q d x y z k e = same (is_mul z k) (is_mul x y) (omega (arith, e))

equal_quotients : (t s : Bool) (a b v w : ℤ) (m n q d : ℕ) → Sign t a m → Sign s b n → Sign (cond t (not s) s) v q → Is w d 0 → q * n ≡ m * d → v *ℤ b ≡ a *ℤ w
equal_quotients false false a b v w m n q d x y z k e = same (is_mul z y) (is_mul x k) (omega (arith, e))
equal_quotients false true a b v w m n q d x y z k e = same (is_mul z y) (is_mul x k) (omega (arith, e))
equal_quotients true false a b v w m n q d x y z k e = same (is_mul z y) (is_mul x k) (omega (arith, e))
equal_quotients true true a b v w m n q d x y z k e = same (is_mul z y) (is_mul x k) (omega (arith, e))

pub products_are_exact : ProductsAreExact
products_are_exact a b v h =
    let p = exact_parts (have_other_signs a b) (unsigned_abs a * unsigned_abs b) (10 ^ 8) v h in
    ap (λ (z : ℤ). z *ℤ pos (10 ^ 8)) (sym p.2)
    ∙ equal_products (int_lt a (pos 0)) (int_lt b (pos 0)) a b (negated_if (have_other_signs a b) p.0) (pos (10 ^ 8)) (unsigned_abs a) (unsigned_abs b) p.0 (10 ^ 8) (signed_of a) (signed_of b) (negated_sign (have_other_signs a b) p.0) (is_n (10 ^ 8)) p.1

pub quotients_are_exact : QuotientsAreExact
quotients_are_exact a b v h =
    let p = exact_parts (have_other_signs a b) (unsigned_abs a * 10 ^ 8) (unsigned_abs b) v h in
    ap (λ (z : ℤ). z *ℤ b) (sym p.2)
    ∙ equal_quotients (int_lt a (pos 0)) (int_lt b (pos 0)) a b (negated_if (have_other_signs a b) p.0) (pos (10 ^ 8)) (unsigned_abs a) (unsigned_abs b) p.0 (10 ^ 8) (signed_of a) (signed_of b) (negated_sign (have_other_signs a b) p.0) (is_n (10 ^ 8)) p.1
