-- Lengths below a millimetre, as they are spelled.
use Rattle.std.proofs.Common.{◌≡◌, ◌∙◌, ◌<◌, ◌++◌, ◌∷◌, ◌/◌, ◌%◌, ◌^◌, ℕ, pos, List, ap, ap₂, arith, lit<, decimal}
use Rattle.std.proofs.lemmas.Fmt.{decimal_digit}
use Rattle.grid_units.specs.Spellings.{millimetres, places}

-- the whole part is 0
pub below_one : (n : ℕ) → n < 10 ^ 9 → millimetres (pos n) ≡ 48 ∷ 46 ∷ places 9 n
unfolding millimetres
below_one n lt =
    let none : n / 1000000000 ≡ 0 = omega (arith, lt) in
    let rest : n % 1000000000 ≡ n = omega (arith, lt) in
    ap₂ (λ (q r : ℕ). decimal q ++ 46 ∷ places 9 r) none rest ∙ ap (λ (t : List ℕ). t ++ 46 ∷ places 9 n) (decimal_digit 0 (lit< tt))

-- what follows a first byte
pub behind_zero : (a b : List ℕ) → 48 ∷ a ≡ 48 ∷ b → a ≡ b
behind_zero a b e = cc
