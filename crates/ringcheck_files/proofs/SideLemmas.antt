-- Sides of pads, as they are spelled.
use Rattle.ringcheck_files.proofs.Common.{◌≡◌, ◌∙◌, ◌<◌, ◌++◌, ◌∷◌, ◌/◌, ◌%◌, ◌^◌, ℕ, pos, List, ap, ap₂, sym, arith, lit<, decimal, decimal_digit, millimetres, places, below_one}

-- what follows the zero of a length below one: a point and its decimals
pub behind_zero : (n : ℕ) → n < 10 ^ 9 → (spelled rest : List ℕ) → spelled ≡ millimetres (pos n) → spelled ≡ 48 ∷ rest → rest ≡ 46 ∷ places 9 n
behind_zero n lt spelled rest is split = let both : 48 ∷ rest ≡ 48 ∷ 46 ∷ places 9 n = sym split ∙ is ∙ below_one n lt in cc

-- a whole part and its decimals
pub side_is : (n : ℕ) (whole text : List ℕ) → whole ≡ decimal (n / 1000000000) → text ≡ whole ++ 46 ∷ places 9 (n % 1000000000) → text ≡ millimetres (pos n)
unfolding millimetres
side_is n whole text first is = is ∙ ap (λ (t : List ℕ). t ++ 46 ∷ places 9 (n % 1000000000)) first
