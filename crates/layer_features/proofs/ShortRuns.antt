-- Where a run turns: nowhere if it has less than three points, else at its second point or later.
use Rattle.layer_features.proofs.Common.{◌≡◌, ◌<◌, ◌≤◌, ◌||◌, Bool, false, List, [], ◌∷◌, drop, get_or, length, refl, sym, ap, ◌∙◌, arith, GridPoint}
use Rattle.std.proofs.Common.{ℤ}
use Rattle.pad_shapes.specs.Rounded.{cross}
use Rattle.layer_features.specs.Inner.Turns.{is_turn, turns}

pub no_turn : (left : Bool) (run : List GridPoint) → length run < 3 → turns left run ≡ false
no_turn left [] h = refl
no_turn left (a ∷ []) h = refl
no_turn left (a ∷ b ∷ []) h = refl
no_turn left (a ∷ b ∷ c ∷ run) h = absurd (omega (arith, h))

pub first_turn : (left : Bool) (run : List GridPoint) (a b c : GridPoint) (area : ℤ) (t : Bool) → 3 ≤ length run → a ≡ get_or run 0 a → b ≡ get_or run 1 b → c ≡ get_or run 2 c → area ≡ cross (record { from = a; to = b }) c → t ≡ is_turn left area
    → turns left run ≡ (t || turns left (drop 1 run))
first_turn left [] a b c area t h p q r e k = absurd (omega (arith, h))
first_turn left (x ∷ []) a b c area t h p q r e k = absurd (omega (arith, h))
first_turn left (x ∷ y ∷ []) a b c area t h p q r e k = absurd (omega (arith, h))
first_turn left (x ∷ y ∷ z ∷ run) a b c area t h p q r e k = λ i. sym (k ∙ ap (is_turn left) (e ∙ (λ j. cross (record { from = p j; to = q j }) (r j)))) i || turns left (y ∷ z ∷ run)
