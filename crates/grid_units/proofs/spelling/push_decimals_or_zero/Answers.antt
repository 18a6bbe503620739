use Rattle.std.proofs.Common.{◌++◌, ◌∷◌, [], List, ℕ, sym, ap, ◌∙◌, arith}
use mathlib.Core.List.{append_assoc}
use Rattle.grid_units.specs.Spellings.{places, without_end_zeros, fraction_text_or_zero}
use Rattle.grid_units.proofs.TrailingZeros.{any_pointed_places, nothing_left}
use Rattle.grid_units.proofs.spelling.push_decimals_or_zero.Goals as goal

pub returns-then-width-gt0 : goal.returns-then-width-gt0
returns-then-width-gt0 c =
    any_pointed_places _ _ _ (without_end_zeros (places 8 c.args.fraction)) c.without_zeros-number.result.1 c.without_zeros-number.result.0 (omega arith) c.without_zeros-number.ensures.places c.push_ascii.ensures.bytes c.push_places.ensures

pub returns-else-width-gt0 : goal.returns-else-width-gt0
returns-else-width-gt0 c =
    let none = nothing_left (without_end_zeros (places 8 c.args.fraction)) _ _ (omega arith) c.without_zeros-number.ensures.places in
    c.push_digit.ensures ∙ ap (λ (t : List ℕ). t ++ 48 ∷ []) c.push_ascii.ensures.bytes ∙ append_assoc c.args.text.now.bytes (46 ∷ []) (48 ∷ []) ∙ ap (λ l. c.args.text.now.bytes ++ fraction_text_or_zero l) (sym none)
