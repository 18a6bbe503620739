use Rattle.std.proofs.Common.{◌++◌, sym, ap, ◌∙◌, arith}
use Rattle.std.proofs.lemmas.List.{append-nil}
use Rattle.grid_units.specs.Spellings.{places, without_end_zeros, fraction_text}
use Rattle.grid_units.proofs.TrailingZeros.{pointed_places, nothing_left}
use Rattle.grid_units.proofs.spelling.push_decimals.Goals as goal

pub returns-then-left-gt0 : goal.returns-then-left-gt0
returns-then-left-gt0 c =
    pointed_places _ _ _ (without_end_zeros (places c.args.width c.args.part)) c.without_zeros-number.result.1 c.without_zeros-number.result.0 (omega arith) c.without_zeros-number.ensures.places c.push_ascii.ensures.bytes c.push_places.ensures

pub returns-else-left-gt0 : goal.returns-else-left-gt0
returns-else-left-gt0 c =
    let none = nothing_left (without_end_zeros (places c.args.width c.args.part)) _ _ (omega arith) c.without_zeros-number.ensures.places in
    sym (append-nil c.args.text.now.bytes) ∙ ap (λ l. c.args.text.now.bytes ++ fraction_text l) (sym none)
