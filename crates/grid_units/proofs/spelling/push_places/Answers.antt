use Rattle.std.proofs.Common.{◌≡◌, ◌++◌, ◌-◌, ◌+◌, ◌∷◌, [], length, sym, ap, ◌∙◌, arith}
use mathlib.Core.List.{append_assoc}
use Rattle.std.proofs.lemmas.List.{length-append, append-nil}
use Rattle.grid_units.specs.Spellings.{places}
use Rattle.grid_units.proofs.TrailingZeros.{places_front_at, places_none, length-places}
use Rattle.grid_units.proofs.spelling.push_places.Goals as goal

pub push_digit-requires-clause-room : goal.push_digit-requires-clause-room
push_digit-requires-clause-room c =
    let left = length-places c.loop-exponent.exponent c.args.number in
    let all = length-places c.args.width c.args.number in
    omega (arith, left, all, c.loop-exponent.auto.exponent, simp length-append at (ap length c.loop-exponent.invariant))

pub loop-exponent-preserved : goal.loop-exponent-preserved
loop-exponent-preserved c =
    let n = c.args.number in
    let rest = places (c.loop-exponent.exponent - 1) n in
    ap (λ t. t ++ rest) c.push_digit.ensures
    ∙ append_assoc c.loop-exponent.text.bytes ((48 + c.digit_of.result) ∷ []) rest
    ∙ ap (λ d. c.loop-exponent.text.bytes ++ ((48 + d) ∷ rest)) c.digit_of.ensures.value
    ∙ ap (λ l. c.loop-exponent.text.bytes ++ l) (sym (places_front_at c.loop-exponent.exponent n (omega arith)))
    ∙ c.loop-exponent.invariant

pub returns : goal.returns
returns c =
    let none : c.loop-exponent.exponent ≡ 0 = omega arith in
    sym (append-nil c.loop-exponent.text.bytes) ∙ ap (λ l. c.loop-exponent.text.bytes ++ l) (sym (ap (λ k. places k c.args.number) none ∙ places_none c.args.number)) ∙ c.loop-exponent.invariant
