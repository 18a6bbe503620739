use Rattle.macro_shapes.proofs.Common.{◌≡◌, ◌-◌, ◌<◌, length, take, drop, refl, arith, nat_tests, IfOk-weaker, outline_at}
use Rattle.macro_shapes.specs.Primitives.{primitive_by_code}
use Rattle.macro_shapes.specs.declared.piece.Code.TheVariants as code
use Rattle.macro_shapes.proofs.OutlineLemmas.{outline_made}
use Rattle.macro_shapes.proofs.outline.outline.Goals as goal

pub returns-else-is_empty : goal.returns-else-is_empty
returns-else-is_empty c =
    let values = c.args.values.now in
    let rest = take (length values - 2) (drop 2 values) in
    let coordinates = take (length rest - 1) rest in
    let whole : 2 < length values = grind (arith, nat_tests, c.if-is_empty.false, c.is_empty.ensures, c.in-len2-up.len_at_least) in
    IfOk-weaker c.outline_at.result (λ answer. answer ≡ outline_at c.args.unit c.exposure-item.result c.count-item.result coordinates c.index-rest-last.result) (λ answer. answer ≡ primitive_by_code code.Outline c.args.unit values)
    (λ answer made. outline_made c.args.unit values rest c.exposure-item.result c.count-item.result c.index-rest-last.result coordinates answer whole c.exposure-item.is c.count-item.is refl refl c.index-rest-last.is made)
    c.outline_at.ensures
