use Rattle.macro_shapes.proofs.Common.{sym, ◌∙◌, lookup, value_exactly}
use Rattle.macro_shapes.proofs.expression.value.Goals as goal

pub returns : goal.returns
returns c = λ v.
    let both = value_exactly (lookup c.args.variables.now) c.args.text.now v in
    (λ h. both.0 (sym c.read.ensures ∙ h), λ h. c.read.ensures ∙ both.1 h)
