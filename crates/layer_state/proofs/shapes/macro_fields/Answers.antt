use Rattle.layer_state.proofs.Common.{◌≡◌, ℕ, List, Some, ap, ◌∙◌, option_copied}
use Rattle.std.proofs.Common.{◌↔◌}
use Rattle.std.proofs.lemmas.Result.{IfOk-weaker}
use Rattle.macro_shapes.specs.Pieces.{IsMacro}
use Rattle.macro_shapes.specs.Macros.{fields_of}
use Rattle.macro_shapes.specs.declared.fields.Fields.{Fields}
use Rattle.macro_shapes.proofs.OneAnswer.{fields_are}
use Rattle.layer_state.proofs.shapes.macro_fields.Goals as goal

pub returns : goal.returns
returns c =
    let parameters = option_copied c.args.parameters in
    IfOk-weaker c.read_macro.result
    (λ answer. (found : List Fields) → (answer ≡ Some found) ↔ IsMacro c.texts.result.now (option_copied c.args.parameters) found)
    (λ answer. answer ≡ fields_of c.args.pieces.now (option_copied c.args.parameters))
    (λ answer h. fields_are c.texts.result.now parameters answer h ∙ ap (λ (pieces : List (List ℕ)). fields_of pieces parameters) c.texts.ensures)
    c.read_macro.ensures
