use Rattle.macro_shapes.proofs.Common.{◌≡◌, ◌↔◌, List, Option, Some, None, sym, ◌∙◌, IfOk-weaker, option_copied, lookup, IsMacro, fields_from, parameters_of, Fields, macro_exactly, no_macro}
use Rattle.macro_shapes.proofs.fields.read_macro.Goals as goal

pub returns-in-Some : goal.returns-in-Some
returns-in-Some c =
    let pieces = c.args.pieces.now in
    let parameters = option_copied c.args.parameters in
    let given : parameters_of (option_copied c.args.parameters) ≡ Some c.in-Some.variables = sym c.in_ok-variables.ensures ∙ c.in-Some.is in
    let exactly : (answer : Option (List Fields)) → answer ≡ fields_from (lookup c.in-Some.variables) c.args.pieces.now → (found : List Fields) → (answer ≡ Some found) ↔ IsMacro c.args.pieces.now (option_copied c.args.parameters) found =
    λ answer p found. (
      λ h. (macro_exactly pieces parameters c.in-Some.variables found given).0 (sym p ∙ h),
      λ h. p ∙ (macro_exactly pieces parameters c.in-Some.variables found given).1 h,
    ) in
    IfOk-weaker c.read_pieces.result (λ answer. answer ≡ fields_from (lookup c.in-Some.variables) c.args.pieces.now) (λ answer. (found : List Fields) → (answer ≡ Some found) ↔ IsMacro c.args.pieces.now (option_copied c.args.parameters) found) exactly c.read_pieces.ensures

pub returns-in-None : goal.returns-in-None
returns-in-None c =
    let missing : parameters_of (option_copied c.args.parameters) ≡ None = sym c.in_ok-variables.ensures ∙ c.in-None.is in
    λ found. (λ h. absurd cc, λ h. absurd (no_macro c.args.pieces.now (option_copied c.args.parameters) found missing h))
