-- The text names the last file function, or those before it do.
use Rattle.layer_state.proofs.Common.{ℕ, ◌≡◌, List, Some, refl, sym, ap, ◌∙◌, option_or, option_copied, function_set}
use Rattle.gerber_text.specs.FastPath.{text_command}
use Rattle.layer_state.proofs.TextScans.{text_scanned}
use Rattle.layer_state.proofs.scan.Scan.text.Goals as goal

pub returns-in_ok-function : goal.returns-in_ok-function
returns-in_ok-function c parts before place byte h =
    let old = c.args.self.now in
    let named : Some c.in-Some.bytes.now ≡ function_set (text_command c.args.kind c.args.text.now) = sym (ap option_copied c.in-Some.is) ∙ c.function_in_text.ensures in
    text_scanned old _ parts before place byte c.args.kind c.args.text.now c.requires refl (ap (λ (x : List ℕ). Some x) c.in_ok-function.ensures ∙ ap (λ o. option_or o old.file_function) named) h

pub returns-in_default : goal.returns-in_default
returns-in_default c parts before place byte h =
    let old = c.args.self.now in
    text_scanned old old parts before place byte c.args.kind c.args.text.now c.requires refl (ap (λ o. option_or o old.file_function) c.in_default.ensures) h
