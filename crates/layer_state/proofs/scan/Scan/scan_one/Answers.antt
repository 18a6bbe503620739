-- Where the judge stops, the scan stops. The command names the last file function, or those before it do.
use Rattle.layer_state.proofs.Common.{ℕ, ◌≡◌, List, Some, sym, ap, ◌∙◌, option_or, option_copied, last_set-more, function_set, file_function_of}
use Rattle.std.proofs.lemmas.Result.{err_from_is_err_and}
use Rattle.layer_state.proofs.FirstFaultLemmas.{scan_stops}
use Rattle.layer_state.proofs.scan.Scan.scan_one.Goals as goal

pub returns-in_err-step : goal.returns-in_err-step
returns-in_err-step c parts before h =
    let p = err_from_is_err_and c.from_residual.result c.from_residual.ensures.1 in
    rw (p.1, p.2) (scan_stops parts before c.args.command.now c.step.new.self.state (record { state = c.step.new.self; file_function = c.args.self.now.file_function }) c.in_err-step.field-0.0 (c.in_err-step.ensures parts before h.is_state))

pub returns-in_ok-from_slice : goal.returns-in_ok-from_slice
returns-in_ok-from_slice c parts before h =
    let step_result = c.in_ok-step.ensures parts before h.is_state in
    let named : Some c.in-Some.bytes.now ≡ function_set c.args.command.now = sym (ap option_copied c.in-Some.is) ∙ c.function_set.ensures in (
      step_result.0,
      record {
        is_state = step_result.1;
        named = ap (λ (x : List ℕ). Some x) c.in_ok-from_slice.ensures ∙ (ap (λ o. option_or o (file_function_of before)) named ∙ sym (last_set-more function_set before c.args.command.now));
      },
    )

pub returns-in_default : goal.returns-in_default
returns-in_default c parts before h =
    let step_result = c.in_ok-step.ensures parts before h.is_state in (
      step_result.0,
      record { is_state = step_result.1; named = h.named ∙ (ap (λ o. option_or o (file_function_of before)) c.in_default.ensures ∙ sym (last_set-more function_set before c.args.command.now)) },
    )
