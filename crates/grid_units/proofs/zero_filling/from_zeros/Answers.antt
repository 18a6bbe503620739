use Rattle.std.proofs.Common.{◌≡◌, ℕ, ℤ, pos, ◌+◌, ◌*◌, ◌^◌, ◌*ℤ◌, cond, length, Result, Ok, IfOk, ap, sym, subst, ◌∙◌, arith}
use Rattle.std.specs.Prelude.{neg_ℤ}
use Rattle.std.proofs.lemmas.Result.{err_from_is_err_and}
use Rattle.grid_units.specs.declared.fault.Reason.{Reason}
use Rattle.grid_units.specs.Numbers.{is_digits, without_sign, signed_value, to_units, zeros_to_fill, zero_filled}
use Rattle.grid_units.proofs.DigitLemmas.{signed_equation}
use Rattle.grid_units.proofs.ZeroFillingLemmas.{parse_zero_filled_ok, parse_zero_filled_err, parse_zero_filled_bad, to_units_equation, wide}
use Rattle.grid_units.proofs.zero_filling.from_zeros.Goals as goal

pub returns-then-not-is_digits-clause-exact : goal.returns-then-not-is_digits-clause-exact
returns-then-not-is_digits-clause-exact c =
    parse_zero_filled_bad c.args.text.now c.args.i c.args.d c.args.zeros (ap is_digits (sym c.without_sign-digits.ensures) ∙ sym c.is_digits.ensures ∙ c.if-not-is_digits.true)

pub returns-in_err-zeros-clause-exact : goal.returns-in_err-zeros-clause-exact
returns-in_err-zeros-clause-exact c =
    let p = err_from_is_err_and c.from_residual.result c.from_residual.ensures.1 in
    let digits = ap is_digits (sym c.without_sign-digits.ensures) ∙ sym c.is_digits.ensures ∙ c.if-not-is_digits.false in
    let refused = ap (λ xs. zeros_to_fill c.args.zeros (c.args.i + c.args.d) (length xs)) (sym c.without_sign-digits.ensures) ∙ sym c.zeros_to_fill.ensures.value ∙ c.in_err-zeros.was in
    rw (p.1, p.2) (parse_zero_filled_err c.args.text.now c.args.i c.args.d c.args.zeros c.in_err-zeros.field-0.0 digits refused)

pub units_of-requires-clause-number : goal.units_of-requires-clause-number
units_of-requires-clause-number c =
    let fits = c.in_ok-zeros.ensures.fits in
    omega (arith, c.zero_filled.ensures.bound, wide (length c.without_sign-digits.result.now + c.in_ok-zeros.zeros) (c.args.i + c.args.d) fits)

read : (c : goal.After-signed) → c.signed.result ≡ signed_value c.args.text.now (to_units (zero_filled (without_sign c.args.text.now) c.in_ok-zeros.zeros) c.args.d)
read c =
    let n : c.units_of.result ≡ to_units (zero_filled (without_sign c.args.text.now) c.in_ok-zeros.zeros) c.args.d =
    c.units_of.ensures.value ∙ ap (λ m. to_units m c.args.d) (c.zero_filled.ensures.value ∙ ap (λ ds. zero_filled ds c.in_ok-zeros.zeros) c.without_sign-digits.ensures) in
    c.signed.ensures ∙ (λ i. cond (c.is_negative.ensures i) (neg_ℤ (pos (n i))) (pos (n i)))

given : (c : goal.After-signed) → zeros_to_fill c.args.zeros (c.args.i + c.args.d) (length (without_sign c.args.text.now)) ≡ Ok c.in_ok-zeros.zeros
given c = ap (λ xs. zeros_to_fill c.args.zeros (c.args.i + c.args.d) (length xs)) (sym c.without_sign-digits.ensures) ∙ sym c.zeros_to_fill.ensures.value ∙ c.in_ok-zeros.was

pub returns-clause-exact : goal.returns-clause-exact
returns-clause-exact c =
    parse_zero_filled_ok c.args.text.now c.args.i c.args.d c.in_ok-zeros.zeros c.args.zeros c.signed.result (ap is_digits (sym c.without_sign-digits.ensures) ∙ sym c.is_digits.ensures ∙ c.if-not-is_digits.false) (given c) (read c)

pub returns-clause-equation : goal.returns-clause-equation
returns-clause-equation c =
    let text = c.args.text.now in
    let n = zero_filled (without_sign text) c.in_ok-zeros.zeros in
    let e : c.signed.result *ℤ pos (10 ^ c.args.d) ≡ signed_value text (n * 10 ^ 8) = ap (λ (v : ℤ). v *ℤ pos (10 ^ c.args.d)) (read c) ∙ signed_equation text (to_units n c.args.d) n (10 ^ c.args.d) (10 ^ 8) (to_units_equation n c.args.d (omega arith)) in
    subst (λ (r : Result ℕ Reason). IfOk r (λ k. c.signed.result *ℤ pos (10 ^ c.args.d) ≡ signed_value text (zero_filled (without_sign text) k * 10 ^ 8))) (sym (given c)) e
