use Rattle.std.proofs.Common.{◌≡◌, ℕ, ℤ, pos, ◌≤◌, ◌^◌, ◌+◌, Bool, true, cond, not, ◌&&◌, eqb, List, length, ap, sym, subst, ◌∙◌, arith, ◌*ℤ◌}
use Rattle.std.specs.Prelude.{neg_ℤ}
use Rattle.std.specs.List.{list_all}
use Rattle.std.proofs.lemmas.Bool.{le-ltb}
use Rattle.grid_units.specs.Numbers.{is_digit, value, whole, fraction, is_decimal, fits_eight_decimals, signed_value, to_units, value_without_point}
use Rattle.grid_units.proofs.DigitLemmas.{parse_decimal_ok, read_value, signed_equation, to_units_exact}
use Rattle.grid_units.proofs.decimal.Dec.read.Goals as goal

has_digits : List ℕ → List ℕ → Bool
has_digits w f = (list_all is_digit w && list_all is_digit f) && not (eqb (length w + length f) 0)

is_number_char : (c : goal.After-signed) → is_decimal c.args.text.now ≡ true
unfolding has_digits
is_number_char c = (λ i. has_digits (sym c.split_at_point.ensures.whole i) (sym c.split_at_point.ensures.fraction i)) ∙ sym c.has_only_digits.ensures ∙ c.if-not-has_only_digits.false

coarse : (c : goal.After-signed) → fits_eight_decimals c.split_at_point.result.1.now ≡ true
coarse c = sym c.fits_eight_decimals.ensures ∙ c.if-not-fits_eight_decimals.false

small : (c : goal.After-signed) → c.capped_value-whole.result ≡ value c.split_at_point.result.0.now
small c = omega (arith, c.capped_value-whole.ensures, c.if-whole-gt999999.false)

read : (c : goal.After-signed) → c.signed.result ≡ signed_value c.args.text.now (to_units (value_without_point c.args.text.now) (length (fraction c.args.text.now)))
read c =
    c.signed.ensures
    ∙ (λ i. cond (c.is_negative.ensures i) (neg_ℤ (pos (c.units_of.ensures.value i))) (pos (c.units_of.ensures.value i)))
    ∙ read_value c.args.text.now c.split_at_point.result.0.now c.split_at_point.result.1.now c.capped_value-whole.result c.split_at_point.ensures.whole c.split_at_point.ensures.fraction (coarse c) (small c)

pub returns-clause-exact : goal.returns-clause-exact
returns-clause-exact c =
    let within : value (whole c.args.text.now) ≤ 999999 = subst (λ w. value w ≤ 999999) c.split_at_point.ensures.whole (omega (arith, small c, c.if-whole-gt999999.false)) in
    parse_decimal_ok c.args.text.now c.signed.result (is_number_char c) (ap fits_eight_decimals (sym c.split_at_point.ensures.fraction) ∙ coarse c) (le-ltb _ _ within) (read c)

pub returns-clause-equation : goal.returns-clause-equation
returns-clause-equation c =
    let text = c.args.text.now in
    ap (λ (v : ℤ). v *ℤ pos (10 ^ length (fraction text))) (read c)
    ∙ signed_equation text _ (value_without_point text) _ (10 ^ 8) (to_units_exact (whole text) (fraction text) (ap fits_eight_decimals (sym c.split_at_point.ensures.fraction) ∙ coarse c))
