-- The bytes are a sign, digits, a point, decimals and the rest.
use Rattle.std.proofs.Common.{◌≡◌, ◌+◌, ◌-◌, ◌*◌, ◌^◌, ℕ, Bool, true, false, not, eqb, cond, List, ◌∷◌, ◌++◌, length, take, drop, arith, refl, sym, ap, ◌∙◌}
use Rattle.std.specs.Prelude.{neg_ℤ, pos}
use Rattle.std.specs.List.{prefix_len}
use Rattle.std.proofs.lemmas.List.{length-take, take-append-drop, take_rest}
use Rattle.std.proofs.lemmas.Bool.{eqb-true}
use Rattle.grid_units.specs.Numbers.{is_number_char, value, without_sign}
use Rattle.grid_units.proofs.ReadPrefix.{six_digits, eight_decimals, prefix_is}
use Rattle.grid_units.proofs.decimal.Dec.read_prefix.Goals as goal

pub units_of-units-requires-clause-whole : goal.units_of-units-requires-clause-whole
units_of-units-requires-clause-whole c =
    let places = c.leading_digits-places in
    let ds = take places.result.0 c.without_sign-digits.result.now in
    omega (arith, places.ensures.value, six_digits ds places.ensures.digits (omega (arith, length-take places.result.0 c.without_sign-digits.result.now, c.if-places-gt6.false)))

decimals_length : (c : goal.Else-starts_with_number_char) → length (take c.leading_digits-len.result.0 c.in-Some.after.now) ≡ c.leading_digits-len.result.0
decimals_length c = omega (arith, length-take c.leading_digits-len.result.0 c.in-Some.after.now, c.leading_digits-len.ensures.within)

pub units_of-units-requires-clause-decimals : goal.units_of-units-requires-clause-decimals
units_of-units-requires-clause-decimals c =
    let len = c.leading_digits-len in
    let fs = take len.result.0 c.in-Some.after.now in
    let same : value fs * 10 ^ (8 - length fs) ≡ len.result.1 * 10 ^ (8 - len.result.0) = λ i. sym len.ensures.value i * 10 ^ (8 - decimals_length c i) in
    omega (arith, same, eight_decimals fs len.ensures.digits (omega (arith, decimals_length c, len.ensures.short)))

pub returns : goal.returns
returns c =
    let bytes = c.args.bytes.now in
    let digits = c.without_sign-digits.result.now in
    let after = c.in-Some.after.now in
    let places = c.leading_digits-places in
    let len = c.leading_digits-len in
    let p = places.result.0 in
    let n = len.result.0 in
    let ds = take p digits in
    let fs = take n after in
    let rest = take (length after - n) (drop n after) in
    let ds_len : length ds ≡ p = omega (arith, length-take p digits, places.ensures.within) in
    let fs_len : length fs ≡ n = omega (arith, length-take n after, len.ensures.within) in
    let point : c.in-Some.point.now ≡ 46 = omega (arith, c.if-point-ne46.false) in
    let split_at_point : fs ++ rest ≡ after = ap (λ (x : List ℕ). fs ++ x) (take_rest after n) ∙ take-append-drop n after in
    let cut : without_sign bytes ≡ ds ++ 46 ∷ (fs ++ rest) =
    sym c.without_sign-digits.ensures ∙ (sym (take-append-drop p digits) ∙ ap (λ (x : List ℕ). ds ++ x) (sym (take_rest digits p) ∙ c.in-Some.ensures.cases.0 ∙ (λ i. point i ∷ sym split_at_point i))) in
    let some : eqb (length ds + length fs) 0 ≡ false = ap (λ k. eqb k 0) (λ i. ds_len i + fs_len i) ∙ positive (p + n) c.if-places-len-eq0.false in
    let ends : prefix_len is_number_char rest ≡ 0 = eqb-true _ 0 (not_false _ (sym c.starts_with_number_char.ensures ∙ c.if-starts_with_number_char.false)) in
    let units : c.units_of-units.result ≡ value ds * 10 ^ 8 + value fs * 10 ^ (8 - length fs) = c.units_of-units.ensures.value ∙ (λ i. places.ensures.value i * 10 ^ 8 + len.ensures.value i * 10 ^ (8 - sym fs_len i)) in
    prefix_is bytes ds fs rest c.signed.result cut places.ensures.digits len.ensures.digits some (omega (arith, ds_len, c.if-places-gt6.false)) (omega (arith, fs_len, len.ensures.short)) ends
    (c.signed.ensures ∙ (λ i. cond (c.is_negative.ensures i) (neg_ℤ (pos (units i))) (pos (units i))))
  where
    positive : (k : ℕ) → (k ≡ 0 → ⊥) → eqb k 0 ≡ false
    positive k h = by (eqb k 0) refl
      where
        by : (t : Bool) → eqb k 0 ≡ t → eqb k 0 ≡ false
        by true e = absurd (h (eqb-true k 0 e))
        by false e = e

    not_false : (t : Bool) → not t ≡ false → t ≡ true
    not_false true h = refl
    not_false false h = absurd cc
