use Rattle.gerber_text.proofs.Common.{◌≡◌, true, cond, ◌-◌, ◌<◌, length, take, drop, ap, sym, subst, ◌∙◌, w64, rules, arith, neg_ℤ, take_rest, recursion_from_All, is_digit, HasLeadingInt}
use Rattle.std.specs.Prelude.{ℤ, pos}
use Rattle.std.proofs.lemmas.Int.{to_z-of_z}
use mir.Val.{to_z, of_z}
use Rattle.gerber_text.proofs.FastPathLemmas.{begins_with_int}
use Rattle.gerber_text.proofs.fast_path.first_int.Goals as goal

pub returns-clause-value : goal.returns-clause-value
returns-clause-value c =
    let bytes = c.args.bytes.now in
    let digits = c.without_sign-digits.result.now in
    let n = c.first_digits-magnitude.result.0 in
    let len = c.first_digits-magnitude.result.1 in
    let parts = c.first_digits-magnitude.ensures in
    let fits : to_z w64 (of_z w64 c.signed.result) ≡ c.signed.result = search (rules, to_z-of_z) in
    let value = fits ∙ (c.signed.ensures.value ∙ ap (λ t. cond t (neg_ℤ (pos n)) (pos n)) c.is_negative-negative.ensures) in
    let some : 0 < len = omega (arith, c.if-len-eq0.false) in
    let found = begins_with_int bytes digits n len c.without_sign-digits.ensures some parts.within parts.short (recursion_from_All (λ b. is_digit b ≡ true) (take len digits) parts.digits) parts.value in
    subst (λ (z : ℤ). HasLeadingInt bytes z (take (length digits - len) (drop len digits))) (sym value) (subst (HasLeadingInt bytes _) (sym (take_rest digits len)) found)
