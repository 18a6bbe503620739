use Rattle.gerber_commands.proofs.Common.{◌≡◌, true, cond, Ok, take, ap, sym, ◌∙◌, w64, rules, neg_ℤ, recursion_from_All, is_digit}
use Rattle.std.specs.Prelude.{ℤ, pos}
use Rattle.std.proofs.lemmas.Int.{to_z-of_z}
use mir.Val.{to_z, of_z}
use Rattle.gerber_commands.proofs.NumberLemmas.{read_ok, all_digits}
use Rattle.gerber_commands.proofs.number.read_int.Goals as goal

pub returns-then-len-digits-clause-value : goal.returns-then-len-digits-clause-value
returns-then-len-digits-clause-value c =
    let run = c.args.run.now in
    let digits = c.without_sign-digits.result.now in
    let n = c.first_digits-magnitude.result.0 in
    let len = c.first_digits-magnitude.result.1 in
    let parts = c.first_digits-magnitude.ensures in
    let read = all_digits run digits n len c.without_sign-digits.ensures c.if-len-gt0.true parts.short c.if-len-digits.true (recursion_from_All (λ b. is_digit b ≡ true) (take len digits) parts.digits) parts.value in
    let fits : to_z w64 (of_z w64 c.signed.result) ≡ c.signed.result = search (rules, to_z-of_z) in
    ap (λ (z : ℤ). Ok z) (fits ∙ (c.signed.ensures.value ∙ ap (λ t. cond t (neg_ℤ (pos n)) (pos n)) c.is_negative.ensures)) ∙ sym read

pub returns-clause-value : goal.returns-clause-value
returns-clause-value c =
    let run = c.args.run.now in
    let n = c.value_of.result in
    let read = read_ok run c.without_sign-digits.result.now c.repeat_len.result n c.without_sign-digits.ensures (sym c.is_digits.ensures ∙ c.if-not-is_digits.false) c.repeat_len.ensures.len c.if-significant_digits-gt12.false c.value_of.ensures.value in
    let fits : to_z w64 (of_z w64 c.signed-2.result) ≡ c.signed-2.result = search (rules, to_z-of_z) in
    ap (λ (z : ℤ). Ok z) (fits ∙ (c.signed-2.ensures.value ∙ ap (λ t. cond t (neg_ℤ (pos n)) (pos n)) c.is_negative-2.ensures)) ∙ sym read

pub returns-then-len-digits-clause-kept : goal.returns-then-len-digits-clause-kept
returns-then-len-digits-clause-kept c = let fits : to_z w64 (of_z w64 c.signed.result) ≡ c.signed.result = search (rules, to_z-of_z) in λ e. c.signed.ensures.kept (sym fits ∙ e)

pub returns-clause-kept : goal.returns-clause-kept
returns-clause-kept c = let fits : to_z w64 (of_z w64 c.signed-2.result) ≡ c.signed-2.result = search (rules, to_z-of_z) in λ e. c.signed-2.ensures.kept (sym fits ∙ e)
