use Rattle.manifest.proofs.Common.{◌≡◌, arith, true, is_bad_span}
use Rattle.std.proofs.lemmas.Grind.{common_steps}
use Rattle.manifest.proofs.SpanFieldLemmas.{bad_span}
use Rattle.manifest.proofs.validation.named_file.Goals as goal

pub returns-in_default-span_or_reason-clause-err : goal.returns-in_default-span_or_reason-clause-err
returns-in_default-span_or_reason-clause-err c =
    let bad : is_bad_span c.in-Some-role_of_word.role c.in-Some.fields.first.now c.in-Some.fields.last.now ≡ true = bad_span c.in-Some-role_of_word.role c.in-Some.fields.first.now c.in-Some.fields.last.now _ c.in_default-span_or_reason.ensures in
    grind (arith, common_steps, bad)
