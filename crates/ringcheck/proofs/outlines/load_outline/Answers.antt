use Rattle.ringcheck.proofs.Common.{inr}
use Rattle.ringcheck.proofs.outlines.load_outline.Goals as goal

pub returns-in-Ok-clause-loaded : goal.returns-in-Ok-clause-loaded
returns-in-Ok-clause-loaded g c =
    let reads = rw (c.in-Err-Refused.is, c.in-Err-Refused.field-0-is, c.as_slice.ensures.value) at c.read_outline.ensures in
    let given = rw c.in-Ok.is at c.load.ensures.gives in
    rw c.in-Some.is (c.in-Ok.text.items, given.0, inr (given.1, reads))
