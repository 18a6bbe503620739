use Rattle.ringcheck.proofs.Common.{[], List, ℕ, ap, get_or}
use Rattle.ringcheck.proofs.LoadSteps.{hashes_none}
use Rattle.ringcheck.specs.declared.certificates.DigestSink.{DigestSink}
use Rattle.ringcheck.proofs.certificates.load_digest.Goals as goal

pub returns-clause-digest : goal.returns-clause-digest
returns-clause-digest g c =
    let (bytes, held, short, taken) = c.in_ok-load_into.ensures.gives in
    let start : DigestSink = record { hasher = c.of.result } in
    (bytes, held, ap (λ (digests : List (List ℕ)). get_or digests 0 []) (c.put.ensures bytes (taken start [] (hashes_none c.of.result) _ [] c.of.ensures)))
