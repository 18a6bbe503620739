use Rattle.ringcheck.proofs.Common.{IfOk-weaker, inr, texts}
use Rattle.ringcheck.specs.CertificateStatus.{no_certificate}
use Rattle.ringcheck.proofs.Folders.{verified_along}
use Rattle.ringcheck.proofs.certificates.verify.Goals as goal

pub returns-in-Some-clause-says : goal.returns-in-Some-clause-says
returns-in-Some-clause-says g c =
    let has = g.L.Loader.has c.args.loader.now in
    let later = g.L.Loader.has c.load.new.self in
    let before = texts g.W.Write.contents g.E.Write.contents c.args.to.now in
    let after = texts g.W.Write.contents g.E.Write.contents c.verify_text.new.to in
    let given = c.in-Ok.text.items in
    let held = rw c.in-Ok.is at c.load.ensures.gives in
    IfOk-weaker c.verify_text.result _ _ (λ s says. inr (inr (given, held.0, verified_along later has (λ n b. (c.load.ensures.keeps n b).0) before after given s says))) (c.verify_text.ensures.says (rw (c.in-Some.is, c.as_slice.ensures.value) at c.in_ok-certified.ensures))

pub returns-in-None-clause-says : goal.returns-in-None-clause-says
returns-in-None-clause-says g c =
    let held = rw c.in-Ok.is at c.load.ensures.gives in
    IfOk-weaker c.deny-in-None.result _ _ (λ s says. inr (inr (c.in-Ok.text.items, held.0, no_certificate (rw (c.in-None.is, c.as_slice.ensures.value) at c.in_ok-certified.ensures) says))) c.deny-in-None.ensures
