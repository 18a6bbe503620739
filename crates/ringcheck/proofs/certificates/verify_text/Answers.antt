use Rattle.ringcheck.proofs.Common.{IfOk-weaker, Some, Written, texts}
use Rattle.print_json.specs.ReadCertificates.{certified_view}
use Rattle.ringcheck.specs.CertificateStatus.{made_anew}
use Rattle.ringcheck.proofs.CertifiedFiles.{denied}
use Rattle.ringcheck.proofs.Folders.{certified_along}
use Rattle.ringcheck.proofs.certificates.verify_text.Goals as goal

pub returns-then-branch-clause-says : goal.returns-then-branch-clause-says
returns-then-branch-clause-says g c = λ names.
    let has = g.L.Loader.has c.args.loader.now in
    let before = texts g.W.Write.contents g.E.Write.contents c.args.to.now in
    let after : Written = (g.W.Write.contents c.deny.new.out, before.1) in
    let lines = rw c.if-branch.true at c.in_ok-print_differing.ensures.lines in
    IfOk-weaker c.deny.result _ _ (λ s says. denied has c.args.text.items before after _ (certified_view c.args.certified.now) names lines s says.0 says.1) c.deny.ensures

pub returns-clause-says : goal.returns-clause-says
returns-clause-says g c = λ names.
    let has = g.L.Loader.has c.args.loader.now in
    let later = g.L.Loader.has c.print_differing.new.loader in
    let before = texts g.W.Write.contents g.E.Write.contents c.args.to.now in
    let after = texts g.W.Write.contents g.E.Write.contents c.run_job.new.to in
    let rules = c.args.certified.now.rules in
    let differing = c.in_ok-print_differing.ensures in
    IfOk-weaker c.run_job.result _ _
    (λ s says. made_anew (certified_view c.args.certified.now) names (certified_along later has differing.keeps before after _ rules (Some c.args.text.items) s says))
    (rw (differing.lines.none c.if-branch.false, c.as_str.ensures.value) at c.run_job.ensures.says)
