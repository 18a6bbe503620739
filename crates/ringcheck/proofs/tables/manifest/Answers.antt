use Rattle.ringcheck.proofs.Common.{refl, sym, IfOk-weaker, texts}
use Rattle.ringcheck.proofs.RequestLemmas.{silent_status}
use Rattle.ringcheck.proofs.tables.manifest.Goals as goal

pub returns-in-Some-clause-says : goal.returns-in-Some-clause-says
returns-in-Some-clause-says g c =
    rw (sym c.profile_of.ensures, c.in-Some.is)
    (IfOk-weaker c.print_manifest.result _ _
    (λ s h. (h, silent_status (texts g.W.Write.contents g.E.Write.contents c.args.to.now) (g.W.Write.contents c.print_manifest.new.out, g.E.Write.contents c.args.to.now.err) s refl)) c.print_manifest.ensures.says)

pub returns-in-Some-clause-cause : goal.returns-in-Some-clause-cause
returns-in-Some-clause-cause g c = c.print_manifest.ensures.cause _ _
