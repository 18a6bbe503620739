use Rattle.ringcheck.proofs.Common.{refl, IfOk-weaker, texts}
use Rattle.ringcheck.proofs.RequestLemmas.{silent_status}
use Rattle.ringcheck.proofs.program.carry_out.Goals as goal

pub returns-in-Explain-clause-says : goal.returns-in-Explain-clause-says
returns-in-Explain-clause-says g c =
    rw c.in-Explain.is
    (IfOk-weaker c.explain.result _ _
    (λ s h. (h, silent_status (texts g.W.Write.contents g.E.Write.contents c.args.to.now) (g.W.Write.contents c.explain.new.out, g.E.Write.contents c.args.to.now.err) s refl)) c.explain.ensures.says)

pub returns-in-Explain-clause-cause : goal.returns-in-Explain-clause-cause
returns-in-Explain-clause-cause g c = c.explain.ensures.cause _ _
