use Rattle.ringcheck.proofs.Common.{List, refl, IfOk-weaker, texts, Written, HasCause, HasRisen, Holds, SaysJob, IsOutlinedStatus, job_profile, job_style, word_bytes}
use Rattle.pad_shapes.specs.declared.drawn.Drawn.{Drawn}
use Rattle.ringcheck.specs.Inner.Outlines.{AfterNoOutline}
use Rattle.ringcheck.proofs.Outcomes.{no_outline, no_outline_cause, says_along, with_outline}
use Rattle.ringcheck.proofs.packages.run_outlined.Goals as goal

pub returns-in-Ok-clause-says : goal.returns-in-Ok-clause-says
returns-in-Ok-clause-says g c =
    let has = g.L.Loader.has c.args.loader.now in
    let later = g.L.Loader.has c.load_outline.new.loader in
    let before = texts g.W.Write.contents g.E.Write.contents c.args.to.now in
    let after = texts g.W.Write.contents g.E.Write.contents c.run_job.new.to in
    let name = c.args.name.now in
    let job = c.args.job.now in
    let file = word_bytes c.args.outline in
    let parts = c.in-Ok.outline.items in
    let Says = λ (parts : List Drawn). SaysJob job parts has name before after in
    IfOk-weaker c.run_job.result _ (IsOutlinedStatus has file Says before after)
    (λ s says. with_outline has file _ c.in-Ok.outline Says before after (rw c.in-Ok.is at c.in_ok-outline.ensures.loaded) s
    (says_along later has c.in_ok-outline.ensures.keeps (job_profile job) name (Holds job parts name before.0 after.0) (job_style job) before after s says))
    (rw c.as_slice.ensures.value at c.run_job.ensures.says)

pub returns-in-Err : goal.returns-in-Err
returns-in-Err g c =
    let has = g.L.Loader.has c.args.loader.now in
    let old = g.L.Loader.failed c.args.loader.now in
    let new = g.L.Loader.failed c.load_outline.new.loader in
    let before = texts g.W.Write.contents g.E.Write.contents c.args.to.now in
    let after : Written = (g.W.Write.contents c.print_no_outline.new.out, before.1) in
    let file = word_bytes c.args.outline in
    let Says = λ (parts : List Drawn). SaysJob c.args.job.now parts has c.args.name.now before after in
    let why = rw c.in-Err.is at c.in_ok-outline.ensures.loaded in
    let by = IfOk-weaker c.print_no_outline.result (AfterNoOutline c.in-Err.why before.0 after.0) in
    record {
      says = by (IsOutlinedStatus has file Says before after) (no_outline has file (HasRisen old new) c.in-Err.why Says before after why refl) c.print_no_outline.ensures;
      cause = by (HasCause old new) (no_outline_cause has file old new c.in-Err.why before.0 after.0 why) c.print_no_outline.ensures;
    }
