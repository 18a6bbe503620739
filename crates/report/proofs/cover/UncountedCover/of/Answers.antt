use Rattle.report.proofs.UncountedLemmas.{marks}
use Rattle.report.proofs.cover.UncountedCover.of.Goals as goal

pub returns : goal.returns
returns c =
    let holes = c.args.holes.now in
    record {
      macros = marks c.args.uncounted.macros.now holes c.in_ok-bare_holes.field-0.items c.in_ok-bare_holes.ensures;
      contours = marks c.args.uncounted.contours.now holes c.in_ok-bare_holes-2.field-0.items c.in_ok-bare_holes-2.ensures;
    }
