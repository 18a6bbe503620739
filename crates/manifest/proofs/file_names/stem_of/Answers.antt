use Rattle.manifest.proofs.NamesLemmas.{stem_is}
use Rattle.manifest.proofs.file_names.stem_of.Goals as goal
use Rattle.manifest.proofs.file_names.stem_of.Goals.{then-point, else-point}

pub returns : goal.returns
returns c =
    elim c.if-point.branch [
      | then-point w ↦ stem_is c.args.point c.if-point.ends c.saturating_sub.result c.args.words.now (rw w.if-point.true w.ends-is) c.saturating_sub.ensures
      | else-point w ↦ stem_is c.args.point c.if-point.ends c.saturating_sub.result c.args.words.now (rw w.if-point.false w.ends-is) c.saturating_sub.ensures
    ]
