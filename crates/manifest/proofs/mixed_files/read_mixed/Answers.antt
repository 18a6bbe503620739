use Rattle.std.proofs.lemmas.Result.{err_from_is_err_and}
use Rattle.manifest.proofs.Common.{[], Wide}
use Rattle.drill_text.specs.Profiles.{mixed_in}
use Rattle.drill_text.specs.declared.kept.Keep.TheVariants.{Holes}
use Rattle.manifest.proofs.MixedFileLemmas.{refused}
use Rattle.manifest.proofs.mixed_files.read_mixed.Goals as goal

pub returns-in_err-feed : goal.returns-in_err-feed
returns-in_err-feed c =
    let p = err_from_is_err_and c.from_residual.result c.from_residual.ensures.1 in
    rw (p.1, p.2) (refused c.args.text.now c.in_err-feed.field-0.0 (c.in_err-feed.ensures.err (mixed_in Wide) Holes [] c.of_kind-reader.ensures))

pub returns : goal.returns
returns c = c.finish.ensures.exact_by (mixed_in Wide) Holes c.args.text.now (c.in_ok-feed.ensures.ok (mixed_in Wide) Holes [] c.of_kind-reader.ensures)
