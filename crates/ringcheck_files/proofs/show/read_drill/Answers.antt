use Rattle.ringcheck_files.proofs.Common.{[], err_from_is_err_and, plain}
use Rattle.drill_text.specs.declared.kept.Keep.TheVariants as keep
use Rattle.ringcheck_files.proofs.Pieces.{drill_answered, drill_shown}
use Rattle.ringcheck_files.proofs.show.read_drill.Goals as goal

pub returns-in_err-feed : goal.returns-in_err-feed
returns-in_err-feed c =
    let p = err_from_is_err_and c.from_residual.result c.from_residual.ensures.1 in
    let profile = c.args.profile in
    rw (p.1, p.2) (drill_shown profile keep.Holes c.readings_in_profiles.ensures.stays c.args.bytes.now c.in_err-feed.field-0.0 (c.in_err-feed.ensures.err (plain profile) keep.Holes [] c.in_profile-reader.ensures))

pub returns : goal.returns
returns c =
    let profile = c.args.profile in
    let bytes = c.args.bytes.now in
    drill_answered profile keep.Holes bytes c.finish.result (c.finish.ensures.exact_by (plain profile) keep.Holes bytes (c.in_ok-feed.ensures.ok (plain profile) keep.Holes [] c.in_profile-reader.ensures))
