use Rattle.gerber_text.proofs.Common.{[], ◌∷◌, ◌++◌, refl, item_entries}
use Rattle.gerber_text.proofs.LatestLemmas.{latest_on}
use Rattle.gerber_text.proofs.reader.add_command.Goals as goal

pub returns-clause-latest : goal.returns-clause-latest
returns-clause-latest c before held =
    let added = item_entries c.args.place c.args.byte (c.args.what ∷ []) in
    latest_on before (before ++ added) added c.args.what c.args.latest _ refl refl held c.latest_after-latest.ensures
