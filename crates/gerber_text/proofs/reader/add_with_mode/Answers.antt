use Rattle.gerber_text.proofs.Common.{◌≡◌, [], ◌∷◌, ◌++◌, List, ap, option_or_none, Command, Mode, modes_of, action_of, item_entries}
use Rattle.gerber_text.proofs.LatestLemmas.{latest_on}
use Rattle.gerber_text.proofs.reader.add_with_mode.Goals as goal

pub returns-in_ok-add_mode_and_command-in-Some-clause-latest : goal.returns-in_ok-add_mode_and_command-in-Some-clause-latest
returns-in_ok-add_mode_and_command-in-Some-clause-latest c before held =
    let what = c.args.what in
    let two = Mode c.in-Some.mode ∷ what ∷ [] in
    let both : modes_of c.args.mode ++ what ∷ [] ≡ two = ap (λ m. modes_of m ++ what ∷ []) c.in-Some.is in
    let added = item_entries c.args.place c.args.byte (modes_of c.args.mode ++ what ∷ []) in
    latest_on before (before ++ added) (item_entries c.args.place c.args.byte two) what c.args.latest _ (ap (λ (l : List Command). before ++ item_entries c.args.place c.args.byte l) both) (option_or_none (action_of what)) held c.latest_after-latest.ensures
