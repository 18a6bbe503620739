use Rattle.gerber_text.proofs.Common.{rules, ◌≡◌, subst, Mode, ◌∷◌, [], ◌++◌, List, sym, ap, ◌∙◌, Command, item_entries, latest_action}
use Rattle.std.proofs.Common.{IfOk, append-nil}
use Rattle.gerber_text.proofs.reader.add.Goals as goal

pub returns-in-None-None-clause-latest : goal.returns-in-None-None-clause-latest
returns-in-None-None-clause-latest c before held =
    let none : c.args.spelled ≡ [] = search rules in
    held ∙ ap latest_action (sym (append-nil before) ∙ ap (λ (l : List Command). before ++ item_entries c.args.place c.args.byte l) (sym none))

pub returns-in-Some-None-clause-latest : goal.returns-in-Some-None-clause-latest
returns-in-Some-None-clause-latest c before held =
    let one : Mode c.in-Some-None.mode ∷ [] ≡ c.args.spelled = search rules in
    subst (λ (l : List Command). IfOk c.add_command.result (λ new. new ≡ latest_action (before ++ item_entries c.args.place c.args.byte l))) one (c.add_command.ensures.latest before held)
