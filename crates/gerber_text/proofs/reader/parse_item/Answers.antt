use Rattle.gerber_text.proofs.Common.{Option, Ok, ◌++◌, sym, ap, ◌∙◌, append_assoc, Action, Entries, latest_action, item_entries, meaning_in}
use Rattle.gerber_text.proofs.Items.{spelled_ok}
use Rattle.gerber_text.proofs.reader.parse_item.Goals as goal

pub returns-in_ok-add-in-Ok-clause-spelled : goal.returns-in_ok-add-in-Ok-clause-spelled
returns-in_ok-add-in-Ok-clause-spelled c gone held =
    let a = c.args in
    let old = a.commands.now.items in
    let means = ap (λ (p : Option Action). meaning_in a.profile p a.item.now) (sym held) ∙ c.in-Ok.ensures in
    spelled_ok a.profile a.place a.byte a.item.now (gone ++ old) c.in-Ok.spelled c.requires.short means ∙ ap (λ (e : Entries). Ok e) (append_assoc gone old (item_entries a.place a.byte c.in-Ok.spelled) ∙ ap (λ (e : Entries). gone ++ e) (sym c.in_ok-add-in-Ok.ensures.added))

pub returns-in_ok-add-in-Ok-clause-latest : goal.returns-in_ok-add-in-Ok-clause-latest
returns-in_ok-add-in-Ok-clause-latest c gone held =
    let a = c.args in
    let old = a.commands.now.items in
    c.in_ok-add-in-Ok.ensures.latest (gone ++ old) held ∙ ap latest_action (append_assoc gone old (item_entries a.place a.byte c.in-Ok.spelled) ∙ ap (λ (e : Entries). gone ++ e) (sym c.in_ok-add-in-Ok.ensures.added))
