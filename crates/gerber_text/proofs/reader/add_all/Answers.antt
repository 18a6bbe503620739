-- The last operation is one of the commands that are added, or that before them.
use Rattle.gerber_text.proofs.Common.{◌∙◌, sym, option_or, Command, Placed, action_of, item_entries, last_set-append, last_set}
use Rattle.gerber_text.proofs.reader.add_all.Goals as goal

pub returns-clause-latest : goal.returns-clause-latest
returns-clause-latest c before held =
    c.latest_after_all-latest.ensures ∙ (λ k. option_or (last_set (λ (e : Placed Command). action_of e.what) ((c.deref.ensures.value ∙ c.in_ok-placed.ensures) k)) (held k))
    ∙ sym (last_set-append (λ (e : Placed Command). action_of e.what) before (item_entries c.args.place c.args.byte c.args.all.items))
