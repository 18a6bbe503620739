-- One command more.
use Rattle.gerber_text.proofs.Common.{◌≡◌, ◌∙◌, ◌+◌, ◌++◌, [], ◌∷◌, ap, sym, arith, take, option_or, Command, Placed, Entries, action_of, last_set}
use Rattle.std.proofs.lemmas.List.{take_more}
use Rattle.grid_units.proofs.LookbackLemmas.{last_set-more, option_or_assoc}
use Rattle.gerber_text.proofs.reader.latest_after_all.Goals as goal

pub loop-entry-preserved : goal.loop-entry-preserved
loop-entry-preserved c =
    let entries = c.args.entries.now in
    let i = c.loop-entry.entry-index in
    let entry = c.entry-item.result in
    let next : take (i + 1) entries ≡ take i entries ++ entry ∷ [] = take_more entries i entry (omega arith) ∙ ap (λ (e : Placed Command). take i entries ++ e ∷ []) (sym c.entry-item.is) in
    c.latest_after-latest.ensures ∙ ap (option_or (action_of entry.what)) c.loop-entry.invariant
    ∙ sym (ap (λ (l : Entries). option_or (last_set (λ e. action_of e.what) l) c.args.before) next ∙ (ap (λ o. option_or o c.args.before) (last_set-more (λ (e : Placed Command). action_of e.what) (take i entries) entry) ∙ option_or_assoc (action_of entry.what) (last_set (λ e. action_of e.what) (take i entries)) c.args.before))
