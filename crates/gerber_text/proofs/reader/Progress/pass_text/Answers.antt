use Rattle.gerber_text.proofs.Common.{◌+◌, [], ◌∷◌, ◌++◌, take, drop, subst, arith, text_command, Holds, item_entries}
use Rattle.gerber_text.proofs.ShowsLemmas.{two_takes}
use Rattle.gerber_text.proofs.reader.Progress.pass_text.Goals as goal

pub count_text-requires-clause-some : goal.count_text-requires-clause-some
count_text-requires-clause-some c = omega (arith, c.in_ok-item.ensures.begins.item_long)

pub returns-clause-text : goal.returns-clause-text
returns-clause-text c = omega (arith, c.in_ok-item.ensures.begins.item_long, c.in_ok-item.ensures.within)

pub returns-clause-some : goal.returns-clause-some
returns-clause-some c none_held profile gone text h =
    let self = c.args.self.now in
    let bytes = c.args.bytes.now in
    let item = c.in_ok-item.item in
    let more = gone ++ item_entries (self.items + 1) self.offset (text_command item.kind (take item.text_len (drop 3 bytes)) ∷ []) in
    subst (Holds c.skip_breaks.new.self profile more) (two_takes text bytes item.len c.skip_breaks.result) (c.skip_breaks.ensures.ok profile more _ (c.count_text.ensures.ok none_held profile gone text h))
