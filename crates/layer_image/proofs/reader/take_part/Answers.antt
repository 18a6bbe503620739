-- The rule's fault comes before the fault of the item that these bytes end, and where there is none the commands are met and gone.
use Rattle.layer_image.proofs.Common.{◌++◌, subst, take, err_from_is_err_and, Entries, held_entries}
use Rattle.layer_image.proofs.Pieces.{part_shown, words_shown}
use Rattle.layer_image.proofs.reader.take_part.Goals as goal

pub returns-in_err-take_commands-clause-err : goal.returns-in_err-take_commands-clause-err
returns-in_err-take_commands-clause-err g c profile keep taken text h =
    let p = err_from_is_err_and c.from_residual.result c.from_residual.ensures.1 in
    rw (p.1, p.2) (part_shown profile text c.args.bytes.now c.feed_part-outcome.new.self h.gone c.commands.result.now c.feed_part-outcome.result c.in_err-take_commands.field-0.0 (c.feed_part-outcome.ensures.ok profile h.gone text h.words) (c.feed_part-outcome.ensures.err profile h.gone text h.words)
    (c.commands.ensures.shown profile h.gone) (c.commands.ensures.kept profile h.gone) (c.in_err-take_commands.ensures.refused profile keep taken h.gone h.met))

pub returns-in_err-len-clause-err : goal.returns-in_err-len-clause-err
returns-in_err-len-clause-err g c profile keep taken text h =
    let p = err_from_is_err_and c.from_residual-in_err-len.result c.from_residual-in_err-len.ensures.1 in
    let all = text ++ c.args.bytes.now in
    let e = c.in_err-len.field-0.0 in
    let failed = c.in_err-len.ensures.err profile h.gone text h.words in
    rw (p.1, p.2) (words_shown profile all c.feed_part-outcome.new.self h.gone c.commands.result.now e failed (c.commands.ensures.kept profile h.gone all e failed) (g.met.C.CommandSink.legal profile keep taken c.take_commands.new.self (h.gone ++ c.commands.result.now) (c.in_ok-take_commands.ensures.ok profile keep taken h.gone h.met)))

pub returns-clause-ok : goal.returns-clause-ok
returns-clause-ok g c profile keep taken text h = record {
  gone = h.gone ++ held_entries c.feed_part-outcome.new.self;
  words = c.clear_commands.ensures.gone profile h.gone (text ++ take c.in_ok-len.len c.args.bytes.now) (c.in_ok-len.ensures.ok profile h.gone text h.words);
  none = c.clear_commands.ensures.none;
  met = subst (λ (x : Entries). g.C.CommandSink.has_met profile keep taken c.take_commands.new.self (h.gone ++ x)) c.commands.ensures.held (c.in_ok-take_commands.ensures.ok profile keep taken h.gone h.met);
}
