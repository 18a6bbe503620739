use Rattle.gerber_text.proofs.Common.{err_from_is_err_and}
use Rattle.gerber_text.proofs.ShowsLemmas.{Advances-both, Refuses-first, Refuses-prefix}
use Rattle.gerber_text.proofs.reader.Progress.start_item.Goals as goal

pub returns-in_err-take_item-in-Some-clause-err : goal.returns-in_err-take_item-in-Some-clause-err
returns-in_err-take_item-in-Some-clause-err c =
    let p = err_from_is_err_and c.from_residual.result c.from_residual.ensures.1 in
    rw (p.1, p.2) (Refuses-prefix c.args.self.now c.take_item.new.self.commands.items c.args.bytes.now c.in-Some.len c.in_err-take_item-in-Some.field-0.0 c.in_err-take_item-in-Some.ensures.err)

pub returns-in_err-begin-in-None-clause-err : goal.returns-in_err-begin-in-None-clause-err
returns-in_err-begin-in-None-clause-err c =
    let p = err_from_is_err_and c.from_residual-in_err-begin-in-None.result c.from_residual-in_err-begin-in-None.ensures.1 in
    rw (p.1, p.2) (Refuses-first c.args.self.now c.begin.new.self.commands.items c.args.bytes.now c.in_err-begin-in-None.field-0.0 c.requires.some c.in_err-begin-in-None.ensures.err)

pub returns-in_ok-take_item-in-Some-clause-ok : goal.returns-in_ok-take_item-in-Some-clause-ok
returns-in_ok-take_item-in-Some-clause-ok c = Advances-both c.args.self.now c.take_item.new.self c.skip_breaks.new.self c.args.bytes.now c.in-Some.len c.skip_breaks.result c.in_ok-take_item-in-Some.ensures.ok c.skip_breaks.ensures.ok
