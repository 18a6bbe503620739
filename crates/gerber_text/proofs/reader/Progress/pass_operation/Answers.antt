use Rattle.gerber_text.proofs.Common.{◌+◌, ◌++◌, subst, operation_commands, Holds, item_entries}
use Rattle.gerber_text.proofs.ShowsLemmas.{two_takes}
use Rattle.gerber_text.proofs.reader.Progress.pass_operation.Goals as goal

pub returns-clause-some : goal.returns-clause-some
returns-clause-some c none_held profile gone text h =
    let self = c.args.self.now in
    let operation = c.in_ok-operation.operation in
    let more = gone ++ item_entries (self.items + 1) self.offset (operation_commands operation) in
    subst (Holds c.skip_breaks.new.self profile more) (two_takes text c.args.bytes.now operation.len c.skip_breaks.result) (c.skip_breaks.ensures.ok profile more _ (c.count_operation.ensures.ok none_held profile gone text h))
