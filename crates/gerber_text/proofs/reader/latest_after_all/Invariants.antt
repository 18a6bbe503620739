use Rattle.gerber_text.proofs.Common.{◌≡◌, take, option_or, action_of, last_set}
use Rattle.gerber_text.proofs.reader.latest_after_all.Given as goal

abbrev pub invariant-loop-entry : goal.invariant-loop-entry
invariant-loop-entry l = l.latest ≡ option_or (last_set (λ entry. action_of entry.what) (take l.entry-index l.entries)) l.fn.before
