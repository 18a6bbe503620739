use Rattle.gerber_text.proofs.Common.{◌≤◌, ◌+◌, ℕ, List, length, Result, Ok, Err, sym, subst, arith, IfErr, take-length, text_limit, Fail, Progress, Entries, Advances, Refuses, RefusesText}
use Rattle.gerber_text.proofs.FinishLemmas.{refuses_within}
use Rattle.gerber_text.proofs.reader.Progress.take_part.Goals as goal

refused_within : (old : Progress) (left : Entries) (piece : List ℕ) (r : Result ℕ Fail) → old.offset + length piece ≤ text_limit → IfErr r (Refuses old left piece) → IfErr r (RefusesText old left piece)
refused_within old left piece (Ok n) le h = tt
refused_within old left piece (Err e) le h = refuses_within old left piece e le h

pub returns-then-piece-self-clause-err : goal.returns-then-piece-self-clause-err
returns-then-piece-self-clause-err c = refused_within c.args.self.now c.take_some.new.self.commands.items c.args.piece.now c.take_some.result (omega arith) c.take_some.ensures.err

pub returns-clause-ok : goal.returns-clause-ok
returns-clause-ok c = subst (Advances c.args.self.now c.take.new.self) (sym (take-length c.args.piece.now)) c.in_ok-take.ensures.ok
