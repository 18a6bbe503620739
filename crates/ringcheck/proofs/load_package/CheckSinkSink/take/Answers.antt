use Rattle.ringcheck.proofs.Common.{◌++◌, append_assoc, subst, HasOpenedCopper, CopperGoesOn, HashesOn}
use Rattle.ringcheck.proofs.LoadSteps.{hashes_more, on_ok}
use Rattle.ringcheck.specs.declared.load_package.CheckSink.{CheckSink}
use Rattle.ringcheck.proofs.load_package.CheckSinkSink.take.Goals as goal

pub returns : goal.returns
returns c = λ start text h.
    let piece = c.args.piece.now in
    let now : CheckSink = record { check = c.take_piece.new.self; file = c.take_piece.new.file; hasher = c.take.new.self } in
    on_ok c.take_piece.result (CopperGoesOn start now (text ++ piece) × HashesOn start.hasher now.hasher (text ++ piece)) (
      (λ first index layer said before opened.
          subst (HasOpenedCopper first now.check index layer said now.file) (append_assoc before text piece) (c.take_piece.ensures first index layer said (before ++ text) (h.0 first index layer said before opened))),
      hashes_more start.hasher c.args.self.now.hasher c.take.new.self text piece h.1 c.take.ensures,
    )
