use Rattle.ringcheck.proofs.Common.{◌++◌, append_assoc, subst, HasOpened, GoesOn, HashesOn}
use Rattle.ringcheck.proofs.LoadSteps.{hashes_more, on_ok}
use Rattle.ringcheck.proofs.load_package.FileSinkSink.take.Goals as goal

pub returns : goal.returns
returns c = λ start text h.
    let piece = c.args.piece.now in
    let now = c.take-2.new.self in
    on_ok c.take-2.result (GoesOn start.file now (text ++ piece) × HashesOn start.hasher c.take.new.self (text ++ piece)) (
      (λ reader index of said before opened.
          subst (HasOpened reader index of said now) (append_assoc before text piece) (c.take-2.ensures reader index of said (before ++ text) (h.0 reader index of said before opened))),
      hashes_more start.hasher c.args.self.now.hasher c.take.new.self text piece h.1 c.take.ensures,
    )
