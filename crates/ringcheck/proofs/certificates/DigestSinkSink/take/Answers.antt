use Rattle.ringcheck.proofs.LoadSteps.{hashes_more}
use Rattle.ringcheck.proofs.certificates.DigestSinkSink.take.Goals as goal

pub returns : goal.returns
returns c = λ start text h. hashes_more start.hasher c.args.self.now.hasher c.take.new.self text c.args.piece.now h c.take.ensures
