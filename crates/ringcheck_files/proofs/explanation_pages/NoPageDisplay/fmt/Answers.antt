use Rattle.ringcheck_files.proofs.Common.{◌++◌, ap}
use Rattle.std.proofs.Common.{codes}
use Rattle.std.proofs.Output.{has_written_of_eq}
use Rattle.ringcheck_files.specs.Sentences.{guess}
use Rattle.ringcheck_files.proofs.explanation_pages.NoPageDisplay.fmt.Goals as goal

pub returns-in-Some-clause-writes : goal.returns-in-Some-clause-writes
returns-in-Some-clause-writes g c =
    λ plain ok. has_written_of_eq _ _ _ _ _ (ap (λ near. codes "no page for " ++ (c.args.self.now.0.now ++ guess near)) c.in-Some.ensures) (c.write.ensures.writes plain ok)

pub returns-in-None-clause-writes : goal.returns-in-None-clause-writes
returns-in-None-clause-writes g c =
    λ plain ok. has_written_of_eq _ _ _ _ _ (ap (λ near. codes "no page for " ++ (c.args.self.now.0.now ++ guess near)) c.in-None.ensures) (c.write-in-None.ensures.writes plain ok)
