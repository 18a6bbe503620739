use Rattle.ringcheck_files.proofs.HandingOn.{appended}
use Rattle.ringcheck_files.proofs.loader.Loader.load.Goals as goal

pub returns-clause-gives : goal.returns-clause-gives
returns-clause-gives g c =
    let given = c.in_ok-load_into.ensures.gives in
    rw (appended c.new-bytes.result c.load_into.new.sink given.0 c.new-bytes.ensures.items given.3) (given.1, given.2)
