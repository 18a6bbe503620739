use Rattle.std.proofs.Common.{replicate, ◌+◌, arith, ℕ}
use Rattle.std.proofs.lemmas.List.{length-replicate}
use Rattle.ringcheck_program.proofs.DiskLoader.load_into.Goals as goal

-- any bytes may be under a name, and so some that are too long
pub returns-in-Err-TooLong-clause-too_long : goal.returns-in-Err-TooLong-clause-too_long
returns-in-Err-TooLong-clause-too_long g c e =
    let size = length-replicate {A = ℕ} (c.args.limit + 1) 0 in (replicate (c.args.limit + 1) 0, tt, omega arith)
