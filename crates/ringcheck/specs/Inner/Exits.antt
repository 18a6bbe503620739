-- The status of a report by its flag.
use Rattle.std.specs.Prelude.{Bool, true, false}
use Rattle.ringcheck_files.specs.declared.Status.{Status}
use Rattle.ringcheck_files.specs.declared.Status.TheVariants as status

-- the status with which the program ends: with `--exit-zero` Pass in place of Findings
abbrev pub exit_of : Bool → Status → Status
exit_of false s = s
exit_of true status.Findings = status.Pass
exit_of true s = s
