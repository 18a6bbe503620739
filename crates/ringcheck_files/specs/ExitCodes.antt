-- The exit statuses.
use Rattle.std.specs.Prelude.{ℕ}
use Rattle.ringcheck_files.specs.declared.Status.{Status}
use Rattle.ringcheck_files.specs.declared.Status.TheVariants as status

-- the exit code of each status, from 0 to 4 (docs/FORMATS.md, The program)
abbrev pub code_of : Status → ℕ
code_of status.Pass = 0
code_of status.Findings = 1
code_of status.Refused = 2
code_of status.Usage = 3
code_of status.Device = 4
