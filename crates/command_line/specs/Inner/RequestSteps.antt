-- Definitions for clauses of single steps, below those of the whole line (docs/FORMATS.md, The program).
use Rattle.std.specs.Prelude.{◌≡◌, ◌≢◌}
use Rattle.clap.specs.declared.error.kind.ErrorKind.{ErrorKind}
use Rattle.clap.specs.declared.error.kind.ErrorKind.TheVariants.{DisplayHelp, DisplayVersion}
use Rattle.command_line.specs.declared.Refusal.{Refusal}
use Rattle.command_line.specs.declared.Refusal.TheVariants.{Help, Version, Usage, Memory}

-- the refusal for a kind of error, running out of memory aside
abbrev pub IsRefusalFor : ErrorKind → Refusal → Type 0
IsRefusalFor kind (Help text) = kind ≡ DisplayHelp
IsRefusalFor kind Version = kind ≡ DisplayVersion
IsRefusalFor kind (Usage text) = (kind ≢ DisplayHelp) × (kind ≢ DisplayVersion)
IsRefusalFor kind Memory = Unit {0}
