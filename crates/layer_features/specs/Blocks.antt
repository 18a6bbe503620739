-- Step and repeat blocks (Gerber format, Step and repeat SR).
use Rattle.std.specs.Prelude.{ℕ, ◌*◌, Bool, nat_lt, List, is_some}
use Rattle.gerber_commands.specs.declared.command.StepRepeat.{StepRepeat}
use Rattle.gerber_commands.specs.declared.command.Command.{Command}
use Rattle.layer_state.specs.Lookback.{block_set}
use Rattle.std.specs.List.{after_last}

-- how many copies a block makes of each of its objects (Gerber format, Step and repeat SR)
abbrev pub copy_count : StepRepeat → ℕ
copy_count block = block.columns * block.rows

-- a block makes more than one copy of each of its objects
abbrev pub is_repeated : StepRepeat → Bool
is_repeated block = nat_lt 1 (copy_count block)

-- the commands of the block that is open, each with all commands before it: those after the last one that starts or ends a block
abbrev pub in_open_block : List (List Command × Command) → List (List Command × Command)
in_open_block positions = after_last (λ p. is_some (block_set p.1)) positions
