-- Clear polarity: which positions of a list of commands still count when all of it is drawn (Gerber format, Load polarity LP;
-- docs/FORMATS.md, Clear polarity).
use Rattle.std.specs.Prelude.{Bool, true, false, ◌&&◌, ◌||◌, nat_lt, List, Option, None, Some, unwrap_or}
use Rattle.std.specs.List.{after_last, list_any}
use Rattle.grid_units.specs.Lists.{last_set, with_prefixes}
use Rattle.gerber_commands.specs.declared.command.Action.{Action}
use Rattle.gerber_commands.specs.declared.command.Action.TheVariants as action
use Rattle.gerber_commands.specs.declared.command.Command.{Command}
use Rattle.gerber_commands.specs.declared.command.Command.TheVariants as command
use Rattle.layer_state.specs.Lookback.{state_after}
use Rattle.layer_features.specs.AfterLast.{up_to_last}
use Rattle.layer_features.specs.Blocks.{copy_count, in_open_block}

-- polarity is clear from `%LPC*%` on, and dark again from `%LPD*%` on (Gerber format, Load polarity LP)
abbrev pub polarity_set : Command → Option Bool
polarity_set command.Clear = Some true
polarity_set command.Dark = Some false
polarity_set _ = None

-- polarity is clear after these commands; at the start it is dark (Gerber format, Load polarity LP)
abbrev pub is_clear_after : List Command → Bool
is_clear_after before = unwrap_or (last_set polarity_set before) false

-- a plot or a flash, and no move (Gerber format, Operations D01, D02, D03)
abbrev pub is_drawing : Action → Bool
is_drawing action.Move = false
is_drawing _ = true

-- a command draws
abbrev pub draws : Command → Bool
draws (command.Operate action x y i j) = is_drawing action
draws _ = false

-- something is drawn at this position in clear polarity, which takes away what stands before it (Gerber format, Load polarity LP)
abbrev pub is_clearing : List Command × Command → Bool
is_clearing p = draws p.1 && is_clear_after p.0

-- At this position all counts as taken away that was drawn up to it, or will be by another copy: it draws in clear polarity, or something of the block that is open did, and
-- the block makes several copies, of which the next one takes away what stands in this one (Gerber format, Step and repeat SR).
abbrev pub clears_all : List Command × Command → Bool
clears_all p = is_clearing p || (nat_lt 1 (copy_count (state_after p.0).block) && list_any is_clearing (in_open_block (with_prefixes p.0)))

-- The positions that count, each command with all commands before it: those after the last one at which all counts as taken away.
abbrev pub positions_after_clearing : List Command → List (List Command × Command)
positions_after_clearing commands = after_last clears_all (with_prefixes commands)

-- The positions that do not count: those up to the last one at which all counts as taken away.
abbrev pub positions_up_to_clearing : List Command → List (List Command × Command)
positions_up_to_clearing commands = up_to_last clears_all (with_prefixes commands)
