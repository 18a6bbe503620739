-- Rows of the tables of words and of extended items (docs/FORMATS.md, How a row fits and is read).
use Rattle.std.specs.Prelude.{ℕ, Bool, ◌==◌, List, [], ◌∷◌, ◌++◌, drop, if◌then◌else◌, Option, None, Some, Result}
use Rattle.std.specs.List.{prefix_len, take_while}
use Rattle.grid_units.specs.declared.fault.Reason.{Reason}
use Rattle.grid_units.specs.declared.fault.Reason.TheVariants.{BadWord}
use Rattle.grid_units.specs.Rows.{RowOf, first_match_or}
use Rattle.gerber_commands.specs.declared.command.Command.{Command}
use Rattle.gerber_commands.specs.declared.command.Command.TheVariants.{Mode}
use Rattle.gerber_commands.specs.declared.command.Interpolation.{Interpolation}
use Rattle.gerber_commands.specs.declared.command.ItemParts.{ItemParts}
use Rattle.gerber_commands.specs.declared.command.ItemParts.TheVariants.{Few, Several}

-- what an item spells, or the reason for its refusal
abbrev pub Meaning : Type 0
Meaning = Result (List Command) Reason

-- a row of a table: what a text that fits it spells, and `None` for a text that does not fit
abbrev pub Row : Type 0
Row = RowOf (List Command)

-- what the first row that fits says; BadWord where none fits
abbrev pub first_match : List Row → Meaning
first_match rows = first_match_or BadWord rows

-- the run after this letter, if the letter stands, and the bytes after it: `X12Y3` gives `12` and `Y3` (docs/FORMATS.md, Runs)
abbrev pub field : (ℕ → Bool) → ℕ → List ℕ → Option (List ℕ) × List ℕ
field test letter [] = (None, [])
field test letter (b ∷ bs) = if b == letter then (Some (take_while test bs), drop (prefix_len test bs) bs) else (None, b ∷ bs)

-- the Mode of a word that names an interpolation, else nothing: `G01X5D01*` names Linear (Gerber format, Plot state G01, G02, G03)
abbrev pub modes_of : Option Interpolation → List Command
modes_of None = []
modes_of (Some mode) = Mode mode ∷ []

-- an optional command as a list of one or none
abbrev pub commands_of : Option Command → List Command
commands_of None = []
commands_of (Some command) = command ∷ []

-- what an item spells, by its parts: an interpolation comes before the other command
abbrev pub commands_in : ItemParts → List Command
commands_in (Few mode command) = modes_of mode ++ commands_of command
commands_in (Several commands) = commands.items
