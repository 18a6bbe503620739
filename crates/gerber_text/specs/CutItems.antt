-- Items as they are cut from a text, and what they spell (docs/FORMATS.md, Cutting; What an item spells).
use Rattle.std.specs.Prelude.{◌≡◌, ℕ, ◌≤◌, Bool, true, not, List, [], ◌∷◌, length, filter, Option, Ok, Contains}
use Rattle.std.specs.List.{list_all}
use Rattle.grid_units.specs.declared.profile.Profile.TheVariants.{Strict}
use Rattle.gerber_commands.specs.declared.command.Action.{Action}
use Rattle.gerber_commands.specs.declared.command.Command.{Command}
use Rattle.gerber_text.specs.Items.{is_line_break, IsItem}
use Rattle.gerber_text.specs.Meaning.{meaning_in}
use Rattle.grid_units.specs.Limits.{item_limit}

-- a byte that is kept where a text is cut: neither CR nor LF
abbrev pub is_not_break : ℕ → Bool
is_not_break b = not (is_line_break b)

-- a text without its line breaks: `M02*` of `M`, LF, `02*`
abbrev pub without_breaks : List ℕ → List ℕ
without_breaks text = filter is_not_break text

-- an item as it is cut from a text: without line breaks, and at most 1,048,576 bytes long
pub record IsCutItem (bytes : List ℕ) : Type 0 where
  pub one : IsItem bytes
  pub kept : list_all is_not_break bytes ≡ true
  pub short : length bytes ≤ item_limit

-- A text without its line breaks is an item within the limit, and spells just this command in the strict profile, whatever stands
-- before it.
pub record Spells (text : List ℕ) (command : Command) : Type 0 where
  pub one : IsItem (without_breaks text)
  pub short : length (without_breaks text) ≤ item_limit
  pub parses : (latest : Option Action) → meaning_in Strict latest (without_breaks text) ≡ Ok (command ∷ [])

-- some item of the strict profile spells this command, alone or with another one: `G01X5D01*` spells a Mode and an Operate
pub record IsSpelled (command : Command) : Type 0 where
  pub latest : Option Action
  pub item : List ℕ
  pub cut : IsCutItem item
  pub commands : List Command
  pub spells : meaning_in Strict latest item ≡ Ok commands
  pub among : Contains commands command
