-- What the grammar of texts and the reading of texts say of each other.
use Rattle.std.specs.Prelude.{◌≡◌, ℕ, List}
use Rattle.gerber_commands.specs.declared.command.Command.{Command}
use Rattle.grid_units.specs.declared.profile.Profile.{Profile}
use Rattle.gerber_text.specs.Reading.{Entries, SpellsTextIn}
use Rattle.gerber_text.specs.Writing.{without_places}
use Rattle.gerber_text.specs.Grammar.{IsTextIn}

-- a text that spells commands in a profile is written for them there
abbrev pub SpelledTextsAreWrittenIn : Type 0
SpelledTextsAreWrittenIn = (profile : Profile) (text : List ℕ) (entries : Entries) → SpellsTextIn profile text entries
    → IsTextIn profile text (without_places entries)

-- a text that is written for commands in a profile spells just these there, each at some place
abbrev pub WrittenTextsAreSpelledIn : Type 0
WrittenTextsAreSpelledIn = (profile : Profile) (text : List ℕ) (commands : List Command) → IsTextIn profile text commands
    → (entries : Entries) × (without_places entries ≡ commands) × SpellsTextIn profile text entries

-- in a profile a text is written for at most one list of commands
abbrev pub TextsSpellOneListIn : Type 0
TextsSpellOneListIn = (profile : Profile) (text : List ℕ) (a b : List Command) → IsTextIn profile text a → IsTextIn profile text b → a ≡ b
