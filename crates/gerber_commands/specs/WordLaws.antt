-- Laws: the rows of words answer just what the grammar of words says.
use Rattle.std.specs.Prelude.{◌≡◌, ℕ, List, Option, Ok}
use Rattle.gerber_commands.specs.declared.command.Action.{Action}
use Rattle.gerber_commands.specs.declared.command.Command.{Command}
use Rattle.gerber_commands.specs.Words.{word}
use Rattle.gerber_commands.specs.WordGrammar.{IsWord}

-- what a word is read as is written by that word
abbrev pub WordsAreWritten : Type 0
WordsAreWritten = (last : Option Action) (text : List ℕ) (commands : List Command) → word last text ≡ Ok commands → IsWord last text commands

-- a word that is written for commands is read as these
abbrev pub WrittenWordsAreRead : Type 0
WrittenWordsAreRead = (last : Option Action) (text : List ℕ) (commands : List Command) → IsWord last text commands → word last text ≡ Ok commands

-- a word is written for at most one list of commands
abbrev pub SpellingsAreUnique : Type 0
SpellingsAreUnique = (last : Option Action) (text : List ℕ) (commands others : List Command) → IsWord last text commands → IsWord last text others → commands ≡ others
