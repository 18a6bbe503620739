-- What the rows of extended items and their grammar say of each other.
use Rattle.std.specs.Prelude.{◌≡◌, ℕ, List, Ok}
use Rattle.gerber_commands.specs.declared.command.Command.{Command}
use Rattle.gerber_commands.specs.Pieces.{piece}
use Rattle.gerber_commands.specs.PieceGrammar.{IsPiece}

-- what the rows answer is so written
abbrev pub AnswersAreWritten : Type 0
AnswersAreWritten = (text : List ℕ) (commands : List Command) → piece text ≡ Ok commands → IsPiece text commands

-- what is so written, the rows answer
abbrev pub WrittenIsAnswered : Type 0
WrittenIsAnswered = (text : List ℕ) (commands : List Command) → IsPiece text commands → piece text ≡ Ok commands

-- a piece spells at most one list of commands
abbrev pub PiecesSpellOneList : Type 0
PiecesSpellOneList = (text : List ℕ) (a b : List Command) → IsPiece text a → IsPiece text b → a ≡ b
