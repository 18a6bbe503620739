-- The grammar of words: the bytes that are written for a list of commands (docs/FORMATS.md, Words).
use Rattle.std.specs.Prelude.{◌≡◌, ◌≤◌, ◌⊎◌, ◌==◌, ℕ, ℤ, false, List, [], ◌∷◌, ◌++◌, Option, None, Some, is_some, Ok, IsTrue, codes}
use Rattle.std.specs.Option.{option_map}
use Rattle.std.specs.List.{Contains, list_any}
use Rattle.grid_units.specs.declared.lengths.Unit.TheVariants.{Inch, Millimetre}
use Rattle.gerber_commands.specs.declared.command.Command.{Command}
use Rattle.gerber_commands.specs.declared.command.Command.TheVariants.{Comment, Mode, Quadrant, RegionStart, RegionEnd, UnitIs, Select, Operate, Finish}
use Rattle.gerber_commands.specs.declared.command.Interpolation.TheVariants.{Linear, Clockwise, Counterclockwise}
use Rattle.gerber_commands.specs.declared.command.QuadrantMode.TheVariants.{Single, Multi}
use Rattle.gerber_commands.specs.declared.command.Action.{Action}
use Rattle.gerber_commands.specs.declared.command.Action.TheVariants.{Plot, Move, Flash}
use Rattle.gerber_commands.specs.Numbers.{int_of, nat_of}
use Rattle.gerber_commands.specs.Negative.{is_negative_comment}
use Rattle.grid_units.specs.Ascii as ascii

-- ---- fields

-- a letter and the bytes after it, or nothing where the field is left out: `X12` (Gerber format, Coordinate data)
abbrev pub field : List ℕ → Option (List ℕ) → List ℕ
field letter None = []
field letter (Some run) = letter ++ run

-- the integer that a field names, none where it is left out: -50 by `-0050` (Gerber format, Coordinate data)
abbrev pub NamesInt : Option (List ℕ) → Option ℤ → Type 0
NamesInt run named = option_map int_of run ≡ option_map Ok named

-- ---- words of one form

-- the words of one form, each with its commands: `G36` starts a region (Gerber format, G75 and G74; Region statement G36/G37; End-of-file M02; Deprecated G70 and G71; Deprecated G90)
abbrev pub fixed_words : List (List ℕ × List Command)
fixed_words =
    ([], []) ∷ (codes "G90", []) ∷ (codes "G74", Quadrant Single ∷ []) ∷ (codes "G75", Quadrant Multi ∷ [])
    ∷ (codes "G36", RegionStart ∷ []) ∷ (codes "G37", RegionEnd ∷ []) ∷ (codes "G70", UnitIs Inch ∷ []) ∷ (codes "G71", UnitIs Millimetre ∷ [])
    ∷ (codes "M02", Finish ∷ []) ∷ (codes "M2", Finish ∷ []) ∷ []

-- the words of a line, a clockwise and a counterclockwise arc, with two digits or one: `G01` (Gerber format, Plot state G01, G02, G03)
abbrev pub modes : List (List ℕ × List Command)
modes =
    (codes "G01", Mode Linear ∷ []) ∷ (codes "G1", Mode Linear ∷ []) ∷ (codes "G02", Mode Clockwise ∷ []) ∷ (codes "G2", Mode Clockwise ∷ [])
    ∷ (codes "G03", Mode Counterclockwise ∷ []) ∷ (codes "G3", Mode Counterclockwise ∷ []) ∷ []

-- ---- comments, and selections of an aperture

-- `G04` and a text without `%` that makes no image negative: `G04 top copper` (Gerber format, Comment G04)
abbrev pub IsComment : List ℕ → List Command → Type 0
IsComment word commands = (text : List ℕ) × (word ≡ codes "G04" ++ text) × (commands ≡ Comment text ∷ []) × (is_negative_comment text ≡ false) × (list_any (λ b. b == ascii.percent) text ≡ false)

-- `D` or `G54D`, and the number of an aperture, from 10 on: `D10` (Gerber format, Set current aperture Dnn; Deprecated G54)
abbrev pub IsSelection : List ℕ → List Command → Type 0
IsSelection word commands = (digits : List ℕ) × (n : ℕ) × ((word ≡ codes "D" ++ digits) ⊎ (word ≡ codes "G54D" ++ digits)) × (nat_of digits ≡ Ok n) × (10 ≤ n) × (commands ≡ Select n ∷ [])

-- ---- operations

-- the D code of an operation: `D01` plots, `D02` moves, `D03` flashes (Gerber format, Operations D01, D02, D03)
abbrev pub code : Action → ℕ
code Plot = 1
code Move = 2
code Flash = 3

-- an operation: an interpolation or none, then one field or more, in this order: `G01X10Y20D01` (Gerber format, Operations D01, D02, D03; Coordinate data)
pub record IsOperation (last : Option Action) (word : List ℕ) (commands : List Command) : Type 0 where
  pub mode : List ℕ × List Command
  pub x : Option (List ℕ)
  pub y : Option (List ℕ)
  pub i : Option (List ℕ)
  pub j : Option (List ℕ)
  pub d : Option (List ℕ)
  pub what : Action
  pub at : Option ℤ × Option ℤ
  pub offset : Option ℤ × Option ℤ
  pub mode_is : Contains (([], []) ∷ modes) mode
  pub written : word ≡ mode.0 ++ field (codes "X") x ++ field (codes "Y") y ++ field (codes "I") i ++ field (codes "J") j ++ field (codes "D") d
  pub some : IsTrue (list_any is_some (x ∷ y ∷ i ∷ j ∷ d ∷ []))
  pub names : NamesInt x at.0 × NamesInt y at.1 × NamesInt i offset.0 × NamesInt j offset.1
  -- by its D code; without one it is the last operation again, as by `X5` (Gerber format, Coordinate data without operation code)
  pub does : (option_map nat_of d ≡ Some (Ok (code what))) ⊎ ((d ≡ None) × (last ≡ Some what))
  -- only a plot has offsets, as `I5J5D01`
  pub plots : (what ≡ Plot) ⊎ ((i ≡ None) × (j ≡ None))
  pub is : commands ≡ mode.1 ++ Operate what at.0 at.1 offset.0 offset.1 ∷ []

-- ---- words

-- a word without its `*` is written for these commands, where coordinates alone repeat this last operation, or none: `X5` only where they repeat one
abbrev pub IsWord : Option Action → List ℕ → List Command → Type 0
IsWord last word commands =
    Contains fixed_words (word, commands) ⊎ (Contains modes (word, commands) ⊎ (IsComment word commands ⊎ (IsSelection word commands ⊎ IsOperation last word commands)))
