-- The first fault of a drill text, as a relation (docs/FORMATS.md, The first fault).
use Rattle.std.specs.Prelude.{◌≡◌, ◌⊎◌, ℕ, suc, ◌<◌, ◌≤◌, Bool, true, false, List, [], ◌∷◌, ◌++◌, length, take, Ok, Err, Some}
use Rattle.std.specs.List.{list_any}
use Rattle.grid_units.specs.declared.fault.Reason.{Reason}
use Rattle.grid_units.specs.declared.fault.Reason.TheVariants as reason
use Rattle.grid_units.specs.declared.fault.Reason.TheVariants.{TooLong, Truncated}
use Rattle.grid_units.specs.declared.fault.Fault.{Fault}
use Rattle.grid_units.specs.Results.{fault}
use Rattle.drill_lines.specs.declared.command.DrillCommand.{DrillCommand}
use Rattle.drill_lines.specs.Lines.{without_end_blanks}
use Rattle.drill_lines.specs.Meaning.{meaning}
use Rattle.drill_text.specs.Lines.{bytes_of, Splits}
use Rattle.drill_text.specs.Lookback.{settings_after}
use Rattle.drill_text.specs.Rules.{broken_rule}
use Rattle.drill_text.specs.Profiles.{is_finish, place_after}
use Rattle.drill_text.specs.Texts.{spelled_after, AreWithinLimit, IsDrillText}
use Rattle.grid_units.specs.Limits.{text_limit, line_limit}
use Rattle.grid_units.specs.Lists.{IsLegal}

-- Lines spell these commands, which are legal, and none of the lines is too long.
pub record SpellLegally (lines : List (List ℕ)) (commands : List DrillCommand) : Type 0 where
  pub short : AreWithinLimit lines
  pub spelling : spelled_after [] lines ≡ Ok commands
  pub legal : IsLegal broken_rule commands

-- a line after these commands is refused for this reason: it is too long, it spells nothing, or its command breaks this rule
abbrev pub IsRefused : List DrillCommand → List ℕ → Reason → Type 0
IsRefused before line why =
    ((line_limit < length line) × (why ≡ TooLong))
    ⊎ ((length line ≤ line_limit) × ((meaning (settings_after before) (without_end_blanks line) ≡ Err why)
    ⊎ ((c : DrillCommand) × (meaning (settings_after before) (without_end_blanks line) ≡ Ok (Some c)) × (broken_rule before c ≡ Some why))))

-- One of these lines has this fault: those before its place spell legal commands, and the one there, which begins at its byte, is refused for its reason.
pub record HasRefusedLine (lines : List (List ℕ)) (f : Fault) : Type 0 where
  pub before : List (List ℕ)
  pub line : List ℕ
  pub after : List (List ℕ)
  pub whole : lines ≡ before ++ line ∷ after
  pub commands : List DrillCommand
  pub spells : SpellLegally before commands
  pub refused : IsRefused commands line f.reason
  pub place : f.place ≡ suc (length before)
  pub byte : f.byte ≡ length (bytes_of before)

-- the fault of a text within the limit: that of one of its lines, the rest after the last LF among them; or Truncated after them
abbrev pub HasFaultWithin : List ℕ → List (List ℕ) → List ℕ → Fault → Type 0
HasFaultWithin text lines rest f =
    HasRefusedLine (lines ++ rest ∷ []) f
    ⊎ ((commands : List DrillCommand) × SpellLegally (lines ++ rest ∷ []) commands × (list_any is_finish commands ≡ false) × (f ≡ fault (place_after lines rest) (length text) Truncated))

-- the fault of a text above the limit, by the bytes within it: that of a line that has ended; or the line after these, or else the text, is too long
abbrev pub HasFaultBeyond : List (List ℕ) → List ℕ → Fault → Type 0
HasFaultBeyond lines rest f =
    HasRefusedLine lines f
    ⊎ ((commands : List DrillCommand) × SpellLegally lines commands
    × (((line_limit < length rest) × (f ≡ fault (suc (length lines)) (length (bytes_of lines)) TooLong))
    ⊎ ((length rest ≤ line_limit) × (f ≡ fault (suc (length lines)) text_limit TooLong))))

-- this is the first fault of a text, by its first 268,435,456 bytes
abbrev pub IsFirstFault : List ℕ → Fault → Type 0
IsFirstFault text f =
    (lines : List (List ℕ)) × (rest : List ℕ) × Splits (take text_limit text) lines rest
    × (((length text ≤ text_limit) × HasFaultWithin text lines rest f) ⊎ ((text_limit < length text) × HasFaultBeyond lines rest f))

-- a text is a drill text of some commands, or has a first fault
abbrev pub HasAnswer : List ℕ → Type 0
HasAnswer text = ((commands : List DrillCommand) × IsDrillText text commands) ⊎ ((f : Fault) × IsFirstFault text f)

-- the 21 reasons for which drill texts are refused
abbrev pub is_drill_reason : Reason → Bool
is_drill_reason reason.TooLong = true
is_drill_reason reason.AfterEnd = true
is_drill_reason reason.Truncated = true
is_drill_reason reason.OldFormat = true
is_drill_reason reason.Incremental = true
is_drill_reason reason.Routed = true
is_drill_reason reason.Repeat = true
is_drill_reason reason.BadLine = true
is_drill_reason reason.BadNumber = true
is_drill_reason reason.NoZeros = true
is_drill_reason reason.TooManyDigits = true
is_drill_reason reason.TooFine = true
is_drill_reason reason.TooFar = true
is_drill_reason reason.NoUnit = true
is_drill_reason reason.UnitConflict = true
is_drill_reason reason.FormatConflict = true
is_drill_reason reason.Redefined = true
is_drill_reason reason.UnknownTool = true
is_drill_reason reason.NoTool = true
is_drill_reason reason.BadSize = true
is_drill_reason reason.TooManyHoles = true
is_drill_reason _ = false
