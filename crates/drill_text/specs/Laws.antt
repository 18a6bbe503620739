-- Laws of drill files: the holes that are listed of commands are just those that they drill, and texts that spell commands are those of the grammar.
use Rattle.std.specs.Prelude.{◌≡◌, ◌≤◌, ◌↔◌, ℕ, List, length, Option, None, Ok}
use Rattle.grid_units.specs.Holes.{GridHole}
use Rattle.drill_lines.specs.declared.command.CoordinateFormat.{CoordinateFormat}
use Rattle.drill_lines.specs.declared.command.DrillCommand.{DrillCommand}
use Rattle.drill_text.specs.Holes.{holes_of}
use Rattle.grid_units.specs.Limits.{text_limit}
use Rattle.grid_units.specs.Lists.{IsLegal}
use Rattle.grid_units.specs.declared.profile.Profile.{Profile}
use Rattle.grid_units.specs.declared.profile.Profile.TheVariants.{Strict, Wide}
use Rattle.drill_text.specs.Profiles.{ReadsBy, by_role}
use Rattle.drill_text.specs.Rules.{broken_rule_in}
use Rattle.drill_text.specs.Texts.{AreWithinLimit, SpellsText, IsDrillText}
use Rattle.drill_text.specs.Drilling.{AreHoles}
use Rattle.drill_text.specs.Grammar.{lines_of, IsText}

-- the commands of a drill text drill the holes that are listed of them
abbrev pub ListedHolesAreDrilled : Type 0
ListedHolesAreDrilled = (text : List ℕ) (commands : List DrillCommand) → IsDrillText text commands → AreHoles commands (holes_of commands)

-- holes that commands drill are the ones that are listed of them
abbrev pub DrilledHolesAreListed : Type 0
DrilledHolesAreListed = (commands : List DrillCommand) (holes : List GridHole) → AreHoles commands holes → holes ≡ holes_of commands

-- commands drill at most one list of holes
abbrev pub DrillsAtMostOneList : Type 0
DrillsAtMostOneList = (commands : List DrillCommand) (holes other : List GridHole) → AreHoles commands holes → AreHoles commands other → holes ≡ other

-- neither a text nor one of its lines is too long
abbrev pub IsWithinLimits : List ℕ → Type 0
IsWithinLimits text = (length text ≤ text_limit) × AreWithinLimit (lines_of text)

-- a text spells commands just where it is a text of them by the grammar of the strict profile, and not too long
abbrev pub SpelledIsWritten : Type 0
SpelledIsWritten = (text : List ℕ) (commands : List DrillCommand) → (SpellsText text commands) ↔ (IsWithinLimits text × IsText Strict None text commands)

-- by the grammar of a profile a text is one of at most one list of commands
abbrev pub IsTextOfAtMostOne : Type 0
IsTextOfAtMostOne = (profile : Profile) (format : Option CoordinateFormat) (t : List ℕ) (cs other : List DrillCommand) → IsText profile format t cs → IsText profile format t other → cs ≡ other

-- a text of legal commands, by the grammar of the wide profile, is read as these in it, if neither the text nor a line is too long
abbrev pub WrittenIsRead : Type 0
WrittenIsRead = (format : Option CoordinateFormat) (t : List ℕ) (cs : List DrillCommand) → IsWithinLimits t → IsText Wide format t cs → IsLegal (broken_rule_in Wide) cs → ReadsBy (by_role Wide format) t (Ok cs)

-- a text that is read as commands in the wide profile is a text of them by its grammar, they are legal, and neither the text nor a line is too long
abbrev pub ReadIsWritten : Type 0
ReadIsWritten = (format : Option CoordinateFormat) (t : List ℕ) (cs : List DrillCommand) → ReadsBy (by_role Wide format) t (Ok cs) → IsWithinLimits t × IsText Wide format t cs × IsLegal (broken_rule_in Wide) cs

-- the legal commands of a text of the wide profile drill the holes that are listed of them
abbrev pub WideHolesAreDrilled : Type 0
WideHolesAreDrilled = (format : Option CoordinateFormat) (t : List ℕ) (cs : List DrillCommand) → IsText Wide format t cs → IsLegal (broken_rule_in Wide) cs → AreHoles cs (holes_of cs)
