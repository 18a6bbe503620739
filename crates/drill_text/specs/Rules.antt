-- The rules of a legal drill file (docs/FORMATS.md, Rules of a drill file).
use Rattle.std.specs.Prelude.{ℕ, ℤ, pos, Bool, true, false, not, ◌==◌, ◌&&◌, ◌||◌, nat_le, int_le, List, [], ◌∷◌, length, Option, None, Some, is_none, is_some, Result, Err, if◌then◌else◌}
use Rattle.std.specs.Option.{option_map_or}
use Rattle.std.specs.List.{find}
use Rattle.std.specs.Ordering.{int_eq}
use Rattle.grid_units.specs.declared.fault.Reason.{Reason}
use Rattle.grid_units.specs.declared.fault.Reason.TheVariants as reason
use Rattle.grid_units.specs.Numbers.{is_too_far, within_limit}
use Rattle.grid_units.specs.declared.lengths.Unit.{Unit as Units}
use Rattle.grid_units.specs.declared.lengths.Unit.TheVariants as unit
use Rattle.grid_units.specs.declared.zero_filling.Zeros.{Zeros}
use Rattle.grid_units.specs.declared.zero_filling.Zeros.TheVariants as zeros
use Rattle.grid_units.specs.declared.profile.Profile.{Profile}
use Rattle.grid_units.specs.declared.profile.Profile.TheVariants.{Strict, Wide}
use Rattle.drill_lines.specs.declared.command.DrillCommand.{DrillCommand}
use Rattle.drill_lines.specs.declared.command.DrillCommand.TheVariants as command
use Rattle.drill_lines.specs.Formats.{Digits}
use Rattle.drill_text.specs.Lookback.{StateView, state_after, unit_set, zeros_set, format_set}
use Rattle.drill_text.specs.Holes.{DrillPath, coordinate_in, path_at, holes_of}

-- ---- one rule at a time

-- the two units are equal
abbrev pub same_unit : Units → Units → Bool
same_unit unit.Inch unit.Inch = true
same_unit unit.Millimetre unit.Millimetre = true
same_unit _ _ = false

-- the two settings of zeros are equal
abbrev pub same_zeros : Zeros → Zeros → Bool
same_zeros zeros.Leading zeros.Leading = true
same_zeros zeros.Trailing zeros.Trailing = true
same_zeros zeros.Full zeros.Full = true
same_zeros _ _ = false

-- the two formats have equal numbers of digits: 2:4 and 2:4
abbrev pub same_format : Digits → Digits → Bool
same_format a b = (a.whole == b.whole) && (a.decimals == b.decimals)

-- a value is given, one was given before, and they differ: `M72` after `METRIC`
abbrev pub differs : {A : Type 0} → (A → A → Bool) → Option A → Option A → Bool
differs same None before = false
differs same (Some a) None = false
differs same (Some a) (Some b) = not (same a b)

-- a format or zeros that differ from those given before: `METRIC,TZ` after `METRIC,LZ`. After the header nothing is given
abbrev pub conflicts_in_format : StateView → DrillCommand → Bool
conflicts_in_format s c = (differs same_format (format_set c) s.settings.format || differs same_zeros (zeros_set c) s.settings.zeros) && not s.header_ended

-- the header ends, and no unit was given
abbrev pub lacks_unit : StateView → DrillCommand → Bool
lacks_unit s command.HeaderEnd = is_none s.settings.unit
lacks_unit s _ = false

-- a tool is defined whose number was defined before, with whatever diameter
abbrev pub redefines_tool : StateView → DrillCommand → Bool
redefines_tool s (command.Tool number _) = is_some (s.diameter number)
redefines_tool s _ = false

-- a tool is defined whose number was defined before, with just this diameter
abbrev pub defines_alike : StateView → DrillCommand → Bool
defines_alike s (command.Tool number diameter) = option_map_or (λ earlier. int_eq earlier diameter) (s.diameter number) false
defines_alike s _ = false

-- a tool other than 0 is picked, and it is not defined
abbrev pub picks_unknown_tool : StateView → DrillCommand → Bool
picks_unknown_tool s (command.Pick number) = not (number == 0) && is_none (s.diameter number)
picks_unknown_tool s _ = false

-- a hit or a slot
abbrev pub drills : DrillCommand → Bool
drills (command.Hit _) = true
drills (command.Slot _ _) = true
drills _ = false

-- no tool was picked, or the last pick is 0
abbrev pub has_no_tool : StateView → Bool
has_no_tool s = option_map_or (λ number. number == 0) s.tool true

-- the diameter in pm of a picked tool, which is given this one; or NoTool, BadSize or TooFar, in this order
unfoldable pub width_with : Units → Option ℕ → Option ℤ → Result ℤ Reason
width_with unit tool diameter =
    if option_map_or (λ number. number == 0) tool true then Err reason.NoTool
    else if int_le (coordinate_in unit diameter) (pos 0) then Err reason.BadSize else within_limit (coordinate_in unit diameter)

-- a tool is defined with a diameter that is not above 0, as `T1C0.0`
abbrev pub has_bad_diameter : DrillCommand → Bool
has_bad_diameter (command.Tool _ diameter) = int_le diameter (pos 0)
has_bad_diameter _ = false

-- a hole is drilled with a diameter that is not above 0
abbrev pub has_bad_size : DrillPath → Bool
has_bad_size d = int_le d.diameter (pos 0)

-- a coordinate of what is drilled, or its diameter, is above 10 m in absolute value
abbrev pub reaches_too_far : DrillPath → Bool
reaches_too_far d = is_too_far d.from.x || (is_too_far d.from.y || (is_too_far d.to.x || (is_too_far d.to.y || is_too_far d.diameter)))

-- the greatest number of holes in a drill file (docs/FORMATS.md, Limits)
abbrev pub max_holes : ℕ
max_holes = 1048576

-- ---- the table

-- whether the rule of a reason applies to a command, by what stands before it, how many holes there are and what it drills
abbrev pub applies : StateView → ℕ → Option DrillPath → DrillCommand → Reason → Bool
applies s count drill_path c reason.NoUnit = lacks_unit s c
applies s count drill_path c reason.UnitConflict = differs same_unit (unit_set c) s.settings.unit
applies s count drill_path c reason.FormatConflict = conflicts_in_format s c
applies s count drill_path c reason.Redefined = redefines_tool s c
applies s count drill_path c reason.UnknownTool = picks_unknown_tool s c
applies s count drill_path c reason.NoTool = drills c && has_no_tool s
applies s count drill_path c reason.BadSize = has_bad_diameter c || option_map_or has_bad_size drill_path false
applies s count drill_path c reason.TooFar = option_map_or reaches_too_far drill_path false
applies s count drill_path c reason.TooManyHoles = drills c && nat_le max_holes count
applies s count drill_path c _ = false

-- the reasons of all rules, in rule order
abbrev pub rules : List Reason
rules = reason.NoUnit ∷ reason.UnitConflict ∷ reason.FormatConflict ∷ reason.Redefined ∷ reason.UnknownTool ∷ reason.NoTool ∷ reason.BadSize ∷ reason.TooFar ∷ reason.TooManyHoles ∷ []

-- the first rule that applies, in rule order
unfoldable pub first_broken : StateView → ℕ → Option DrillPath → DrillCommand → Option Reason
first_broken s count drill_path c = find (applies s count drill_path c) rules

-- the first rule that a command breaks after the commands before it
abbrev pub broken_rule : List DrillCommand → DrillCommand → Option Reason
broken_rule before c = first_broken (state_after before) (length (holes_of before)) (path_at before c) c

-- the same in a profile: in the wide one a tool may be defined again just as before
abbrev pub first_broken_in : Profile → StateView → ℕ → Option DrillPath → DrillCommand → Option Reason
first_broken_in Strict s count drill_path c = first_broken s count drill_path c
first_broken_in Wide s count drill_path c = if defines_alike s c then None else first_broken s count drill_path c

-- the first rule that a command breaks in a profile after the commands before it
abbrev pub broken_rule_in : Profile → List DrillCommand → DrillCommand → Option Reason
broken_rule_in profile before c = first_broken_in profile (state_after before) (length (holes_of before)) (path_at before c) c
