-- Which holes of a drill file are plated, by its own words: a hole is what its tool is, and a tool is what the comments before its definition
-- say; and the rules that hold a file to these words (docs/FORMATS.md, Mixed drill files; Unplated drill files).
use Rattle.std.specs.Prelude.{◌≡◌, ℕ, Bool, true, false, ◌==◌, ◌&&◌, ◌||◌, not, List, [], ◌∷◌, Option, None, Some, is_some, unwrap_or, if◌then◌else◌}
use Rattle.std.specs.Option.{option_and_then, option_or}
use Rattle.std.specs.List.{filter, flat_map, list_any, AllZip}
use Rattle.grid_units.specs.Lists.{last_set, with_prefixes}
use Rattle.grid_units.specs.declared.fault.Reason.{Reason}
use Rattle.grid_units.specs.declared.fault.Reason.TheVariants.{NoPlating, PlatingConflict, Redefined}
use Rattle.grid_units.specs.declared.profile.Profile.{Profile}
use Rattle.drill_lines.specs.declared.command.DrillCommand.{DrillCommand}
use Rattle.drill_lines.specs.declared.command.DrillCommand.TheVariants as command
use Rattle.drill_lines.specs.declared.plating.Plating.{Plating}
use Rattle.drill_lines.specs.declared.plating.Plating.TheVariants as plating
use Rattle.drill_lines.specs.Plating.{said_plating, says_plated, says_unplated}
use Rattle.drill_text.specs.declared.platings.PlatingKind.{PlatingKind}
use Rattle.drill_text.specs.declared.platings.PlatingKind.TheVariants as kind
use Rattle.drill_text.specs.Lookback.{ends_header, tool_set}
use Rattle.drill_text.specs.Rules.{broken_rule_in, differs, drills}

-- ---- tools

-- what a command says of the tools that are defined after it: only comments say something, as `;TYPE=PLATED`
abbrev pub plating_set : DrillCommand → Option Plating
plating_set (command.Comment text) = said_plating text
plating_set _ = None

-- what the last comment that says something of it says; before the first of them nothing is said
abbrev pub said_after : List DrillCommand → Plating
said_after before = unwrap_or (last_set plating_set before) plating.Unsaid

-- the plating that a command gives this tool: what was said last, where it defines the tool
abbrev pub tool_made : ℕ → Plating → DrillCommand → Option Plating
tool_made number said (command.Tool other diameter) = if other == number then Some said else None
tool_made number said _ = None

-- what a tool is after these commands: what the comments before its definition say; None where it is not defined
abbrev pub plating_of_tool : List DrillCommand → ℕ → Option Plating
plating_of_tool before number = last_set (λ p. tool_made number (said_after p.0) p.1) (with_prefixes before)

-- ---- holes

-- what a hole that is drilled next is: what the tool picked last is, nothing without such a tool
abbrev pub plating_after : List DrillCommand → Plating
plating_after before = unwrap_or (option_and_then (plating_of_tool before) (last_set tool_set before)) plating.Unsaid

-- the holes are plated
abbrev pub is_plated : Plating → Bool
is_plated plating.Plated = true
is_plated _ = false

-- whether the hole that a command drills after these is plated, as a list of one or none
abbrev pub plated_at : List DrillCommand → DrillCommand → List Bool
plated_at before c = if drills c then is_plated (plating_after before) ∷ [] else []

-- of each hole of a list of commands, in order, whether it is plated
abbrev pub plated_of : List DrillCommand → List Bool
plated_of commands = flat_map (λ p. plated_at p.0 p.1) (with_prefixes commands)

-- A hole that is drilled after these commands is called plated, or unplated: the last comment that says what tools are before the
-- definition of its tool, as `T1C0.4`, says so. Its tool was picked last, as by `T1`. Nothing is ever assumed.
pub record IsCalled (before : List DrillCommand) (plated : Bool) : Type 0 where
  pub tool : ℕ
  pub tool_picked : last_set tool_set before ≡ Some tool
  pub called : plating_of_tool before tool ≡ Some (if plated then plating.Plated else plating.Unplated)

-- of each hole of a list of commands, in order, whether it is called plated or unplated
abbrev pub AreCalled : List DrillCommand → List Bool → Type 0
AreCalled commands plated = AllZip (λ p called. IsCalled p.0 called) (filter (λ p. drills p.1) (with_prefixes commands)) plated

-- ---- the rule of mixed files

-- the holes are neither plated nor unplated
abbrev pub is_unsaid : Plating → Bool
is_unsaid plating.Unsaid = true
is_unsaid _ = false

-- a hole is drilled that is neither plated nor unplated, or a comment says what tools are after the header has ended
abbrev pub lacks_plating : List DrillCommand → DrillCommand → Bool
lacks_plating before c = (drills c && is_unsaid (plating_after before)) || (is_some (plating_set c) && list_any ends_header before)

-- the same is said of two tools
abbrev pub same_plating : Plating → Plating → Bool
same_plating plating.Plated plating.Plated = true
same_plating plating.Unplated plating.Unplated = true
same_plating plating.Unsaid plating.Unsaid = true
same_plating _ _ = false

-- a tool is defined again, and what is said of it now is not what it was: `T1C0.4` after `TYPE=PLATED`, and again after `TYPE=NON_PLATED`
abbrev pub redefines_plating : Plating → (ℕ → Option Plating) → DrillCommand → Bool
redefines_plating said earlier (command.Tool number _) = differs same_plating (Some said) (earlier number)
redefines_plating said earlier _ = false

-- the rules that mixed files have beside the others; of these a command breaks at most one
abbrev pub plating_rule : List DrillCommand → DrillCommand → Option Reason
plating_rule before c =
    if redefines_plating (said_after before) (plating_of_tool before) c then Some Redefined else if lacks_plating before c then Some NoPlating else None

-- ---- the rule of unplated files

-- a comment says that holes are plated
abbrev pub calls_plated : DrillCommand → Bool
calls_plated (command.Comment text) = says_plated text
calls_plated _ = false

-- a comment says that holes are not plated
abbrev pub calls_unplated : DrillCommand → Bool
calls_unplated (command.Comment text) = says_unplated text
calls_unplated _ = false

-- a role `plated` is contradicted where it is said that holes are not plated and never that they are; a role `unplated` where it is said that they are
abbrev pub says_otherwise : Bool → Bool → Bool → Bool
says_otherwise plated says_plated says_unplated = if plated then says_unplated && not says_plated else says_plated

-- the comments contradict a role that calls the holes plated, or unplated (docs/FORMATS.md, Contradicted roles)
abbrev pub contradicts : Bool → List DrillCommand → Bool
contradicts plated commands = says_otherwise plated (list_any calls_plated commands) (list_any calls_unplated commands)

-- the rule that unplated files have beside the others, whatever stands before the command
abbrev pub contradiction_rule : List DrillCommand → DrillCommand → Option Reason
contradiction_rule before c = if calls_plated c then Some PlatingConflict else None

-- ---- the rules of each kind of file

-- the rule that files of a kind have beside the others; those whose role is believed have none
abbrev pub own_rule : PlatingKind → List DrillCommand → DrillCommand → Option Reason
own_rule kind.Stated before c = None
own_rule kind.Unplated before c = contradiction_rule before c
own_rule kind.Mixed before c = plating_rule before c

-- the first rule that a command breaks in a file of a kind after the commands before it: the own rule of the kind is the last
abbrev pub rule_in : Profile → PlatingKind → List DrillCommand → DrillCommand → Option Reason
rule_in profile kind.Stated = broken_rule_in profile
rule_in profile kind.Unplated = λ before c. option_or (broken_rule_in profile before c) (contradiction_rule before c)
rule_in profile kind.Mixed = λ before c. option_or (broken_rule_in profile before c) (plating_rule before c)
