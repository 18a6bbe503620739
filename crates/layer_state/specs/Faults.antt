-- Commands with their places, and the fault of the first that breaks a rule.
use Rattle.std.specs.Prelude.{◌≡◌, ℕ, Option, Some, slice_get}
use Rattle.std.specs.Option.{option_map}
use Rattle.grid_units.specs.Lists.{violations}
use Rattle.grid_units.specs.Results.{fault}
use Rattle.grid_units.specs.declared.fault.Fault.{Fault}
use Rattle.grid_units.specs.declared.fault.Fail.{Fail}
use Rattle.grid_units.specs.declared.fault.Fail.TheVariants as fails
use Rattle.grid_units.specs.declared.profile.Profile.{Profile}
use Rattle.gerber_commands.specs.declared.command.Command.{Command}
use Rattle.gerber_text.specs.declared.placed.Placed.{Placed}
use Rattle.gerber_text.specs.Reading.{Entries}
use Rattle.grid_units.specs.declared.item_fail.ItemFail.{ItemFail}
use Rattle.grid_units.specs.declared.item_fail.ItemFail.TheVariants as stop
use Rattle.layer_state.specs.Rules.{broken_rule_in}
use Rattle.gerber_text.specs.Writing.{without_places}

-- the fault of a command that breaks a rule of the profile after those before it, at the place and the byte of its item
abbrev pub fault_of : Profile → Entries → Placed Command → Option Fault
fault_of profile before entry = option_map (fault entry.place entry.byte) (broken_rule_in profile (without_places before) entry.what)

-- this is the fault of the first command of the list that breaks a rule of the profile
abbrev pub IsFirstFault : Profile → Entries → Fault → Type 0
IsFirstFault profile entries f = (k : ℕ) × (slice_get (violations (fault_of profile) entries) 0 ≡ Some (k, f))

-- a stop of the judge as a failure: a broken rule gets the place and the byte of its item
abbrev pub fail_at : ℕ → ℕ → ItemFail → Fail
fail_at place byte stop.Memory = fails.Memory
fail_at place byte (stop.Refused reason) = fails.Refused (fault place byte reason)
