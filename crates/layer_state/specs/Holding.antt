-- What a scan over commands holds.
use Rattle.std.specs.Prelude.{◌≡◌, Bool, List, [], ◌∷◌, ◌++◌, length, None, Some, Result, Ok, Err, if◌then◌else◌}
use Rattle.grid_units.specs.Lists.{IsLegal}
use Rattle.pad_shapes.specs.declared.pad.Pad.{Pad}
use Rattle.gerber_commands.specs.declared.command.Command.{Command}
use Rattle.gerber_text.specs.Reading.{Entries}
use Rattle.layer_state.specs.declared.flash.Flash.{Flash}
use Rattle.grid_units.specs.declared.item_fail.ItemFail.{ItemFail}
use Rattle.grid_units.specs.declared.item_fail.ItemFail.TheVariants.{Memory, Refused}
use Rattle.layer_state.specs.declared.scan.Scan.{Scan}
use Rattle.layer_state.specs.declared.scan.Scanned.{Scanned}
use Rattle.layer_state.specs.Flashes.{flashes_of, other_count, pads_of}
use Rattle.layer_state.specs.FileFunction.{file_function_of}
use Rattle.layer_state.specs.KeptFlashes.{KeptParts, keeps_flashes, keeps_pads}
use Rattle.layer_state.specs.Inner.IsStateAfter.{IsStateAfter}
use Rattle.layer_state.specs.Rules.{broken_rule_in}
use Rattle.gerber_text.specs.Writing.{without_places}

-- the scan has met just these commands
pub record HasScanned (scan : Scan) (parts : KeptParts) (before : List Command) : Type 0 where
  pub is_state : IsStateAfter scan.state.state parts before
  pub named : scan.file_function ≡ file_function_of before

-- a region is open after the commands that a scan has met
abbrev pub is_scanning_region : Scan → Bool
is_scanning_region scan = scan.state.state.current.in_region

-- the flashes that a scan holds, without those that were taken from it
abbrev pub scanned_flashes : Scan → List Flash
scanned_flashes scan = scan.state.state.flashes.all.items

-- The command breaks no rule and was taken in, or this is the first rule that it breaks, or memory ran out.
abbrev pub IsScanResult : KeptParts → List Command → Command → Scan → Result (Unit {0}) ItemFail → Type 0
IsScanResult parts before c new (Ok _) = (broken_rule_in parts.profile before c ≡ None) × HasScanned new parts (before ++ c ∷ [])
IsScanResult parts before c new (Err (Refused reason)) = broken_rule_in parts.profile before c ≡ Some reason
IsScanResult parts before c new (Err Memory) = Unit {0}

-- the scan has met just these commands, and none of them breaks a rule
pub record HasScannedLegal (scan : Scan) (parts : KeptParts) (entries : Entries) : Type 0 where
  pub met : HasScanned scan parts (without_places entries)
  pub legal : IsLegal (broken_rule_in parts.profile) (without_places entries)

-- the pads that a scan holds, without those that were taken from it
abbrev pub scanned_pads : Scan → List Pad
scanned_pads scan = scan.state.state.flashes.pads.items

-- what is kept of the flashes of these commands, after those that were taken; how many are pads and how many are not; the file function
pub record IsScanned (parts : KeptParts) (commands : List Command) (scanned : Scanned) : Type 0 where
  pub flashes : parts.dropped ++ scanned.flashes.items ≡ (if keeps_flashes parts.keep then flashes_of commands else [])
  pub pads : parts.taken ++ scanned.pads.items ≡ (if keeps_pads parts.keep then pads_of (flashes_of commands) else [])
  pub pad_count : scanned.pad_count ≡ length (pads_of (flashes_of commands))
  pub other : scanned.other ≡ other_count (flashes_of commands)
  pub named : scanned.file_function ≡ file_function_of commands
