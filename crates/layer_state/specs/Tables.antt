-- What the tables of apertures and of macros hold.
use Rattle.std.specs.Prelude.{ℕ, Bool, is_some, List, Option}
use Rattle.std.specs.Option.{option_and_then, option_map}
use Rattle.std.specs.Ordering.{nat_cmp}
use Rattle.std.specs.Cmp.Lexicographic.{slice_cmp}
use Rattle.std.specs.BTreeMap.{get, get_by}
use Rattle.grid_units.specs.declared.profile.Profile.{Profile}
use Rattle.gerber_commands.specs.declared.command.Command.{Command}
use Rattle.gerber_commands.specs.declared.command.Template.{Template}
use Rattle.layer_state.specs.Rules.{may_define_again}
use Rattle.layer_state.specs.declared.aperture.Aperture.{Aperture}
use Rattle.layer_state.specs.declared.tables.Apertures.{Apertures}
use Rattle.layer_state.specs.declared.tables.Defined.{Defined}
use Rattle.layer_state.specs.declared.tables.Macros.{Macros}

-- the aperture that a table has for a number, if any, with the shape that it keeps of it
abbrev pub defined_at : Apertures → ℕ → Option Defined
defined_at apertures number = get nat_cmp apertures.table number

-- the same without the shape
abbrev pub aperture_at : Apertures → ℕ → Option Aperture
aperture_at apertures number = option_map (λ (d : Defined). d.aperture) (defined_at apertures number)

-- the profile that decides whether an aperture may be defined again
abbrev pub profile_of : Apertures → Profile
profile_of apertures = apertures.profile

-- the template that a table keeps for a number, if any
abbrev pub template_at : Apertures → ℕ → Option Template
template_at apertures number = get nat_cmp apertures.templates number

-- a command may define an aperture again that the table has
abbrev pub is_allowed_again : Apertures → Command → Bool
is_allowed_again apertures c = may_define_again (profile_of apertures) (template_at apertures) c

-- what a table has for the name of a macro, if it is defined: its pieces, where they are kept
abbrev pub macro_at : Macros → List ℕ → Option (Option (List (List ℕ)))
macro_at macros name = get_by (λ key. slice_cmp nat_cmp name key.items) macros.table

-- a table has this name
abbrev pub has_name : Macros → List ℕ → Bool
has_name macros name = is_some (macro_at macros name)

-- the pieces that a table keeps for a name
abbrev pub pieces_at : Macros → List ℕ → Option (List (List ℕ))
pieces_at macros name = option_and_then (λ pieces. pieces) (macro_at macros name)
