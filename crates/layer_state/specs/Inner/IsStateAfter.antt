-- How the fields of a judge stand for the commands that it has met.
use Rattle.std.specs.Prelude.{◌≡◌, ◌||◌, ℕ, Bool, true, Option, List, [], ◌∷◌, ◌++◌, Some, None, unwrap_or, Result, Ok, Err}
use Rattle.std.specs.Option.{option_or}
use Rattle.gerber_commands.specs.declared.command.Command.{Command}
use Rattle.layer_state.specs.declared.aperture.Aperture.{Aperture}
use Rattle.layer_state.specs.declared.current.Current.{Current}
use Rattle.layer_state.specs.declared.state.State.{State}
use Rattle.grid_units.specs.declared.item_fail.ItemFail.{ItemFail}
use Rattle.grid_units.specs.declared.profile.Profile.TheVariants.{Wide}
use Rattle.grid_units.specs.declared.item_fail.ItemFail.TheVariants.{Memory, Refused}
use Rattle.layer_state.specs.Lookback.{GraphicsState, current_of, state_after, unit_set, format_set, region_set, definition_set, defines_macro, template_set, template_numbered, aperture_selected, x_set, y_set, turn_set, scale_set, block_set}
use Rattle.layer_state.specs.Rules.{broken_rule_in}
use Rattle.layer_state.specs.Flashes.{flashes_of, added_flashes}
use Rattle.layer_state.specs.KeptFlashes.{KeptParts, KeepsFlashes, Adds, keeps_shapes}
use Rattle.layer_state.specs.Shapes.{defined_numbered, defined_set, macro_named, macro_set}
use Rattle.layer_state.specs.Tables.{aperture_at, defined_at, has_name, pieces_at, profile_of, template_at}

-- what the commands so far say last, with what they define
abbrev pub state_with : Current → (ℕ → Option Aperture) → (List ℕ → Bool) → GraphicsState
state_with now definition has_macro = record {
  unit = now.unit;
  format = now.format;
  in_region = now.in_region;
  definition = definition;
  has_macro = has_macro;
  selected = now.selected;
  x = now.x;
  y = now.y;
  turn = now.turn;
  scale = now.scale;
  block = now.block;
}

-- the fields of the judge as the state that the next command meets
abbrev pub state_of : State → GraphicsState
state_of state = state_with state.current (aperture_at state.apertures) (has_name state.macros)

-- the judge has met just these commands: its state and its flashes are theirs, and so is what is defined, where shapes are kept, and the templates, where
-- an aperture may be defined again
pub record IsStateAfter (state : State) (parts : KeptParts) (before : List Command) : Type 0 where
  pub state_after : state_of state ≡ state_after before
  pub profile : profile_of state.apertures ≡ parts.profile
  pub templates : parts.profile ≡ Wide → template_at state.apertures ≡ template_numbered before
  pub macros : keeps_shapes parts.keep ≡ true → pieces_at state.macros ≡ macro_named before
  pub apertures : keeps_shapes parts.keep ≡ true → defined_at state.apertures ≡ defined_numbered before
  pub flashes : KeepsFlashes state.flashes parts (flashes_of before)

-- what is said last after one more command
abbrev pub current_after : Command → Current → Current
current_after c now = record {
  unit = option_or (unit_set c) now.unit;
  format = option_or (format_set c) now.format;
  in_region = unwrap_or (region_set c) now.in_region;
  selected = option_or (aperture_selected c) now.selected;
  x = unwrap_or (x_set c) now.x;
  y = unwrap_or (y_set c) now.y;
  turn = unwrap_or (turn_set c) now.turn;
  scale = unwrap_or (scale_set c) now.scale;
  block = unwrap_or (block_set c) now.block;
}

-- the state after one more command
abbrev pub after : Command → GraphicsState → GraphicsState
after c s = state_with (current_after c (current_of s)) (λ number. option_or (definition_set number c) (s.definition number)) (λ name. defines_macro name c || s.has_macro name)

-- the new judge is the old one after one more command
pub record Applies (old : State) (c : Command) (new : State) : Type 0 where
  pub state_after : state_of new ≡ after c (state_of old)
  pub profile : profile_of new.apertures ≡ profile_of old.apertures
  pub templates : profile_of old.apertures ≡ Wide → template_at new.apertures ≡ (λ number. option_or (template_set number c) (template_at old.apertures number))
  pub macros : keeps_shapes old.flashes.keep ≡ true → pieces_at new.macros ≡ (λ name. option_or (macro_set name c) (pieces_at old.macros name))
  pub apertures : keeps_shapes old.flashes.keep ≡ true
      → defined_at new.apertures ≡ (λ n. option_or (defined_set old.current.unit (pieces_at old.macros) n c) (defined_at old.apertures n))
  pub flashes : Adds old.flashes (added_flashes (state_of old) c) new.flashes

-- `P` holds where the stop is a broken rule; nothing is said where memory ran out
abbrev pub IfRefused : Type 0 → ItemFail → Type 0
IfRefused P (Refused reason) = P
IfRefused P Memory = Unit {0}

-- The command breaks no rule and was taken in, or this is the first rule that it breaks, or memory ran out.
abbrev pub AppliesOrRefuses : KeptParts → List Command → Command → State → Result (Unit {0}) ItemFail → Type 0
AppliesOrRefuses parts before c new (Ok _) = (broken_rule_in parts.profile before c ≡ None) × IsStateAfter new parts (before ++ c ∷ [])
AppliesOrRefuses parts before c new (Err (Refused reason)) = broken_rule_in parts.profile before c ≡ Some reason
AppliesOrRefuses parts before c new (Err Memory) = Unit {0}
