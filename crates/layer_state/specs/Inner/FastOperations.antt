-- What holds for most operations.
use Rattle.std.specs.Prelude.{◌≡◌, ◌<◌, ◌+◌, ◌/◌, ◌^◌, ◌∷◌, [], ℕ, ℤ, pos, ◌*ℤ◌, Bool, true, false, ◌&&◌, nat_le, unsigned_abs, Option, None, is_none, unwrap_or}
use Rattle.std.specs.Option.{option_map_or}
use Rattle.std.specs.List.{find, list_any}
use Rattle.grid_units.specs.Points.{GridPoint}
use Rattle.grid_units.specs.Numbers.{unit_length}
use Rattle.grid_units.specs.declared.lengths.Unit.{Unit as Units}
use Rattle.grid_units.specs.declared.lengths.Unit.TheVariants.{Millimetre}
use Rattle.gerber_commands.specs.declared.command.StepRepeat.{StepRepeat}
use Rattle.gerber_commands.specs.declared.command.Command.{Command}
use Rattle.gerber_commands.specs.declared.command.Command.TheVariants as command
use Rattle.gerber_commands.specs.declared.command.Format.{Format}
use Rattle.layer_state.specs.declared.aperture.Aperture.{Aperture}
use Rattle.layer_state.specs.declared.aperture.Aperture.TheVariants as aperture
use Rattle.layer_state.specs.declared.cached_values.Lengths.{Lengths}
use Rattle.layer_state.specs.declared.cached_values.CachedValues.{CachedValues}
use Rattle.layer_state.specs.declared.flash.Flash.{Flash}
use Rattle.layer_state.specs.declared.flash.What.{What}
use Rattle.layer_state.specs.Lookback.{GraphicsState, current_aperture, current_of}
use Rattle.layer_state.specs.Flashes.{rules_out_pad, why_order, what_at, current_unit, added_flashes}
use Rattle.layer_state.specs.Inner.MovedPads.{origin}
use Rattle.layer_state.specs.Rules.{first_broken, is_far_side, max_flashes, sides}

-- unit and format are both named; `place` is the pm of one step of a coordinate, and a number up to `limit` is not longer than the format
pub record AreLengths (lengths : Lengths) (unit : Option Units) (format : Option Format) : Type 0 where
  pub unit_set : is_none unit ≡ false
  pub format_set : is_none format ≡ false
  pub place : lengths.place ≡ unit_length (unwrap_or unit Millimetre) / 10 ^ option_map_or (λ (f : Format). f.decimals) format 0
  pub short : lengths.limit < 10 ^ option_map_or (λ (f : Format). f.whole + f.decimals) format 0

-- a number that is named is at most `limit` in absolute value; so is one that is left out
abbrev pub is_within : ℕ → Option ℤ → Bool
is_within limit named = option_map_or (λ n. nat_le (unsigned_abs n) limit) named true

-- the point of two coordinates, `place` pm for each step
abbrev pub point_of : Lengths → ℤ → ℤ → GridPoint
point_of lengths x y = record { x = x *ℤ pos lengths.place; y = y *ℤ pos lengths.place }

-- a flash of this aperture is a pad with a size above 10 m
abbrev pub is_far_flash : Units → ℤ → ℤ → Aperture → Bool
is_far_flash unit scale turn shape = is_none (find (rules_out_pad shape scale turn) why_order) && list_any (is_far_side unit) (sides shape)

-- what a flash of the selected aperture leaves at the origin, where no block repeats it and it is no pad with a size above 10 m
pub record IsSingleFlash (w : What) (unit : Units) (selected : Option Aperture) (scale turn : ℤ) (block : StepRepeat) : Type 0 where
  pub some : is_none selected ≡ false
  pub columns : block.columns ≡ 1
  pub rows : block.rows ≡ 1
  pub near : is_far_flash unit scale turn (unwrap_or selected aperture.Polygon) ≡ false
  pub value : w ≡ what_at origin unit scale turn (unwrap_or selected aperture.Polygon)

-- what the fast path keeps is true of the state: the lengths where `ready`, and what a flash leaves where `single_copy`
abbrev pub AreCachedValues : CachedValues → GraphicsState → Type 0
AreCachedValues cached s =
    (cached.ready ≡ true → AreLengths cached.lengths s.unit s.format)
    × (cached.single_copy ≡ true → IsSingleFlash cached.what (current_unit (current_of s)) (current_aperture s) s.scale s.turn s.block)

-- a command that changes the unit, the format, an aperture, the selection, the turn, the scale or the block
abbrev pub changes_cached : Command → Bool
changes_cached (command.UnitIs unit) = true
changes_cached (command.FormatIs format) = true
changes_cached (command.Define number template) = true
changes_cached (command.Select number) = true
changes_cached (command.Turn turn) = true
changes_cached (command.Scale scale) = true
changes_cached (command.Repeat block) = true
changes_cached command.RepeatEnd = true
changes_cached _ = false

-- a command that breaks no rule and makes this one flash, on a layer with room for it
pub record IsFlashOf (again : Bool) (s : GraphicsState) (count : ℕ) (c : Command) (flash : Flash) : Type 0 where
  pub legal : first_broken again s count c ≡ None
  pub flashes : added_flashes s c ≡ flash ∷ []
  pub few : count < max_flashes
