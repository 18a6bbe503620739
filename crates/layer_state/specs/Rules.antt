-- The rules of a legal list. Each judges a command by the commands before it (docs/FORMATS.md, Rules of a layer).
use Rattle.std.specs.Prelude.{ℕ, nat_eq, ◌+◌, ◌%◌, ℤ, pos, Bool, true, false, not, ◌&&◌, ◌||◌, ◌==◌, nat_lt, int_lt, int_le, unsigned_abs, List, [], ◌∷◌, length, drop, Option, None, Some, is_some, is_none}
use Rattle.std.specs.Option.{option_map_or}
use Rattle.std.specs.List.{find, list_any}
use Rattle.std.specs.Ordering.{int_eq}
use Rattle.std.specs.Cmp.Lexicographic.{pointwise}
use Rattle.grid_units.specs.Points.{GridPoint}
use Rattle.grid_units.specs.Numbers.{picometres, is_too_far}
use Rattle.grid_units.specs.declared.fault.Reason.{Reason}
use Rattle.grid_units.specs.declared.fault.Reason.TheVariants as reason
use Rattle.grid_units.specs.declared.lengths.Unit.{Unit as Units}
use Rattle.grid_units.specs.declared.lengths.Unit.TheVariants.{Inch, Millimetre}
use Rattle.grid_units.specs.declared.profile.Profile.{Profile}
use Rattle.grid_units.specs.declared.profile.Profile.TheVariants.{Strict, Wide}
use Rattle.gerber_commands.specs.declared.command.Format.{Format}
use Rattle.gerber_commands.specs.declared.command.Action.{Action}
use Rattle.gerber_commands.specs.declared.command.Action.TheVariants as action
use Rattle.gerber_commands.specs.declared.command.Standard.{Standard}
use Rattle.gerber_commands.specs.declared.command.Standard.TheVariants as standard
use Rattle.gerber_commands.specs.declared.command.Template.{Template}
use Rattle.gerber_commands.specs.declared.command.Template.TheVariants as template
use Rattle.gerber_commands.specs.declared.command.Command.{Command}
use Rattle.gerber_commands.specs.declared.command.Command.TheVariants as command
use Rattle.layer_state.specs.declared.aperture.Aperture.{Aperture}
use Rattle.layer_state.specs.declared.aperture.Aperture.TheVariants as aperture
use Rattle.layer_state.specs.Lookback.{GraphicsState, state_after, current_aperture, current_of, size_at, template_numbered}
use Rattle.layer_state.specs.Numbers.{dec_length, is_long}
use Rattle.layer_state.specs.Flashes.{current_unit, current_decimals, copies_at, flashes_of, is_flash, rules_out_pad, why_order}

-- ---- what the rules judge by

-- what is allowed in a region: its contour, its end, and what has no effect on it (Gerber format, Region statement G36/G37)
abbrev pub is_allowed_in_region : Command → Bool
is_allowed_in_region (command.Comment text) = true
is_allowed_in_region (command.Mode mode) = true
is_allowed_in_region (command.Quadrant mode) = true
is_allowed_in_region command.RegionEnd = true
is_allowed_in_region (command.Operate action x y i j) = not (is_flash action)
is_allowed_in_region _ = false

-- `G37*`, the end of a region (Gerber format, Region statement G36/G37)
abbrev pub ends_region : Command → Bool
ends_region command.RegionEnd = true
ends_region _ = false

-- an operation, or the end of the text: both need a unit and a format before them
abbrev pub needs_unit_and_format : Command → Bool
needs_unit_and_format (command.Operate action x y i j) = true
needs_unit_and_format command.Finish = true
needs_unit_and_format _ = false

-- the units are equal
abbrev pub same_unit : Units → Units → Bool
same_unit Inch Inch = true
same_unit Millimetre Millimetre = true
same_unit _ _ = false

-- the formats are equal, in both numbers of digits
abbrev pub same_format : Format → Format → Bool
same_format f g = (f.whole == g.whole) && (f.decimals == g.decimals)

-- Another unit than the last one: `%MOIN*%` after `%MOMM*%`. The first command that differs from any earlier unit differs from
-- the last one, since all units before it are equal.
abbrev pub differs_in_unit : GraphicsState → Command → Bool
differs_in_unit s (command.UnitIs unit) = option_map_or (λ other. not (same_unit other unit)) s.unit false
differs_in_unit s _ = false

-- another format than the last one: `%FSLAX24Y24*%` after `%FSLAX46Y46*%`; comparing with the last one is enough, as it is for units
abbrev pub differs_in_format : GraphicsState → Command → Bool
differs_in_format s (command.FormatIs format) = option_map_or (λ other. not (same_format other format)) s.format false
differs_in_format s _ = false

-- an aperture's number, or a macro's name, that was defined before: `%ADD10C,0.5*%` a second time
abbrev pub redefines : GraphicsState → Command → Bool
redefines s (command.Define number template) = is_some (s.definition number)
redefines s (command.Macro name pieces) = s.has_macro name
redefines s _ = false

-- the standard apertures are equal: both `C`
abbrev pub same_standard : Standard → Standard → Bool
same_standard standard.Circle standard.Circle = true
same_standard standard.Rectangle standard.Rectangle = true
same_standard standard.Obround standard.Obround = true
same_standard standard.Polygon standard.Polygon = true
same_standard _ _ = false

-- the texts after the comma are equal, or neither macro has one
abbrev pub same_parameters : Option (List ℕ) → Option (List ℕ) → Bool
same_parameters None None = true
same_parameters (Some text) (Some other) = pointwise nat_eq text other
same_parameters _ _ = false

-- the templates are equal, however their sizes are written: `C,0.5` and `C,.50`. So are those of a macro with equal texts after the comma
abbrev pub same_template : Template → Template → Bool
same_template (template.Standard which sizes) (template.Standard other others) = same_standard which other && pointwise int_eq sizes others
same_template (template.Named name parameters) (template.Named other others) = pointwise nat_eq name other && same_parameters parameters others
same_template _ _ = false

-- an aperture is defined whose number has just this template: `%ADD10C,.50*%` after `%ADD10C,0.5*%`
abbrev pub defines_alike : (ℕ → Option Template) → Command → Bool
defines_alike templates (command.Define number template) = option_map_or (λ earlier. same_template earlier template) (templates number) false
defines_alike templates _ = false

-- the template is a macro that was not defined before (Gerber format, Aperture macro AM)
abbrev pub lacks_macro : GraphicsState → Template → Bool
lacks_macro s (template.Named name parameters) = not (s.has_macro name)
lacks_macro s (template.Standard which sizes) = false

-- a definition of an aperture by a macro that was not defined before: `%ADD10ROUND,1*%` without a macro `ROUND`
abbrev pub uses_unknown_macro : GraphicsState → Command → Bool
uses_unknown_macro s (command.Define number template) = lacks_macro s template
uses_unknown_macro s _ = false

-- a selection of an aperture that was not defined before: `D10*` without an `%ADD10..*%`
abbrev pub selects_unknown_aperture : GraphicsState → Command → Bool
selects_unknown_aperture s (command.Select number) = is_none (s.definition number)
selects_unknown_aperture s _ = false

-- a flash, or a draw outside a region (Gerber format, Operations D01, D02, D03)
abbrev pub needs_aperture : Action → Bool → Bool
needs_aperture action.Plot in_region = not in_region
needs_aperture action.Move in_region = false
needs_aperture action.Flash in_region = true

-- such an operation before any aperture was selected
abbrev pub lacks_aperture : GraphicsState → Command → Bool
lacks_aperture s (command.Operate action x y i j) = needs_aperture action s.in_region && is_none s.selected
lacks_aperture s _ = false

-- a size below 0
abbrev pub is_negative : ℤ → Bool
is_negative size = int_lt size (pos 0)

-- a size of 0 or below
abbrev pub is_not_positive : ℤ → Bool
is_not_positive size = int_le size (pos 0)

-- a whole number from 3 to 12, in units of 10^-8 (Gerber format, Polygon)
abbrev pub is_vertex_count : ℤ → Bool
is_vertex_count size = int_le (pos 300000000) size && (int_le size (pos 1200000000) && (unsigned_abs size % 100000000 == 0))

-- the size at a place is not above 0, or left out (Gerber format, Standard aperture templates)
abbrev pub lacks_size : List ℤ → ℕ → Bool
lacks_size sizes place = is_not_positive (size_at sizes place)

-- one of the sizes from a place on is below 0 (Gerber format, Standard aperture templates)
abbrev pub has_negative : List ℤ → ℕ → Bool
has_negative sizes place = list_any is_negative (drop place sizes)

-- a size of an aperture's template out of range, as in `R,0X1`; the sizes of its hole come last, and those of a macro are not judged
-- (Gerber format, Standard aperture templates)
abbrev pub has_bad_template : Template → Bool
has_bad_template (template.Standard standard.Circle sizes) = is_negative (size_at sizes 0) || has_negative sizes 1
has_bad_template (template.Standard standard.Rectangle sizes) = lacks_size sizes 0 || (lacks_size sizes 1 || has_negative sizes 2)
has_bad_template (template.Standard standard.Obround sizes) = lacks_size sizes 0 || (lacks_size sizes 1 || has_negative sizes 2)
has_bad_template (template.Standard standard.Polygon sizes) = lacks_size sizes 0 || (not (is_vertex_count (size_at sizes 1)) || has_negative sizes 3)
has_bad_template (template.Named name parameters) = false

-- a size or a scale out of range: `%ADD10R,0X1*%`, `%LS0*%`
abbrev pub sets_bad_size : Command → Bool
sets_bad_size (command.Define number template) = has_bad_template template
sets_bad_size (command.Scale scale) = is_not_positive scale
sets_bad_size _ = false

-- a count of columns or rows that is not 1 to 10,000
abbrev pub is_bad_count : ℕ → Bool
is_bad_count count = (count == 0) || nat_lt 10000 count

-- a count out of range, or a step below 0: `%SRX0Y1I0J0*%`, `%SRX2Y1I-1J0*%`
abbrev pub is_bad_repeat : Command → Bool
is_bad_repeat (command.Repeat block) = is_bad_count block.columns || (is_bad_count block.rows || (is_negative block.step_x || is_negative block.step_y))
is_bad_repeat _ = false

-- a coordinate that the operation has is longer than the format allows (Gerber format, Format specification FS)
abbrev pub is_long_coordinate : Format → Option ℤ → Bool
is_long_coordinate format named = option_map_or (is_long format) named false

-- X, Y, I or J of an operation has more digits than the format: `X1000000D02*` in a format of 2 whole and 4 decimals
abbrev pub has_too_many_digits : GraphicsState → Command → Bool
has_too_many_digits s (command.Operate action x y i j) =
    option_map_or (λ format. is_long_coordinate format x || (is_long_coordinate format y || (is_long_coordinate format i || is_long_coordinate format j))) s.format false
has_too_many_digits s _ = false

-- a coordinate that the operation has is above 10 m in absolute value
abbrev pub is_far_coordinate : GraphicsState → Option ℤ → Bool
is_far_coordinate s named = option_map_or (λ n. is_too_far (picometres (current_unit (current_of s)) (current_decimals (current_of s)) n)) named false

-- a point lies more than 10 m from zero along an axis
abbrev pub is_far_point : GridPoint → Bool
is_far_point point = is_too_far point.x || is_too_far point.y

-- the sizes of a disc (its diameter), a rectangle or an obround (Gerber format, Standard aperture templates)
abbrev pub sides : Aperture → List ℤ
sides (aperture.Circle diameter holed) = diameter ∷ []
sides (aperture.Rectangle width height holed) = width ∷ height ∷ []
sides (aperture.Obround width height holed) = width ∷ height ∷ []
sides aperture.Polygon = []
sides aperture.Macro = []

-- a size above 10 m
abbrev pub is_far_side : Units → ℤ → Bool
is_far_side unit side = is_too_far (dec_length unit side)

-- a flash of the aperture is a pad with a size above 10 m
abbrev pub is_far_pad : GraphicsState → Aperture → Bool
is_far_pad s shape = is_none (find (rules_out_pad shape s.scale s.turn) why_order) && list_any (is_far_side (current_unit (current_of s))) (sides shape)

-- a copy of the flash lies more than 10 m out, or the flash is a pad with a size above 10 m
abbrev pub flashes_too_far : GraphicsState → Option ℤ → Option ℤ → Bool
flashes_too_far s x y = list_any is_far_point (copies_at s x y) || option_map_or (is_far_pad s) (current_aperture s) false

-- an operation with X or Y above 10 m, or a flash whose copies or size go beyond that: `X10001000D02*` in mm with 3 decimals
abbrev pub reaches_too_far : GraphicsState → Command → Bool
reaches_too_far s (command.Operate action x y i j) = (is_far_coordinate s x || is_far_coordinate s y) || (is_flash action && flashes_too_far s x y)
reaches_too_far s _ = false

-- the most flashes of a layer, of every kind, copies counted
abbrev pub max_flashes : ℕ
max_flashes = 4194304

-- a flash whose copies, with the `count` flashes before it, make more than that
abbrev pub makes_too_many_flashes : GraphicsState → ℕ → Command → Bool
makes_too_many_flashes s count (command.Operate action x y i j) = is_flash action && nat_lt max_flashes (count + length (copies_at s x y))
makes_too_many_flashes s count _ = false

-- ---- the table

-- The table of the fifteen rules: whether a rule applies to a command, by the state that it meets and the `count` of flashes before it. What may be
-- defined `again` is not Redefined.
abbrev pub breaks_rule : Bool → GraphicsState → ℕ → Command → Reason → Bool
breaks_rule again s count c reason.InRegion = not (is_allowed_in_region c) && s.in_region
breaks_rule again s count c reason.NotInRegion = ends_region c && not s.in_region
breaks_rule again s count c reason.NoFormat = needs_unit_and_format c && is_none s.format
breaks_rule again s count c reason.NoUnit = needs_unit_and_format c && is_none s.unit
breaks_rule again s count c reason.UnitConflict = differs_in_unit s c
breaks_rule again s count c reason.FormatConflict = differs_in_format s c
breaks_rule again s count c reason.Redefined = redefines s c && not again
breaks_rule again s count c reason.UnknownMacro = uses_unknown_macro s c
breaks_rule again s count c reason.UnknownAperture = selects_unknown_aperture s c
breaks_rule again s count c reason.NoAperture = lacks_aperture s c
breaks_rule again s count c reason.BadSize = sets_bad_size c
breaks_rule again s count c reason.BadRepeat = is_bad_repeat c
breaks_rule again s count c reason.TooManyDigits = has_too_many_digits s c
breaks_rule again s count c reason.TooFar = reaches_too_far s c
breaks_rule again s count c reason.TooManyPads = makes_too_many_flashes s count c
breaks_rule again s count c _ = false

-- the rules after the first, InRegion
abbrev pub later_rules : List Reason
later_rules =
    reason.NotInRegion ∷ reason.NoFormat ∷ reason.NoUnit ∷ reason.UnitConflict ∷ reason.FormatConflict ∷ reason.Redefined
    ∷ reason.UnknownMacro ∷ reason.UnknownAperture ∷ reason.NoAperture ∷ reason.BadSize ∷ reason.BadRepeat ∷ reason.TooManyDigits
    ∷ reason.TooFar ∷ reason.TooManyPads ∷ []

-- all fifteen, in the order in which they are tried
abbrev pub all_rules : List Reason
all_rules = reason.InRegion ∷ later_rules

-- the first rule that a command breaks, by whether it may define again, the state that it meets and the count of flashes before it
unfoldable pub first_broken : Bool → GraphicsState → ℕ → Command → Option Reason
first_broken again s count c = find (breaks_rule again s count c) all_rules

-- in the wide profile an aperture may be defined again just as before, in the strict one never
abbrev pub may_define_again : Profile → (ℕ → Option Template) → Command → Bool
may_define_again Strict templates c = false
may_define_again Wide templates c = defines_alike templates c

-- the first rule that a command breaks in a profile after the commands before it
abbrev pub broken_rule_in : Profile → List Command → Command → Option Reason
broken_rule_in profile before c = first_broken (may_define_again profile (template_numbered before) c) (state_after before) (length (flashes_of before)) c
