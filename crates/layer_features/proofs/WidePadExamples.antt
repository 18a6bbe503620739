-- Pads of some commands in the wide profile.
use Rattle.layer_features.proofs.Common.{◌≡◌, inl, ◌+◌, ℕ, ℤ, pos, true, false, List, [], ◌∷◌, ◌++◌, None, Some, refl, sym, ap, arith, parse_decimal, within_limit, GridPoint, Millimetre, GridRounded, WidePad, Command, Format, inner_primitive, primitives_shape, AreWidePads, AreWidePadsOf, IsMacroShape}
use Rattle.std.proofs.Common.{neg_ℤ}
use Rattle.pad_shapes.specs.declared.pad.Pad.TheVariants as pads
use Rattle.pad_shapes.specs.declared.wide_pad.WidePad.TheVariants.{Plain, Rounded}
use Rattle.macro_shapes.proofs.OneAnswer.{answer_on}
use Rattle.macro_shapes.specs.Pieces.{IsMacro, MacroAnswer}
use Rattle.macro_shapes.specs.Signs.{sign_of}
use Rattle.macro_shapes.specs.Values.{IsValue, lookup, one_factor, one_term, operand, operand_value}
use Rattle.macro_shapes.specs.declared.fields.Fields.{Fields}
use Rattle.macro_shapes.specs.declared.piece.Code.TheVariants as code
use Rattle.gerber_commands.specs.declared.command.Action.TheVariants as action
use Rattle.gerber_commands.specs.declared.command.Command.TheVariants as command
use Rattle.gerber_commands.specs.declared.command.Standard.TheVariants as standard
use Rattle.gerber_commands.specs.declared.command.StepRepeat.{StepRepeat}
use Rattle.gerber_commands.specs.declared.command.Template.TheVariants as template
use Rattle.layer_state.specs.declared.aperture.Aperture.TheVariants as aperture

-- ---- commands

-- four whole digits and six decimals, which are steps of 1 nm in mm
abbrev pub nanometres : Format
nanometres = record { whole = 4; decimals = 6 }

-- `M`
abbrev name : List ℕ
name = 77 ∷ []

-- `1,1,1,1,2`: a disc of 1 mm round (1 mm, 2 mm); and `1,0,1,1,2`, the same with its exposure off
abbrev piece : ℕ → List ℕ
piece exposure = 49 ∷ 44 ∷ exposure ∷ 44 ∷ 49 ∷ 44 ∷ 49 ∷ 44 ∷ 50 ∷ []

-- `%MOMM*%`, `%FSLAX46Y46*%`, `%AMM*1,1,1,1,2*%`, `%ADD10M*%`
abbrev start : ℕ → List Command
start exposure = command.UnitIs Millimetre ∷ command.FormatIs nanometres ∷ command.Macro name (piece exposure ∷ []) ∷ command.Define 10 (template.Named name None) ∷ []

-- `%MOMM*%`, `%FSLAX46Y46*%`, `%ADD11C,0.5*%`, `D11*`
abbrev with_disc : List Command
with_disc =
    command.UnitIs Millimetre ∷ command.FormatIs nanometres ∷ command.Define 11 (template.Standard standard.Circle (pos 50000000 ∷ [])) ∷ command.Select 11 ∷ []

-- an operation at a point, in nm
abbrev pub flash : ℕ → ℕ → Command
flash x y = command.Operate action.Flash (Some (pos x)) (Some (pos y)) None None

abbrev move : ℕ → ℕ → Command
move x y = command.Operate action.Move (Some (pos x)) (Some (pos y)) None None

abbrev plot : ℕ → ℕ → Command
plot x y = command.Operate action.Plot (Some (pos x)) (Some (pos y)) None None

-- `G36*`, `X0Y0D02*`, `X1000000Y0D01*`, `X0Y1000000D01*`, `X0Y0D01*`, `G37*`: a triangle
abbrev triangle : List Command
triangle = command.RegionStart ∷ move 0 0 ∷ plot 1000000 0 ∷ plot 0 1000000 ∷ plot 0 0 ∷ command.RegionEnd ∷ []

-- `%SRX2Y1I5J0*%`: two copies, 5 mm apart
abbrev pub two : StepRepeat
two = record { columns = 2; rows = 1; step_x = pos 500000000; step_y = pos 0 }

-- ---- pads

-- a point, in pm
abbrev at : ℤ → ℤ → GridPoint
at x y = record { x = x; y = y }

-- the triangle, so far to the right
abbrev triangle_at : ℕ → WidePad
triangle_at x = Rounded (record { first = at (pos (x + 1000000000)) (pos 0); others = at (pos x) (pos 1000000000) ∷ at (pos x) (pos 0) ∷ []; radius = 0 })

-- a disc of 0.5 mm round (0, 0)
abbrev disc : WidePad
disc = Plain (pads.Disc (record { centre = at (pos 0) (pos 0); radius = 250000000 }))

-- a disc of 1 mm round a point
abbrev round : ℤ → ℤ → GridRounded
round x y = record { first = at x y; others = []; radius = 500000000 }

-- ---- a macro

zero_is : IsValue (lookup []) (48 ∷ []) (pos 0)
unfolding operand_value parse_decimal sign_of
zero_is = (omega arith, one_term 0 (48 ∷ []) (pos 0) (one_factor 0 (48 ∷ []) (pos 0) (operand 0 (48 ∷ []) (pos 0) refl refl)))

one_is : IsValue (lookup []) (49 ∷ []) (pos 100000000)
unfolding operand_value parse_decimal sign_of
one_is = (omega arith, one_term 0 (49 ∷ []) (pos 100000000) (one_factor 0 (49 ∷ []) (pos 100000000) (operand 0 (49 ∷ []) (pos 100000000) refl refl)))

two_is : IsValue (lookup []) (50 ∷ []) (pos 200000000)
unfolding operand_value parse_decimal sign_of
two_is = (omega arith, one_term 0 (50 ∷ []) (pos 200000000) (one_factor 0 (50 ∷ []) (pos 200000000) (operand 0 (50 ∷ []) (pos 200000000) refl refl)))

-- the fields of the piece
abbrev circle : ℤ → Fields
circle exposure = record { code = code.Circle; values = exposure ∷ pos 100000000 ∷ pos 100000000 ∷ pos 200000000 ∷ [] }

dark_macro : IsMacro (piece 49 ∷ []) None (circle (pos 100000000) ∷ [])
dark_macro = (
  [],
  refl,
  (
    circle (pos 100000000),
    [],
    record {
      code_text = 49 ∷ [];
      texts = (49 ∷ []) ∷ (49 ∷ []) ∷ (49 ∷ []) ∷ (50 ∷ []) ∷ [];
      parts = refl;
      judged = refl;
      valued = (one_is, (inl one_is, (one_is, (two_is, tt))));
    },
    refl,
    refl,
  ),
)

clear_macro : IsMacro (piece 48 ∷ []) None (circle (pos 0) ∷ [])
clear_macro = (
  [],
  refl,
  (
    circle (pos 0),
    [],
    record {
      code_text = 49 ∷ [];
      texts = (48 ∷ []) ∷ (49 ∷ []) ∷ (49 ∷ []) ∷ (50 ∷ []) ∷ [];
      parts = refl;
      judged = refl;
      valued = (zero_is, (inl one_is, (one_is, (two_is, tt))));
    },
    refl,
    refl,
  ),
)

-- the shape of a macro is that of the fields which it is known to have
shape_by_fields : (pieces : List (List ℕ)) (found : List Fields) → IsMacro pieces None found → IsMacroShape (Some Millimetre) (Some pieces) None (primitives_shape Millimetre (Some found))
shape_by_fields pieces found is = let answer : MacroAnswer pieces None = answer_on pieces None in (answer, ap (primitives_shape Millimetre) (sym ((answer.exact found).1 is)))

-- ---- examples

-- `%LMX*%`, `%LR90*%`, `D10*`, `X0Y0D03*`: the disc round (1 mm, 2 mm) is mirrored to (-1 mm, 2 mm), and then turned to (-2 mm, -1 mm)
abbrev turned : List Command
turned = start 49 ++ command.Mirror true false ∷ command.Turn (pos 9000000000) ∷ command.Select 10 ∷ flash 0 0 ∷ []

pub turned_macro : AreWidePads turned (Rounded (round (neg_ℤ (pos 2000000000)) (neg_ℤ (pos 1000000000))) ∷ [])
unfolding within_limit
turned_macro =
    let shape = shape_by_fields (piece 49 ∷ []) (circle (pos 100000000) ∷ []) dark_macro in
    let left : AreWidePadsOf (start 49 ++ command.Mirror true false ∷ command.Turn (pos 9000000000) ∷ command.Select 10 ∷ []) (flash 0 0) (Rounded (round (neg_ℤ (pos 2000000000)) (neg_ℤ (pos 1000000000))) ∷ []) =
    (Millimetre, nanometres, aperture.Macro, _, record { outside = refl; in_unit = refl; in_format = refl; selected = refl }, (10, refl, shape), refl) in
    ([], _, refl, refl, ([], _, refl, refl, ([], _, refl, refl, ([], _, refl, refl, ([], _, refl, refl, ([], _, refl, refl, ([], _, refl, refl, (_, [], refl, left, refl))))))))

-- `D10*`, `X0Y0D03*` of a macro whose exposure is off: it has no shape, and its flash is no pad
pub unexposed_macro : AreWidePads (start 48 ++ command.Select 10 ∷ flash 0 0 ∷ []) []
unfolding within_limit
unexposed_macro =
    let shape = shape_by_fields (piece 48 ∷ []) (circle (pos 0) ∷ []) clear_macro in
    let left : AreWidePadsOf (start 48 ++ command.Select 10 ∷ []) (flash 0 0) [] =
    (Millimetre, nanometres, aperture.Macro, _, record { outside = refl; in_unit = refl; in_format = refl; selected = refl }, (10, refl, shape), refl) in
    ([], _, refl, refl, ([], _, refl, refl, ([], _, refl, refl, ([], _, refl, refl, ([], _, refl, refl, ([], [], refl, left, refl))))))

-- `%ADD10M*%`, `D10*`, `X0Y0D03*` without a macro of this name: the aperture has no shape, and its flash is no pad
pub undefined_macro : AreWidePads (command.UnitIs Millimetre ∷ command.FormatIs nanometres ∷ command.Define 10 (template.Named name None) ∷ command.Select 10 ∷ flash 0 0 ∷ []) []
undefined_macro =
    let left : AreWidePadsOf (command.UnitIs Millimetre ∷ command.FormatIs nanometres ∷ command.Define 10 (template.Named name None) ∷ command.Select 10 ∷ []) (flash 0 0) [] =
    (Millimetre, nanometres, aperture.Macro, None, record { outside = refl; in_unit = refl; in_format = refl; selected = refl }, (10, refl, refl), refl) in
    ([], _, refl, refl, ([], _, refl, refl, ([], _, refl, refl, ([], _, refl, refl, ([], [], refl, left, refl)))))

-- `%ADD11R,2X1*%`, `D11*`, `%LR45*%`
abbrev turned_box : List Command
turned_box =
    command.UnitIs Millimetre ∷ command.FormatIs nanometres ∷ command.Define 11 (template.Standard standard.Rectangle (pos 200000000 ∷ pos 100000000 ∷ [])) ∷ command.Select 11 ∷ command.Turn (pos 4500000000) ∷ []

-- `X0Y0D03*` of a rectangle that is turned by 45 degrees: the disc inside of it
pub turned_rectangle : AreWidePads (turned_box ++ flash 0 0 ∷ []) (Rounded (round (pos 0) (pos 0)) ∷ [])
unfolding inner_primitive within_limit
turned_rectangle =
    let left : AreWidePadsOf turned_box (flash 0 0) (Rounded (round (pos 0) (pos 0)) ∷ []) =
    (Millimetre, nanometres, aperture.Rectangle (pos 200000000) (pos 100000000) false, Some (round (pos 0) (pos 0)), record { outside = refl; in_unit = refl; in_format = refl; selected = refl }, (11, refl, refl), refl) in
    ([], _, refl, refl, ([], _, refl, refl, ([], _, refl, refl, ([], _, refl, refl, ([], _, refl, refl, (_, [], refl, left, refl))))))

-- `D10*`, `%LPC*%`, `X0Y0D03*`: in clear polarity nothing is a pad
pub macro_in_clear : AreWidePads (start 49 ++ command.Select 10 ∷ command.Clear ∷ flash 0 0 ∷ []) []
macro_in_clear = refl

-- `X0Y0D03*`, `%LPC*%`, and then nothing: a flash has the polarity that stands before it
pub disc_before_clear : AreWidePads (with_disc ++ flash 0 0 ∷ command.Clear ∷ []) (disc ∷ [])
unfolding inner_primitive
disc_before_clear =
    let left : AreWidePadsOf with_disc (flash 0 0) (disc ∷ []) =
    (Millimetre, nanometres, aperture.Circle (pos 50000000) false, None, record { outside = refl; in_unit = refl; in_format = refl; selected = refl }, (11, refl, refl), refl) in
    ([], _, refl, refl, ([], _, refl, refl, ([], _, refl, refl, ([], _, refl, refl, (_, [], refl, left, ([], [], refl, refl, refl))))))

-- `X0Y0D03*`, `%LPC*%` and a region: it takes the flash away, and makes no pad itself
pub cleared_disc : AreWidePads (with_disc ++ flash 0 0 ∷ command.Clear ∷ triangle) []
cleared_disc = ([], [], refl, refl, refl)

-- a region: its contour, counterclockwise
pub contour : AreWidePads (command.UnitIs Millimetre ∷ command.FormatIs nanometres ∷ triangle) (triangle_at 0 ∷ [])
contour = ([], _, refl, refl, ([], _, refl, refl, ([], _, refl, refl, ([], _, refl, refl, ([], _, refl, refl, ([], _, refl, refl, ([], _, refl, refl, (_, [], refl, refl, refl))))))))

-- `%SRX2Y1I5J0*%` and a region: its contour at each copy, 5 mm apart
pub copied_contour : AreWidePads (command.UnitIs Millimetre ∷ command.FormatIs nanometres ∷ command.Repeat two ∷ triangle) (triangle_at 0 ∷ triangle_at 5000000000 ∷ [])
copied_contour =
    ([], _, refl, refl, ([], _, refl, refl, ([], _, refl, refl, ([], _, refl, refl, ([], _, refl, refl, ([], _, refl, refl, ([], _, refl, refl, ([], _, refl, refl, (_, [], refl, refl, refl)))))))))

-- a region before a unit has no points, and so no contour
pub contour_without_unit : AreWidePads (command.FormatIs nanometres ∷ triangle) []
contour_without_unit = ([], [], refl, refl, ([], [], refl, refl, ([], [], refl, refl, ([], [], refl, refl, ([], [], refl, refl, ([], [], refl, refl, ([], [], refl, refl, refl)))))))

no_unit : {A : Type 0} (unit : A) → None ≡ Some unit → ⊥
no_unit unit e = cc

-- `%ADD11C,0.5*%`, `D11*`, `X0Y0D03*` before a unit: such commands have no list of pads
pub no_pads_without_unit : (made : List WidePad)
    → AreWidePads (command.FormatIs nanometres ∷ command.Define 11 (template.Standard standard.Circle (pos 50000000 ∷ [])) ∷ command.Select 11 ∷ flash 0 0 ∷ []) made → ⊥
no_pads_without_unit made are = let flashed = are.4.4.4.3 in no_unit flashed.0 flashed.4.in_unit
