-- Laws of further copper.
use Rattle.std.specs.Prelude.{◌≡◌, ◌↔◌, ℕ, true, false, List, ◌∷◌, ◌++◌, Some}
use Rattle.std.specs.List.{Contains, list_any}
use Rattle.grid_units.specs.Lists.{IsLegal, with_prefixes_from}
use Rattle.grid_units.specs.declared.profile.Profile.{Profile}
use Rattle.gerber_commands.specs.declared.command.Command.{Command}
use Rattle.grid_units.specs.Points.{GridPoint}
use Rattle.pad_shapes.specs.declared.wide_pad.WidePad.{WidePad}
use Rattle.pad_shapes.specs.Rounded.{GridRounded, IsInRounded, is_deep_left_of_all}
use Rattle.macro_shapes.specs.Primitives.{IsInPrimitive}
use Rattle.macro_shapes.specs.Shapes.{shape_of}
use Rattle.macro_shapes.specs.declared.primitive.Primitive.{Primitive}
use Rattle.layer_state.specs.declared.mirroring.Mirroring.{Mirroring}
use Rattle.layer_state.specs.Rules.{broken_rule_in}
use Rattle.layer_features.specs.declared.part.Part.{Part}
use Rattle.layer_features.specs.Clearing.{clears_all, positions_after_clearing}
use Rattle.layer_features.specs.Contours.{contour_of}
use Rattle.layer_features.specs.Features.{pads_of, wide_features_of}
use Rattle.layer_features.specs.WidePads.{AreWidePads}
use Rattle.pad_shapes.specs.Placed.{moved_point, shape_at}
use Rattle.layer_state.specs.Placing.{oriented_point, oriented_shape}

-- where a flash puts a point of its aperture: mirrored, turned and moved
abbrev pub flashed_point : Mirroring → ℕ → GridPoint → GridPoint → GridPoint
flashed_point m turns offset p = moved_point offset (oriented_point m turns p)

-- each point of the pad of a macro is where the flash puts a point of one of the macro's primitives, which are all dark
abbrev pub FlashedShapesAreInPrimitives : Type 0
FlashedShapesAreInPrimitives =
    (qs : List Primitive) (s t pad : GridRounded) → shape_of qs ≡ Some s → (m : Mirroring) (turns : ℕ) → oriented_shape m turns s ≡ Some t → (offset : GridPoint) → shape_at t offset ≡ Some pad
    → (p : GridPoint) → IsInRounded pad p → (q : Primitive) × (v : GridPoint) × Contains qs q × IsInPrimitive q v × (flashed_point m turns offset v ≡ p)

-- the points of the pad of a contour are those that lie to the right of none of its edges
abbrev pub ContoursAreInsideEdges : Type 0
ContoursAreInsideEdges =
    (parts : List Part) (contour pad : GridRounded) → contour_of parts ≡ Some contour → (offset : GridPoint) → shape_at contour offset ≡ Some pad
    → (p : GridPoint) → IsInRounded pad p ↔ (is_deep_left_of_all pad 0 p ≡ true)

-- a position counts just where all is taken away neither there nor later
abbrev pub UnclearedPositions : Type 0
UnclearedPositions = (before : List Command) (c : Command) (after : List Command)
    → Contains (positions_after_clearing (before ++ c ∷ after)) (before, c) ↔ (list_any clears_all (with_prefixes_from before (c ∷ after)) ≡ false)

-- the pads among the flashes and contours of a list that is legal in a profile are the pads that its commands make in the wide one
abbrev pub LegalWidePads : Type 0
LegalWidePads = (profile : Profile) (commands : List Command) → IsLegal (broken_rule_in profile) commands → AreWidePads commands (pads_of (wide_features_of commands))

-- commands make at most one list of pads in the wide profile
abbrev pub WidePadsAreUnique : Type 0
WidePadsAreUnique = (commands : List Command) (a b : List WidePad) → AreWidePads commands a → AreWidePads commands b → a ≡ b
