-- The table of a layer's flashes and contours and that of a drill file's holes (docs/FORMATS.md, The tables).
use Rattle.std.specs.Prelude.{◌≡◌, ◌*◌, ◌++◌, ℕ, pos, List, [], ◌∷◌, codes, decimal, Result, Ok, Err}
use Rattle.std.specs.Option.{option_map_or}
use Rattle.grid_units.specs.Holes.{GridHole}
use Rattle.grid_units.specs.Points.{abs_diff}
use Rattle.grid_units.specs.Spellings.{millimetres}
use Rattle.grid_units.specs.declared.fault.Fault.{Fault}
use Rattle.grid_units.specs.declared.profile.Profile.{Profile}
use Rattle.grid_units.specs.declared.profile.Profile.TheVariants.{Strict, Wide}
use Rattle.pad_shapes.specs.Pads.{pad_height, pad_width}
use Rattle.pad_shapes.specs.Rounded.{rounded_bottom, rounded_left, rounded_right, rounded_top}
use Rattle.pad_shapes.specs.declared.pad.Pad.{Pad}
use Rattle.pad_shapes.specs.declared.pad.Pad.TheVariants as pads
use Rattle.pad_shapes.specs.declared.wide_pad.WidePad.{WidePad}
use Rattle.pad_shapes.specs.declared.wide_pad.WidePad.TheVariants.{Plain, Rounded}
use Rattle.drill_lines.specs.declared.command.DrillCommand.{DrillCommand}
use Rattle.drill_text.specs.Holes.{holes_of}
use Rattle.drill_text.specs.Profiles.{ReadsAsIn}
use Rattle.drill_text.specs.Texts.{ReadsAs}
use Rattle.pad_shapes.specs.declared.row.Why.{Why}
use Rattle.pad_shapes.specs.declared.row.Why.TheVariants as whys
use Rattle.gerber_text.specs.Writing.{without_places}
use Rattle.layer_image.specs.Layers.{LayerImage, ReadsLayerIn}
use Rattle.layer_features.specs.declared.feature.Feature.{Feature}
use Rattle.layer_features.specs.declared.feature.FeatureKind.{FeatureKind}
use Rattle.layer_features.specs.declared.feature.FeatureKind.TheVariants as kind
use Rattle.layer_features.specs.Features.{features_of, pad_in}
use Rattle.ringcheck_files.specs.Rows.{rows_from}

-- ---- a flash or a contour

-- the name of a pad's shape: `disc`, `rect` or `obround`
abbrev pub shape_word : Pad → List ℕ
shape_word (pads.Disc disc) = codes "disc"
shape_word (pads.Rect rect) = codes "rect"
shape_word (pads.Obround obround) = codes "obround"

-- why a flash is no pad: `macro`, `polygon`, `holed`, `scaled` or `turned`
abbrev pub reason_word : Why → List ℕ
reason_word whys.Macro = codes "macro"
reason_word whys.Polygon = codes "polygon"
reason_word whys.Holed = codes "holed"
reason_word whys.Scaled = codes "scaled"
reason_word whys.Turned = codes "turned"

-- the second field: the name of a flash's pad, `rounded` of one by the shape of its aperture; `contour`; why a flash is no pad; or `clear` or `cleared`
abbrev pub feature_word : FeatureKind → List ℕ
feature_word (kind.Pad pad) = shape_word pad
feature_word (kind.Shape pad why) = codes "rounded"
feature_word (kind.Contour pad) = codes "contour"
feature_word (kind.Other why) = reason_word why
feature_word (kind.Macro why) = reason_word why
feature_word kind.Clear = codes "clear"
feature_word kind.Cleared = codes "cleared"

-- the width of a pad of the wide profile in pm: of a rounded polygon how far its least and its greatest x lie apart
abbrev pub wide_pad_width : WidePad → ℕ
wide_pad_width (Plain pad) = pad_width pad
wide_pad_width (Rounded pad) = abs_diff (rounded_right pad) (rounded_left pad)

-- the height of a pad of the wide profile in pm: of a rounded polygon how far its least and its greatest y lie apart
abbrev pub wide_pad_height : WidePad → ℕ
wide_pad_height (Plain pad) = pad_height pad
wide_pad_height (Rounded pad) = abs_diff (rounded_top pad) (rounded_bottom pad)

-- the width of a flash or a contour in millimetres, empty where it is no pad
abbrev pub width_of : FeatureKind → List ℕ
width_of k = option_map_or (λ pad. millimetres (pos (wide_pad_width pad))) (pad_in k) []

-- the height of a flash or a contour in millimetres, empty where it is no pad
abbrev pub height_of : FeatureKind → List ℕ
height_of k = option_map_or (λ pad. millimetres (pos (wide_pad_height pad))) (pad_in k) []

-- the row of a flash or a contour: `1,disc,1.000000000,2.000000000,0.650000000,0.650000000` has its point at 1, 2 and a diameter of 0.65 mm
abbrev pub feature_fields : ℕ → Feature → List (List ℕ)
feature_fields n f = decimal n ∷ feature_word f.what ∷ millimetres f.at.x ∷ millimetres f.at.y ∷ width_of f.what ∷ height_of f.what ∷ []

-- ---- a hole

-- the row of a hole: `1,0.000000000,0.000000000,2.000000000,0.000000000,0.500000000` is a slot 2 mm long; a round hole has its point twice
abbrev pub hole_fields : ℕ → GridHole → List (List ℕ)
hole_fields n hole = decimal n ∷ millimetres hole.from.x ∷ millimetres hole.from.y ∷ millimetres hole.to.x ∷ millimetres hole.to.y ∷ millimetres (pos (2 * hole.radius)) ∷ []

-- ---- the tables

-- the header of a table of flashes and contours
abbrev pub layer_header : List ℕ
layer_header = codes "flash,what,x,y,width,height\n"

-- the header of a table of holes
abbrev pub drill_header : List ℕ
drill_header = codes "hole,x1,y1,x2,y2,diameter\n"

-- the table of flashes and contours: a header, and a row for each, numbered from 1
abbrev pub layer_table : List Feature → List ℕ
layer_table features = layer_header ++ rows_from feature_fields 1 features

-- the table of holes: a header, and a row for each, numbered from 1
abbrev pub drill_table : List GridHole → List ℕ
drill_table holes = drill_header ++ rows_from hole_fields 1 holes

-- in the profile the bytes are read as a layer with these flashes and contours; in the strict one it has flashes alone
abbrev pub HasFeatures : Profile → List ℕ → List Feature → Type 0
HasFeatures profile bytes features = (layer : LayerImage) × ReadsLayerIn profile bytes (Ok layer) × (features ≡ features_of profile (without_places layer.commands))

-- in the profile the bytes are read as a layer, and this is the table of its flashes and contours; or they have this fault
abbrev pub ShowsLayer : Profile → List ℕ → Result (List ℕ) Fault → Type 0
ShowsLayer profile bytes (Ok text) = (features : List Feature) × HasFeatures profile bytes features × (text ≡ layer_table features)
ShowsLayer profile bytes (Err fault) = ReadsLayerIn profile bytes (Err fault)

-- in the profile the bytes are a drill text of commands that are seen as this, or they have this fault
abbrev pub ReadsDrill : {V : Type 0} → Profile → (List DrillCommand → V) → List ℕ → Result V Fault → Type 0
ReadsDrill Strict see bytes answer = ReadsAs see bytes answer
ReadsDrill Wide see bytes answer = ReadsAsIn Wide see bytes answer

-- in the profile the bytes are a drill text, and this is the table of its holes; or they have this fault
abbrev pub ShowsDrill : Profile → List ℕ → Result (List ℕ) Fault → Type 0
ShowsDrill profile bytes answer = ReadsDrill profile (λ commands. drill_table (holes_of commands)) bytes answer
