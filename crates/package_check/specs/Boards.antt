-- The board of a package whose files are all read: what these say together, and the report on it.
use Rattle.std.specs.Prelude.{ℕ, ◌<◌, ◌≡◌, List, [], get_or, length, map, true, Result, Ok, Err, ⊤}
use Rattle.std.specs.List.{flat_map}
use Rattle.grid_units.specs.Holes.{GridRules}
use Rattle.grid_units.specs.declared.profile.Profile.{Profile}
use Rattle.gerber_text.specs.Writing.{without_places}
use Rattle.layer_image.specs.Layers.{LayerImage, ReadsLayerIn}
use Rattle.pad_shapes.specs.declared.drawn.Drawn.{Drawn}
use Rattle.layer_features.specs.DrawnCopper.{drawn_in}
use Rattle.pad_shapes.specs.declared.row.FeatureRow.{FeatureRow}
use Rattle.pad_shapes.specs.declared.wide_pad.WidePad.{WidePad}
use Rattle.board.specs.Boards.{BoardView, CountsAddUp, board_findings, holes_with_places}
use Rattle.package_check.specs.declared.PackageFault.{PackageFault}
use Rattle.package_check.specs.declared.PackageFault.TheVariants as stop
use Rattle.package_check.specs.declared.contents.Content.{Content}
use Rattle.package_check.specs.Reports.{ReportView}
use Rattle.package_check.specs.FileTexts.{HasContours, HasMacros, HasRows}
use Rattle.package_check.specs.SoundnessAsRead.{drilled_in}
use Rattle.package_check.specs.Package.{FileView, HaveContents, IsFirstRefused, is_copper, layer_indexes, layers, sum_of}

-- the board of files with these contents, rows, and pads that the profile does not count, which draw this
abbrev pub board_of : List Content → List (List FeatureRow) → List (List WidePad) → List (List WidePad) → List (List Drawn) → BoardView
board_of contents rows macros contours drawn = record {
  files = map sum_of contents;
  layers = layers contents;
  layer_indexes = layer_indexes contents;
  holes = flat_map drilled_in contents;
  rows = rows;
  macros = macros;
  contours = contours;
  drawn = drawn;
}

-- the board of a package whose files are all read; nothing is said of its rows and of what is drawn
pub record IsBoard (sources : List FileView) (board : BoardView) : Type 0 where
  pub contents : List Content
  pub read : HaveContents sources contents
  pub is : board ≡ board_of contents board.rows board.macros board.contours board.drawn

-- the result is what a relation says of a package, or the first file that is refused, running out of memory aside
abbrev pub Returns : (List FileView → BoardView → Type 0) → List FileView → Result BoardView PackageFault → Type 0
Returns Is sources (Ok board) = Is sources board
Returns Is sources (Err stop.Memory) = ⊤
Returns Is sources (Err (stop.File index fault)) = IsFirstRefused sources index fault

-- of the text of a copper file this is so, in the profile of the file; of a drill file nothing is said
abbrev pub OfCopper : {X : Type 0} → (Profile → List ℕ → X → Type 0) → FileView → X → Type 0
OfCopper {X} Is source x = is_copper source.role ≡ true → Is source.setting.profile source.bytes x

-- one list for each file of a package, of which the relation says what it has of the file
pub record AreFileLists {X : Type 0} (IsOf : FileView → List X → Type 0) (sources : List FileView) (lists : List (List X)) : Type 0 where
  pub size : length lists ≡ length sources
  pub each : (i : ℕ) (s : FileView) → i < length sources → IsOf (get_or sources i s) (get_or lists i [])

-- the board of a package whose files are all read, with the rows of each file, and the pads that do not count
pub record IsFlashedBoard (sources : List FileView) (board : BoardView) : Type 0 where
  pub is : IsBoard sources board
  pub rows : AreFileLists (OfCopper HasRows) sources board.rows
  pub macros : AreFileLists (OfCopper HasMacros) sources board.macros
  pub contours : AreFileLists (OfCopper HasContours) sources board.contours

-- a copper file draws the first parts of what the layer draws that its text reads as; of a drill file nothing is said (docs/FORMATS.md, Pictures)
abbrev pub AreDrawnOf : FileView → List Drawn → Type 0
AreDrawnOf source drawn = is_copper source.role ≡ true → (image : LayerImage) → ReadsLayerIn source.setting.profile source.bytes (Ok image)
    → drawn ≡ drawn_in source.setting.profile (without_places image.commands)

-- the board of a package whose files are all read, with the rows of each file and what it draws
pub record IsDrawnBoard (sources : List FileView) (board : BoardView) : Type 0 where
  pub is : IsFlashedBoard sources board
  pub drawn : AreFileLists AreDrawnOf sources board.drawn

-- where a package is read, the counts of its files add up to the holes of its board
abbrev pub FileCountsAddUp : Type 0
FileCountsAddUp = (sources : List FileView) (board : BoardView) → IsBoard sources board → CountsAddUp board.files board.holes

-- the board of a package has a copper file for each layer
abbrev pub LayersHaveFiles : Type 0
LayersHaveFiles = (sources : List FileView) (board : BoardView) → IsBoard sources board → length board.layers ≡ length board.layer_indexes

-- the report on a board under these rules
abbrev pub report_of_board : GridRules → BoardView → ReportView
report_of_board rules board = record {
  rules = rules;
  files = board.files;
  layers = board.layer_indexes;
  holes = holes_with_places board;
  findings = board_findings rules board;
}
