-- What the wide profile says of a package that the strict one reads: it reads it too, unless a file calls holes plated that its role calls unplated.
use Rattle.std.specs.Prelude.{◌≡◌, ◌⊎◌, ◌++◌, ◌&&◌, ℕ, Bool, true, false, not, List, [], get_or, map, None}
use Rattle.std.specs.List.{AllByRecursion, Contains, enumerate_from, filter, flat_map, list_any}
use Rattle.drill_lines.specs.declared.command.DrillCommand.{DrillCommand}
use Rattle.drill_text.specs.Plating.{calls_plated}
use Rattle.drill_text.specs.Texts.{IsDrillText}
use Rattle.grid_units.specs.Holes.{GridRules}
use Rattle.grid_units.specs.declared.fault.Fault.{Fault}
use Rattle.grid_units.specs.declared.profile.Profile.{Profile}
use Rattle.grid_units.specs.declared.profile.Profile.TheVariants.{Strict, Wide}
use Rattle.pad_shapes.specs.WidePads.{wide_pad_covers}
use Rattle.pad_shapes.specs.declared.wide_pad.WidePad.{WidePad}
use Rattle.ring_rules.specs.Findings.{gap_findings, layer_findings}
use Rattle.ring_rules.specs.declared.finding.Finding.{Finding}
use Rattle.ring_rules.specs.declared.finding.Finding.TheVariants.{Ring, Oblique}
use Rattle.manifest.specs.declared.Role.TheVariants as role
use Rattle.manifest.specs.declared.Said.{Said}
use Rattle.board.specs.Boards.{BoardView}
use Rattle.board_report.specs.BoardReport.{is_gap}
use Rattle.package_check.specs.Boards.{IsFlashedBoard}
use Rattle.package_check.specs.Package.{FileView, HasContent, IsFirstRefused, IsReport}
use Rattle.package_check.specs.Reports.{ReportView}
use Rattle.board.specs.declared.FileSum.{FileSum}
use Rattle.board.specs.declared.FileSum.TheVariants as sum
use Rattle.package_check.specs.declared.contents.Content.{Content}

-- what is said of a file that is read in both profiles: not how its coordinates are written, which the strict one does not heed
abbrev pub said_in : Profile → Said → Said
said_in Strict said = said
said_in Wide said = record { span = said.span; format = None }

-- the same file, read in a profile
abbrev pub read_in : Profile → FileView → FileView
read_in profile source = record { role = source.role; name = source.name; said = said_in profile source.said; bytes = source.bytes; setting = record { layers = source.setting.layers; profile = profile } }

-- A report in the wide profile beside that in the strict one: it has the same layers and holes, and the same gaps lack. A hole that lacks its ring on a layer lacks it in the strict profile too, or is an
-- oblique slot there; and no slot is a finding for its angle alone.
pub record FindsNoMore (wide strict : ReportView) : Type 0 where
  pub layers : wide.layers ≡ strict.layers
  pub holes : wide.holes ≡ strict.holes
  pub gaps : filter is_gap wide.findings ≡ filter is_gap strict.findings
  pub rings : (layer hole : ℕ) → Contains wide.findings (Ring layer hole)
      → Contains strict.findings (Ring layer hole) ⊎ Contains strict.findings (Oblique layer hole)
  pub angles : (layer hole : ℕ) → ¬ Contains wide.findings (Oblique layer hole)

-- a file is not called plated where its role says that no hole is: no comment of its drill text says that holes are
abbrev pub IsUncontradicted : FileView → Type 0
IsUncontradicted source =
    source.role ≡ role.Unplated → (commands : List DrillCommand) → IsDrillText source.bytes commands → list_any calls_plated commands ≡ false

-- a package that the strict profile reads, and of which no file is called plated where its role is unplated, the wide one reads too, and finds no more
abbrev pub WideFindsNoMore : Type 0
WideFindsNoMore = (sources : List FileView) (ring gap : ℕ) (strict : ReportView) → IsReport (map (read_in Strict) sources) (record { ring = ring; gap = gap; profile = Strict }) strict → AllByRecursion IsUncontradicted sources
    → (wide : ReportView) × IsReport (map (read_in Wide) sources) (record { ring = ring; gap = gap; profile = Wide }) wide × FindsNoMore wide strict

-- a file that the wide profile reads is not called plated where its role is unplated
abbrev pub ReadIsUncontradicted : Type 0
ReadIsUncontradicted = (source : FileView) (content : Content) → HasContent (read_in Wide source) content → IsUncontradicted source

-- ---- by the board of the strict profile

-- the same ring and gap in the wide profile
abbrev pub in_wide : GridRules → GridRules
in_wide rules = record { ring = rules.ring; gap = rules.gap; profile = Wide }

-- a drill file whose role says that no hole is plated, and of which a comment says that holes are
abbrev pub is_called_plated : FileSum → Bool
is_called_plated (sum.Drill plated span contradicted round slots) = not plated && contradicted
is_called_plated _ = false

-- all pads of a layer, by its place among the copper files and the index of its file: those that the profile counts, the shapes of macros, and the contours
abbrev pub all_pads : BoardView → ℕ × ℕ → List WidePad
all_pads board layer = (get_or board.layers layer.0 [] ++ get_or board.macros layer.1 []) ++ get_or board.contours layer.1 []

-- the rings that lack on a layer where all of its pads count
abbrev pub layer_rings : GridRules → BoardView → ℕ × ℕ → List Finding
layer_rings rules board layer = layer_findings wide_pad_covers rules.profile rules.ring board.holes layer.0 (all_pads board layer)

-- the rings that lack on a board where all of its pads count, and a slot may lie at any angle
abbrev pub wide_rings : GridRules → BoardView → List Finding
wide_rings rules board = flat_map (layer_rings (in_wide rules) board) (enumerate_from 0 board.layer_indexes)

-- What the wide profile says of the files of a board that was read in the strict one: it refuses one of them where a file with the role unplated is called plated. Else it finds
-- the rings that lack where all pads of the board count, and the same gaps.
pub record AnswersInWide (sources : List FileView) (rules : GridRules) (board : BoardView) : Type 0 where
  pub refuses : list_any is_called_plated board.files ≡ true → (index : ℕ) × (fault : Fault) × IsFirstRefused (map (read_in Wide) sources) index fault
  pub reads : list_any is_called_plated board.files ≡ false
      → (wide : ReportView) × IsReport (map (read_in Wide) sources) (in_wide rules) wide
      × (wide.findings ≡ wide_rings rules board ++ gap_findings rules.gap board.holes)

-- it says so of each board of the strict profile
abbrev pub WideAnswersByBoard : Type 0
WideAnswersByBoard =
    (sources : List FileView) (rules : GridRules) (board : BoardView) → IsFlashedBoard (map (read_in Strict) sources) board → AnswersInWide sources rules board
