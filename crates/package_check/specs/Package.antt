-- The answer to a package: its report, or the first file that is refused.
use Rattle.std.specs.Prelude.{◌≡◌, ◌⊎◌, ◌<◌, ◌++◌, ℕ, Bool, true, false, not, ◌||◌, ◌&&◌, nat_le, List, [], ◌∷◌, length, map, take, get_or, count_by, Result, Ok, Err, ⊤, Option, None, Some}
use Rattle.std.specs.List.{All, flat_map, enumerate_from, concat}
use Rattle.grid_units.specs.Holes.{GridHole, GridRules, is_round}
use Rattle.grid_units.specs.declared.profile.Profile.{Profile}
use Rattle.pad_shapes.specs.WidePads.{wide_pad_covers}
use Rattle.pad_shapes.specs.declared.wide_pad.WidePad.{WidePad}
use Rattle.ring_rules.specs.Findings.{ring_findings, gap_findings}
use Rattle.grid_units.specs.Spans.{LayerSpan}
use Rattle.ring_rules.specs.WithoutFindings.{NamesPlaces}
use Rattle.ring_rules.specs.declared.finding.Drilled.{Drilled}
use Rattle.ring_rules.specs.declared.finding.Finding.{Finding}
use Rattle.package_check.specs.ContentViews.{LayerView}
use Rattle.package_check.specs.FileTexts.{HasLayerView, ReadsLayer, ReadsDrill, ReadsMixed}
use Rattle.package_check.specs.Reports.{ReportView}
use Rattle.grid_units.specs.declared.fault.Fault.{Fault}
use Rattle.package_check.specs.declared.File.{File}
use Rattle.board.specs.declared.FileSum.{FileSum}
use Rattle.board.specs.declared.Numbered.{Numbered}
use Rattle.package_check.specs.declared.PackageFault.{PackageFault}
use Rattle.manifest.specs.declared.Role.{Role}
use Rattle.manifest.specs.declared.Said.{Said}
use Rattle.package_check.specs.declared.contents.Content.{Content}
use Rattle.package_check.specs.declared.PiecedFile.{PiecedFile}
use Rattle.board.specs.declared.FileSum.TheVariants as sum
use Rattle.package_check.specs.declared.PackageFault.TheVariants as stop
use Rattle.grid_units.specs.declared.fault.Reason.TheVariants as reason
use Rattle.manifest.specs.declared.Role.TheVariants as role
use Rattle.package_check.specs.declared.contents.Content.TheVariants as content

-- what a file is read in: a package with so many copper files, in a profile
pub record Setting : Type 0 where
  pub layers : ℕ
  pub profile : Profile

-- a file: its role, its name, what is said of it beside its text, its bytes, and what it is read in
pub record FileView : Type 0 where
  pub role : Role
  pub name : List ℕ
  pub said : Said
  pub bytes : List ℕ
  pub setting : Setting

-- whether a role is that of a copper file
abbrev pub is_copper : Role → Bool
is_copper role.Copper = true
is_copper _ = false

-- the view of a file of the code
abbrev pub file_view : Setting → File → FileView
file_view setting file = record { role = file.role; name = file.name.now; said = file.said; bytes = file.bytes.now; setting = setting }

-- a file of this role and these bytes, of which this is said, its name left empty
abbrev pub unnamed_file : Role → Said → Setting → List ℕ → FileView
unnamed_file role said setting bytes = record { role = role; name = []; said = said; bytes = bytes; setting = setting }

-- the views of files that are seen so, of a package that is read in a profile, each with the number of copper files among them
abbrev pub views_in : {X : Type 0} → (Setting → X → FileView) → (X → Role) → Profile → List X → List FileView
views_in seen role_of profile files = map (seen (record { layers = count_by (λ file. is_copper (role_of file)) files; profile = profile })) files

-- files have these roles, in whatever setting they are seen
abbrev pub HaveRoles : {X : Type 0} → (Setting → X → FileView) → (X → Role) → Type 0
HaveRoles {X} seen role_of = (setting : Setting) (file : X) → (seen setting file).role ≡ role_of file

-- how many of the files are copper
abbrev pub layer_count : List File → ℕ
layer_count files = count_by (λ file. is_copper file.role) files

-- the views of the files of a package that is read in a profile, each with the number of copper files among them
abbrev pub file_views_in : Profile → List File → List FileView
file_views_in profile files = map (file_view (record { layers = layer_count files; profile = profile })) files

-- whether a span is bad: on a copper file, or not `1 <= first <= last <=` the number of copper files (docs/FORMATS.md, The check)
abbrev pub is_bad_span : Role → Option LayerSpan → ℕ → Bool
is_bad_span role None layers = false
is_bad_span role (Some span) layers = is_copper role || not (nat_le 1 span.first && (nat_le span.first span.last && nat_le span.last layers))

-- the fault of a file with a bad span: BadSpan at place 0 and byte 0 (docs/FORMATS.md, The check)
abbrev pub bad_span : Fault
bad_span = record { place = 0; byte = 0; reason = reason.BadSpan }

-- the fault of a copper file whose layer is not copper: NotCopper at place 0 and byte 0 (docs/FORMATS.md, The check)
abbrev pub not_copper : Fault
not_copper = record { place = 0; byte = 0; reason = reason.NotCopper }

-- the bytes of a copper file are the text of a copper layer with this content
abbrev pub HasCopperContent : Profile → List ℕ → Content → Type 0
HasCopperContent profile bytes (content.Layer image) = HasLayerView profile bytes image × (image.is_copper ≡ true)
HasCopperContent profile bytes _ = ⊥

-- this is what the check keeps of the bytes of a drill file, and the content has its plating and its span
abbrev pub HasDrillContent : Profile → Bool → Said → List ℕ → Content → Type 0
HasDrillContent profile plated said bytes (content.Drill has through drill) = ReadsDrill profile said.format plated bytes (Ok drill) × (has ≡ plated) × (through ≡ said.span)
HasDrillContent profile plated said bytes _ = ⊥

-- the bytes of a mixed drill file drill just these holes, each plated as its tool is called, and the content has its span
abbrev pub HasMixedContent : Profile → Said → List ℕ → Content → Type 0
HasMixedContent profile said bytes (content.Mixed through holes) = ReadsMixed profile said bytes (Ok holes) × (through ≡ said.span)
HasMixedContent profile said bytes _ = ⊥

-- the bytes of a file have this content, as they are read by its role
abbrev pub BytesHaveContent : FileView → Content → Type 0
BytesHaveContent source content = elim source.role [
  | role.Copper ↦ HasCopperContent source.setting.profile source.bytes content
  | role.Plated ↦ HasDrillContent source.setting.profile true source.said source.bytes content
  | role.Unplated ↦ HasDrillContent source.setting.profile false source.said source.bytes content
  | role.Mixed ↦ HasMixedContent source.setting.profile source.said source.bytes content
]

-- a file has this content: its span is not bad, and its bytes have the content
abbrev pub HasContent : FileView → Content → Type 0
HasContent source content = (is_bad_span source.role source.said.span source.setting.layers ≡ false) × BytesHaveContent source content

-- the files have these contents, one by one
abbrev pub HaveContents : List FileView → List Content → Type 0
HaveContents [] [] = ⊤
HaveContents (source ∷ sources) (content ∷ contents) = HasContent source content × HaveContents sources contents
HaveContents _ _ = ⊥

-- a copper file has this content or this fault: that of its text, or NotCopper where its layer is not copper
abbrev pub ReadsCopper : Profile → List ℕ → Result Content Fault → Type 0
ReadsCopper profile bytes (Ok content) = HasCopperContent profile bytes content
ReadsCopper profile bytes (Err fault) = ReadsLayer profile bytes (Err fault) ⊎ ((image : LayerView) × ReadsLayer profile bytes (Ok image) × (image.is_copper ≡ false) × (fault ≡ not_copper))

-- a drill file has this content, or its text has this fault
abbrev pub ReadsHoles : Profile → Bool → Said → List ℕ → Result Content Fault → Type 0
ReadsHoles profile plated said bytes (Ok content) = HasDrillContent profile plated said bytes content
ReadsHoles profile plated said bytes (Err fault) = ReadsDrill profile said.format plated bytes (Err fault)

-- a mixed drill file has this content, or its text has this fault
abbrev pub ReadsMixedHoles : Profile → Said → List ℕ → Result Content Fault → Type 0
ReadsMixedHoles profile said bytes (Ok content) = HasMixedContent profile said bytes content
ReadsMixedHoles profile said bytes (Err fault) = ReadsMixed profile said bytes (Err fault)

-- the bytes of a file have this content or this fault, as they are read by its role
abbrev pub ReadsBytes : FileView → Result Content Fault → Type 0
ReadsBytes source answer = elim source.role [
  | role.Copper ↦ ReadsCopper source.setting.profile source.bytes answer
  | role.Plated ↦ ReadsHoles source.setting.profile true source.said source.bytes answer
  | role.Unplated ↦ ReadsHoles source.setting.profile false source.said source.bytes answer
  | role.Mixed ↦ ReadsMixedHoles source.setting.profile source.said source.bytes answer
]

-- a file whose span is bad has the fault `bad_span`, whatever its bytes are; another has what its bytes have
abbrev pub ReadsUnlessBadSpan : Bool → FileView → Result Content Fault → Type 0
ReadsUnlessBadSpan true source answer = answer ≡ Err bad_span
ReadsUnlessBadSpan false source answer = ReadsBytes source answer

-- a file has this content or this fault
abbrev pub Reads : FileView → Result Content Fault → Type 0
Reads source answer = ReadsUnlessBadSpan (is_bad_span source.role source.said.span source.setting.layers) source answer

-- the counts of a file: flashed pads, other flashes and contours of a layer, round holes and slots of a drill file, and of a mixed one those that are not plated;
-- and of a drill file whether its comments contradict its role
abbrev pub sum_of : Content → FileSum
sum_of (content.Layer image) = sum.Layer image.flashed image.other image.contours
sum_of (content.Drill plated span drill) = sum.Drill plated span drill.contradicted (count_by is_round drill.holes) (count_by (λ hole. not (is_round hole)) drill.holes)
sum_of (content.Mixed span holes) = sum.Mixed span (count_by (λ one. is_round one.hole) holes) (count_by (λ one. not (is_round one.hole)) holes) (count_by (λ one. not one.plated) holes)

-- the pads of a copper file, as a list of one; none for a drill file
abbrev pub pads_of : Content → List (List WidePad)
pads_of (content.Layer image) = image.pads ∷ []
pads_of _ = []

-- the pads of each copper file, in the order of the files
abbrev pub layers : List Content → List (List WidePad)
layers contents = flat_map pads_of contents

-- the index of a copper file, as a list of one; none for a drill file
abbrev pub index_of : ℕ × Content → List ℕ
index_of (file, content.Layer image) = file ∷ []
index_of (file, _) = []

-- the indexes of the copper files among all files, from 0
abbrev pub layer_indexes : List Content → List ℕ
layer_indexes contents = flat_map index_of (enumerate_from 0 contents)

-- the holes of one file with its index, each with its number there, from 1
abbrev pub file_holes : ℕ → Bool → Option LayerSpan → List GridHole → List Numbered
file_holes file plated span holes =
    map (λ hole. record { file = file; number = hole.0; drilled = record { hole = hole.1; plated = plated; span = span } }) (enumerate_from 1 holes)

-- the holes of a file with their places; a copper file has none
abbrev pub holes_of : ℕ × Content → List Numbered
holes_of (file, content.Layer image) = []
holes_of (file, content.Drill plated span drill) = file_holes file plated span drill.holes
holes_of (file, content.Mixed span holes) = map (λ hole. record { file = file; number = hole.0; drilled = hole.1 }) (enumerate_from 1 holes)

-- the holes of all drill files with their places, file by file
abbrev pub numbered_holes : List Content → List Numbered
numbered_holes contents = flat_map holes_of (enumerate_from 0 contents)

-- the holes of all drill files without their places
abbrev pub holes_of_all : List Content → List Drilled
holes_of_all contents = map (λ hole. hole.drilled) (numbered_holes contents)

-- the findings of lacking rings, then those of lacking gaps
abbrev pub findings : GridRules → List (List WidePad) → List Drilled → List Finding
findings rules pads holes = ring_findings wide_pad_covers rules.profile rules.ring pads holes ++ gap_findings rules.gap holes

-- the report on files with these contents, under these rules
abbrev pub report_on : GridRules → List Content → ReportView
report_on rules contents = record {
  rules = rules;
  files = map sum_of contents;
  layers = layer_indexes contents;
  holes = numbered_holes contents;
  findings = findings rules (layers contents) (holes_of_all contents);
}

-- the report on a package whose files are all read
pub record IsReport (sources : List FileView) (rules : GridRules) (report : ReportView) : Type 0 where
  pub contents : List Content
  pub read : HaveContents sources contents
  pub is : report ≡ report_on rules contents

-- the first file that is refused, by its index from 0, with its fault; the files before it are read
pub record IsFirstRefused (sources : List FileView) (index : ℕ) (fault : Fault) : Type 0 where
  pub contents : List Content
  pub read : HaveContents (take index sources) contents
  pub inside : index < length sources
  pub refused : (d : FileView) → Reads (get_or sources index d) (Err fault)

-- the answer to a package: its report, or the index and the fault of the first file that is refused
abbrev pub IsAnswer : List FileView → GridRules → Result ReportView (ℕ × Fault) → Type 0
IsAnswer sources rules (Ok report) = IsReport sources rules report
IsAnswer sources rules (Err refusal) = IsFirstRefused sources refusal.0 refusal.1

-- the first file of a package that is refused, running out of memory aside
abbrev pub IsRefused : List FileView → PackageFault → Type 0
IsRefused sources stop.Memory = ⊤
IsRefused sources (stop.File index fault) = IsFirstRefused sources index fault

-- the result is the answer to the package, running out of memory aside
abbrev pub ReturnsReport : List FileView → GridRules → Result ReportView PackageFault → Type 0
ReturnsReport sources rules (Ok report) = IsAnswer sources rules (Ok report)
ReturnsReport sources rules (Err stop.Memory) = ⊤
ReturnsReport sources rules (Err (stop.File index fault)) = IsAnswer sources rules (Err (index, fault))

-- the result is just this answer, running out of memory aside
abbrev pub ReturnsExactly : Result ReportView (ℕ × Fault) → Result ReportView PackageFault → Type 0
ReturnsExactly answer (Ok report) = answer ≡ Ok report
ReturnsExactly answer (Err stop.Memory) = ⊤
ReturnsExactly answer (Err (stop.File index fault)) = answer ≡ Err (index, fault)

-- each finding names a layer and a hole of the report, or two of its holes, the first before the second
abbrev pub NamesItsPlaces : ReportView → Type 0
NamesItsPlaces report = All (NamesPlaces (length report.layers) (length report.holes)) report.findings

-- in the report on any package, the findings name layers and holes of that report
abbrev pub FindingsNameTheirPlaces : Type 0
FindingsNameTheirPlaces = (sources : List FileView) (rules : GridRules) (report : ReportView) → IsReport sources rules report → NamesItsPlaces report

-- the view of a file that comes in pieces: its bytes are the pieces, joined
abbrev pub pieced_file_view : Setting → PiecedFile → FileView
pieced_file_view setting file = record { role = file.role; name = file.name.now; said = file.said; bytes = concat (map (λ piece. piece.now) file.pieces.now); setting = setting }

-- the views of the files of a package that is read in a profile, each with the number of copper files among them
abbrev pub pieced_file_views : Profile → List PiecedFile → List FileView
pieced_file_views profile files = views_in pieced_file_view (λ file. file.role) profile files
