-- The text of a report (docs/FORMATS.md, Report).
use Rattle.std.specs.Prelude.{ℕ, pos, ◌+◌, ◌*◌, ◌==◌, ◌++◌, Bool, List, [], ◌∷◌, length, map, codes, decimal, Option, Some, None, slice_get, if◌then◌else◌}
use Rattle.std.specs.List.{flat_map}
use Rattle.grid_units.specs.Holes.{GridHole, GridRules, is_round}
use Rattle.grid_units.specs.Spellings.{millimetres}
use Rattle.grid_units.specs.declared.profile.Profile.{Profile}
use Rattle.grid_units.specs.declared.profile.Profile.TheVariants.{Strict, Wide}
use Rattle.ring_rules.specs.declared.finding.Finding.{Finding}
use Rattle.ring_rules.specs.declared.finding.Finding.TheVariants.{Ring, Oblique, Gap}
use Rattle.grid_units.specs.Spans.{LayerSpan}
use Rattle.board.specs.declared.FileSum.{FileSum}
use Rattle.board.specs.declared.FileSum.TheVariants as sum
use Rattle.board.specs.declared.Numbered.{Numbered}
use Rattle.package_check.specs.Reports.{ReportView}
use Rattle.package_check.specs.Package.{FileView}
use Rattle.grid_units.specs.Ascii as ascii

-- the profile as it is written at the end of the first line: ` profile=wide`, and nothing of the strict one
abbrev pub profile_words : Profile → List ℕ
profile_words Strict = []
profile_words Wide = codes " profile=wide"

-- the first line, of two lengths and a profile: `rules ring=0.125000000 gap=0.250000000`
abbrev pub rules_words : List ℕ → List ℕ → List ℕ → List ℕ
rules_words ring gap profile = codes "rules ring=" ++ (ring ++ (codes " gap=" ++ (gap ++ (profile ++ ascii.line_feed ∷ []))))

-- the first line, of the rules in millimetres
abbrev pub rules_line : GridRules → List ℕ
rules_line rules = rules_words (millimetres (pos rules.ring)) (millimetres (pos rules.gap)) (profile_words rules.profile)

-- the word for whether a drill file is plated: `yes` or `no`
abbrev pub yes_or_no : Bool → List ℕ
yes_or_no plated = if plated then codes "yes" else codes "no"

-- the line of a drill file up to its counts: `file 2 drill plated=yes round=1 slots=0`
unfoldable pub drill_words : ℕ → List ℕ → ℕ → ℕ → List ℕ
drill_words n plated round slots =
    codes "file " ++ (decimal n ++ (codes " drill plated=" ++ (plated ++ (codes " round=" ++ (decimal round ++ (codes " slots=" ++ decimal slots))))))

-- the span of a drill file, as in ` span=1-2`; nothing where it has none
abbrev pub span_words : Option LayerSpan → List ℕ
span_words None = []
span_words (Some span) = codes " span=" ++ (decimal span.first ++ (codes "-" ++ decimal span.last))

-- the name of a file at the end of its line: ` name=pth` and LF
abbrev pub name_words : List ℕ → List ℕ
name_words name = codes " name=" ++ (name ++ ascii.line_feed ∷ [])

-- the contours of a layer, as in ` contours=0`; nothing in the strict profile
abbrev pub contour_words : Profile → ℕ → List ℕ
contour_words Strict contours = []
contour_words Wide contours = codes " contours=" ++ decimal contours

-- the line of a layer up to its name: `file 1 layer pads=1 other=0`
unfoldable pub layer_words : ℕ → ℕ → ℕ → List ℕ → List ℕ
layer_words n pads other contours = codes "file " ++ (decimal n ++ (codes " layer pads=" ++ (decimal pads ++ (codes " other=" ++ (decimal other ++ contours)))))

-- the line of a file, by its number from 1, its name and its counts: `file 1 layer pads=1 other=0 name=top`, `file 2 drill plated=mixed round=2 slots=0 unplated=1 name=all`
abbrev pub file_line : Profile → ℕ → List ℕ → FileSum → List ℕ
file_line profile n name (sum.Layer pads other contours) = layer_words n pads other (contour_words profile contours) ++ name_words name
file_line profile n name (sum.Drill plated span contradicted round slots) = (drill_words n (yes_or_no plated) round slots ++ span_words span) ++ name_words name
file_line profile n name (sum.Mixed span round slots unplated) = drill_words n (codes "mixed") round slots ++ (codes " unplated=" ++ (decimal unplated ++ (span_words span ++ name_words name)))

-- the lines of the files, numbered from n on
unfoldable pub file_lines : Profile → ℕ → List (List ℕ) → List FileSum → List ℕ
file_lines profile n (name ∷ names) (one ∷ sums) = file_line profile n name one ++ file_lines profile (n + 1) names sums
file_lines profile n _ _ = []

-- the place of a lacking ring, by file numbers from 1 and the hole's number: `RING layer=1 drill=2 hole=1`
unfoldable pub place_words : List ℕ → ℕ → ℕ → ℕ → List ℕ
place_words kind layer drill number = kind ++ (codes " layer=" ++ (decimal layer ++ (codes " drill=" ++ (decimal drill ++ (codes " hole=" ++ decimal number)))))

-- the centre and the diameter of a round hole: ` x=0.000000000 y=0.000000000 diameter=0.400000000` and LF
unfoldable pub length_words : List ℕ → List ℕ → List ℕ → List ℕ
length_words x y diameter = codes " x=" ++ (x ++ (codes " y=" ++ (y ++ (codes " diameter=" ++ (diameter ++ ascii.line_feed ∷ [])))))

-- the two ends and the diameter of a slot: ` x1=X y1=Y x2=X y2=Y diameter=W` and LF
unfoldable pub slot_words : List ℕ → List ℕ → List ℕ → List ℕ → List ℕ → List ℕ
slot_words x1 y1 x2 y2 diameter =
    codes " x1=" ++ (x1 ++ (codes " y1=" ++ (y1 ++ (codes " x2=" ++ (x2 ++ (codes " y2=" ++ (y2 ++ (codes " diameter=" ++ (diameter ++ ascii.line_feed ∷ [])))))))))

-- the centre of a round hole or the ends of a slot, and the diameter, in millimetres
abbrev pub lengths_of : GridHole → List ℕ
lengths_of hole =
    if is_round hole then length_words (millimetres hole.from.x) (millimetres hole.from.y) (millimetres (pos (2 * hole.radius)))
    else slot_words (millimetres hole.from.x) (millimetres hole.from.y) (millimetres hole.to.x) (millimetres hole.to.y) (millimetres (pos (2 * hole.radius)))

-- the line of a hole that lacks its ring on a layer, which is given by the index of its file, from 0; `kind` is `RING` or `OBLIQUE`
abbrev pub hole_line : List ℕ → ℕ → Numbered → List ℕ
hole_line kind layer hole =
    place_words kind (layer + 1) (hole.file + 1) hole.number ++ lengths_of hole.drilled.hole

-- the line of two holes that lack their gap: `GAP drill=2 hole=1 drill=3 hole=1`
abbrev pub gap_line : Numbered → Numbered → List ℕ
gap_line first second =
    codes "GAP drill=" ++ (decimal (first.file + 1) ++ (codes " hole=" ++ (decimal first.number
    ++ (codes " drill=" ++ (decimal (second.file + 1) ++ (codes " hole=" ++ (decimal second.number ++ ascii.line_feed ∷ [])))))))

-- the line of what two look-ups give; nothing where one of them gives nothing
abbrev pub line_if_found : {A B : Type 0} → (A → B → List ℕ) → Option A → Option B → List ℕ
line_if_found line (Some a) (Some b) = line a b
line_if_found line _ _ = []

-- the line of a finding, whose places are looked up in these lists of layers and holes
unfoldable pub finding_line : List ℕ → List Numbered → Finding → List ℕ
finding_line layers holes (Ring layer hole) = line_if_found (hole_line (codes "RING")) (slice_get layers layer) (slice_get holes hole)
finding_line layers holes (Oblique layer hole) = line_if_found (hole_line (codes "OBLIQUE")) (slice_get layers layer) (slice_get holes hole)
finding_line layers holes (Gap first second) = line_if_found gap_line (slice_get holes first) (slice_get holes second)

-- the last line: `PASS` where there is no finding, else for example `FINDINGS 2`
abbrev pub last_line : ℕ → List ℕ
last_line findings = if findings == 0 then codes "PASS\n" else codes "FINDINGS " ++ (decimal findings ++ ascii.line_feed ∷ [])

-- the text of a report on files of these names: the rules, the files, the findings, and the last line
abbrev pub text_of : List (List ℕ) → ReportView → List ℕ
text_of names report =
    ((rules_line report.rules ++ file_lines report.rules.profile 1 names report.files) ++ flat_map (finding_line report.layers report.holes) report.findings) ++ last_line (length report.findings)

-- the text of a report on these files
abbrev pub report_text : List FileView → ReportView → List ℕ
report_text sources report = text_of (map (λ source. source.name) sources) report
