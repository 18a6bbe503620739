-- The report as one page of HTML (docs/FORMATS.md, Page). Lengths are whole picometres, printed in millimetres.
-- Positions count all findings of a report from 0: the rings first, then the gaps. Their numbers count them from 1.
use Rattle.std.specs.Prelude.{◌≡◌, ◌<◌, ℕ, ℤ, pos, ◌+◌, ◌-◌, ◌*◌, ◌==◌, ◌++◌, ◌||◌, Bool, not, int_lt, List, [], length, get_or, map, codes, decimal, slice_get, Option, Some, None, if◌then◌else◌}
use Rattle.std.specs.Borrow.{Bor}
use Rattle.std.specs.List.{enumerate_from, flat_map, All}
use Rattle.grid_units.specs.Holes.{GridHole, GridRules}
use Rattle.grid_units.specs.Spans.{LayerSpan}
use Rattle.grid_units.specs.declared.profile.Profile.{Profile}
use Rattle.grid_units.specs.declared.profile.Profile.TheVariants.{Strict, Wide}
use Rattle.grid_units.specs.HoleWords.{ends_words, name_of}
use Rattle.grid_units.specs.LengthWords.{short_millimetres}
use Rattle.report.specs.Acceptances.{acceptance_at, waived_in}
use Rattle.report.specs.UnitMistakes.{conflict_words}
use Rattle.report.specs.declared.Acceptances.{Acceptances}
use Rattle.report.specs.declared.BoardReport.{BoardReport}
use Rattle.report.specs.declared.GapLack.{GapLack}
use Rattle.report.specs.declared.LayerHead.{LayerHead}
use Rattle.report.specs.declared.LeastRing.{LeastRing}
use Rattle.report.specs.declared.Measure.{Measure}
use Rattle.report.specs.declared.PlacedHole.{PlacedHole}
use Rattle.report.specs.declared.RingCause.{RingCause}
use Rattle.report.specs.declared.RingLack.{RingLack}
use Rattle.report.specs.declared.RingLine.{RingLine}
use Rattle.report.specs.declared.RoleConflict.{RoleConflict}
use Rattle.print_text.specs.Causes.{kind_of, kind_words}
use Rattle.print_text.specs.Texts.{fewer_words, number_of, rules_words, waived_words, warning_words}
use Rattle.print_text.specs.declared.report_text.Particulars.{Particulars}
use Rattle.board_report.specs.Measures.{IsMeasure}
use Rattle.board.specs.Boards.{BoardView}
use Rattle.board.specs.declared.FileSum.{FileSum}
use Rattle.picture.specs.Escapes.{escaped_name}
use Rattle.pad_shapes.specs.declared.drawn.Drawn.{Drawn}
use Rattle.drawing.specs.Pages.{IsDrawn, declaration, number_of as file_number, svg_text}
use Rattle.report_page.specs.declared.frame.TheConstants.{BEFORE_RULES, BEFORE_SCRIPT, BEFORE_STYLE, BODY, CAPTION, COLUMNS, END, FIGURE, FILES, HEAD, PREMISES, STRICT_PROMISE, TOOL_COLUMNS, TOOLS, WIDE_PROMISE}
use Rattle.report_page.specs.declared.page.HtmlReport.{HtmlReport}
use Rattle.report_page.specs.declared.script.TheConstants.{SCRIPT}
use Rattle.report_page.specs.declared.style.TheConstants.{STYLE}
use Rattle.report.specs.Causes.{flash_of}
use Rattle.std.specs.Option.{option_map_or}
use Rattle.std.specs.Str.Iter.{HasSubslice}
use Rattle.board_report.specs.BoardReport.{IsBoardReport}
use Rattle.report.specs.declared.RingCause.TheVariants as causes
use Rattle.board.specs.declared.FileSum.TheVariants as sums

-- ---- the verdict and the rules

-- `PASS: ` without findings, `WAIVED: ` where each is waived, else nothing
abbrev pub verdict_word : ℕ → ℕ → List ℕ
verdict_word findings waived = if findings == 0 then codes "PASS: " else if waived == findings then codes "WAIVED: " else []

-- the number of findings: `1 finding` or `6 findings`
abbrev pub count_words : ℕ → List ℕ
count_words findings = if findings == 1 then codes "1 finding" else decimal findings ++ codes " findings"

-- the verdict, by the numbers of findings and of waived ones: `PASS: 0 findings`, `WAIVED: 2 findings, 2 waived` or `6 findings, 2 waived`
abbrev pub verdict : ℕ → ℕ → List ℕ
verdict findings waived = verdict_word findings waived ++ (count_words findings ++ waived_words waived)

-- the profile at the end of the rules: `, profile strict`
abbrev pub profile_words : Profile → List ℕ
profile_words Strict = codes ", profile strict"
profile_words Wide = codes ", profile wide"

-- how many findings disappear in the wide profile, as in the text of a report, and what comes before the next paragraph; nothing for none
abbrev pub fewer_note : ℕ → ℕ → List ℕ
fewer_note findings fewer = if fewer == 0 then [] else fewer_words findings fewer ++ codes "</p>\n<p>"

-- the manifest of the board, and what comes before the next paragraph: `board: board.csv`
unfoldable pub board_words : List ℕ → List ℕ
board_words manifest = codes "board: " ++ (manifest ++ codes "</p>\n<p>")

-- the program, in a paragraph of its own: `program: ringcheck 0.1.0`
unfoldable pub program_words : List ℕ → List ℕ
program_words program = codes "</p>\n<p>program: " ++ program

-- the particulars of a report, by the number of its findings: the findings that disappear in the wide profile, the manifest, the rules, the program
abbrev pub particulars_text : Particulars → GridRules → ℕ → List ℕ
particulars_text about rules findings =
    fewer_note findings about.fewer
    ++ (board_words (escaped_name about.manifest.now) ++ ((rules_words rules ++ profile_words rules.profile) ++ program_words (escaped_name about.program.now)))

-- ---- the drill files whose own comments contradict their role

-- the warning of a drill file whose own comments contradict its role, and what comes before the next paragraph
abbrev pub conflict_warning : List (List ℕ) → RoleConflict → List ℕ
conflict_warning names line = warning_words (escaped_name (name_of names line.drill)) (conflict_words line.plated) (codes "</p>\n<p>")

-- ---- the files, and what a pass promises

-- a number and its words, for one and for others: `1 pad, ` or `361 pads, `
abbrev pub amount : ℕ → List ℕ → List ℕ → List ℕ
amount count one many = decimal count ++ (if count == 1 then one else many)

-- the contours of a copper file that count as pads: `, 2 contours`; nothing in the strict profile, where none does
abbrev pub contour_words : Profile → ℕ → List ℕ
contour_words Strict contours = []
contour_words Wide contours = codes ", " ++ amount contours (codes " contour") (codes " contours")

-- the holes of a drill file: `322 round holes, 1 slot`
abbrev pub drill_words : ℕ → ℕ → List ℕ
drill_words round slots = amount round (codes " round hole, ") (codes " round holes, ") ++ amount slots (codes " slot") (codes " slots")

-- the layers that the holes of a drill file go through, if the manifest names them: `, from layer 2 to layer 3`
abbrev pub span_words : Option LayerSpan → List ℕ
span_words None = []
span_words (Some span) = codes ", from layer " ++ (decimal span.first ++ (codes " to layer " ++ decimal span.last))

-- the role of a file
abbrev pub role_word : FileSum → List ℕ
role_word (sums.Layer pads other contours) = codes "copper"
role_word (sums.Drill plated span contradicted round slots) = if plated then codes "plated" else codes "unplated"
role_word (sums.Mixed span round slots unplated) = codes "mixed"

-- a file, by its role, its name and its counts: `<li>plated board-PTH.drl: 322 round holes, 0 slots</li>`
unfoldable pub file_item : List ℕ → List ℕ → List ℕ → List ℕ
file_item role name counts = codes "<li>" ++ (role ++ (codes " " ++ (name ++ (codes ": " ++ (counts ++ codes "</li>\n")))))

-- the counts of a file: `361 pads, 1 other flash`, `322 round holes, 1 slot`, or `2 round holes, 0 slots, unplated: 1`
abbrev pub file_counts : Profile → FileSum → List ℕ
file_counts profile (sums.Layer pads other contours) =
    amount pads (codes " pad, ") (codes " pads, ") ++ (amount other (codes " other flash") (codes " other flashes") ++ contour_words profile contours)
file_counts profile (sums.Drill plated span contradicted round slots) = drill_words round slots ++ span_words span
file_counts profile (sums.Mixed span round slots unplated) = drill_words round slots ++ (codes ", unplated: " ++ (decimal unplated ++ span_words span))

-- a file of any kind in a profile, by its name
abbrev pub file_words : Profile → List ℕ → FileSum → List ℕ
file_words profile name file = file_item (role_word file) name (file_counts profile file)

-- the files of these, with their places
abbrev pub file_items : Profile → List (List ℕ) → List (ℕ × FileSum) → List ℕ
file_items profile names files = flat_map (λ file. file_words profile (escaped_name (name_of names file.0)) file.1) files

-- what a pass promises in a profile
abbrev pub promise : Profile → List ℕ
promise Strict = STRICT_PROMISE.now
promise Wide = WIDE_PROMISE.now

-- each file with its role and its counts, what a pass promises in the profile, and under which premises
abbrev pub files_text : Profile → List (List ℕ) → List FileSum → List ℕ
files_text profile names files = FILES.now ++ (file_items profile names (enumerate_from 0 files) ++ (promise profile ++ PREMISES.now))

-- ---- the buttons of the layers

-- a button, by the number of its file and the file's name
unfoldable pub button : ℕ → List ℕ → List ℕ
button file name =
    codes "<button type=\"button\" aria-pressed=\"true\" data-file=\"" ++ (decimal file ++ (codes "\">" ++ (name ++ codes "</button>\n")))

-- the button of a layer: its panel in the picture has the same number
abbrev pub layer_button : List (List ℕ) → LayerHead → List ℕ
layer_button names head = button (file_number head.file) (escaped_name (name_of names head.file))

-- ---- the cells of a row

-- the name of the file of a layer, by the layer's place among the copper files; empty where there is no such layer
abbrev pub layer_name : List (List ℕ) → Option LayerHead → List ℕ
layer_name names None = []
layer_name names (Some head) = name_of names head.file

-- a hole by its number in its file, the file's name, and where it is: `hole 17 of board-PTH.drl at 15.001,13`
unfoldable pub hole_at_words : ℕ → List ℕ → GridHole → List ℕ
hole_at_words number name hole = codes "hole " ++ (decimal number ++ (codes " of " ++ (name ++ (codes " at " ++ ends_words hole))))

-- a hole with its place in the package
abbrev pub hole_words : List (List ℕ) → PlacedHole → List ℕ
hole_words names at = hole_at_words at.place.number (escaped_name (name_of names at.place.drill)) at.hole

-- the diameter of a hole
abbrev pub diameter_words : GridHole → List ℕ
diameter_words hole = short_millimetres (pos (2 * hole.radius))

-- the ring that a hole has in its pad: a length, `no pad`, or `not judged`
abbrev pub ring_words : RingCause → List ℕ
ring_words (causes.TooSmall place) = short_millimetres place.ring
ring_words (causes.OffCentre place) = short_millimetres place.ring
ring_words (causes.Edge at_edge) = short_millimetres at_edge.ring
ring_words causes.NoFlash = codes "no pad"
ring_words _ = codes "not judged"

-- the flash that a cause names: `: flash 17`; nothing where it names none
abbrev pub flash_words : RingCause → List ℕ
flash_words cause = option_map_or (λ flash. codes ": flash " ++ decimal flash) (flash_of cause) []

-- the cause, in the words of the text of a report, and its flash: `off centre: flash 17`
abbrev pub cause_words : RingCause → List ℕ
cause_words cause = kind_words (kind_of cause) ++ flash_words cause

-- the reason why a finding is waived, if it is
abbrev pub reason_words : Option (Bor (List ℕ)) → List ℕ
reason_words None = []
reason_words (Some why) = escaped_name why.now

-- between two cells
abbrev pub next_cell : List ℕ
next_cell = codes "</td><td>"

-- the start of a row: the number of the finding, with a link to its marker in the picture, and its kind
unfoldable pub row_start : ℕ → List ℕ → List ℕ
row_start number kind =
    codes "<tr><th scope=\"row\"><a href=\"#f" ++ (decimal number ++ (codes "\">" ++ (decimal number ++ (codes "</a></th><td>" ++ (kind ++ codes "</td><td>")))))

-- the last cells of a ring: the ring that there is, the rule, the cause and the reason why it is waived
unfoldable pub ring_end : List ℕ → ℤ → List ℕ → List ℕ → List ℕ
ring_end ring rule cause reason =
    ring ++ (next_cell ++ (short_millimetres rule ++ (next_cell ++ (cause ++ (next_cell ++ (reason ++ codes "</td></tr>\n"))))))

-- the last cells of a gap: the gap that there is, the rule, no cause, and the reason why it is waived
unfoldable pub gap_end : ℤ → ℤ → List ℕ → List ℕ
gap_end gap rule reason =
    short_millimetres gap ++ (next_cell ++ (short_millimetres rule ++ (codes "</td><td></td><td>" ++ (reason ++ codes "</td></tr>\n"))))

-- the cells of a ring to its diameter: the layer, the hole and the diameter
unfoldable pub ring_place : List ℕ → List ℕ → GridHole → List ℕ
ring_place layer hole at = layer ++ (next_cell ++ (hole ++ (next_cell ++ (diameter_words at ++ next_cell))))

-- the row of a hole that lacks its ring
abbrev pub ring_row : List (List ℕ) → List LayerHead → GridRules → ℕ → RingLack → Option (Bor (List ℕ)) → List ℕ
ring_row names layers rules number lack why =
    row_start number (codes "annular ring")
    ++ (ring_place (escaped_name (layer_name names (slice_get layers lack.layer))) (hole_words names lack.at) lack.at.hole
    ++ ring_end (ring_words lack.cause) (pos rules.ring) (cause_words lack.cause) (reason_words why))

-- the cells of a gap to the diameters: all layers, the two holes and their diameters
unfoldable pub gap_place : List ℕ → List ℕ → GridHole → GridHole → List ℕ
gap_place first second one other =
    codes "all" ++ (next_cell ++ (first ++ (codes ", and " ++ (second ++ (next_cell ++ (diameter_words one ++ (codes ", " ++ (diameter_words other ++ next_cell))))))))

-- the row of two holes that lack their gap
abbrev pub gap_row : List (List ℕ) → GridRules → ℕ → GapLack → Option (Bor (List ℕ)) → List ℕ
gap_row names rules number lack why =
    row_start number (codes "hole to hole")
    ++ (gap_place (hole_words names lack.first) (hole_words names lack.second) lack.first.hole lack.second.hole
    ++ gap_end lack.gap (pos rules.gap) (reason_words why))

-- ---- the table

-- the rows of some rings with their positions
abbrev pub ring_rows : List (List ℕ) → List LayerHead → GridRules → List (Option (Bor (List ℕ))) → List (ℕ × RingLack) → List ℕ
ring_rows names layers rules accepted findings =
    flat_map (λ finding. ring_row names layers rules (number_of finding.0) finding.1 (acceptance_at accepted finding.0)) findings

-- the rows of some gaps with their positions, which come after those of this many rings
abbrev pub gap_rows : List (List ℕ) → GridRules → List (Option (Bor (List ℕ))) → ℕ → List (ℕ × GapLack) → List ℕ
gap_rows names rules accepted rings findings =
    flat_map (λ finding. gap_row names rules (number_of finding.0) finding.1 (acceptance_at accepted (finding.0 - rings))) findings

-- the rows of a report: one for each finding, in order
abbrev pub table_rows : List (List ℕ) → BoardReport → List (Option (Bor (List ℕ))) → List (Option (Bor (List ℕ))) → List ℕ
table_rows names report rings gaps =
    ring_rows names report.layers.items report.rules rings (enumerate_from 0 report.rings.items)
    ++ gap_rows names report.rules gaps (length report.rings.items) (enumerate_from (length report.rings.items) report.gaps.items)

-- the numbers of the rows, in their order
abbrev pub row_numbers : BoardReport → List ℕ
row_numbers report =
    map (λ finding. number_of finding.0) (enumerate_from 0 report.rings.items)
    ++ map (λ finding. number_of finding.0) (enumerate_from (length report.rings.items) report.gaps.items)

-- there is a row for each finding, and the one at a position, from 0, has the number after it
pub record NumbersEachOnce (report : BoardReport) : Type 0 where
  pub all : length (row_numbers report) ≡ length report.rings.items + length report.gaps.items
  pub at : (i d : ℕ) → i < length (row_numbers report) → get_or (row_numbers report) i d ≡ i + 1

-- ---- the tool table

-- the holes of a line lack the ring of a rule: one of them has no pad that counts, or their smallest ring is below the rule
abbrev pub lacks_ring : ℤ → ℕ → Option LeastRing → Bool
lacks_ring rule bare None = not (bare == 0)
lacks_ring rule bare (Some least) = not (bare == 0) || int_lt least.ring rule

-- the mark of such holes; nothing where each hole has the ring of the rule
unfoldable pub mark_words : ℤ → ℕ → Option LeastRing → List ℕ
mark_words rule bare least = if lacks_ring rule bare least then codes "below the rule" else []

-- the smallest ring of the holes that lie in a pad: a length, or `none`
abbrev pub least_words : Option LeastRing → List ℕ
least_words None = codes "none"
least_words (Some least) = short_millimetres least.ring

-- the start of a row: the layer, the drill file, and the diameter of the holes
unfoldable pub tool_start : List ℕ → List ℕ → ℤ → List ℕ
tool_start layer drill diameter =
    codes "<tr><th scope=\"row\">" ++ (layer ++ (codes "</th><td>" ++ (drill ++ (next_cell ++ (short_millimetres diameter ++ next_cell)))))

-- how many holes there are, and how many of them have no pad that counts
unfoldable pub tool_counts : ℕ → ℕ → List ℕ
tool_counts holes bare = decimal holes ++ (next_cell ++ (decimal bare ++ next_cell))

-- the end of a row: the smallest ring, the rule for it, and the mark of holes that lack it
unfoldable pub tool_end : List ℕ → ℤ → List ℕ → List ℕ
tool_end least rule mark = least ++ (next_cell ++ (short_millimetres rule ++ (next_cell ++ (mark ++ codes "</td></tr>\n"))))

-- the row of the holes of one drill file and diameter on one layer, by the line of a measure for them
abbrev pub tool_row : List (List ℕ) → GridRules → RingLine → List ℕ
tool_row names rules line =
    tool_start (escaped_name (name_of names line.layer)) (escaped_name (name_of names line.drill)) line.diameter
    ++ (tool_counts line.holes line.bare ++ tool_end (least_words line.least) (pos rules.ring) (mark_words (pos rules.ring) line.bare line.least))

-- the rows of the tool table, in the order of the measure: by layer, drill file and diameter
abbrev pub tool_rows : List (List ℕ) → GridRules → List RingLine → List ℕ
tool_rows names rules tools = flat_map (tool_row names rules) tools

-- ---- the page

-- the number of findings
abbrev pub finding_count : BoardReport → ℕ
finding_count report = length report.rings.items + length report.gaps.items

-- the head of a page: its title, its style, the verdict, a warning of each drill file whose own comments contradict its role, the particulars, the
-- files and what a pass promises
abbrev pub head_text : List (List ℕ) → Particulars → List FileSum → List RoleConflict → GridRules → ℕ → ℕ → List ℕ
head_text names about files conflicts rules findings waived =
    (HEAD.now ++ (verdict findings waived ++ (BEFORE_STYLE.now ++ (STYLE.now ++ BODY.now))))
    ++ ((verdict findings waived ++ (BEFORE_RULES.now ++ flat_map (conflict_warning names) conflicts))
    ++ (particulars_text about rules findings ++ files_text rules.profile names files))

-- the picture: the buttons of the layers, and the element `svg` of the drawing
abbrev pub picture_text : List (List ℕ) → List LayerHead → List ℕ → List ℕ
picture_text names layers svg = TOOLS.now ++ (flat_map (layer_button names) layers ++ (FIGURE.now ++ svg))

-- the table of the findings, the tool table, and the script that the page ends with
abbrev pub tables_text : List (List ℕ) → BoardReport → List (Option (Bor (List ℕ))) → List (Option (Bor (List ℕ))) → List RingLine → List ℕ
tables_text names report rings gaps tools =
    (CAPTION.now ++ (count_words (finding_count report) ++ (COLUMNS.now ++ table_rows names report rings gaps)))
    ++ (TOOL_COLUMNS.now ++ (tool_rows names report.rules tools ++ (BEFORE_SCRIPT.now ++ (SCRIPT.now ++ END.now))))

-- the text of a page, by the lines of a measure for its tool table and by the element `svg` of its drawing; `names` are those of the package's files
abbrev pub html_text : List (List ℕ) → Particulars → List FileSum → BoardReport → Acceptances → List RingLine → List ℕ → List ℕ
html_text names about files report accepted tools svg =
    head_text names about files report.conflicts.items report.rules (finding_count report) (waived_in report accepted.rings.now accepted.gaps.now)
    ++ (picture_text names report.layers.items svg ++ tables_text names report accepted.rings.now accepted.gaps.now tools)

-- what a page prints
abbrev pub page_text : HtmlReport → List ℕ
page_text page =
    html_text (map (λ name. name.now) page.names.now) page.about.now page.files.now page.report.now page.accepted.now page.tools.items (svg_text page.drawing)

-- a text is the page of a report, with the drawing of a board under the rules of the report, with the outline that these parts draw, and with a tool
-- table by the measure of the board in the profile of these rules
pub record IsHtmlPage (names : List (List ℕ)) (about : Particulars) (board : BoardView) (outline : List Drawn) (report : BoardReport) (accepted : Acceptances) (text : List ℕ) : Type 0 where
  pub svg : List ℕ
  pub measure : Measure
  pub drawn : IsDrawn names board outline (Some report.rules) (declaration ++ svg)
  pub measured : IsMeasure report.rules.profile board measure
  pub is : text ≡ html_text names about board.files report accepted measure.rings.items svg

-- the start of the marker of a finding, by its number; the link of its row leads to this id: `<g class="finding" id="f27">`
abbrev pub marker_start : ℕ → List ℕ
marker_start number = codes "<g class=\"finding\" id=\"f" ++ (decimal number ++ codes "\">")

-- where a page is that of the report on a board that has a copper file, and a file for each layer, each row has its marker in the picture
abbrev pub EachRowHasItsMarker : Type 0
EachRowHasItsMarker =
    (names : List (List ℕ)) (about : Particulars) (board : BoardView) (outline : List Drawn) (report : BoardReport) (accepted : Acceptances) (text : List ℕ)
    → length board.layers ≡ length board.layer_indexes → 0 < length board.layer_indexes → IsBoardReport report.rules board report → (page : IsHtmlPage names about board outline report accepted text)
    → All (λ number. HasSubslice page.svg (marker_start number)) (row_numbers report)
