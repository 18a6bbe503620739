-- The drawing of a board, a panel for each copper file, and the text of its page (docs/FORMATS.md, Pictures). Lengths are whole picometres.
use Rattle.std.specs.Prelude.{ℕ, pos, ◌+◌, ◌*◌, ◌/◌, ◌==◌, List, ◌++◌, codes, decimal, Option, None, Some, if◌then◌else◌, ◌≡◌, ◌-◌, ◌^◌, ◌+ℤ◌, ◌-ℤ◌, min, [], length, get_or, IsPermutation}
use Rattle.std.specs.List.{flat_map, AllZip, enumerate_from}
use Rattle.grid_units.specs.Holes.{GridRules}
use Rattle.grid_units.specs.declared.profile.Profile.{Profile}
use Rattle.grid_units.specs.declared.profile.Profile.TheVariants.{Strict, Wide}
use Rattle.grid_units.specs.LengthWords.{short_millimetres}
use Rattle.picture.specs.Panels.{panel_text}
use Rattle.drawing.specs.declared.layout.Layout.{Layout}
use Rattle.drawing.specs.declared.panels.Panel.{Panel}
use Rattle.drawing.specs.Layouts.{boxes_end, page_height, page_width, pixels, IsLayout, box_left, box_top}
use Rattle.pad_shapes.specs.declared.drawn.Drawn.{Drawn}
use Rattle.pad_shapes.specs.declared.wide_pad.WidePad.{WidePad}
use Rattle.pad_shapes.specs.declared.row.FeatureRow.{FeatureRow}
use Rattle.ring_rules.specs.declared.finding.Drilled.{Drilled}
use Rattle.ring_rules.specs.declared.finding.Finding.{Finding}
use Rattle.board.specs.Boards.{BoardView, board_findings}
use Rattle.picture.specs.Scenes.{AreSortedBySize, crosses_of, is_crowded, drawn_findings, plain_pads, rounded_pads, shown_copper, unless_crowded}
use Rattle.picture.specs.declared.scene.Scene.{Scene}
use Rattle.picture.specs.Outlines.{shown_outline}
use Rattle.drawing.specs.Boxes.{board_extent, outlined_extent}
use Rattle.drawing.specs.declared.draw.Drawing.{Drawing}

-- words, then a length in millimetres: `h20`
abbrev pub length_label : List ℕ → ℕ → List ℕ
length_label words length = words ++ short_millimetres (pos length)

-- words, then a whole number: `" height="1200`
abbrev pub labelled_count : List ℕ → ℕ → List ℕ
labelled_count words number = words ++ decimal number

-- ---- the start

-- the style sheet, by which elements look as their classes say, and the white ground of the page
unfoldable pub style_words : List ℕ
style_words = codes "<style>text{fill:#222;font-size:1.25px}.title{font-size:1.75px;font-weight:bold}.name{font-size:1.5px;font-weight:bold}.board{fill:#fbfaf6;stroke:#999;stroke-width:.08em}.pad{fill:#d8a35d}.line{fill:none;stroke:#d8a35d;stroke-linecap:round}.other{fill:none;stroke:#6a6a6a}.plated,.unplated{fill:#fff;stroke:#333}.unplated{stroke-dasharray:.24em}.rim{fill:none;stroke:#333;stroke-linecap:round}.slot{fill:none;stroke:#fff;stroke-linecap:round}circle.ring{fill:#d4001a;fill-opacity:.35;stroke:#d4001a}path.ring{fill:none;stroke:#d4001a;stroke-opacity:.35;stroke-linecap:round}.mark{fill:none;stroke:#d4001a}.gap{fill:none;stroke:#7a00c8;stroke-linecap:round}.number{fill:#d4001a;font-weight:bold;stroke:#fff;stroke-width:.24em;paint-order:stroke}.scale{fill:none;stroke:#222;stroke-width:.16em}</style>\n<rect width=\"100%\" height=\"100%\" fill=\"#fff\"/>\n"

-- the size of the letters, and the page in pixels: ` font-size="2.906666666" width="727" height="1200`
unfoldable pub sizes_words : ℕ → ℕ → ℕ → List ℕ
sizes_words size width height = length_label (codes " font-size=\"") size ++ (labelled_count (codes "\" width=\"") width ++ labelled_count (codes "\" height=\"") height)

-- the page in millimetres: `" viewBox="0 0 139.51999998 230.207999992">`
unfoldable pub view_words : ℕ → ℕ → List ℕ
view_words width height = length_label (codes "\" viewBox=\"0 0 ") width ++ (length_label (codes " ") height ++ codes "\">\n")

-- the start of a page: that of the element `svg`, and the style
abbrev pub page_start : Layout → List ℕ
page_start l =
    codes "<svg xmlns=\"http://www.w3.org/2000/svg\" font-family=\"sans-serif\""
    ++ (sizes_words (5 * l.pen.unit / 4) (pixels l (page_width l)) (pixels l (page_height l)) ++ (view_words (page_width l) (page_height l) ++ style_words))

-- ---- the title

-- the number of findings: `PASS`, `1 finding` or `6 findings`
abbrev pub found_words : ℕ → List ℕ
found_words count = if count == 0 then codes "PASS" else if count == 1 then codes "1 finding" else decimal count ++ codes " findings"

-- the profile of the findings, after the rules: ` mm, profile strict: `
abbrev pub profile_words : Profile → List ℕ
profile_words Strict = codes " mm, profile strict: "
profile_words Wide = codes " mm, profile wide: "

-- the rules and the profile: `ring 0.15 mm, gap 0.25 mm, profile strict: `
unfoldable pub rules_words : ℕ → ℕ → Profile → List ℕ
rules_words ring gap profile = length_label (codes "ring ") ring ++ (length_label (codes " mm, gap ") gap ++ profile_words profile)

-- the words of the title: `ring 0.15 mm, gap 0.25 mm, profile strict: 6 findings`, or `no rules`
abbrev pub title_words : Option GridRules → ℕ → List ℕ
title_words None count = codes "no rules"
title_words (Some rules) count = rules_words rules.ring rules.gap rules.profile ++ found_words count

-- the start of a text after its first words: its place, and the unit that scales its letters: `6.9 6.9) scale(2.3)">`
unfoldable pub text_start : List ℕ → ℕ → ℕ → ℕ → List ℕ
text_start words x y unit = length_label words x ++ (length_label (codes " ") y ++ (length_label (codes ") scale(") unit ++ codes ")\">"))

-- the end of a text
abbrev pub text_end : List ℕ
text_end = codes "</text>\n"

-- the title: `<text class="title" transform="translate(6.9 6.9) scale(2.3)">no rules</text>`
abbrev pub title : Layout → Option GridRules → ℕ → List ℕ
title l given_rules count =
    text_start (codes "<text class=\"title\" transform=\"translate(") (3 * l.pen.unit) (3 * l.pen.unit) l.pen.unit ++ (title_words given_rules count ++ text_end)

-- ---- the scale and the legend

-- a bar from its left end: `<path class="scale" d="M6.9 213.9h20"/>`
unfoldable pub bar_at : ℕ → ℕ → ℕ → List ℕ
bar_at x y bar = length_label (codes "<path class=\"scale\" d=\"M") x ++ (length_label (codes " ") y ++ (length_label (codes "h") bar ++ codes "\"/>\n"))

-- the length of a bar, and the end of its text: `20 mm</text>`
abbrev pub length_words : ℕ → List ℕ
length_words bar = short_millimetres (pos bar) ++ codes " mm</text>\n"

-- the scale: its bar and the length of the bar, `<text transform="translate(29.3 214.8) scale(2.3)">20 mm</text>`
abbrev pub scale : Layout → List ℕ
scale l =
    bar_at (3 * l.pen.unit) (boxes_end l + 3 * l.pen.unit) l.bar
    ++ (text_start (codes "<text transform=\"translate(") (4 * l.pen.unit + l.bar) (boxes_end l + 17 * l.pen.unit / 5) l.pen.unit ++ length_words l.bar)

-- after the start of the legend: its samples and their words, in units, and the end of the page
unfoldable pub legend_words : List ℕ
legend_words = codes "\n<circle class=\"pad\" r=\".6\"/>\n<text x=\"1.2\" y=\".4\">pad</text>\n<path class=\"other\" stroke-width=\".2\" d=\"M-.5 2.5h1M0 2v1\"/>\n<text x=\"1.2\" y=\"2.9\">flash not counted as a pad</text>\n<circle class=\"plated\" cx=\"20\" r=\".5\" stroke-width=\".1\"/>\n<text x=\"21.2\" y=\".4\">plated hole</text>\n<circle class=\"unplated\" cx=\"20\" cy=\"2.5\" r=\".5\" stroke-width=\".1\"/>\n<text x=\"21.2\" y=\"2.9\">unplated hole</text>\n<circle class=\"ring\" cx=\"33\" r=\".6\" stroke-width=\".1\"/>\n<text x=\"34.2\" y=\".4\">ring too small</text>\n<path class=\"gap\" stroke-width=\".3\" d=\"M32.5 2.5h1\"/>\n<text x=\"34.2\" y=\"2.9\">holes too close</text>\n</g>\n</svg>\n"

-- the legend, at its place and with its unit, `<g class="legend" font-size="1.25" transform="translate(9.3 220.9) scale(2.3)">`, and the end of the page
abbrev pub legend : Layout → List ℕ
legend l = text_start (codes "<g class=\"legend\" font-size=\"1.25\" transform=\"translate(") (4 * l.pen.unit) (boxes_end l + 6 * l.pen.unit) l.pen.unit ++ legend_words

-- ---- the page

-- the text before the panels: the start of the page and the title
abbrev pub before_panels : Layout → Option GridRules → ℕ → List ℕ
before_panels l given_rules count = page_start l ++ title l given_rules count

-- the text after the panels: the scale, the legend and the end of the page
abbrev pub after_panels : Layout → List ℕ
after_panels l = scale l ++ legend l

-- the text of one panel
abbrev pub text_of_panel : Layout → Panel → List ℕ
text_of_panel l panel = panel_text panel.place l.frame l.pen panel.scene

-- the text of a page, by its layout, its rules, the number of its findings and its panels
abbrev pub page_text : Layout → Option GridRules → ℕ → List Panel → List ℕ
page_text l given_rules count panels = (before_panels l given_rules count ++ flat_map (text_of_panel l) panels) ++ after_panels l

-- the findings under the rules; none where no rules are given
abbrev pub findings_under : Option GridRules → BoardView → List Finding
findings_under None board = []
findings_under (Some rules) board = board_findings rules board

-- the contents of a layer's panel, by the layer's place among the copper files, from 0; `edge` are the parts of the board's outline
pub record IsScene (layer : ℕ) (rows : List FeatureRow) (pads : List WidePad) (copper edge : List Drawn) (drilled : List Drilled) (findings : List Finding) (scene : Scene) : Type 0 where
  pub crowded : scene.crowded ≡ is_crowded rows drilled
  pub drawn : scene.drawn.now ≡ shown_copper scene.crowded copper
  pub outline : scene.outline.now ≡ edge
  pub plain : IsPermutation (plain_pads (unless_crowded scene.crowded pads)) scene.pads.items
  pub order : AreSortedBySize scene.pads.items
  pub rounded : scene.rounded.items ≡ rounded_pads (unless_crowded scene.crowded pads)
  pub crosses : scene.crosses.items ≡ crosses_of (unless_crowded scene.crowded rows)
  pub holes : scene.holes.now ≡ unless_crowded scene.crowded drilled
  pub lacks : scene.lacks.items ≡ drawn_findings layer drilled findings

-- the number of a file, from 1, by its index from 0; at most 2^64 - 1
abbrev pub number_of : ℕ → ℕ
number_of file = min (file + 1) (2 ^ 64 - 1)

-- the panel of a layer, by its place among the copper files, from 0, and the index of its file; `edge` are the parts of the board's outline
pub record IsPanel (names : List (List ℕ)) (board : BoardView) (edge : List Drawn) (findings : List Finding) (l : Layout) (at : ℕ × ℕ) (panel : Panel) : Type 0 where
  pub file : panel.place.file ≡ number_of at.1
  pub name : panel.place.name.now ≡ get_or names at.1 []
  pub first : panel.place.first ≡ (at.0 == 0)
  pub x : panel.place.x ≡ pos (box_left l at.0) -ℤ l.frame.left
  pub y : panel.place.y ≡ pos (box_top l at.0) +ℤ l.frame.top
  pub scene : IsScene at.0 (get_or board.rows at.1 []) (get_or board.layers at.0 []) (get_or board.drawn at.1 []) edge board.holes findings panel.scene

-- the contents of a board's page, with these parts of its outline, under rules if there are any; `names` are those of its files, in order
pub record IsPage (names : List (List ℕ)) (board : BoardView) (edge : List Drawn) (given_rules : Option GridRules) (drawing : Drawing) : Type 0 where
  pub laid : IsLayout (outlined_extent (board_extent board) edge) (length board.layer_indexes) given_rules drawing.layout
  pub under : drawing.rules ≡ given_rules
  pub drawn : AllZip (IsPanel names board edge (findings_under given_rules board) drawing.layout) (enumerate_from 0 board.layer_indexes) drawing.panels.items
  pub counted : drawing.count ≡ length (findings_under given_rules board)

-- the element `svg` of a drawing, as it may stand within a page of HTML
abbrev pub svg_text : Drawing → List ℕ
svg_text d = page_text d.layout d.rules d.count d.panels.items

-- the XML declaration
abbrev pub declaration : List ℕ
declaration = codes "<?xml version=\"1.0\" encoding=\"UTF-8\"?>\n"

-- the text of a drawing: the XML declaration, and its page
abbrev pub drawing_text : Drawing → List ℕ
drawing_text d = declaration ++ svg_text d

-- a text is the page of a board with the outline that these parts draw, under rules if there are any; `names` are those of its files, in order
pub record IsDrawn (names : List (List ℕ)) (board : BoardView) (outline : List Drawn) (given_rules : Option GridRules) (text : List ℕ) : Type 0 where
  pub drawing : Drawing
  pub shows : IsPage names board (shown_outline outline) given_rules drawing
  pub is : text ≡ drawing_text drawing
