-- The text of a panel: its elements, in their order (docs/FORMATS.md, Pictures).
use Rattle.std.specs.Prelude.{ℕ, ℤ, pos, neg_ℤ, ◌+◌, ◌*◌, ◌/◌, ◌+ℤ◌, ◌==◌, Bool, true, false, List, [], ◌++◌, length, take, count_by, codes, decimal, if◌then◌else◌}
use Rattle.std.specs.List.{flat_map}
use Rattle.grid_units.specs.Points.{GridPoint}
use Rattle.pad_shapes.specs.declared.drawn.Drawn.{Drawn}
use Rattle.pad_shapes.specs.Rounded.{GridRounded}
use Rattle.pad_shapes.specs.declared.pad.Pad.{Pad}
use Rattle.ring_rules.specs.declared.finding.Drilled.{Drilled}
use Rattle.picture.specs.declared.frame.Frame.{Frame}
use Rattle.picture.specs.declared.frame.Pen.{Pen}
use Rattle.picture.specs.declared.frame.Place.{Place}
use Rattle.picture.specs.declared.scene.DrawnFinding.{DrawnFinding}
use Rattle.picture.specs.declared.scene.DrawnFinding.TheVariants.{Ring, Gap}
use Rattle.picture.specs.declared.scene.Scene.{Scene}
use Rattle.picture.specs.Copper.{copper, frame_start}
use Rattle.picture.specs.Escapes.{escaped_name}
use Rattle.picture.specs.Outlines.{outline_text}
use Rattle.picture.specs.Elements.{after, crosses, finding_text, hole_paths, mark, number, text_start}
use Rattle.picture.specs.RoundedPads.{pads_text}

-- the place of a panel on the page: `" transform="translate(5.5 109.5)">`
unfoldable pub translation : ℤ → ℤ → List ℕ
translation x y = after (codes "\" transform=\"translate(") x ++ (after (codes " ") y ++ codes ")\">\n")

-- the start of a panel, by the number of its file: `<g class="layer" data-file="1" transform="translate(5.5 109.5)">`
unfoldable pub panel_start : Place → List ℕ
panel_start p =
    (codes "<g class=\"layer\" data-file=\"" ++ decimal p.file) ++ translation p.x p.y

-- the box of the board: `<rect class="board" x="1.4" y="-88.6" width="107.2" height="87.2"/>`
abbrev pub board_box : Frame → List ℕ
board_box f = frame_start (codes "<rect class=\"board\"") f ++ codes "\"/>\n"

-- the start of a panel's name, 2.5 units above the box: `<text class="name" transform="translate(1.4 -94.4) scale(2.3)">`
abbrev pub name_start : Pen → Frame → List ℕ
name_start pen f = text_start pen (codes "<text class=\"name\" transform=\"translate(") f.left (neg_ℤ (f.top +ℤ pos (pen.unit * 5 / 2)))

-- the start of a panel, to the end of its name
abbrev pub panel_head : Place → Frame → Pen → List ℕ
panel_head place f pen = panel_start place ++ (name_start pen f ++ (escaped_name place.name.now ++ codes "</text>\n"))

-- the start of the note, 0.8 units above the box: `<text class="note" transform="translate(1.4 -90.4) scale(2.3)">`
abbrev pub note_start : Pen → Frame → List ℕ
note_start pen f = text_start pen (codes "<text class=\"note\" transform=\"translate(") f.left (neg_ℤ (f.top +ℤ pos (pen.unit * 4 / 5)))

-- a finding is an insufficient ring, not an insufficient gap
abbrev pub is_ring : DrawnFinding → Bool
is_ring (Ring n h) = true
is_ring (Gap n a b) = false

-- the number of rings that are lacking
abbrev pub ring_count : List DrawnFinding → ℕ
ring_count lacks = count_by is_ring lacks

-- a number with the word for one or for more: `1 pad, ` or `361 pads, `
abbrev pub amount : ℕ → List ℕ → List ℕ → List ℕ
amount count one more = decimal count ++ (if count == 1 then one else more)

-- the number of pads and of other flashes: `361 pads, 1 other`
abbrev pub flash_words : ℕ → ℕ → List ℕ
flash_words pads other = amount pads (codes " pad, ") (codes " pads, ") ++ (decimal other ++ codes " other")

-- the number of all pads of a scene
abbrev pub pad_count : Scene → ℕ
pad_count scene = length scene.pads.items + length scene.rounded.items

-- these numbers of a scene; in a crowded one `more than 100000 flashes and holes`
abbrev pub drawn_words : Scene → List ℕ
drawn_words scene =
    if scene.crowded then codes "more than 100000 flashes and holes" else flash_words (pad_count scene) (length scene.crosses.items)

-- the number of rings that are too small: `, 2 rings too small`; nothing where there are no rules
abbrev pub lacking_words : Pen → ℕ → List ℕ
lacking_words pen count = if pen.has_rules then codes ", " ++ amount count (codes " ring too small") (codes " rings too small") else []

-- the note of a panel: `361 pads, 1 other, 2 rings too small</text>`
unfoldable pub note : Pen → Scene → List ℕ
note pen scene = drawn_words scene ++ (lacking_words pen (ring_count scene.lacks.items) ++ codes "</text>\n")

-- after the name of a panel: the note and the box
abbrev pub after_name : Pen → Frame → Scene → List ℕ
after_name pen f scene = note_start pen f ++ (note pen scene ++ board_box f)

-- the findings that are marked and numbered: the first hundred
abbrev pub marked_findings : List DrawnFinding → List DrawnFinding
marked_findings lacks = take 100 lacks

-- the marks of some findings, then their numbers
abbrev pub marks_text : Pen → Place → List DrawnFinding → List ℕ
marks_text pen place lacks = flat_map (mark pen place) lacks ++ flat_map (number pen place) lacks

-- the findings of a panel: a group with the ring or gap for each, then the marks, then the numbers
abbrev pub lacks_text : Pen → Place → List DrawnFinding → List ℕ
lacks_text pen place lacks = flat_map (finding_text pen place) lacks ++ marks_text pen place (marked_findings lacks)

-- what is below the pads: what is drawn, clipped to the box, and the outline of the board
unfoldable pub ground_text : Pen → Frame → List Drawn → List Drawn → List ℕ
ground_text pen frame drawn outline = copper frame drawn ++ outline_text pen outline

-- the contents of a panel: what is below the pads, then pads, crosses, holes and findings
abbrev pub scene_text : Pen → Place → Frame → List Drawn → List Drawn → List Pad → List GridRounded → List GridPoint → List Drilled → List DrawnFinding → List ℕ
scene_text pen place frame drawn outline pads rounded points holes lacks =
    ground_text pen frame drawn outline ++ (pads_text pads rounded ++ (crosses pen points ++ (hole_paths pen holes ++ lacks_text pen place lacks)))

-- the end of a panel
abbrev pub panel_end : List ℕ
panel_end = codes "</g>\n"

-- the text of a panel
abbrev pub panel_text : Place → Frame → Pen → Scene → List ℕ
panel_text place frame pen scene =
    panel_head place frame pen
    ++ (after_name pen frame scene
    ++ (scene_text pen place frame scene.drawn.now scene.outline.now scene.pads.items scene.rounded.items scene.crosses.items scene.holes.now scene.lacks.items
    ++ panel_end))
