-- The elements of a picture (docs/FORMATS.md, Pictures). Lengths are whole pm, printed in mm without zeros at the end; y grows downwards.
use Rattle.std.specs.Prelude.{ℕ, ℤ, pos, neg_ℤ, ◌+◌, ◌-◌, ◌*◌, ◌/◌, ◌%◌, ◌+ℤ◌, ◌-ℤ◌, int_div, min, max, ◌==◌, ◌&&◌, ◌||◌, nat_le, not, Bool, false, List, [], ◌++◌, length, slice_get, codes, decimal, Option, Some, if◌then◌else◌}
use Rattle.std.specs.List.{enumerate_from, flat_map}
use Rattle.grid_units.specs.Holes.{GridHole, is_round}
use Rattle.grid_units.specs.Points.{GridPoint}
use Rattle.pad_shapes.specs.Shapes.{GridRect, GridObround}
use Rattle.pad_shapes.specs.Pads.{pad_height, pad_width}
use Rattle.pad_shapes.specs.declared.pad.Pad.{Pad}
use Rattle.pad_shapes.specs.declared.pad.Pad.TheVariants as pads
use Rattle.grid_units.specs.HoleWords.{drilled_words}
use Rattle.grid_units.specs.LengthWords.{short_millimetres}
use Rattle.ring_rules.specs.declared.finding.Drilled.{Drilled}
use Rattle.picture.specs.Escapes.{escaped_name}
use Rattle.picture.specs.declared.frame.Pen.{Pen}
use Rattle.picture.specs.declared.frame.Place.{Place}
use Rattle.picture.specs.declared.scene.DrawnFinding.{DrawnFinding}
use Rattle.picture.specs.declared.scene.DrawnFinding.TheVariants.{Ring, Gap}

-- ---- the forms of elements

-- words, then a length in millimetres: `" cx="20`
abbrev pub after : List ℕ → ℤ → List ℕ
after words length = words ++ short_millimetres length

-- a circle, by class, centre, radius and width of its line: `<circle class="ring" cx="20" cy="-78" r="0.65" stroke-width="0.08125"/>`
unfoldable pub circle : List ℕ → ℤ → ℤ → ℤ → ℤ → List ℕ
circle class x y radius width =
    codes "<circle class=\"" ++ (class ++ (after (codes "\" cx=\"") x ++ (after (codes "\" cy=\"") y ++ (after (codes "\" r=\"") radius ++ (after (codes "\" stroke-width=\"") width ++ codes "\"/>\n")))))

-- the start of a path, by its element and the width of its line: `<path class="line" stroke-width="0.6" d="`
unfoldable pub path_open : List ℕ → ℤ → List ℕ
path_open element width = element ++ (after (codes " stroke-width=\"") width ++ codes "\" d=\"")

-- a corner of a path, after the letter that says how it is reached, `M` where the path begins there, `L` by a line: `M8 -24.54`
unfoldable pub corner : List ℕ → ℤ → ℤ → List ℕ
corner letter x y = after letter x ++ after (codes " ") y

-- a point of the board as a corner of a path
abbrev pub point : List ℕ → GridPoint → List ℕ
point letter at = corner letter at.x (neg_ℤ at.y)

-- a line from point to point, as a part of a path: `M1 -2L3 -4`
abbrev pub edge : GridPoint → GridPoint → List ℕ
edge from to = point (codes "M") from ++ point (codes "L") to

-- a straight line as an element, by its start, its width and its ends: `<path class="gap" stroke-width="0.7" d="M46.5 -15L47 -15"/>`
abbrev pub line : List ℕ → ℤ → GridPoint → GridPoint → List ℕ
line element width from to = path_open element width ++ (edge from to ++ codes "\"/>\n")

-- the sides of a rectangle as a part of a path, from its upper left corner, and the way back: `h1.2v0.9h-1.2z`
unfoldable pub sides : ℤ → ℤ → ℤ → List ℕ
sides width height back = after (codes "h") width ++ (after (codes "v") height ++ (after (codes "h") back ++ codes "z"))

-- a rectangle as a part of a path: its upper left corner, its sides, and the way back: `M26.4 -24.45h1.2v0.9h-1.2z`
abbrev pub box : ℤ → ℤ → ℤ → ℤ → ℤ → List ℕ
box x y width height back =
    corner (codes "M") x y ++ sides width height back

-- a part of a path along an axis, `h` along x from its left end, `v` along y from its upper end: `M8 -24.54h2`
unfoldable pub straight_part : List ℕ → ℤ → ℤ → ℤ → List ℕ
straight_part axis x y length = after (codes "M") x ++ (after (codes " ") y ++ after axis length)

-- a half circle as a part of a path, by its radius and the way along x to its end: `a0.375 0.375 0 1 0 0.75 0`
unfoldable pub half_circle : ℤ → ℤ → List ℕ
half_circle radius along = after (codes "a") radius ++ (after (codes " ") radius ++ (after (codes " 0 1 0 ") along ++ codes " 0"))

-- the end of a path, with its title: `"><title>disc 0.6x0.6</title></path>`
abbrev pub path_end : List ℕ → List ℕ
path_end title = codes "\"><title>" ++ (title ++ codes "</title></path>\n")

-- ---- neighbours in a list

-- two elements are there, and alike
abbrev pub both_alike : {X : Type 0} → (X → X → Bool) → Option X → Option X → Bool
both_alike alike (Some a) (Some b) = alike a b
both_alike alike _ _ = false

-- the element at place i is like the one before it
abbrev pub is_like_previous : {X : Type 0} → (X → X → Bool) → List X → ℕ → Bool
is_like_previous alike xs i = both_alike alike (slice_get xs (i - 1)) (slice_get xs i)

-- ---- pads

-- half the width of an obround's line: its lesser half side
abbrev pub half_width : GridObround → ℕ
half_width o = min o.half_x o.half_y

-- the line of an obround, from the centre of one round end to that of the other
abbrev pub obround_line : GridObround → List ℕ
obround_line o =
    if nat_le o.half_y o.half_x then straight_part (codes "h") (o.centre.x -ℤ pos (o.half_x - o.half_y)) (neg_ℤ o.centre.y) (pos (2 * (o.half_x - o.half_y)))
    else straight_part (codes "v") o.centre.x (neg_ℤ (o.centre.y +ℤ pos (o.half_y - o.half_x))) (pos (2 * (o.half_y - o.half_x)))

-- a rectangular pad as a part of a path
abbrev pub rect_box : GridRect → List ℕ
rect_box r =
    box (r.centre.x -ℤ pos r.half_x) (neg_ℤ (r.centre.y +ℤ pos r.half_y)) (pos (2 * r.half_x)) (pos (2 * r.half_y)) (neg_ℤ (pos (2 * r.half_x)))

-- a pad as a part of a path: a disc is a line of length 0, drawn with round ends: `M6 -5h0`
abbrev pub outline : Pad → List ℕ
outline (pads.Disc d) = straight_part (codes "h") d.centre.x (neg_ℤ d.centre.y) (pos 0)
outline (pads.Rect r) = rect_box r
outline (pads.Obround o) = obround_line o

-- the start of the path for pads like this one
abbrev pub pads_start : Pad → List ℕ
pads_start (pads.Disc d) = path_open (codes "<path class=\"line\"") (pos (2 * d.radius))
pads_start (pads.Rect r) = codes "<path class=\"pad\" d=\""
pads_start (pads.Obround o) = path_open (codes "<path class=\"line\"") (pos (2 * half_width o))

-- the kind of a pad: `disc`, `rect` or `obround`
abbrev pub pad_kind : Pad → List ℕ
pad_kind (pads.Disc d) = codes "disc"
pad_kind (pads.Rect r) = codes "rect"
pad_kind (pads.Obround o) = codes "obround"

-- a pad in words, its kind and its sides along x and y: `disc 0.6x0.6`
unfoldable pub pad_words : Pad → List ℕ
pad_words pad = pad_kind pad ++ (after (codes " ") (pos (pad_width pad)) ++ after (codes "x") (pos (pad_height pad)))

-- two pads of one kind and size
abbrev pub are_alike : Pad → Pad → Bool
are_alike (pads.Disc a) (pads.Disc b) = a.radius == b.radius
are_alike (pads.Rect a) (pads.Rect b) = (a.half_x == b.half_x) && (a.half_y == b.half_y)
are_alike (pads.Obround a) (pads.Obround b) = (a.half_x == b.half_x) && (a.half_y == b.half_y)
are_alike _ _ = false

-- a path begins at place i of the pads: at the first, and where the pad before is not like the one there
abbrev pub begins_pads : List Pad → ℕ → Bool
begins_pads pads i = (i == 0) || not (is_like_previous are_alike pads i)

-- a path ends after place i: it is the last, or a path begins at the next
abbrev pub ends_pads : List Pad → ℕ → Bool
ends_pads pads i = (i + 1 == length pads) || begins_pads pads (i + 1)

-- the start of the path that begins at place i, if one does
abbrev pub pads_start_at : List Pad → ℕ × Pad → List ℕ
pads_start_at pads (i, pad) = if begins_pads pads i then pads_start pad else []

-- the end of the path that ends after place i, if one does
abbrev pub pads_end_at : List Pad → ℕ × Pad → List ℕ
pads_end_at pads (i, pad) = if ends_pads pads i then path_end (pad_words pad) else []

-- a pad with its place: its outline, with the start and the end of a path where they belong
unfoldable pub placed_pad : List Pad → ℕ × Pad → List ℕ
placed_pad pads (i, pad) = pads_start_at pads (i, pad) ++ (outline pad ++ pads_end_at pads (i, pad))

-- all pads: a path for each run of pads alike
abbrev pub pad_paths : List Pad → List ℕ
pad_paths pads = flat_map (placed_pad pads) (enumerate_from 0 pads)

-- ---- crosses

-- the length of an arm of a cross
abbrev pub arm : Pen → ℕ
arm pen = pen.unit / 3

-- the horizontal line of a cross: `M19.2 -78h1.5`
abbrev pub cross_bar : Pen → GridPoint → List ℕ
cross_bar pen p = straight_part (codes "h") (p.x -ℤ pos (arm pen)) (neg_ℤ p.y) (pos (2 * arm pen))

-- the vertical line of a cross: `M20 -78.7v1.5`
abbrev pub cross_post : Pen → GridPoint → List ℕ
cross_post pen p = straight_part (codes "v") p.x (neg_ℤ (p.y +ℤ pos (arm pen))) (pos (2 * arm pen))

-- the two lines of a cross
unfoldable pub cross : Pen → GridPoint → List ℕ
cross pen p = cross_bar pen p ++ cross_post pen p

-- the start of the path of crosses: `<path class="other" stroke-width="0.4" d="`
unfoldable pub crosses_start : Pen → List ℕ
crosses_start pen = after (codes "<path class=\"other\" stroke-width=\"") (pos (pen.unit / 5)) ++ codes "\" d=\""

-- the end of the path of crosses, with its title
abbrev pub crosses_end : List ℕ
crosses_end = codes "\"><title>flash not counted as a pad</title></path>\n"

-- the path of all crosses; nothing where there are none
abbrev pub crosses : Pen → List GridPoint → List ℕ
crosses pen points = if length points == 0 then [] else (crosses_start pen ++ flat_map (cross pen) points) ++ crosses_end

-- ---- holes

-- the width of the line round a circle: a tenth of a unit, at most a quarter of its radius
abbrev pub rim : Pen → ℕ → ℕ
rim pen radius = min (pen.unit / 10) (radius / 4)

-- the width of the line round a ring: a tenth of a unit, at most an eighth of its radius
abbrev pub ring_rim : Pen → ℕ → ℕ
ring_rim pen radius = min (pen.unit / 10) (radius / 8)

-- the class of a round hole: `plated` or `unplated`
abbrev pub hole_class : Bool → List ℕ
hole_class plated = if plated then codes "plated" else codes "unplated"

-- the line of a slot from end to end, by its start and half its width: `<path class="slot" stroke-width="0.9" d="M99.1 -80L100.9 -80"/>`
abbrev pub slot : List ℕ → GridHole → ℕ → List ℕ
slot element h half = line element (pos (2 * half)) h.from h.to

-- the left side of a round hole, where its path begins: `M0.625 -2`
abbrev pub left_side : GridHole → List ℕ
left_side h = corner (codes "M") (h.from.x -ℤ pos h.radius) (neg_ℤ h.from.y)

-- the half circle from the left side of a round hole to its right side: `a0.375 0.375 0 1 0 0.75 0`
abbrev pub way_there : GridHole → List ℕ
way_there h = half_circle (pos h.radius) (pos (2 * h.radius))

-- the half circle from its right side back: `a0.375 0.375 0 1 0 -0.75 0`
abbrev pub way_back : GridHole → List ℕ
way_back h = half_circle (pos h.radius) (neg_ℤ (pos (2 * h.radius)))

-- a round hole as a part of a path: from its left side by two half circles to the right side and back: `M0.625 -2a0.375 0.375 0 1 0 0.75 0a0.375 0.375 0 1 0 -0.75 0z`
abbrev pub round_hole : GridHole → List ℕ
round_hole h = left_side h ++ (way_there h ++ (way_back h ++ codes "z"))

-- the two lines of a slot: `rim`, and the narrower `slot` on it
abbrev pub long_hole : Pen → GridHole → List ℕ
long_hole pen h = slot (codes "<path class=\"rim\"") h h.radius ++ slot (codes "<path class=\"slot\"") h (h.radius - rim pen h.radius)

-- a hole: a part of a path, or the two lines of a slot
unfoldable pub hole : Pen → Drilled → List ℕ
hole pen d =
    if is_round d.hole then round_hole d.hole else long_hole pen d.hole

-- the class and the diameter of some holes in words: `plated hole, 0.75`
unfoldable pub diameter_words : List ℕ → ℤ → List ℕ
diameter_words class diameter = class ++ (codes " hole, " ++ short_millimetres diameter)

-- a hole in words: `plated hole, 0.75`
abbrev pub hole_words : Drilled → List ℕ
hole_words d = diameter_words (hole_class d.plated) (pos (2 * d.hole.radius))

-- the start of a path of round holes, by their class and the width of the line round each: `<path class="plated" stroke-width="0.09375" d="`
unfoldable pub round_start : List ℕ → ℤ → List ℕ
round_start class width = codes "<path class=\"" ++ (class ++ (after (codes "\" stroke-width=\"") width ++ codes "\" d=\""))

-- the start of a group, with its title: `<g><title>plated hole, 0.75</title>`
abbrev pub group_start : List ℕ → List ℕ
group_start title = codes "<g><title>" ++ (title ++ codes "</title>\n")

-- the end of a group
abbrev pub group_end : List ℕ
group_end = codes "</g>\n"

-- the start of the path for round holes like this one, or of the group for slots like it
abbrev pub holes_start : Pen → Drilled → List ℕ
holes_start pen d = if is_round d.hole then round_start (hole_class d.plated) (pos (rim pen d.hole.radius)) else group_start (hole_words d)

-- the end of it: of a path with the title
abbrev pub holes_end : Drilled → List ℕ
holes_end d = if is_round d.hole then path_end (hole_words d) else group_end

-- two holes of one diameter, both plated or both not, both round or both slots
abbrev pub are_alike_holes : Drilled → Drilled → Bool
are_alike_holes a b =
    (a.hole.radius == b.hole.radius) && ((if a.plated then b.plated else not b.plated) && (if is_round a.hole then is_round b.hole else not (is_round b.hole)))

-- a path or a group begins at place i of the holes: at each 250th from the first, and where the hole before is not like the one there
abbrev pub begins_holes : List Drilled → ℕ → Bool
begins_holes holes i = (i % 250 == 0) || not (is_like_previous are_alike_holes holes i)

-- a path or a group ends after place i: it is the last, or one begins at the next
abbrev pub ends_holes : List Drilled → ℕ → Bool
ends_holes holes i = (i + 1 == length holes) || begins_holes holes (i + 1)

-- the start of the path or group that begins at place i, if one does
abbrev pub holes_start_at : Pen → List Drilled → ℕ × Drilled → List ℕ
holes_start_at pen holes (i, d) = if begins_holes holes i then holes_start pen d else []

-- the end of the path or group that ends after place i, if one does
abbrev pub holes_end_at : List Drilled → ℕ × Drilled → List ℕ
holes_end_at holes (i, d) = if ends_holes holes i then holes_end d else []

-- a hole with its place: its shape, with the start and the end of a path or group where they belong
unfoldable pub placed_hole : Pen → List Drilled → ℕ × Drilled → List ℕ
placed_hole pen holes (i, d) = holes_start_at pen holes (i, d) ++ (hole pen d ++ holes_end_at holes (i, d))

-- all holes: for each run of holes alike paths of round holes, or groups of slots, with at most 250 in each
abbrev pub hole_paths : Pen → List Drilled → List ℕ
hole_paths pen holes = flat_map (placed_hole pen holes) (enumerate_from 0 holes)

-- ---- findings

-- the required ring of a hole that lacks it: a circle round the hole, for a slot a wide line
abbrev pub ring : Pen → GridHole → List ℕ
ring pen h =
    if is_round h then circle (codes "ring") h.from.x (neg_ℤ h.from.y) (pos (h.radius + pen.ring)) (pos (ring_rim pen (h.radius + pen.ring)))
    else slot (codes "<path class=\"ring\"") h (h.radius + pen.ring)

-- halfway between two coordinates, rounded towards 0: of 1 and 4 it is 2
abbrev pub halfway : ℤ → ℤ → ℤ
halfway a b = int_div (a +ℤ b) (pos 2)

-- the point halfway between two
abbrev pub midpoint : GridPoint → GridPoint → GridPoint
midpoint a b = record { x = halfway a.x b.x; y = halfway a.y b.y }

-- the middle of a hole
abbrev pub middle : GridHole → GridPoint
middle h = midpoint h.from h.to

-- the gap that is lacking between two holes, drawn from middle to middle
abbrev pub gap : Pen → GridHole → GridHole → List ℕ
gap pen a b = line (codes "<path class=\"gap\"") (pos (pen.unit * 3 / 10)) (middle a) (middle b)

-- the element of a finding: its ring or its gap
unfoldable pub lack : Pen → DrawnFinding → List ℕ
lack pen (Ring n h) = ring pen h
lack pen (Gap n a b) = gap pen a b

-- ---- titles of findings

-- the number of a finding among all, from 1
abbrev pub number_of : DrawnFinding → ℕ
number_of (Ring n h) = n
number_of (Gap n a b) = n

-- a ring that is lacking, by the name of the layer's file, the rule and the hole: `annular ring on top (rule 0.15): hole 0.75 at 142.24,-97.79`
unfoldable pub ring_words : List ℕ → ℤ → GridHole → List ℕ
ring_words name rule h = codes "annular ring on " ++ (name ++ (codes " (rule " ++ (short_millimetres rule ++ (codes "): hole " ++ drilled_words h))))

-- a gap that is lacking, by its two holes: `gap too small: hole 0.4 at 0,0, and hole 0.4 at 0.6,0`
unfoldable pub gap_words : GridHole → GridHole → List ℕ
gap_words a b = codes "gap too small: hole " ++ (drilled_words a ++ (codes ", and hole " ++ drilled_words b))

-- what is lacking
abbrev pub lack_words : Pen → Place → DrawnFinding → List ℕ
lack_words pen place (Ring n h) = ring_words (escaped_name place.name.now) (pos pen.ring) h
lack_words pen place (Gap n a b) = gap_words a b

-- a finding in words: its number and what is lacking: `#27 annular ring on top (rule 0.15): hole 0.75 at 142.24,-97.79`
unfoldable pub finding_words : Pen → Place → DrawnFinding → List ℕ
finding_words pen place found = codes "#" ++ (decimal (number_of found) ++ (codes " " ++ lack_words pen place found))

-- the attribute by which a finding is named: `id`, which no two elements of a page share. A ring is in one panel. A gap is in each,
-- and its `id` is in the first one
abbrev pub id_attribute : Place → DrawnFinding → List ℕ
id_attribute place (Ring n h) = codes "id"
id_attribute place (Gap n a b) = if place.first then codes "id" else codes "data-id"

-- the start of the group of a finding: `<g class="finding" id="f27"><title>#27 gap too small: hole 0.4 at 0,0, and hole 0.4 at 0.6,0</title>`
unfoldable pub finding_start : List ℕ → ℕ → List ℕ → List ℕ
finding_start attribute n words =
    codes "<g class=\"finding\" " ++ (attribute ++ (codes "=\"f" ++ (decimal n ++ (codes "\"><title>" ++ (words ++ codes "</title>\n")))))

-- the group of a finding: its name, its title, and its ring or gap
abbrev pub finding_text : Pen → Place → DrawnFinding → List ℕ
finding_text pen place found =
    finding_start (id_attribute place found) (number_of found) (finding_words pen place found) ++ (lack pen found ++ group_end)

-- ---- marks and numbers

-- a finding's place: the middle of its hole, or halfway between those of its two holes
abbrev pub place_of : DrawnFinding → GridPoint
place_of (Ring n h) = middle h
place_of (Gap n a b) = midpoint (middle a) (middle b)

-- how far a finding's element reaches from its place: the radius with the ring, of a gap 0
abbrev pub reach : Pen → DrawnFinding → ℕ
reach pen (Ring n h) = h.radius + pen.ring
reach pen (Gap n a b) = 0

-- the radius of a mark: half a unit more than this reach, and at least a unit
abbrev pub mark_radius : Pen → DrawnFinding → ℕ
mark_radius pen found = max (reach pen found + pen.unit / 2) pen.unit

-- the circle round a finding: `<circle class="mark" cx="20" cy="-78" r="2.3" stroke-width="0.4"/>`
abbrev pub mark_circle : Pen → DrawnFinding → List ℕ
mark_circle pen found = circle (codes "mark") (place_of found).x (neg_ℤ (place_of found).y) (pos (mark_radius pen found)) (pos (pen.unit / 5))

-- the mark of a finding: a group with its title and its circle
unfoldable pub mark : Pen → Place → DrawnFinding → List ℕ
mark pen place found = group_start (finding_words pen place found) ++ (mark_circle pen found ++ group_end)

-- the start of a text after its first words: its place, and the unit that scales its letters: `1.4 -94.4) scale(2.3)">`
unfoldable pub text_start : Pen → List ℕ → ℤ → ℤ → List ℕ
text_start pen words x y = after words x ++ (after (codes " ") y ++ (after (codes ") scale(") (pos pen.unit) ++ codes ")\">"))

-- a number at a place, with a title: `<text class="number" transform="translate(16.6 -14.6) scale(2.3)"><title>..</title>3</text>`
unfoldable pub number_at : Pen → ℤ → ℤ → ℕ → List ℕ → List ℕ
number_at pen x y n words =
    text_start pen (codes "<text class=\"number\" transform=\"translate(") x y ++ (codes "<title>" ++ (words ++ (codes "</title>" ++ (decimal n ++ codes "</text>\n"))))

-- the distance of a finding's number from its place, to the right and upwards: seven tenths of the mark's radius
abbrev pub number_offset : Pen → DrawnFinding → ℕ
number_offset pen found = mark_radius pen found * 7 / 10

-- the number of a finding, at the upper right of its mark, with its title
unfoldable pub number : Pen → Place → DrawnFinding → List ℕ
number pen place found =
    number_at pen ((place_of found).x +ℤ pos (number_offset pen found)) (neg_ℤ ((place_of found).y +ℤ pos (number_offset pen found))) (number_of found) (finding_words pen place found)
