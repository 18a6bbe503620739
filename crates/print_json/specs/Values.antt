-- Values of JSON, from the smallest up (docs/FORMATS.md, JSON). Lengths are whole pm. JSON numbers files and holes from 1, definitions
-- number files from 0.
use Rattle.std.specs.Prelude.{ℕ, ℤ, pos, ◌+◌, ◌-◌, ◌*◌, ◌++◌, Bool, true, false, List, [], ◌∷◌, codes, decimal, drop, Option, Some, None, option_map, slice_get, if◌then◌else◌}
use Rattle.grid_units.specs.declared.profile.Profile.{Profile}
use Rattle.grid_units.specs.declared.profile.Profile.TheVariants.{Strict, Wide}
use Rattle.std.specs.Borrow.{Bor}
use Rattle.std.specs.Fmt.{signed_decimal}
use Rattle.json.specs.Json.{Json, null, boolean, number, string, array, object, Items, no_items, item, Members, no_members, member}
use Rattle.json.specs.Print.{print}
use Rattle.json.specs.Tree.{json_tokens}
use Rattle.grid_units.specs.Holes.{GridHole, GridRules}
use Rattle.grid_units.specs.Points.{GridPoint}
use Rattle.grid_units.specs.Spans.{LayerSpan}
use Rattle.pad_shapes.specs.declared.row.Why.{Why}
use Rattle.pad_shapes.specs.declared.row.Why.TheVariants as why
use Rattle.board.specs.declared.met.Met.{Met}
use Rattle.board.specs.declared.met.Met.TheVariants as mets
use Rattle.report.specs.UnitMistakes.{factor_word}
use Rattle.report.specs.declared.GapLine.{GapLine}
use Rattle.report.specs.declared.HolePlace.{HolePlace}
use Rattle.report.specs.declared.Meets.{Meets}
use Rattle.report.specs.declared.RingLine.{RingLine}
use Rattle.report.specs.declared.UnitMistake.{UnitMistake}
use Rattle.print_text.specs.Drilling.{DrillBounds, gap_left, ring_left}
use Rattle.board.specs.Boards.{holes_before}
use Rattle.board.specs.declared.FileSum.{FileSum}
use Rattle.board.specs.declared.FileSum.TheVariants as sums
use Rattle.report.specs.declared.GapLack.{GapLack}
use Rattle.report.specs.declared.PlacedHole.{PlacedHole}
use Rattle.report.specs.declared.LayerHead.{LayerHead}
use Rattle.report.specs.declared.RingCause.{RingCause}
use Rattle.report.specs.declared.RingCause.TheVariants as causes
use Rattle.report.specs.declared.RingLack.{RingLack}
use Rattle.report.specs.Causes.{flash_of, lack_of, ring_of}
use Rattle.ring_rules.specs.declared.finding.Drilled.{Drilled}
use Rattle.grid_units.specs.Ascii as ascii

-- the text of a value: one line with its line end
abbrev pub json_text : Json → List ℕ
json_text value = print (json_tokens value) ++ ascii.line_feed ∷ []

-- the members of an object, as names with values, in order
abbrev pub members_of : List (List ℕ × Json) → Members
members_of [] = no_members
members_of (one ∷ rest) = member one.0 one.1 (members_of rest)

-- an object of these members
abbrev pub object_of : List (List ℕ × Json) → Json
object_of all = object (members_of all)

-- the items of an array, in order
abbrev pub items_of : List Json → Items
items_of [] = no_items
items_of (one ∷ rest) = item one (items_of rest)

-- an array of these values
abbrev pub array_of : List Json → Json
array_of all = array (items_of all)

-- a natural number: `12`
abbrev pub whole : ℕ → Json
whole n = number (decimal n)

-- a length in pm, with a minus below 0: `-400000000`
abbrev pub picometres : ℤ → Json
picometres length = number (signed_decimal length)

-- a word, as a string: `"ringcheck"`
abbrev pub word : List ℕ → Json
word letters = string letters

-- an optional value: null where it is missing, which differs from 0
abbrev pub or_null : {A : Type 0} → (A → Json) → Option A → Json
or_null value None = null
or_null value (Some there) = value there

-- the greatest rule that is met: a length, `"any"` where every rule is met, or `"none"`
abbrev pub met_value : Met → Json
met_value mets.Any = word (codes "any")
met_value (mets.UpTo length) = picometres length
met_value mets.None = word (codes "none")

-- the rules that a package meets: `{"ring_pm":"none","gap_pm":1046051224,"held_pm":275000000}`
unfoldable pub meets_value : Meets → Json
meets_value meets =
    object_of ((codes "ring_pm", met_value meets.ring) ∷ (codes "gap_pm", met_value meets.gap) ∷ (codes "held_pm", met_value meets.in_pads) ∷ [])

-- the rules of a check: `{"ring_pm":100000000,"gap_pm":250000000}`
unfoldable pub rules_value : GridRules → Json
rules_value rules = object_of ((codes "ring_pm", picometres (pos rules.ring)) ∷ (codes "gap_pm", picometres (pos rules.gap)) ∷ [])

-- what drilling leaves of the rules, and the bounds of drilling; null where no ring or no gap is left:
-- `{"off_pm":50000000,"wide_pm":25000000,"ring_pm":75000000,"gap_pm":100000000}`
unfoldable pub drilling_value : GridRules → DrillBounds → Json
drilling_value rules drilling =
    object_of ((codes "off_pm", picometres (pos drilling.off)) ∷ (codes "wide_pm", picometres (pos drilling.wide))
    ∷ (codes "ring_pm", or_null picometres (ring_left rules drilling)) ∷ (codes "gap_pm", or_null picometres (gap_left rules drilling)) ∷ [])

-- the member for it of a report that says it; none of another
abbrev pub drilling_member : GridRules → Option DrillBounds → List (List ℕ × Json)
drilling_member rules None = []
drilling_member rules (Some drilling) = (codes "drilling", drilling_value rules drilling) ∷ []

-- a point: `[142240000000,-97790000000]`
unfoldable pub point_value : GridPoint → Json
point_value at = array_of (picometres at.x ∷ picometres at.y ∷ [])

-- the diameter of a hole: twice its radius
unfoldable pub diameter_of : GridHole → ℕ
diameter_of hole = 2 * hole.radius

-- a hole: `{"drill":2,"hole":1,"from_pm":[0,0],"to_pm":[0,0],"diameter_pm":400000000}`
unfoldable pub hole_value : PlacedHole → Json
hole_value at =
    object_of ((codes "drill", whole (at.place.drill + 1)) ∷ (codes "hole", whole at.place.number) ∷ (codes "from_pm", point_value at.hole.from)
    ∷ (codes "to_pm", point_value at.hole.to) ∷ (codes "diameter_pm", picometres (pos (diameter_of at.hole))) ∷ [])

-- the role of a drill file: `plated` or `unplated`
abbrev pub drill_role : Bool → List ℕ
drill_role plated = if plated then codes "plated" else codes "unplated"

-- a copper file, by its number: `{"number":1,"role":"copper","name":"top","pads":1,"other":0}`
unfoldable pub layer_value : ℕ → List ℕ → ℕ → ℕ → Json
layer_value n name pads other =
    object_of ((codes "number", whole n) ∷ (codes "role", word (codes "copper")) ∷ (codes "name", word name) ∷ (codes "pads", whole pads) ∷ (codes "other", whole other) ∷ [])

-- a copper file in the wide profile: `{"number":1,"role":"copper","name":"top","pads":1,"other":0,"contours":2}`
unfoldable pub wide_layer_value : ℕ → List ℕ → ℕ → ℕ → ℕ → Json
wide_layer_value n name pads other contours =
    object_of ((codes "number", whole n) ∷ (codes "role", word (codes "copper")) ∷ (codes "name", word name) ∷ (codes "pads", whole pads) ∷ (codes "other", whole other)
    ∷ (codes "contours", whole contours) ∷ [])

-- a copper file in a profile
abbrev pub copper_value : Profile → ℕ → List ℕ → ℕ → ℕ → ℕ → Json
copper_value Strict n name pads other contours = layer_value n name pads other
copper_value Wide n name pads other contours = wide_layer_value n name pads other contours

-- the first and the last layer that a drill file's holes go through, by their numbers from 1: `[1,2]`; null where no span is named
abbrev pub span_value : Option LayerSpan → Json
span_value span = or_null (λ layers. array_of (whole layers.first ∷ whole layers.last ∷ [])) span

-- the member of a drill file whose own comments contradict its role: `"contradicted":true`; none of another
abbrev pub contradicted_member : Bool → List (List ℕ × Json)
contradicted_member true = (codes "contradicted", boolean true) ∷ []
contradicted_member false = []

-- a drill file, by its number: `{"number":2,"role":"plated","name":"pth","round":1,"slots":0,"span":null}`; with `"contradicted":true` at its end
-- where its own comments contradict its role
unfoldable pub drill_value : ℕ → List ℕ → Bool → Option LayerSpan → Bool → ℕ → ℕ → Json
drill_value n name plated span contradicted round slots =
    object_of ((codes "number", whole n) ∷ (codes "role", word (drill_role plated)) ∷ (codes "name", word name) ∷ (codes "round", whole round) ∷ (codes "slots", whole slots)
    ∷ (codes "span", span_value span) ∷ contradicted_member contradicted)

-- a mixed drill file, by its number: `{"number":2,"role":"mixed","name":"all","round":2,"slots":0,"unplated":1,"span":null}`
unfoldable pub mixed_value : ℕ → List ℕ → Option LayerSpan → ℕ → ℕ → ℕ → Json
mixed_value n name span round slots unplated =
    object_of ((codes "number", whole n) ∷ (codes "role", word (codes "mixed")) ∷ (codes "name", word name) ∷ (codes "round", whole round) ∷ (codes "slots", whole slots)
    ∷ (codes "unplated", whole unplated) ∷ (codes "span", span_value span) ∷ [])

-- a file of any kind in a profile, by its number
abbrev pub file_value : Profile → ℕ → List ℕ → FileSum → Json
file_value profile n name (sums.Layer pads other contours) = copper_value profile n name pads other contours
file_value profile n name (sums.Drill plated span contradicted round slots) = drill_value n name plated span contradicted round slots
file_value profile n name (sums.Mixed span round slots unplated) = mixed_value n name span round slots unplated

-- a drill file whose coordinates seem to be off by a factor: `{"drill":2,"bare":3,"factor":"25.4","then":0}`
unfoldable pub scale_value : UnitMistake → Json
scale_value line =
    object_of ((codes "drill", whole (line.drill + 1)) ∷ (codes "bare", whole line.bare) ∷ (codes "factor", word (factor_word line.factor)) ∷ (codes "then", whole line.then) ∷ [])

-- the word for the reason why a flash is no pad
abbrev pub reason_word : Why → List ℕ
reason_word why.Macro = codes "macro"
reason_word why.Polygon = codes "polygon"
reason_word why.Holed = codes "holed"
reason_word why.Scaled = codes "scaled"
reason_word why.Turned = codes "turned"

-- the word for the reason why a hole lacks its ring
abbrev pub cause_word : RingCause → List ℕ
cause_word (causes.TooSmall place) = codes "small"
cause_word (causes.OffCentre place) = codes "off"
cause_word (causes.Edge at_edge) = codes "edge"
cause_word (causes.Other why flash) = reason_word why
cause_word (causes.Clear flash) = codes "clear"
cause_word (causes.Cleared flash) = codes "cleared"
cause_word causes.MacroShape = reason_word why.Macro
cause_word causes.DrawnCopper = codes "drawn"
cause_word causes.NoFlash = codes "none"
cause_word causes.Oblique = codes "oblique"

-- the number of a layer's file, by the layer's place among the copper files
abbrev pub layer_number : List LayerHead → ℕ → Option ℕ
layer_number layers layer = option_map (λ head. head.file + 1) (slice_get layers layer)

-- the reason why a finding is accepted; null where it is not
abbrev pub acceptance_value : Option (Bor (List ℕ)) → Json
acceptance_value why = or_null (λ there. word there.now) why

-- an insufficient ring, by the number of its finding:
-- `{"kind":"ring","number":1,"layer":1,"at":{..},"has_pm":124999000,"lacks_pm":1000,"cause":"off","flash":1,"waived":"drawn so"}`
unfoldable pub ring_value : List LayerHead → ℕ → RingLack → Option (Bor (List ℕ)) → Json
ring_value layers n lack why =
    object_of ((codes "kind", word (codes "ring")) ∷ (codes "number", whole n) ∷ (codes "layer", or_null whole (layer_number layers lack.layer)) ∷ (codes "at", hole_value lack.at)
    ∷ (codes "has_pm", or_null picometres (ring_of lack.cause)) ∷ (codes "lacks_pm", or_null picometres (lack_of lack.cause)) ∷ (codes "cause", word (cause_word lack.cause))
    ∷ (codes "flash", or_null whole (flash_of lack.cause)) ∷ (codes "waived", acceptance_value why) ∷ [])

-- an insufficient gap, by the number of its finding:
-- `{"kind":"gap","number":6,"at":{..},"and":{..},"has_pm":382301708,"lacks_pm":17698292,"waived":null}`
unfoldable pub gap_value : ℕ → GapLack → Option (Bor (List ℕ)) → Json
gap_value n lack why =
    object_of ((codes "kind", word (codes "gap")) ∷ (codes "number", whole n) ∷ (codes "at", hole_value lack.first) ∷ (codes "and", hole_value lack.second) ∷ (codes "has_pm", picometres lack.gap)
    ∷ (codes "lacks_pm", picometres lack.lack) ∷ (codes "waived", acceptance_value why) ∷ [])

-- the least ring of a row; nothing where all its holes are bare
abbrev pub least_ring : RingLine → Option ℤ
least_ring line = option_map (λ least. least.ring) line.least

-- the number of the first hole with the least ring
abbrev pub least_hole : RingLine → Option ℕ
least_hole line = option_map (λ least. least.hole) line.least

-- a row of rings: `{"layer":1,"drill":2,"diameter_pm":400000000,"holes":1,"bare":0,"least_pm":125000000,"hole":1}`
unfoldable pub row_value : RingLine → Json
row_value line =
    object_of ((codes "layer", whole (line.layer + 1)) ∷ (codes "drill", whole (line.drill + 1)) ∷ (codes "diameter_pm", picometres line.diameter) ∷ (codes "holes", whole line.holes)
    ∷ (codes "bare", whole line.bare) ∷ (codes "least_pm", or_null picometres (least_ring line)) ∷ (codes "hole", or_null whole (least_hole line)) ∷ [])

-- the hole of a number, from 1, in a drill file, in the list of all holes: after those of the files before
abbrev pub hole_at_place : List FileSum → List Drilled → HolePlace → Option Drilled
hole_at_place files holes place = slice_get (drop (holes_before files place.drill) holes) (place.number - 1)

-- a hole by its file and its number there; null where there is no such hole
abbrev pub place_value : List FileSum → List Drilled → HolePlace → Json
place_value files holes place =
    or_null (λ drilled. hole_value (record { place = place; hole = drilled.hole })) (hole_at_place files holes place)

-- the least gap, with the first two holes that have it: `{"least_pm":382301708,"at":{..},"and":{..}}`
unfoldable pub least_gap_value : List FileSum → List Drilled → GapLine → Json
least_gap_value files holes line =
    object_of ((codes "least_pm", picometres line.gap) ∷ (codes "at", place_value files holes line.first) ∷ (codes "and", place_value files holes line.second) ∷ [])
