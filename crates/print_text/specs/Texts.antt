-- The text of a report for people (docs/FORMATS.md, Report for people). Lengths are whole picometres, printed in millimetres.
-- Positions count all findings of a report from 0: the rings first, then the gaps. Their numbers count them from 1.
use Rattle.std.specs.Prelude.{ℕ, ℤ, pos, ◌+◌, ◌-◌, ◌*◌, ◌==◌, ◌+ℤ◌, ◌-ℤ◌, ◌++◌, ◌&&◌, Bool, true, not, nat_lt, List, [], ◌∷◌, length, map, take, codes, decimal, Option, Some, None, int_div, if◌then◌else◌, is_none}
use Rattle.std.specs.Borrow.{Bor}
use Rattle.std.specs.Int.{int_min}
use Rattle.std.specs.List.{count_by, enumerate_from, filter, filter_map, flat_map, fold, list_any}
use Rattle.grid_units.specs.Holes.{GridHole, GridRules}
use Rattle.grid_units.specs.Points.{GridPoint}
use Rattle.grid_units.specs.declared.profile.Profile.{Profile}
use Rattle.grid_units.specs.declared.profile.Profile.TheVariants.{Strict, Wide}
use Rattle.pad_shapes.specs.Pads.{pad_height, pad_width}
use Rattle.pad_shapes.specs.declared.pad.Pad.{Pad}
use Rattle.pad_shapes.specs.declared.pad.Pad.TheVariants as pads
use Rattle.board.specs.Depths.{pad_middle}
use Rattle.board.specs.declared.met.Met.{Met}
use Rattle.board.specs.declared.met.Met.TheVariants as mets
use Rattle.report.specs.declared.Meets.{Meets}
use Rattle.report.specs.UnitMistakes.{conflict_words, factor_word}
use Rattle.report.specs.declared.RoleConflict.{RoleConflict}
use Rattle.report.specs.declared.UnitMistake.{UnitMistake}
use Rattle.report.specs.declared.UnitFactor.{UnitFactor}
use Rattle.report.specs.declared.UnitFactor.TheVariants as factors
use Rattle.grid_units.specs.HoleWords.{drilled_words, name_of, two_lengths}
use Rattle.grid_units.specs.LengthWords.{short_millimetres}
use Rattle.report.specs.Acceptances.{acceptance_at, count_waived_first, is_waived, waived_in}
use Rattle.report.specs.declared.GapLack.{GapLack}
use Rattle.report.specs.declared.PlacedHole.{PlacedHole}
use Rattle.report.specs.declared.RingAtEdge.{RingAtEdge}
use Rattle.report.specs.declared.RingInPad.{RingInPad}
use Rattle.report.specs.declared.LayerHead.{LayerHead}
use Rattle.report.specs.declared.RingCause.{RingCause}
use Rattle.report.specs.declared.RingCause.TheVariants as causes
use Rattle.report.specs.declared.RingLack.{RingLack}
use Rattle.report.specs.declared.BoardReport.{BoardReport}
use Rattle.report.specs.declared.Acceptances.{Acceptances}
use Rattle.print_text.specs.declared.kind.CauseKind.{CauseKind}
use Rattle.print_text.specs.Drilling.{DrillBounds, drilling_text}
use Rattle.print_text.specs.Causes.{all_kinds, flash_kind, hint, is_of_kind, kind_of, kind_words}
use Rattle.print_text.specs.declared.kind.CauseKind.TheVariants as kinds
use Rattle.grid_units.specs.Ascii as ascii
use Rattle.report.specs.Causes.{ring_of}

-- the number of a hole and the name of its drill file: `hole 17 of board-PTH.drl, `
unfoldable pub number_words : ℕ → List ℕ → List ℕ
number_words number name = codes "hole " ++ (decimal number ++ (codes " of " ++ (name ++ codes ", ")))

-- a hole: `hole 17 of board-PTH.drl, 0.3 at 15.001,13`
abbrev pub hole_words : List (List ℕ) → PlacedHole → List ℕ
hole_words names at = number_words at.place.number (name_of names at.place.drill) ++ drilled_words at.hole

-- the number of the finding at a position, from 1: the place of its line among those of a check, and its number in a picture
abbrev pub number_of : ℕ → ℕ
number_of position = position + 1

-- the start of the line of a finding, by its number: `  #17 `
abbrev pub number_sign : ℕ → List ℕ
number_sign number = codes "  #" ++ (decimal number ++ codes " ")

-- the length of a ring or a gap, and the rule for it: `gap 0.382301708 (rule 0.4)`
unfoldable pub measured_words : List ℕ → ℤ → ℤ → List ℕ
measured_words word has rule = word ++ (short_millimetres has ++ (codes " (rule " ++ (short_millimetres rule ++ codes ")")))

-- the word for the shape of a pad
abbrev pub shape_word : Pad → List ℕ
shape_word (pads.Disc disc) = codes "disc "
shape_word (pads.Rect rect) = codes "rect "
shape_word (pads.Obround obround) = codes "obround "

-- halfway between two coordinates, rounded towards 0: of 1 and 4 it is 2
abbrev pub halfway : ℤ → ℤ → ℤ
halfway a b = int_div (a +ℤ b) (pos 2)

-- the middle of a hole, halfway between its ends: of a round hole its centre
abbrev pub hole_middle : GridHole → GridPoint
hole_middle hole = record { x = halfway hole.from.x hole.to.x; y = halfway hole.from.y hole.to.y }

-- the shape and the sides of a pad: `disc 0.6x0.6`
abbrev pub pad_words : Pad → List ℕ
pad_words pad = shape_word pad ++ two_lengths (pos (pad_width pad)) (codes "x") (pos (pad_height pad))

-- the middle of a hole less that of a pad, along x and y: `, hole off by 0.001,0`
abbrev pub off_words : GridPoint → GridPoint → List ℕ
off_words at middle = codes ", hole off by " ++ two_lengths (at.x -ℤ middle.x) (codes ",") (at.y -ℤ middle.y)

-- a pad and how far the hole is off: `disc 0.6x0.6, hole off by 0.001,0`
abbrev pub place_words : GridHole → Pad → List ℕ
place_words hole pad = pad_words pad ++ off_words (hole_middle hole) (pad_middle pad)

-- the reason why a ring is too small, and the number of the pad's flash: `, off centre: flash 17, `
unfoldable pub flash_words : List ℕ → ℕ → List ℕ
flash_words words flash = codes ", " ++ (words ++ (codes ": flash " ++ (decimal flash ++ codes ", ")))

-- a ring in a pad, and the rule: `annular ring 0.149 (rule 0.15), off centre: flash 17, disc 0.6x0.6, hole off by 0.001,0`
abbrev pub in_pad_words : CauseKind → ℤ → GridHole → RingInPad → List ℕ
in_pad_words kind rule hole place =
    measured_words (codes "annular ring ") place.ring rule ++ (flash_words (kind_words kind) place.flash ++ place_words hole place.pad)

-- a ring in a rounded pad or a contour, and the rule: `annular ring 0.149 (rule 0.15), in a rounded pad or contour, too near its edge: flash 17`
abbrev pub at_edge_words : CauseKind → ℤ → RingAtEdge → List ℕ
at_edge_words kind rule place =
    measured_words (codes "annular ring ") place.ring rule ++ (codes ", " ++ (kind_words kind ++ (codes ": flash " ++ decimal place.flash)))

-- a ring that is not judged, whatever the hole lies in: `annular ring not judged, oblique slot`, `annular ring not judged, only drawn copper`
abbrev pub not_judged_words : List ℕ → List ℕ
not_judged_words words = codes "annular ring not judged, " ++ words

-- a hole that lies in no pad, but in another flash: `annular ring not judged, only a macro flash: flash 156`
abbrev pub other_words : List ℕ → ℕ → List ℕ
other_words words flash = not_judged_words (words ++ (codes ": flash " ++ decimal flash))

-- the reason why a hole lacks its ring, with the figures that it has and the rule for the ring
abbrev pub cause_words : ℤ → GridHole → RingCause → List ℕ
cause_words rule hole (causes.TooSmall place) = in_pad_words kinds.TooSmall rule hole place
cause_words rule hole (causes.OffCentre place) = in_pad_words kinds.OffCentre rule hole place
cause_words rule hole (causes.Edge place) = at_edge_words kinds.Edge rule place
cause_words rule hole (causes.Other why flash) = other_words (kind_words (flash_kind why)) flash
cause_words rule hole (causes.Clear flash) = other_words (kind_words kinds.Clear) flash
cause_words rule hole (causes.Cleared flash) = other_words (kind_words kinds.Cleared) flash
cause_words rule hole causes.NoFlash = kind_words kinds.Bare
cause_words rule hole cause = not_judged_words (kind_words (kind_of cause))

-- the reason at the end of the line of a waived finding: `, waived: drawn so`
abbrev pub acceptance_words : Option (Bor (List ℕ)) → List ℕ
acceptance_words None = []
acceptance_words (Some why) = codes ", waived: " ++ why.now

-- the number of waived findings at the end of a line that counts findings: `, 3 waived`; nothing where it is 0
abbrev pub waived_words : ℕ → List ℕ
waived_words waived = if waived == 0 then [] else codes ", " ++ (decimal waived ++ codes " waived")

-- a hole that lacks its ring, by the rules and the number of the finding:
-- `  #7 hole 1 of pth, 0.4 at 0,0: annular ring not judged, only a macro flash: flash 156`
unfoldable pub ring_words : List (List ℕ) → GridRules → ℕ → RingLack → List ℕ
ring_words names rules number lack =
    number_sign number ++ (hole_words names lack.at ++ (codes ": " ++ cause_words (pos rules.ring) lack.at.hole lack.cause))

-- the line of a hole that lacks its ring: these words, the reason if it is waived, and a line end
unfoldable pub ring_line : List (List ℕ) → GridRules → ℕ → RingLack → Option (Bor (List ℕ)) → List ℕ
ring_line names rules number lack why = ring_words names rules number lack ++ (acceptance_words why ++ ascii.line_feed ∷ [])

-- two holes: `hole 1 of pth, 0.4 at 0,0, and hole 2 of pth, 0.4 at 0,0`
unfoldable pub pair_words : List (List ℕ) → PlacedHole → PlacedHole → List ℕ
pair_words names first second = hole_words names first ++ (codes ", and " ++ hole_words names second)

-- the gap of two holes and the rule for it: `: gap -0.4 (rule 0.25)`
abbrev pub gap_words : ℤ → ℤ → List ℕ
gap_words gap rule = codes ": " ++ measured_words (codes "gap ") gap rule

-- two holes that lack their gap: `  #8 hole 1 of pth, 0.4 at 0,0, and hole 2 of pth, 0.4 at 0,0: gap -0.4 (rule 0.25)`
unfoldable pub gap_pair_words : List (List ℕ) → GridRules → ℕ → GapLack → List ℕ
gap_pair_words names rules number lack = number_sign number ++ (pair_words names lack.first lack.second ++ gap_words lack.gap (pos rules.gap))

-- the line of two holes that lack their gap: these words, the reason if it is waived, and a line end
unfoldable pub gap_line : List (List ℕ) → GridRules → ℕ → GapLack → Option (Bor (List ℕ)) → List ℕ
gap_line names rules number lack why = gap_pair_words names rules number lack ++ (acceptance_words why ++ ascii.line_feed ∷ [])

-- a finding at this position has its line: each below the limit, or every one where there is no limit
abbrev pub is_shown : Option ℕ → ℕ → Bool
is_shown None position = true
is_shown (Some limit) position = nat_lt position limit

-- the line for the findings without a line: `  and 4 more`; nothing where there are none
abbrev pub more_line : ℕ → List ℕ
more_line left = if left == 0 then [] else codes "  and " ++ (decimal left ++ codes " more\n")

-- the lines of some findings with their positions: of those that are shown, then the number of the others
abbrev pub shown_lines : {X : Type 0} → (ℕ × X → List ℕ) → Option ℕ → List (ℕ × X) → List ℕ
shown_lines line limit findings =
    flat_map line (filter (λ finding. is_shown limit finding.0) findings)
    ++ more_line (count_by (λ finding. not (is_shown limit finding.0)) findings)

-- the number of holes on a layer that lack their ring, and of those that need one: `annular ring on top: 3 of 245 holes below the rule`
abbrev pub layer_words : List ℕ → ℕ → ℕ → List ℕ
layer_words name below needed = codes "annular ring on " ++ (name ++ (codes ": " ++ (decimal below ++ (codes " of " ++ (decimal needed ++ codes " holes below the rule")))))

-- the line of a layer: `annular ring on top: 3 of 245 holes below the rule, 3 waived`
abbrev pub layer_line : List ℕ → ℕ → ℕ → ℕ → List ℕ
layer_line name below needed waived = layer_words name below needed ++ (waived_words waived ++ ascii.line_feed ∷ [])

-- the holes that lack their ring on a layer, with their places among all rings
abbrev pub rings_on : ℕ → List RingLack → List (ℕ × RingLack)
rings_on layer rings = filter (λ finding. finding.1.layer == layer) (enumerate_from 0 rings)

-- the number of these that are waived
abbrev pub waived_on : List (Option (Bor (List ℕ))) → ℕ → List RingLack → ℕ
waived_on accepted layer rings = count_by (λ finding. is_waived accepted finding.0) (rings_on layer rings)

-- a layer, by its place and its head: its line, then those of the holes that lack their ring there
abbrev pub layer_text : List (List ℕ) → GridRules → Option ℕ → List RingLack → List (Option (Bor (List ℕ))) → ℕ × LayerHead → List ℕ
layer_text names rules limit rings accepted layer =
    layer_line (name_of names layer.1.file) (count_by (λ lack. lack.layer == layer.0) rings) layer.1.needed (waived_on accepted layer.0 rings)
    ++ shown_lines (λ finding. ring_line names rules (number_of finding.0) finding.1 (acceptance_at accepted finding.0)) limit (rings_on layer.0 rings)

-- the words after the number of gaps: ` gap too small` after 1
abbrev pub too_small_words : ℕ → List ℕ
too_small_words gaps = if gaps == 1 then codes " gap too small" else codes " gaps too small"

-- the number of gaps that are too small: `hole to hole: 6 gaps too small`
abbrev pub gaps_words : ℕ → List ℕ
gaps_words gaps = codes "hole to hole: " ++ (decimal gaps ++ too_small_words gaps)

-- the line of the gaps: `hole to hole: 6 gaps too small, 2 waived`
abbrev pub gaps_line : ℕ → ℕ → List ℕ
gaps_line gaps waived = gaps_words gaps ++ (waived_words waived ++ ascii.line_feed ∷ [])

-- the gaps that are too small, after this many rings: their positions come after those of the rings
abbrev pub gaps_text : List (List ℕ) → GridRules → Option ℕ → ℕ → List GapLack → List (Option (Bor (List ℕ))) → List ℕ
gaps_text names rules limit rings gaps accepted =
    gaps_line (length gaps) (count_waived_first accepted (length gaps))
    ++ shown_lines (λ finding. gap_line names rules (number_of finding.0) finding.1 (acceptance_at accepted (finding.0 - rings))) limit (enumerate_from rings gaps)

-- the line of a cause: `4 pad too small: ` and the hint
abbrev pub counted_words : ℕ → List ℕ → List ℕ → List ℕ
counted_words count words hint = decimal count ++ (codes " " ++ (words ++ (codes ": " ++ (hint ++ ascii.line_feed ∷ []))))

-- the line of a kind of cause, by the number of its rings; nothing where it is 0
abbrev pub count_line : Profile → CauseKind → ℕ → List ℕ
count_line profile kind count = if count == 0 then [] else counted_words count (kind_words kind) (hint profile kind)

-- the line of a kind of cause in a profile, for these rings
abbrev pub kind_line : Profile → List RingLack → CauseKind → List ℕ
kind_line profile rings kind = count_line profile kind (count_by (λ lack. is_of_kind kind lack.cause) rings)

-- the smallest of some lengths; nothing where there is none
abbrev pub smallest : List ℤ → Option ℤ
smallest [] = None
smallest (first ∷ rest) = Some (fold int_min first rest)

-- the line of the smallest ring or gap, and the rule for it: `smallest ring 0.149 (rule 0.15)`; nothing where there is none
abbrev pub smallest_line : List ℕ → ℤ → Option ℤ → List ℕ
smallest_line word rule None = []
smallest_line word rule (Some least) = measured_words word least rule ++ ascii.line_feed ∷ []

-- how far coordinates look off, by the factor that they are to be multiplied by
abbrev pub size_words : UnitFactor → List ℕ
size_words factors.Ten = codes "10 times too small"
size_words factors.Tenth = codes "10 times too large"
size_words factors.Inch = codes "25.4 times too small"
size_words factors.PerInch = codes "25.4 times too large"

-- the line of a drill file by its name: `pth: coordinates look 10 times too small: 3 holes have no pad; with coordinates multiplied by 10, 0 would have none`
unfoldable pub scale_words : List ℕ → List ℕ → ℕ → List ℕ → ℕ → List ℕ
scale_words name size bare factor still =
    name ++ (codes ": coordinates look " ++ (size ++ (codes ": " ++ (decimal bare ++ (codes " holes have no pad; with coordinates multiplied by " ++ (factor ++ (codes ", " ++ (decimal still ++ codes " would have none\n"))))))))

-- the line of a drill file whose coordinates seem to be off by a factor
abbrev pub scale_line : List (List ℕ) → UnitMistake → List ℕ
scale_line names line = scale_words (name_of names line.drill) (size_words line.factor) line.bare (factor_word line.factor) line.then

-- a warning of a drill file by its name, and what comes after it: `warning: npth: its role is unplated, but its comments say that holes are plated`
unfoldable pub warning_words : List ℕ → List ℕ → List ℕ → List ℕ
warning_words name says after = codes "warning: " ++ (name ++ (codes ": " ++ (says ++ after)))

-- the line of a drill file whose own comments contradict its role
abbrev pub conflict_line : List (List ℕ) → RoleConflict → List ℕ
conflict_line names line = warning_words (name_of names line.drill) (conflict_words line.plated) (ascii.line_feed ∷ [])

-- a hole has no pad that counts, so that its ring is not measured: it lies in no pad, or is an oblique slot, for which no pad counts
abbrev pub has_no_pad : RingCause → Bool
has_no_pad why = is_none (ring_of why)

-- how many findings are of such holes, for which no ring is met: `: 3 findings are of holes with no pad that counts`; nothing for none
abbrev pub no_pad_words : ℕ → List ℕ
no_pad_words without =
    if without == 0 then []
    else if without == 1 then codes ": 1 finding is of a hole with no pad that counts"
    else codes ": " ++ (decimal without ++ codes " findings are of holes with no pad that counts")

-- the start of the words for the ring that is met without these holes
abbrev pub without_start : ℕ → List ℕ
without_start without = if without == 1 then codes " (without it: " else codes " (without them: "

-- the greatest ring that is met without these holes: ` (without them: 0.149)`; nothing where no other hole needs a ring
abbrev pub without_words : ℕ → Met → List ℕ
without_words without mets.Any = []
without_words without (mets.UpTo length) = without_start without ++ (short_millimetres length ++ codes ")")
without_words without mets.None = []

-- the greatest ring that the package meets: `annular ring 0.149 is met`; `any` where no hole needs one; where none is met also why,
-- and the one without the holes that have no pad
abbrev pub ring_met_words : ℕ → Met → Met → List ℕ
ring_met_words without in_pads mets.Any = codes "any annular ring is met"
ring_met_words without in_pads (mets.UpTo length) = codes "annular ring " ++ (short_millimetres length ++ codes " is met")
ring_met_words without in_pads mets.None = codes "no annular ring is met" ++ (no_pad_words without ++ without_words without in_pads)

-- the greatest gap that the package meets: `hole to hole 0.2 is met`; `any` where there are no two holes
abbrev pub gap_met_words : Met → List ℕ
gap_met_words mets.Any = codes "any hole to hole gap is met"
gap_met_words (mets.UpTo length) = codes "hole to hole " ++ (short_millimetres length ++ codes " is met")
gap_met_words mets.None = codes "no hole to hole gap is met"

-- the line of these, by the number of findings of holes that have no pad:
-- `no annular ring is met: 3 findings are of holes with no pad that counts (without them: 0.149); hole to hole 0.2 is met`
unfoldable pub meets_line : ℕ → Meets → List ℕ
meets_line without meets = ring_met_words without meets.in_pads meets.ring ++ (codes "; " ++ (gap_met_words meets.gap ++ ascii.line_feed ∷ []))

-- a rule: `rules: annular ring 0.15 mm`
unfoldable pub rule_words : List ℕ → ℤ → List ℕ
rule_words words rule = words ++ (short_millimetres rule ++ codes " mm")

-- the profile at the end of the rules: `, profile wide`; nothing of the strict one
abbrev pub profile_words : Profile → List ℕ
profile_words Strict = []
profile_words Wide = codes ", profile wide"

-- the rules of the check: `rules: annular ring 0.15 mm, hole to hole 0.25 mm`
abbrev pub rules_words : GridRules → List ℕ
rules_words rules = rule_words (codes "rules: annular ring ") (pos rules.ring) ++ rule_words (codes ", hole to hole ") (pos rules.gap)

-- the line of the rules of the check: `rules: annular ring 0.15 mm, hole to hole 0.25 mm`, in the wide profile with `, profile wide`
abbrev pub rules_line : GridRules → List ℕ
rules_line rules = rules_words rules ++ (profile_words rules.profile ++ ascii.line_feed ∷ [])

-- the line of a waiver that waives no finding, by the number of its record: `waiver 8 matches no finding`
abbrev pub idle_line : ℕ → List ℕ
idle_line number = codes "waiver " ++ (decimal number ++ codes " matches no finding\n")

-- the last line: `PASS` without findings, `WAIVED 6` where all are waived, else `FINDINGS 6` with the number of the others
abbrev pub last_line : ℕ → ℕ → List ℕ
last_line findings waived =
    if findings == 0 then codes "PASS\n"
    else if waived == findings then codes "WAIVED " ++ (decimal findings ++ ascii.line_feed ∷ [])
    else codes "FINDINGS " ++ (decimal (findings - waived) ++ ascii.line_feed ∷ [])

-- the lines of the smallest ring and the smallest gap among the findings
abbrev pub smallest_lines : GridRules → List RingLack → List GapLack → List ℕ
smallest_lines rules rings gaps =
    smallest_line (codes "smallest ring ") (pos rules.ring) (smallest (filter_map (λ lack. ring_of lack.cause) rings))
    ++ smallest_line (codes "smallest gap ") (pos rules.gap) (smallest (map (λ lack. lack.gap) gaps))

-- two rings are alike: on one layer, of holes of one diameter
abbrev pub is_alike : RingLack → RingLack → Bool
is_alike one other = (one.layer == other.layer) && (one.at.hole.radius == other.at.hole.radius)

-- a ring with its place is the first of its layer and diameter: none of those before it is alike
abbrev pub is_first_alike : List RingLack → ℕ × RingLack → Bool
is_first_alike rings finding = not (list_any (is_alike finding.1) (take finding.0 rings))

-- the words after the number of holes: ` hole below the rule` after 1
abbrev pub holes_words : ℕ → List ℕ
holes_words holes = if holes == 1 then codes " hole below the rule" else codes " holes below the rule"

-- the smallest ring of some holes: `, smallest ring 0.105`; nothing where none of them lies in a pad
abbrev pub smallest_words : Option ℤ → List ℕ
smallest_words None = []
smallest_words (Some least) = codes ", smallest ring " ++ short_millimetres least

-- a layer by its name, a diameter, the number of its holes that lack their ring there, and their smallest ring:
-- `top, 0.3: 12 holes below the rule, smallest ring 0.105`
unfoldable pub group_words : List ℕ → ℤ → ℕ → Option ℤ → List ℕ
group_words name diameter holes least =
    name ++ (codes ", " ++ (short_millimetres diameter
    ++ (codes ": " ++ (decimal holes ++ (holes_words holes ++ (smallest_words least ++ ascii.line_feed ∷ []))))))

-- the line of the rings that are like this one, on the layer of this name
abbrev pub group_line : List ℕ → List RingLack → RingLack → List ℕ
group_line name rings one =
    group_words name (pos (2 * one.at.hole.radius)) (count_by (is_alike one) rings) (smallest (filter_map (λ lack. ring_of lack.cause) (filter (is_alike one) rings)))

-- the rings of a layer summed up: a line for each diameter, in the order in which they come
abbrev pub groups_text : List (List ℕ) → List RingLack → ℕ × LayerHead → List ℕ
groups_text names rings layer =
    flat_map (λ finding. group_line (name_of names layer.1.file) rings finding.1) (filter (is_first_alike rings) (rings_on layer.0 rings))

-- the rings summed up by layer and diameter, where the report has more than ten findings; else nothing
abbrev pub summary_text : List (List ℕ) → ℕ → List LayerHead → List RingLack → List ℕ
summary_text names findings layers rings = if nat_lt 10 findings then flat_map (groups_text names rings) (enumerate_from 0 layers) else []

-- the first part of a report: the drill files whose coordinates seem to be off, those whose own comments contradict their role, the rules, and what drilling leaves of
-- them, where that is said
unfoldable pub head_text : List (List ℕ) → BoardReport → Option DrillBounds → List ℕ
head_text names report drilling =
    flat_map (scale_line names) report.scales.items
    ++ (flat_map (conflict_line names) report.conflicts.items ++ (rules_line report.rules ++ drilling_text report.rules drilling))

-- the second part: the findings, and those of rings summed up
abbrev pub findings_text : List (List ℕ) → BoardReport → Option ℕ → List (Option (Bor (List ℕ))) → List (Option (Bor (List ℕ))) → List ℕ
findings_text names report limit rings gaps =
    flat_map (layer_text names report.rules limit report.rings.items rings) (enumerate_from 0 report.layers.items)
    ++ (gaps_text names report.rules limit (length report.rings.items) report.gaps.items gaps
    ++ summary_text names (length report.rings.items + length report.gaps.items) report.layers.items report.rings.items)

-- the third part: the causes, and the smallest ring and gap
abbrev pub causes_text : BoardReport → List ℕ
causes_text report = flat_map (kind_line report.rules.profile report.rings.items) all_kinds ++ smallest_lines report.rules report.rings.items report.gaps.items

-- why findings disappear in the wide profile
abbrev pub wide_words : List ℕ
wide_words = codes " with --profile wide, which counts pads with rounded corners"

-- the words after the number of findings, by how many disappear
abbrev pub disappear_words : ℕ → List ℕ
disappear_words fewer = if fewer == 1 then codes " findings disappears" else codes " findings disappear"

-- how many of the findings disappear in the wide profile: `2 of these 6 findings disappear with --profile wide, which counts pads with rounded corners`
abbrev pub fewer_words : ℕ → ℕ → List ℕ
fewer_words findings fewer =
    if findings == 1 then codes "this finding disappears" ++ wide_words
    else decimal fewer ++ (codes " of these " ++ (decimal findings ++ (disappear_words fewer ++ wide_words)))

-- the line of these words; no line for none
abbrev pub fewer_line : ℕ → ℕ → List ℕ
fewer_line findings fewer = if fewer == 0 then [] else fewer_words findings fewer ++ ascii.line_feed ∷ []

-- the last part: the rules that the package meets, the waivers that match no finding, how many findings the wide profile does not have, and the last line
abbrev pub last_lines : BoardReport → ℕ → List (Option (Bor (List ℕ))) → List (Option (Bor (List ℕ))) → List ℕ → List ℕ
last_lines report fewer rings gaps idle =
    meets_line (count_by (λ lack. has_no_pad lack.cause) report.rings.items) report.meets
    ++ (flat_map idle_line idle
    ++ (fewer_line (length report.rings.items + length report.gaps.items) fewer ++ last_line (length report.rings.items + length report.gaps.items) (waived_in report rings gaps)))

-- the text of a report, by how many findings the wide profile does not have, how holes may be drilled, the reasons of its rings and gaps, and the
-- numbers of the waivers that match no finding
abbrev pub full_text : List (List ℕ) → BoardReport → ℕ → Option DrillBounds → Option ℕ → List (Option (Bor (List ℕ))) → List (Option (Bor (List ℕ))) → List ℕ → List ℕ
full_text names report fewer drilling limit rings gaps idle =
    (head_text names report drilling ++ findings_text names report limit rings gaps) ++ (causes_text report ++ last_lines report fewer rings gaps idle)

-- the text of a report with waivers; `names` are those of the files, `fewer` is how many findings the wide profile does not have, `drilling` how
-- holes may be drilled, where it is said what that leaves of the rules, `limit` how many findings are shown at most
abbrev pub waived_report_text : List (List ℕ) → BoardReport → ℕ → Option DrillBounds → Option ℕ → Acceptances → List ℕ
waived_report_text names report fewer drilling limit accepted = full_text names report fewer drilling limit accepted.rings.now accepted.gaps.now accepted.idle.now

-- the text of a report without waivers that does not say what drilling leaves
abbrev pub board_report_text : List (List ℕ) → BoardReport → ℕ → Option ℕ → List ℕ
board_report_text names report fewer limit = full_text names report fewer None limit [] [] []
