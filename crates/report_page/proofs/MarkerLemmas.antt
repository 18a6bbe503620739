-- The markers of findings in the text of a picture.
use Rattle.report_page.proofs.Common.{◌≡◌, ◌∙◌, ◌<◌, ◌+◌, ◌++◌, ◌==◌, ℕ, zero, suc, Bool, true, not, false, List, [], ◌∷◌, Some, length, get_or, codes, decimal, refl, sym, ap, ap₂, subst, append_assoc, arith, All, AllZip, Contains, enumerate_from, filter, flat_map, get_or_default, IsPage, IsPanel, declaration, svg_text, after_panels, before_panels, text_of_panel, EachRowHasItsMarker, marker_start, slice_get, if◌then◌else◌, flat_map-cons, get_or-enumerate_from, length-enumerate_from, GridHole, GridRules}
use Rattle.std.specs.Str.Iter.{HasSubslice}
use Rattle.std.proofs.lemmas.Bool.Decides.{nat_tests}
use Rattle.std.proofs.lemmas.List.Elements.{All-append}
use Rattle.std.proofs.lemmas.List.Filters.{length-filter_both}
use Rattle.std.proofs.lemmas.List.Prefix.{front_rest}
use Rattle.std.proofs.lemmas.Slice.Zip.{AllZip-long}
use Rattle.grid_units.proofs.ListLemmas.{flat_map_at}
use Rattle.ring_rules.specs.declared.finding.Drilled.{Drilled}
use Rattle.ring_rules.specs.declared.finding.Finding.{Finding}
use Rattle.ring_rules.specs.declared.finding.Finding.TheVariants as finding
use Rattle.pad_shapes.specs.WidePads.{wide_pad_covers}
use Rattle.ring_rules.specs.Findings.{gap_findings, ring_findings}
use Rattle.ring_rules.specs.WithoutFindings.{GapsNamePlaces, NamesPlaces, RingsNamePlaces}
use Rattle.pad_shapes.specs.declared.drawn.Drawn.{Drawn}
use Rattle.board.specs.Boards.{BoardView, board_findings}
use Rattle.board_report.specs.BoardReport.{is_gap}
use Rattle.picture.specs.Elements.{crosses, hole_paths, finding_start, finding_text, finding_words, group_end, lack, id_attribute}
use Rattle.picture.specs.Outlines.{shown_outline}
use Rattle.picture.specs.Panels.{after_name, ground_text, lacks_text, panel_end, panel_head, panel_text}
use Rattle.picture.specs.RoundedPads.{pads_text}
use Rattle.picture.specs.Scenes.{drawn_finding, drawn_findings, drawn_gap, drawn_ring}
use Rattle.picture.specs.declared.frame.Frame.{Frame}
use Rattle.picture.specs.declared.frame.Pen.{Pen}
use Rattle.picture.specs.declared.frame.Place.{Place}
use Rattle.picture.specs.declared.scene.DrawnFinding.{DrawnFinding}
use Rattle.picture.specs.declared.scene.DrawnFinding.TheVariants.{Ring, Gap}
use Rattle.picture.specs.declared.scene.Scene.{Scene}
use Rattle.drawing.specs.declared.draw.Drawing.{Drawing}
use Rattle.report_page.proofs.NumberLemmas.{numbers_each_once}

-- ---- parts of texts

-- a part of the front
pub in_front : (text rest part : List ℕ) → HasSubslice text part → HasSubslice (text ++ rest) part
in_front text rest part h =
    (h.0, h.1 ++ rest, ap (λ t. t ++ rest) h.2 ∙ (append_assoc h.0 (part ++ h.1) rest ∙ ap (λ t. h.0 ++ t) (append_assoc part h.1 rest)))

-- a part of the rest
pub in_rest : (front text part : List ℕ) → HasSubslice text part → HasSubslice (front ++ text) part
in_rest front text part h = (front ++ h.0, h.1, ap (λ t. front ++ t) h.2 ∙ sym (append_assoc front h.0 (part ++ h.1)))

-- a part of the text of one element
pub in_texts : {X : Type 0} (f : X → List ℕ) (part : List ℕ) (xs : List X) (x : X) → Contains xs x → HasSubslice (f x) part → HasSubslice (flat_map f xs) part
in_texts {X} f part xs x c h = at xs c.0 c.1 c.2 where
  at : (ys : List X) (k : ℕ) → k < length ys → get_or ys k x ≡ x → HasSubslice (flat_map f ys) part
  at [] k lt e = absurd (omega (arith, lt))
  at (y ∷ ys) zero lt e =
      subst (λ (t : List ℕ). HasSubslice t part) (sym (flat_map-cons f y ys)) (in_front (f y) (flat_map f ys) part (subst (λ (z : X). HasSubslice (f z) part) (sym e) h))
  at (y ∷ ys) (suc k) lt e =
      subst (λ (t : List ℕ). HasSubslice t part) (sym (flat_map-cons f y ys)) (in_rest (f y) (flat_map f ys) part (at ys k (omega (arith, lt)) e))

-- what stands beside the element at a place
pub beside : {A B : Type 0} (R : A → B → Type 0) (xs : List A) (ys : List B) (k : ℕ) (d : A) → AllZip R xs ys → k < length xs → (y : B) × Contains ys y × R (get_or xs k d) y
beside R [] ys k d h lt = absurd (omega (arith, lt))
beside R (x ∷ xs) [] k d h lt = absurd h
beside R (x ∷ xs) (y ∷ ys) zero d h lt = (y, (0, omega arith, refl), h.0)
beside R (x ∷ xs) (y ∷ ys) (suc k) d h lt =
    let found = beside R xs ys k d h.1 (omega (arith, lt)) in
    (found.0, (suc found.1.0, (let in_bounds = found.1.1 in omega (arith, in_bounds)), found.1.2), found.2)

-- ---- the marker of a finding

-- the start of a group with an id is that of a marker
starts : (n : ℕ) (words : List ℕ) → HasSubslice (finding_start (codes "id") n words) (marker_start n)
unfolding finding_start
starts n words =
    let close = codes "<title>" ++ (words ++ codes "</title>\n") in
    ([], close, sym (append_assoc (codes "<g class=\"finding\" id=\"f") (decimal n ++ codes "\">") close ∙ ap (λ t. codes "<g class=\"finding\" id=\"f" ++ t) (append_assoc (decimal n) (codes "\">") close)))

-- the text of a ring has its marker
pub ring_marked : (pen : Pen) (place : Place) (n : ℕ) (hole : GridHole) → HasSubslice (finding_text pen place (Ring n hole)) (marker_start n)
ring_marked pen place n hole =
    in_front (finding_start (codes "id") n (finding_words pen place (Ring n hole))) (lack pen (Ring n hole) ++ group_end) (marker_start n) (starts n (finding_words pen place (Ring n hole)))

-- the text of a gap in the first panel has its marker
pub gap_marked : (pen : Pen) (place : Place) (n : ℕ) (a b : GridHole) → place.first ≡ true → HasSubslice (finding_text pen place (Gap n a b)) (marker_start n)
gap_marked pen place n a b first =
    let words = finding_words pen place (Gap n a b) in
    let named : codes "id" ≡ id_attribute place (Gap n a b) = sym (ap (λ (t : Bool). if t then codes "id" else codes "data-id") first) in
    subst (λ (attribute : List ℕ). HasSubslice (finding_start attribute n words ++ (lack pen (Gap n a b) ++ group_end)) (marker_start n)) named
    (in_front (finding_start (codes "id") n words) (lack pen (Gap n a b) ++ group_end) (marker_start n) (starts n words))

-- ---- the findings of a panel

own_layer : (n : ℕ) → (n == n) ≡ true
own_layer n = grind (arith, nat_tests)

-- what the finding at a place shows is among what all show
shown_at : (layer : ℕ) (holes : List Drilled) (findings : List Finding) (i : ℕ) (found : Finding) (shown : DrawnFinding) → i < length findings → get_or findings i found ≡ found
    → drawn_finding layer holes (i, found) ≡ shown ∷ [] → Contains (drawn_findings layer holes findings) shown
shown_at layer holes findings i found shown lt e alone =
    let at : get_or (enumerate_from 0 findings) i (i, found) ≡ (i, found) = get_or-enumerate_from 0 findings i (i, found) lt ∙ ap₂ (λ (k : ℕ) (f : Finding). (k, f)) (omega arith) e in
    flat_map_at (drawn_finding layer holes) (enumerate_from 0 findings) (i, found) shown i (omega (arith, lt, length-enumerate_from 0 findings)) at
    (subst (λ (shows : List DrawnFinding). Contains shows shown) (sym alone) (0, omega arith, refl))

if_own : (layer : ℕ) (xs : List DrawnFinding) → (if layer == layer then xs else []) ≡ xs
if_own layer xs = ap (λ (own : Bool). if own then xs else []) (own_layer layer)

ring_alone : (layer hole i : ℕ) (holes : List Drilled) (d : Drilled) → slice_get holes hole ≡ Some d → drawn_finding layer holes (i, finding.Ring layer hole) ≡ Ring (i + 1) d.hole ∷ []
unfolding drawn_finding
ring_alone layer hole i holes d is = if_own layer (drawn_ring (i + 1) (slice_get holes hole)) ∙ ap (drawn_ring (i + 1)) is

oblique_alone : (layer hole i : ℕ) (holes : List Drilled) (d : Drilled) → slice_get holes hole ≡ Some d → drawn_finding layer holes (i, finding.Oblique layer hole) ≡ Ring (i + 1) d.hole ∷ []
unfolding drawn_finding
oblique_alone layer hole i holes d is = if_own layer (drawn_ring (i + 1) (slice_get holes hole)) ∙ ap (drawn_ring (i + 1)) is

gap_alone : (layer first second i : ℕ) (holes : List Drilled) (a b : Drilled) → slice_get holes first ≡ Some a → slice_get holes second ≡ Some b
    → drawn_finding layer holes (i, finding.Gap first second) ≡ Gap (i + 1) a.hole b.hole ∷ []
unfolding drawn_finding
gap_alone layer first second i holes a b one other = ap₂ (drawn_gap (i + 1)) one other

reads : {X : Type 0} (xs : List X) (i : ℕ) → i < length xs → (x : X) × (slice_get xs i ≡ Some x)
reads [] i lt = absurd (omega (arith, lt))
reads (x ∷ xs) zero lt = (x, refl)
reads (x ∷ xs) (suc i) lt = reads xs i (omega (arith, lt))

-- ---- the panels of a page

-- a part of the text of a finding that a panel shows stands in the text of the panel
in_panel : (place : Place) (frame : Frame) (pen : Pen) (scene : Scene) (shown : DrawnFinding) (part : List ℕ) → Contains scene.lacks.items shown → HasSubslice (finding_text pen place shown) part
    → HasSubslice (panel_text place frame pen scene) part
in_panel place frame pen scene shown part c h =
    let all : HasSubslice (lacks_text pen place scene.lacks.items) part = in_front _ _ part (in_texts (finding_text pen place) part scene.lacks.items shown c h) in
    let findings = lacks_text pen place scene.lacks.items in
    let holes = hole_paths pen scene.holes.now in
    let marks = crosses pen scene.crosses.items in
    let pads = pads_text scene.pads.items scene.rounded.items in
    let ground = ground_text pen frame scene.drawn.now scene.outline.now in
    let contents = ground ++ (pads ++ (marks ++ (holes ++ findings))) in
    let there = in_rest ground (pads ++ (marks ++ (holes ++ findings))) part (in_rest pads (marks ++ (holes ++ findings)) part (in_rest marks (holes ++ findings) part (in_rest holes findings part all))) in
    in_rest (panel_head place frame pen) (after_name pen frame scene ++ (contents ++ panel_end)) part
    (in_rest (after_name pen frame scene) (contents ++ panel_end) part (in_front contents panel_end part there))

-- what a layer's panel shows of a finding stands in the picture
in_picture : (names : List (List ℕ)) (board : BoardView) (edge : List Drawn) (rules : GridRules) (drawing : Drawing) (layer : ℕ) (shown : DrawnFinding) (part : List ℕ) → IsPage names board edge (Some rules) drawing
    → layer < length board.layer_indexes → Contains (drawn_findings layer board.holes (board_findings rules board)) shown
    → ((place : Place) → place.first ≡ (layer == 0) → HasSubslice (finding_text drawing.layout.pen place shown) part) → HasSubslice (svg_text drawing) part
in_picture names board edge rules drawing layer shown part page lt c marked =
    let l = drawing.layout in
    let findings = board_findings rules board in
    let indexes = enumerate_from 0 board.layer_indexes in
    let found = beside (IsPanel names board edge findings l) indexes drawing.panels.items layer (layer, 0) page.drawn (omega (arith, lt, length-enumerate_from 0 board.layer_indexes)) in
    let panel = found.0 in
    let is = found.2 in
    let at : (get_or indexes layer (layer, 0)).0 ≡ layer = ap (λ (p : ℕ × ℕ). p.0) (get_or-enumerate_from 0 board.layer_indexes layer (layer, 0) lt) ∙ omega arith in
    let shows : panel.scene.lacks.items ≡ drawn_findings layer board.holes findings = is.scene.lacks ∙ ap (λ (n : ℕ). drawn_findings n board.holes findings) at in
    let text = in_panel panel.place l.frame l.pen panel.scene shown part (subst (λ (xs : List DrawnFinding). Contains xs shown) (sym shows) c) (marked panel.place (is.first ∙ ap (λ (n : ℕ). n == 0) at)) in
    in_front (before_panels l drawing.rules drawing.count ++ flat_map (text_of_panel l) drawing.panels.items) (after_panels l) part
    (in_rest (before_panels l drawing.rules drawing.count) (flat_map (text_of_panel l) drawing.panels.items) part (in_texts (text_of_panel l) part drawing.panels.items panel found.1 text))

-- a finding of a board has its marker in the picture
finding_marked : (names : List (List ℕ)) (board : BoardView) (edge : List Drawn) (rules : GridRules) (drawing : Drawing) (layers holes i : ℕ) (found : Finding) → IsPage names board edge (Some rules) drawing
    → 0 < length board.layer_indexes → i < length (board_findings rules board) → get_or (board_findings rules board) i found ≡ found
    → NamesPlaces (length board.layer_indexes) holes found → NamesPlaces layers (length board.holes) found → HasSubslice (svg_text drawing) (marker_start (i + 1))
finding_marked names board edge rules drawing layers holes i (finding.Ring layer hole) page some lt e first second =
    let at = reads board.holes hole second.1 in
    in_picture names board edge rules drawing layer (Ring (i + 1) at.0.hole) (marker_start (i + 1)) page first.0
    (shown_at layer board.holes (board_findings rules board) i (finding.Ring layer hole) (Ring (i + 1) at.0.hole) lt e (ring_alone layer hole i board.holes at.0 at.1))
    (λ place first. ring_marked drawing.layout.pen place (i + 1) at.0.hole)
finding_marked names board edge rules drawing layers holes i (finding.Oblique layer hole) page some lt e first second =
    let at = reads board.holes hole second.1 in
    in_picture names board edge rules drawing layer (Ring (i + 1) at.0.hole) (marker_start (i + 1)) page first.0
    (shown_at layer board.holes (board_findings rules board) i (finding.Oblique layer hole) (Ring (i + 1) at.0.hole) lt e (oblique_alone layer hole i board.holes at.0 at.1))
    (λ place first. ring_marked drawing.layout.pen place (i + 1) at.0.hole)
finding_marked names board edge rules drawing layers holes i (finding.Gap one other) page some lt e first second =
    let near = second.0 in
    let in_bounds = second.1 in
    let a = reads board.holes one (omega (arith, near, in_bounds)) in
    let b = reads board.holes other in_bounds in
    in_picture names board edge rules drawing 0 (Gap (i + 1) a.0.hole b.0.hole) (marker_start (i + 1)) page some
    (shown_at 0 board.holes (board_findings rules board) i (finding.Gap one other) (Gap (i + 1) a.0.hole b.0.hole) lt e (gap_alone 0 one other i board.holes a.0 b.0 a.1 b.1))
    (λ place first. gap_marked drawing.layout.pen place (i + 1) a.0.hole b.0.hole first)

-- ---- the rows of a page

twice : (b : Bool) → b ≡ not (not b)
twice true = refl
twice false = refl

-- as many findings as entries
parted : {T U : Type 0} (R : Finding → T → Type 0) (S : Finding → U → Type 0) (found : List Finding) (rings : List T) (gaps : List U)
    → AllZip R (filter (λ finding. not (is_gap finding)) found) rings → AllZip S (filter is_gap found) gaps → length found ≡ length rings + length gaps
parted R S found rings gaps are_rings are_gaps =
    sym (length-filter_both (λ finding. not (is_gap finding)) is_gap (λ finding. twice (is_gap finding)) found)
    ∙ ap₂ (λ (n k : ℕ). n + k) (sym (AllZip-long R (filter (λ finding. not (is_gap finding)) found) rings are_rings)) (sym (AllZip-long S (filter is_gap found) gaps are_gaps))

marked_at : (names : List (List ℕ)) (board : BoardView) (edge : List Drawn) (rules : GridRules) (drawing : Drawing) (layers holes i : ℕ) (findings : List Finding) → findings ≡ board_findings rules board → IsPage names board edge (Some rules) drawing
    → 0 < length board.layer_indexes → i < length findings → All (NamesPlaces (length board.layer_indexes) holes) findings → All (NamesPlaces layers (length board.holes)) findings
    → HasSubslice (svg_text drawing) (marker_start (i + 1))
marked_at names board edge rules drawing layers holes i [] is page some lt first second = absurd (omega (arith, lt))
marked_at names board edge rules drawing layers holes i (f ∷ fs) is page some lt first second =
    let findings = f ∷ fs in
    let found = get_or findings i f in
    finding_marked names board edge rules drawing layers holes i found page some (subst (λ (xs : List Finding). i < length xs) is lt)
    (subst (λ (xs : List Finding). get_or xs i found ≡ found) is (read_again findings i f lt)) (first i f lt) (second i f lt)
  where
    read_again : (xs : List Finding) (k : ℕ) (d : Finding) → k < length xs → get_or xs k (get_or xs k d) ≡ get_or xs k d
    read_again xs k d k_lt = get_or_default xs k (get_or xs k d) d k_lt

pub each_row_has_its_marker : RingsNamePlaces wide_pad_covers → GapsNamePlaces → EachRowHasItsMarker
each_row_has_its_marker rings gaps names about board outline report accepted text layers some is_report page k d lt =
    let rules = report.rules in
    let findings = board_findings rules board in
    let numbers = numbers_each_once report in
    let count : length findings ≡ length report.rings.items + length report.gaps.items = parted _ _ findings report.rings.items report.gaps.items is_report.rings is_report.gaps in
    let second = All-append (NamesPlaces (length board.layers) (length board.holes)) (ring_findings wide_pad_covers rules.profile rules.ring board.layers board.holes) (gap_findings rules.gap board.holes)
    (rings rules.profile rules.ring board.layers board.holes) (gaps rules.gap (length board.layers) board.holes) in
    let first = subst (λ (n : ℕ). All (NamesPlaces n (length board.holes)) findings) layers second in
    let drawing = page.drawn.drawing in
    let is_svg : svg_text drawing ≡ page.svg = sym (front_rest (declaration ++ page.svg) declaration (svg_text drawing) page.drawn.is) ∙ front_rest (declaration ++ page.svg) declaration page.svg refl in
    let here = marked_at names board (shown_outline outline) rules drawing (length board.layers) (length board.holes) k findings refl page.drawn.shows some (omega (arith, lt, count, numbers.all)) first second in
    subst (λ (n : ℕ). HasSubslice page.svg (marker_start n)) (sym (numbers.at k d lt)) (subst (λ (svg : List ℕ). HasSubslice svg (marker_start (k + 1))) is_svg here)
