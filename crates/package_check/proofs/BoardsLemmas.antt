-- The board of a package, and its holes with their places.
use Rattle.package_check.proofs.Common.{Kept, contents_in, map-append, pads_of, ◌≡◌, ◌+◌, ◌++◌, ℕ, List, [], ◌∷◌, length, map, take, drop, arith, refl, sym, ap, ap₂, ◌∙◌, Bool, true, false, cond, not, flat_map, enumerate_from, count_by, sum_by, length-append, length-map, flat_map-cons, sum_by-cons, GridHole, GridRules, is_round, LayerSpan, Drawn, Drilled, Numbered, Content, wide_pad_covers, WidePad, gap_findings, ring_findings, FileCountsAddUp, BoardView, IsBoard, board_findings, board_of, hole_count, numbered_from, numbered_in, report_of_board, FileView, IsReport, holes_of_all, findings, holes_of, layer_indexes, layers, report_on, sum_of, ReportView, drilled_in, flat_map_more}
use Rattle.std.proofs.lemmas.Grind.{flat_map-append}
use Rattle.std.proofs.Math.Seq.{take-append_seam, drop-append_seam}
use Rattle.std.specs.Prelude.{Option}
use Rattle.pad_shapes.specs.declared.row.FeatureRow.{FeatureRow}
use Rattle.package_check.specs.declared.contents.Content.TheVariants as content
use Rattle.package_check.proofs.Passing.{all_drilled}

-- what passes a test and what does not is all, as the round holes and the slots are all holes
pub counted : {X : Type 0} (test : X → Bool) (xs : List X) → count_by test xs + count_by (λ x. not (test x)) xs ≡ length xs
counted test [] = refl
counted test (x ∷ xs) =
    let passes = sum_by-cons (λ y. cond (test y) 1 0) x xs in
    let fails = sum_by-cons (λ y. cond (not (test y)) 1 0) x xs in
    let one : cond (test x) 1 0 + cond (not (test x)) 1 0 ≡ 1 = either (test x) in
    omega (arith, passes, fails, one, counted test xs)
  where
    either : (t : Bool) → cond t 1 0 + cond (not t) 1 0 ≡ 1
    either true = refl
    either false = refl

-- a file has as many holes as are listed for it
pub all_listed : (one : Content) → hole_count (sum_of one) ≡ length (drilled_in one)
all_listed (content.Layer image) = refl
all_listed (content.Mixed span holes) = counted (λ (one : Drilled). is_round one.hole) holes
all_listed (content.Drill plated span drill) = counted is_round drill.holes ∙ sym (length-map drill.holes (λ hole. let one : Drilled = record { hole = hole; plated = plated; span = span } in one))

-- the files have as many holes as are listed for all of them
pub all_counted : (contents : List Content) → sum_by hole_count (map sum_of contents) ≡ length (flat_map drilled_in contents)
all_counted [] = refl
all_counted (c ∷ cs) =
    sum_by-cons hole_count (sum_of c) (map sum_of cs)
    ∙ (ap₂ (λ (a b : ℕ). a + b) (all_listed c) (all_counted cs)
    ∙ (sym (length-append (drilled_in c) (flat_map drilled_in cs)) ∙ ap length (sym (flat_map-cons drilled_in c cs))))

pub files_counted : FileCountsAddUp
files_counted sources board b =
    ap (λ (s : BoardView). sum_by hole_count s.files) b.is ∙ (all_counted b.contents ∙ sym (ap (λ (s : BoardView). length s.holes) b.is))

-- what the file in one more slot adds to the counts of the files, and to the pads of the layers
pub sums_more : (kept : List (Option Kept)) (slot : Option Kept) → map sum_of (flat_map contents_in kept) ++ map sum_of (contents_in slot) ≡ map sum_of (flat_map contents_in (kept ++ slot ∷ []))
sums_more kept slot = sym (map-append sum_of (flat_map contents_in kept) (contents_in slot)) ∙ ap (map sum_of) (flat_map_more contents_in [] kept slot)

pub pads_more : (kept : List (Option Kept)) (slot : Option Kept) → flat_map pads_of (flat_map contents_in kept) ++ flat_map pads_of (contents_in slot) ≡ flat_map pads_of (flat_map contents_in (kept ++ slot ∷ []))
pads_more kept slot = sym (flat_map-append pads_of (flat_map contents_in kept) (contents_in slot)) ∙ ap (flat_map pads_of) (flat_map_more contents_in [] kept slot)

-- the holes of one file with their places
placed_from : (file : ℕ) (plated : Bool) (span : Option LayerSpan) (n : ℕ) (holes : List GridHole)
    → map (λ (hole : ℕ × Drilled). let one : Numbered = record { file = file; number = hole.0; drilled = hole.1 } in one) (enumerate_from n (map (λ hole. let one : Drilled = record { hole = hole; plated = plated; span = span } in one) holes))
    ≡ map (λ (hole : ℕ × GridHole). let one : Numbered = record { file = file; number = hole.0; drilled = record { hole = hole.1; plated = plated; span = span } } in one) (enumerate_from n holes)
placed_from file plated span n [] = refl
placed_from file plated span n (h ∷ hs) = ap (λ (t : List Numbered). record { file = file; number = n; drilled = record { hole = h; plated = plated; span = span } } ∷ t) (placed_from file plated span (n + 1) hs)

placed : (file : ℕ) (one : Content) → numbered_in file (drilled_in one) ≡ holes_of (file, one)
placed file (content.Layer image) = refl
placed file (content.Drill plated span drill) = placed_from file plated span 1 drill.holes
placed file (content.Mixed span holes) = refl

-- the holes of a board with their places are those of its files
pub numbered_all : (n : ℕ) (contents : List Content) → numbered_from n (map sum_of contents) (flat_map drilled_in contents) ≡ flat_map holes_of (enumerate_from n contents)
unfolding numbered_from
numbered_all n [] = refl
numbered_all n (c ∷ cs) =
    let all = flat_map-cons drilled_in c cs in
    let count = all_listed c in
    let rest = numbered_from (n + 1) (map sum_of cs) in
    let first : take (hole_count (sum_of c)) (flat_map drilled_in (c ∷ cs)) ≡ drilled_in c = ap (take (hole_count (sum_of c))) all ∙ (ap (λ k. take k (drilled_in c ++ flat_map drilled_in cs)) count ∙ take-append_seam (drilled_in c) (flat_map drilled_in cs)) in
    let last : drop (hole_count (sum_of c)) (flat_map drilled_in (c ∷ cs)) ≡ flat_map drilled_in cs = ap (drop (hole_count (sum_of c))) all ∙ (ap (λ k. drop k (drilled_in c ++ flat_map drilled_in cs)) count ∙ drop-append_seam (drilled_in c) (flat_map drilled_in cs)) in
    ap (λ (ds : List Drilled). numbered_in n ds ++ rest (drop (hole_count (sum_of c)) (flat_map drilled_in (c ∷ cs)))) first
    ∙ (ap (λ (ds : List Drilled). numbered_in n (drilled_in c) ++ rest ds) last
    ∙ (ap (λ (ys : List Numbered). ys ++ rest (flat_map drilled_in cs)) (placed n c)
    ∙ (ap (λ (ys : List Numbered). holes_of (n, c) ++ ys) (numbered_all (n + 1) cs)
    ∙ sym (flat_map-cons holes_of (n, c) (enumerate_from (n + 1) cs)))))

-- the findings on the board of files are those on their contents
same_findings : (rules : GridRules) (contents : List Content) (flashes : List (List FeatureRow)) (macros contours : List (List WidePad)) (drawn : List (List Drawn)) → board_findings rules (board_of contents flashes macros contours drawn) ≡ findings rules (layers contents) (holes_of_all contents)
same_findings rules contents flashes macros contours drawn = λ i. ring_findings wide_pad_covers rules.profile rules.ring (layers contents) (sym (all_drilled contents) i) ++ gap_findings rules.gap (sym (all_drilled contents) i)

-- and so is the report
same_report : (rules : GridRules) (contents : List Content) (flashes : List (List FeatureRow)) (macros contours : List (List WidePad)) (drawn : List (List Drawn)) → report_of_board rules (board_of contents flashes macros contours drawn) ≡ report_on rules contents
same_report rules contents flashes macros contours drawn = λ i. record {
  rules = rules;
  files = map sum_of contents;
  layers = layer_indexes contents;
  holes = numbered_all 0 contents i;
  findings = same_findings rules contents flashes macros contours drawn i;
}

pub reported_on : (sources : List FileView) (rules : GridRules) (board : BoardView) (report : ReportView) → IsBoard sources board → report ≡ report_of_board rules board → IsReport sources rules report
reported_on sources rules board report b is = record { contents = b.contents; read = b.read; is = is ∙ (ap (report_of_board rules) b.is ∙ same_report rules b.contents board.rows board.macros board.contours board.drawn) }
