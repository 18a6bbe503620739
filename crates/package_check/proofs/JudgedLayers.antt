-- The report on what is left of the files of a package.
use Rattle.package_check.proofs.Common.{◌≡◌, cond, ◌≤◌, ◌+◌, ◌++◌, ℕ, suc, List, [], ◌∷◌, Bool, true, Option, Some, None, Ok, Err, length, map, take, slice_get, arith, refl, subst, sym, ap, ap₂, ◌∙◌, zero-add, enumerate_from, flat_map, sum_by, flat_map-cons, sum_by-cons, none-some, GridRules, WidePad, wide_pad_covers, gap_findings, layer_findings, Drilled, Finding, ReadingIsUnique, hole_count, numbered_from, CheckView, holes_in_slot, HasJudgedAll, IsJudgedOf, drill_files, layer_number, is_wanted, kept_at, index_in, layer_indexes_in, left_report, rings_in, sums_in, Judges, rings_of, FileView, HasContent, HaveContents, IsReport, ReturnsReport, findings, index_of, is_copper, layer_indexes, layers, pads_of, report_on, sum_of, ReportView, drilled_in, FileSum, PackageFault, Content, Judged}
use Rattle.package_check.specs.declared.PackageFault.TheVariants as stop
use Rattle.package_check.specs.declared.contents.Content.TheVariants as content
use Rattle.package_check.proofs.AnswerUniqueness.{same_contents}
use Rattle.package_check.proofs.BoardsLemmas.{numbered_all}
use Rattle.package_check.proofs.ContentIsReading.{content_read}
use Rattle.package_check.proofs.FileKinds.{drills_among, file_kind, is_layer}
use Rattle.package_check.proofs.Passing.{all_drilled}
use Rattle.package_check.proofs.TakeSteps.{first_refused}

-- the counts of the files in the slots count the holes in them
pub sums_counted : (slots : List (Option Judged)) → sum_by hole_count (flat_map sums_in slots) ≡ sum_by holes_in_slot slots
sums_counted [] = refl
sums_counted (None ∷ os) = ap (sum_by hole_count) (flat_map-cons sums_in None os) ∙ (sums_counted os ∙ (sym (zero-add (sum_by holes_in_slot os)) ∙ sym (sum_by-cons holes_in_slot None os)))
sums_counted (Some one ∷ os) =
    ap (sum_by hole_count) (flat_map-cons sums_in (Some one) os)
    ∙ (sum_by-cons hole_count one.sum (flat_map sums_in os) ∙ (ap (λ (n : ℕ). hole_count one.sum + n) (sums_counted os) ∙ sym (sum_by-cons holes_in_slot (Some one) os)))

-- the number of the layer after a file with this content, if its own would be n
abbrev number_after : ℕ → Content → ℕ
number_after n (content.Layer image) = n + 1
number_after n _ = n

-- the index of a copper file by its counts is that by its content
one_index : (n : ℕ) (c : Content) → index_in (n, sum_of c) ≡ index_of (n, c)
one_index n (content.Layer image) = refl
one_index n c = refl

pub indexes_from : (n : ℕ) (contents : List Content) → flat_map index_in (enumerate_from n (map sum_of contents)) ≡ flat_map index_of (enumerate_from n contents)
indexes_from n [] = refl
indexes_from n (c ∷ cs) =
    flat_map-cons index_in (n, sum_of c) (enumerate_from (n + 1) (map sum_of cs))
    ∙ (ap₂ (λ (xs ys : List ℕ). xs ++ ys) (one_index n c) (indexes_from (n + 1) cs) ∙ sym (flat_map-cons index_of (n, c) (enumerate_from (n + 1) cs)))

module _ (rules : GridRules) (holes : List Drilled) where
  -- the findings of rings of the layers among these files, numbered from n on
  abbrev rings_from : ℕ → List Content → List Finding
  rings_from n [] = []
  rings_from n (c ∷ cs) = rings_of rules holes n c ++ rings_from (number_after n c) cs

  -- they are those of the layers' pads
  rings_composed : (n : ℕ) (contents : List Content) → rings_from n contents ≡ flat_map (λ layer. layer_findings wide_pad_covers rules.profile rules.ring holes layer.0 layer.1) (enumerate_from n (layers contents))
  rings_composed n [] = refl
  rings_composed n (content.Layer image ∷ cs) =
      ap (λ (fs : List Finding). layer_findings wide_pad_covers rules.profile rules.ring holes n image.pads ++ fs) (rings_composed (n + 1) cs)
      ∙ (sym (flat_map-cons (λ (layer : ℕ × List WidePad). layer_findings wide_pad_covers rules.profile rules.ring holes layer.0 layer.1) (n, image.pads) (enumerate_from (n + 1) (layers cs)))
      ∙ ap (λ (ps : List (List WidePad)). flat_map (λ (layer : ℕ × List WidePad). layer_findings wide_pad_covers rules.profile rules.ring holes layer.0 layer.1) (enumerate_from n ps)) (sym (flat_map-cons pads_of (content.Layer image) cs)))
  rings_composed n (c ∷ cs) =
      rings_composed n cs ∙ ap (λ (ps : List (List WidePad)). flat_map (λ (layer : ℕ × List WidePad). layer_findings wide_pad_covers rules.profile rules.ring holes layer.0 layer.1) (enumerate_from n ps)) (sym (flat_map-cons pads_of c cs))

  -- ---- the slots of all files

  -- what is left of the file at an index of files whose layers are numbered from n on
  abbrev JudgedAt : ℕ → List FileView → List (Option Judged) → ℕ → FileView → Type 0
  JudgedAt n sources slots i s = (one : Judged) × (kept_at slots i ≡ Some one) × Judges rules holes (n + layer_number sources i) s (Ok one)

  -- all slots say what the contents of the files say
  abbrev SaysContents : ℕ → List FileView → List (Option Judged) → Type 0
  SaysContents n sources slots = (contents : List Content) × HaveContents sources contents × (flat_map sums_in slots ≡ map sum_of contents) × (flat_map rings_in slots ≡ rings_from n contents)

  -- the number of the next layer: one more after a copper file
  number_more : (n : ℕ) (s : FileView) (ss : List FileView) (i : ℕ) (c : Content) → HasContent s c → n + layer_number (s ∷ ss) (suc i) ≡ number_after n c + layer_number ss i
  number_more n s ss i c has = by c (ap (λ (t : Bool). let n : ℕ = cond t 1 0 in n) (file_kind s c has))
    where
      more : layer_number (s ∷ ss) (suc i) ≡ cond (is_copper s.role) 1 0 + layer_number ss i
      more = sum_by-cons (λ (f : FileView). cond (is_copper f.role) 1 0) s (take i ss)

      by : (d : Content) → ◌≡◌ {A = ℕ} (cond (is_copper s.role) 1 0) (cond (is_layer d) 1 0) → n + layer_number (s ∷ ss) (suc i) ≡ number_after n d + layer_number ss i
      by (content.Layer image) one = omega (arith, more, one)
      by d one = omega (arith, more, one)

  -- the first file, and those after it
  first_says : (n : ℕ) (s : FileView) (ss : List FileView) (x : Option Judged) (xs : List (Option Judged)) (one : Judged) (c : Content) → x ≡ Some one → HasContent s c → one.sum ≡ sum_of c → one.rings.items ≡ rings_of rules holes n c
      → SaysContents (number_after n c) ss xs → SaysContents n (s ∷ ss) (x ∷ xs)
  first_says n s ss x xs one c at has counts rings rest = (
    c ∷ rest.0,
    (has, rest.1),
    flat_map-cons sums_in x xs ∙ (ap (λ (o : Option Judged). sums_in o ++ flat_map sums_in xs) at ∙ ap₂ (λ (f : FileSum) (fs : List FileSum). f ∷ fs) counts rest.2),
    flat_map-cons rings_in x xs ∙ (ap (λ (o : Option Judged). rings_in o ++ flat_map rings_in xs) at ∙ ap₂ (λ (fs gs : List Finding). fs ++ gs) rings rest.3),
  )

  all_says : (n : ℕ) (sources : List FileView) (slots : List (Option Judged)) → length slots ≤ length sources → ((i : ℕ) (s : FileView) → slice_get sources i ≡ Some s → JudgedAt n sources slots i s) → SaysContents n sources slots
  all_says n [] [] le each = ([], tt, refl, refl)
  all_says n [] (x ∷ xs) le each = absurd (omega (arith, le))
  all_says n (s ∷ ss) [] le each = let one = each 0 s refl in absurd (none-some one.0 one.1)
  all_says n (s ∷ ss) (x ∷ xs) le each =
      let one = each 0 s refl in
      let c = one.2.0 in
      let has = content_read s c one.2.1 in
      let none : layer_number (s ∷ ss) 0 ≡ 0 = refl in
      let start : n + layer_number (s ∷ ss) 0 ≡ n = omega (arith, none) in
      first_says n s ss x xs one.0 c one.1 has one.2.2.sum (one.2.2.rings ∙ ap (λ (k : ℕ). rings_of rules holes k c) start)
      (all_says (number_after n c) ss xs (omega (arith, le)) (λ i t at.
      let next = each (suc i) t at in (next.0, next.1, subst (λ (k : ℕ). Judges rules holes k t (Ok next.0)) (number_more n s ss i c has) next.2)))

-- ---- the report

-- the report on the slots is that on the contents of the files
same_left : (under rules : GridRules) (holes : List Drilled) (slots : List (Option Judged)) (contents : List Content) → under ≡ rules → holes ≡ flat_map drilled_in contents → flat_map sums_in slots ≡ map sum_of contents
    → flat_map rings_in slots ≡ rings_from under holes 0 contents → left_report under holes slots ≡ report_on rules contents
same_left under rules holes slots contents same drills sums rings =
    let indexes : layer_indexes_in (flat_map sums_in slots) ≡ layer_indexes contents = ap layer_indexes_in sums ∙ indexes_from 0 contents in
    let places = ap₂ (λ (fs : List FileSum) (ds : List Drilled). numbered_from 0 fs ds) sums drills ∙ numbered_all 0 contents in
    let found =
    ap (λ (fs : List Finding). fs ++ gap_findings under.gap holes) (rings ∙ rings_composed under holes 0 contents)
    ∙ ap₂ (λ (rs : GridRules) (ds : List Drilled). findings rs (layers contents) ds) same (drills ∙ sym (all_drilled contents)) in
    λ i. record { rules = same i; files = sums i; layers = indexes i; holes = places i; findings = found i }

module _ (check : CheckView) (sources : List FileView) (rules : GridRules) (all : HasJudgedAll check sources rules) where
  pub judged_report : ReadingIsUnique → check.stopped ≡ None → (report : ReportView) → report ≡ left_report check.rules check.holes check.slots → IsReport sources rules report
  judged_report once none report is =
      let says = all_says check.rules check.holes 0 sources check.slots all.holds.inside (λ i s at.
      let one = all.holds.kept i s refl at (subst (λ (st : Option PackageFault). is_wanted st i ≡ true) (sym none) refl) in
      (one.0, one.1, subst (λ (k : ℕ). Judges check.rules check.holes k s (Ok one.0)) (sym (zero-add (layer_number sources i))) one.2)) in
      let drills = all.drilled none in
      let among = drills_among sources says.0 says.1 in
      let same = same_contents once (drill_files sources) drills.0 among.0 drills.1 among.1 in
      record {
        contents = says.0;
        read = says.1;
        is = is ∙ same_left check.rules rules check.holes check.slots says.0 all.same_rules (drills.2 ∙ (ap (λ (cs : List Content). flat_map drilled_in cs) same ∙ sym among.2)) says.2 says.3;
      }

  pub judged_stop : (fault : PackageFault) → check.stopped ≡ Some fault → ReturnsReport sources rules (Err fault)
  judged_stop stop.Memory is = tt
  judged_stop (stop.File r f) is = first_refused (IsJudgedOf check.rules check.holes sources) (λ i s one h. (h.0, h.1)) check.slots check.stopped sources all.holds r f is
