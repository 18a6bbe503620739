-- One more finding of a report, with its position.
use Rattle.print_text.proofs.Common.{◌≡◌, ◌<◌, ◌≤◌, ◌+◌, ◌++◌, ℕ, Bool, true, false, cond, List, [], ◌∷◌, Option, length, take, get_or, refl, ap, ◌∙◌, arith, ◌==◌, ◌&&◌, not, if◌then◌else◌, Bor, count_by, enumerate_from, filter, flat_map, append-nil, take_all, take_more, filter-append, fold-append, GapLack, LayerHead, RingLack, gap_lines, group_lines, ring_lines, gap_line, group_line, is_first_alike, is_shown, number_of, ring_line, acceptance_at}
use Rattle.std.specs.Prelude.{◌-◌}
use Rattle.std.proofs.lemmas.List.Concat.{flat_map-append, flat_map-cons}
use Rattle.std.proofs.lemmas.List.FromFn.{get_or-enumerate_from, length-enumerate_from}
use Rattle.grid_units.specs.Holes.{GridRules}

-- the findings so far and one more, with their positions
pub marks_more : {X : Type 0} (n : ℕ) (xs : List X) (i p : ℕ) (d : X) → n + i ≡ p → i < length xs → take (i + 1) (enumerate_from n xs) ≡ take i (enumerate_from n xs) ++ (p, get_or xs i d) ∷ []
marks_more {X} n xs i p d at lt =
    take_more (enumerate_from n xs) i (n + i, d) (omega (arith, lt, length-enumerate_from n xs))
    ∙ (ap (λ (mark : ℕ × X). take i (enumerate_from n xs) ++ mark ∷ []) (get_or-enumerate_from n xs i (n + i, d) lt)
    ∙ ap (λ (k : ℕ). take i (enumerate_from n xs) ++ (k, get_or xs i d) ∷ []) at)

-- all findings
pub marks_all : {X : Type 0} (n : ℕ) (xs : List X) (i : ℕ) → length xs ≤ i → take i (enumerate_from n xs) ≡ enumerate_from n xs
marks_all n xs i h = take_all i (enumerate_from n xs) (omega (arith, h, length-enumerate_from n xs))

one_text : {A : Type 0} (f : A → List ℕ) (x : A) (b : Bool) → flat_map f (cond b (x ∷ []) []) ≡ (if b then f x else [])
one_text f x true = flat_map-cons f x [] ∙ append-nil (f x)
one_text f x false = refl

-- the lines of those that pass a test
pub lines_push : {A : Type 0} (p : A → Bool) (f : A → List ℕ) (xs : List A) (x : A) → flat_map f (filter p (xs ++ x ∷ [])) ≡ flat_map f (filter p xs) ++ (if p x then f x else [])
lines_push p f xs x =
    ap (flat_map f) (filter-append p xs (x ∷ []))
    ∙ (flat_map-append f (filter p xs) (filter p (x ∷ [])) ∙ ap (λ (t : List ℕ). flat_map f (filter p xs) ++ t) (one_text f x (p x)))

-- the lines of those that pass two tests
pub lines_push_both : {A : Type 0} (q p : A → Bool) (f : A → List ℕ) (xs : List A) (x : A)
    → flat_map f (filter p (filter q (xs ++ x ∷ []))) ≡ flat_map f (filter p (filter q xs)) ++ (if q x && p x then f x else [])
lines_push_both {A} q p f xs x = ap (λ (ys : List A). flat_map f (filter p ys)) (filter-append q xs (x ∷ [])) ∙ by_test (q x) where
  by_test : (b : Bool) → flat_map f (filter p (filter q xs ++ cond b (x ∷ []) [])) ≡ flat_map f (filter p (filter q xs)) ++ (if b && p x then f x else [])
  by_test true = lines_push p f (filter q xs) x
  by_test false = ap (λ (ys : List A). flat_map f (filter p ys)) (append-nil (filter q xs)) ∙ nothing (flat_map f (filter p (filter q xs))) where
    nothing : (t : List ℕ) → t ≡ t ++ []
    nothing t = grind (arith, append-nil)

-- the number of those that pass two tests
pub count_push_both : {A : Type 0} (q p : A → Bool) (xs : List A) (x : A)
    → count_by p (filter q (xs ++ x ∷ [])) ≡ count_by p (filter q xs) + (if q x && p x then 1 else 0)
count_push_both {A} q p xs x = ap (count_by p) (filter-append q xs (x ∷ [])) ∙ by_test (q x) where
  by_test : (b : Bool) → count_by p (filter q xs ++ cond b (x ∷ []) []) ≡ count_by p (filter q xs) + (if b && p x then 1 else 0)
  by_test true = fold-append (λ (a : ℕ) (y : A). a + cond (p y) 1 0) 0 (filter q xs) (x ∷ [])
  by_test false = ap (count_by p) (append-nil (filter q xs)) ∙ nothing (count_by p (filter q xs)) where
    nothing : (n : ℕ) → n ≡ n + 0
    nothing n = omega arith

-- the number of rings on a layer whose positions pass a test
abbrev pub rings_counted : (ℕ → Bool) → ℕ → List (ℕ × RingLack) → ℕ
rings_counted p layer marks = count_by (λ finding. p finding.0) (filter (λ finding. finding.1.layer == layer) marks)

-- the number of gaps that are not shown
abbrev pub gaps_hidden : Option ℕ → List (ℕ × GapLack) → ℕ
gaps_hidden limit marks = count_by (λ finding. not (is_shown limit finding.0)) marks

-- the lines of the rings on a layer, and of one more if it is shown
rings_more : (names : List (List ℕ)) (rules : GridRules) (accepted : List (Option (Bor (List ℕ)))) (limit : Option ℕ) (layer : ℕ) (rings : List RingLack) (i : ℕ) (d : RingLack) → i < length rings
    → ring_lines names rules accepted limit layer (take (i + 1) (enumerate_from 0 rings))
    ≡ ring_lines names rules accepted limit layer (take i (enumerate_from 0 rings)) ++ (if ((get_or rings i d).layer == layer) && is_shown limit i then ring_line names rules (number_of i) (get_or rings i d) (acceptance_at accepted i) else [])
rings_more names rules accepted limit layer rings i d lt =
    ap (ring_lines names rules accepted limit layer) (marks_more 0 rings i i d (omega arith) lt)
    ∙ lines_push_both (λ (finding : ℕ × RingLack). finding.1.layer == layer) (λ (finding : ℕ × RingLack). is_shown limit finding.0) (λ (finding : ℕ × RingLack). ring_line names rules (number_of finding.0) finding.1 (acceptance_at accepted finding.0))
    (take i (enumerate_from 0 rings)) (i, get_or rings i d)

-- one more ring that is shown
pub ring_added : (names : List (List ℕ)) (rules : GridRules) (accepted : List (Option (Bor (List ℕ)))) (limit : Option ℕ) (layer : ℕ) (rings : List RingLack) (i : ℕ) (d : RingLack) → i < length rings
    → (((get_or rings i d).layer == layer) && is_shown limit i) ≡ true
    → ring_lines names rules accepted limit layer (take (i + 1) (enumerate_from 0 rings)) ≡ ring_lines names rules accepted limit layer (take i (enumerate_from 0 rings)) ++ ring_line names rules (number_of i) (get_or rings i d) (acceptance_at accepted i)
ring_added names rules accepted limit layer rings i d lt on =
    rings_more names rules accepted limit layer rings i d lt
    ∙ ap (λ (b : Bool). ring_lines names rules accepted limit layer (take i (enumerate_from 0 rings)) ++ (if b then ring_line names rules (number_of i) (get_or rings i d) (acceptance_at accepted i) else [])) on

-- one more ring that is on another layer, or not shown
pub ring_left_out : (names : List (List ℕ)) (rules : GridRules) (accepted : List (Option (Bor (List ℕ)))) (limit : Option ℕ) (layer : ℕ) (rings : List RingLack) (i : ℕ) (d : RingLack) → i < length rings
    → (((get_or rings i d).layer == layer) && is_shown limit i) ≡ false
    → ring_lines names rules accepted limit layer (take (i + 1) (enumerate_from 0 rings)) ≡ ring_lines names rules accepted limit layer (take i (enumerate_from 0 rings))
ring_left_out names rules accepted limit layer rings i d lt off =
    rings_more names rules accepted limit layer rings i d lt
    ∙ (ap (λ (b : Bool). ring_lines names rules accepted limit layer (take i (enumerate_from 0 rings)) ++ (if b then ring_line names rules (number_of i) (get_or rings i d) (acceptance_at accepted i) else [])) off
    ∙ append-nil (ring_lines names rules accepted limit layer (take i (enumerate_from 0 rings))))

-- the number of rings on a layer whose positions pass a test, with one more ring
pub rings_counted_more : (p : ℕ → Bool) (layer : ℕ) (rings : List RingLack) (i : ℕ) (d : RingLack) → i < length rings
    → rings_counted p layer (take (i + 1) (enumerate_from 0 rings))
    ≡ rings_counted p layer (take i (enumerate_from 0 rings)) + (if ((get_or rings i d).layer == layer) && p i then 1 else 0)
rings_counted_more p layer rings i d lt =
    ap (rings_counted p layer) (marks_more 0 rings i i d (omega arith) lt)
    ∙ count_push_both (λ (finding : ℕ × RingLack). finding.1.layer == layer) (λ (finding : ℕ × RingLack). p finding.0) (take i (enumerate_from 0 rings)) (i, get_or rings i d)

-- the lines of the gaps, and of one more if it is shown
gaps_more : (names : List (List ℕ)) (rules : GridRules) (accepted : List (Option (Bor (List ℕ)))) (limit : Option ℕ) (first : ℕ) (gaps : List GapLack) (i : ℕ) (d : GapLack) → i < length gaps
    → gap_lines names rules accepted limit first (take (i + 1) (enumerate_from first gaps))
    ≡ gap_lines names rules accepted limit first (take i (enumerate_from first gaps)) ++ (if is_shown limit (first + i) then gap_line names rules (number_of (first + i)) (get_or gaps i d) (acceptance_at accepted i) else [])
gaps_more names rules accepted limit first gaps i d lt =
    let place : (first + i) - first ≡ i = omega arith in
    ap (gap_lines names rules accepted limit first) (marks_more first gaps i (first + i) d refl lt)
    ∙ (lines_push (λ (finding : ℕ × GapLack). is_shown limit finding.0) (λ (finding : ℕ × GapLack). gap_line names rules (number_of finding.0) finding.1 (acceptance_at accepted (finding.0 - first))) (take i (enumerate_from first gaps)) (first + i, get_or gaps i d)
    ∙ ap (λ (j : ℕ). gap_lines names rules accepted limit first (take i (enumerate_from first gaps)) ++ (if is_shown limit (first + i) then gap_line names rules (number_of (first + i)) (get_or gaps i d) (acceptance_at accepted j) else [])) place)

-- one more gap that is shown
pub gap_added : (names : List (List ℕ)) (rules : GridRules) (accepted : List (Option (Bor (List ℕ)))) (limit : Option ℕ) (first : ℕ) (gaps : List GapLack) (i : ℕ) (d : GapLack) → i < length gaps
    → is_shown limit (first + i) ≡ true
    → gap_lines names rules accepted limit first (take (i + 1) (enumerate_from first gaps)) ≡ gap_lines names rules accepted limit first (take i (enumerate_from first gaps)) ++ gap_line names rules (number_of (first + i)) (get_or gaps i d) (acceptance_at accepted i)
gap_added names rules accepted limit first gaps i d lt on =
    gaps_more names rules accepted limit first gaps i d lt
    ∙ ap (λ (b : Bool). gap_lines names rules accepted limit first (take i (enumerate_from first gaps)) ++ (if b then gap_line names rules (number_of (first + i)) (get_or gaps i d) (acceptance_at accepted i) else [])) on

-- one more gap that is not shown
pub gap_left_out : (names : List (List ℕ)) (rules : GridRules) (accepted : List (Option (Bor (List ℕ)))) (limit : Option ℕ) (first : ℕ) (gaps : List GapLack) (i : ℕ) (d : GapLack) → i < length gaps
    → is_shown limit (first + i) ≡ false
    → gap_lines names rules accepted limit first (take (i + 1) (enumerate_from first gaps)) ≡ gap_lines names rules accepted limit first (take i (enumerate_from first gaps))
gap_left_out names rules accepted limit first gaps i d lt off =
    gaps_more names rules accepted limit first gaps i d lt
    ∙ (ap (λ (b : Bool). gap_lines names rules accepted limit first (take i (enumerate_from first gaps)) ++ (if b then gap_line names rules (number_of (first + i)) (get_or gaps i d) (acceptance_at accepted i) else [])) off
    ∙ append-nil (gap_lines names rules accepted limit first (take i (enumerate_from first gaps))))

gaps_left_at : (limit : Option ℕ) (first : ℕ) (gaps : List GapLack) (i : ℕ) (d : GapLack) → i < length gaps
    → gaps_hidden limit (take (i + 1) (enumerate_from first gaps)) ≡ gaps_hidden limit (take i (enumerate_from first gaps)) + (if not (is_shown limit (first + i)) then 1 else 0)
gaps_left_at limit first gaps i d lt =
    ap (gaps_hidden limit) (marks_more first gaps i (first + i) d refl lt)
    ∙ fold-append (λ (a : ℕ) (y : ℕ × GapLack). a + cond (not (is_shown limit y.0)) 1 0) 0 (take i (enumerate_from first gaps)) ((first + i, get_or gaps i d) ∷ [])

-- the number of gaps that are not shown, with one more gap
pub gaps_left_more : (limit : Option ℕ) (first : ℕ) (gaps : List GapLack) (i : ℕ) → i < length gaps
    → gaps_hidden limit (take (i + 1) (enumerate_from first gaps)) ≡ gaps_hidden limit (take i (enumerate_from first gaps)) + (if not (is_shown limit (first + i)) then 1 else 0)
gaps_left_more limit first [] i lt = absurd (omega (arith, lt))
gaps_left_more limit first (gap ∷ gaps) i lt = gaps_left_at limit first (gap ∷ gaps) i gap lt

-- the texts of the layers, and of one more
pub layers_more : (text : ℕ × LayerHead → List ℕ) (layers : List LayerHead) (i : ℕ) (d : LayerHead) → i < length layers
    → flat_map text (take (i + 1) (enumerate_from 0 layers)) ≡ flat_map text (take i (enumerate_from 0 layers)) ++ text (i, get_or layers i d)
layers_more text layers i d lt =
    ap (flat_map text) (marks_more 0 layers i i d (omega arith) lt)
    ∙ (flat_map-append text (take i (enumerate_from 0 layers)) ((i, get_or layers i d) ∷ [])
    ∙ ap (λ (t : List ℕ). flat_map text (take i (enumerate_from 0 layers)) ++ t) (flat_map-cons text (i, get_or layers i d) [] ∙ append-nil (text (i, get_or layers i d))))

-- the lines of the diameters on a layer, and of one more ring if it is the first of its diameter there
groups_more : (name : List ℕ) (layer : ℕ) (rings : List RingLack) (i : ℕ) (d : RingLack) → i < length rings
    → group_lines name rings layer (take (i + 1) (enumerate_from 0 rings))
    ≡ group_lines name rings layer (take i (enumerate_from 0 rings)) ++ (if ((get_or rings i d).layer == layer) && is_first_alike rings (i, get_or rings i d) then group_line name rings (get_or rings i d) else [])
groups_more name layer rings i d lt =
    ap (group_lines name rings layer) (marks_more 0 rings i i d (omega arith) lt)
    ∙ lines_push_both (λ (finding : ℕ × RingLack). finding.1.layer == layer) (is_first_alike rings) (λ (finding : ℕ × RingLack). group_line name rings finding.1) (take i (enumerate_from 0 rings)) (i, get_or rings i d)

-- one more ring that is the first of its diameter
pub group_added : (name : List ℕ) (layer : ℕ) (rings : List RingLack) (i : ℕ) (d : RingLack) → i < length rings
    → (((get_or rings i d).layer == layer) && is_first_alike rings (i, get_or rings i d)) ≡ true
    → group_lines name rings layer (take (i + 1) (enumerate_from 0 rings)) ≡ group_lines name rings layer (take i (enumerate_from 0 rings)) ++ group_line name rings (get_or rings i d)
group_added name layer rings i d lt on =
    groups_more name layer rings i d lt
    ∙ ap (λ (b : Bool). group_lines name rings layer (take i (enumerate_from 0 rings)) ++ (if b then group_line name rings (get_or rings i d) else [])) on

-- one more ring that is on another layer, or not the first of its diameter
pub group_left_out : (name : List ℕ) (layer : ℕ) (rings : List RingLack) (i : ℕ) (d : RingLack) → i < length rings
    → (((get_or rings i d).layer == layer) && is_first_alike rings (i, get_or rings i d)) ≡ false
    → group_lines name rings layer (take (i + 1) (enumerate_from 0 rings)) ≡ group_lines name rings layer (take i (enumerate_from 0 rings))
group_left_out name layer rings i d lt off =
    groups_more name layer rings i d lt
    ∙ (ap (λ (b : Bool). group_lines name rings layer (take i (enumerate_from 0 rings)) ++ (if b then group_line name rings (get_or rings i d) else [])) off
    ∙ append-nil (group_lines name rings layer (take i (enumerate_from 0 rings))))
