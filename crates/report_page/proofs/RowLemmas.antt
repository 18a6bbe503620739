-- One more row of the table, and one more file.
use Rattle.report_page.proofs.Common.{◌≡◌, ◌<◌, ◌+◌, ◌++◌, ℕ, List, [], ◌∷◌, Option, length, take, get_or, refl, ap, ◌∙◌, arith, Bor, enumerate_from, flat_map, append-nil, LayerHead, RingLack, marks_more, Profile, FileSum, file_items, file_words, gap_row, gap_rows, ring_row, ring_rows, flat_map-append, flat_map-cons, GridRules, GapLack, number_of, escaped_name}
use Rattle.std.specs.Prelude.{◌-◌}
use Rattle.report.specs.Acceptances.{acceptance_at}
use Rattle.grid_units.specs.HoleWords.{name_of}

-- what one more element gives, by its position
pub texts_more : {X : Type 0} (f : ℕ × X → List ℕ) (n : ℕ) (xs : List X) (i : ℕ) (d : X) → i < length xs
    → flat_map f (take (i + 1) (enumerate_from n xs)) ≡ flat_map f (take i (enumerate_from n xs)) ++ f (n + i, get_or xs i d)
texts_more f n xs i d lt =
    ap (flat_map f) (marks_more n xs i (n + i) d refl lt)
    ∙ (flat_map-append f (take i (enumerate_from n xs)) ((n + i, get_or xs i d) ∷ [])
    ∙ ap (λ (t : List ℕ). flat_map f (take i (enumerate_from n xs)) ++ t) (flat_map-cons f (n + i, get_or xs i d) [] ∙ append-nil (f (n + i, get_or xs i d))))

-- the row of one more ring
pub ring_added : (names : List (List ℕ)) (layers : List LayerHead) (rules : GridRules) (accepted : List (Option (Bor (List ℕ)))) (rings : List RingLack) (i : ℕ) (d : RingLack) → i < length rings
    → ring_rows names layers rules accepted (take (i + 1) (enumerate_from 0 rings))
    ≡ ring_rows names layers rules accepted (take i (enumerate_from 0 rings)) ++ ring_row names layers rules (number_of i) (get_or rings i d) (acceptance_at accepted i)
ring_added names layers rules accepted rings i d lt =
    let place : 0 + i ≡ i = omega arith in
    texts_more (λ (finding : ℕ × RingLack). ring_row names layers rules (number_of finding.0) finding.1 (acceptance_at accepted finding.0)) 0 rings i d lt
    ∙ ap (λ (j : ℕ). ring_rows names layers rules accepted (take i (enumerate_from 0 rings)) ++ ring_row names layers rules (number_of j) (get_or rings i d) (acceptance_at accepted j)) place

-- the row of one more gap, after this many rings
pub gap_added : (names : List (List ℕ)) (rules : GridRules) (accepted : List (Option (Bor (List ℕ)))) (first : ℕ) (gaps : List GapLack) (i : ℕ) (d : GapLack) → i < length gaps
    → gap_rows names rules accepted first (take (i + 1) (enumerate_from first gaps))
    ≡ gap_rows names rules accepted first (take i (enumerate_from first gaps)) ++ gap_row names rules (number_of (first + i)) (get_or gaps i d) (acceptance_at accepted i)
gap_added names rules accepted first gaps i d lt =
    let place : (first + i) - first ≡ i = omega arith in
    texts_more (λ (finding : ℕ × GapLack). gap_row names rules (number_of finding.0) finding.1 (acceptance_at accepted (finding.0 - first))) first gaps i d lt
    ∙ ap (λ (j : ℕ). gap_rows names rules accepted first (take i (enumerate_from first gaps)) ++ gap_row names rules (number_of (first + i)) (get_or gaps i d) (acceptance_at accepted j)) place

-- one more file
pub file_added : (profile : Profile) (names : List (List ℕ)) (files : List FileSum) (i : ℕ) (d : FileSum) → i < length files
    → file_items profile names (take (i + 1) (enumerate_from 0 files)) ≡ file_items profile names (take i (enumerate_from 0 files)) ++ file_words profile (escaped_name (name_of names i)) (get_or files i d)
file_added profile names files i d lt =
    let place : 0 + i ≡ i = omega arith in
    texts_more (λ (file : ℕ × FileSum). file_words profile (escaped_name (name_of names file.0)) file.1) 0 files i d lt
    ∙ ap (λ (j : ℕ). file_items profile names (take i (enumerate_from 0 files)) ++ file_words profile (escaped_name (name_of names j)) (get_or files i d)) place
