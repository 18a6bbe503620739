-- Values in arrays.
use Rattle.print_json.proofs.Common.{◌≡◌, Option, ◌<◌, ◌≤◌, ◌+◌, ◌-◌, ◌++◌, ◌∙◌, ℕ, suc, Bool, List, [], ◌∷◌, length, take, get_or, map, refl, ap, sym, append_assoc, append-nil, length-append, arith, enumerate_from, flat_map, get_or-map, get_or-append-add, get_or_append_left, length-map, length-take-le, take_more, Json, null, HasNumbers, ItemsHaveNumbers, GapLack, RingLack, comma_before, more_items, value_text, file_values, gap_values, ring_values, array_of, file_value, gap_value, items_of, ring_value}
use Rattle.std.specs.Borrow.{Bor}
use Rattle.std.specs.Prelude.{if◌then◌else◌}
use Rattle.grid_units.specs.declared.profile.Profile.{Profile}
use Rattle.std.proofs.lemmas.Bool.{ne_eqb}
use Rattle.std.proofs.lemmas.List.Concat.{flat_map-append}
use Rattle.std.proofs.lemmas.List.FromFn.{get_or-enumerate_from, length-enumerate_from}
use Rattle.board.specs.declared.FileSum.{FileSum}
use Rattle.grid_units.specs.HoleWords.{name_of}
use Rattle.report.specs.Acceptances.{acceptance_at}
use Rattle.report.specs.declared.LayerHead.{LayerHead}

-- a value after a comma
abbrev pub after_comma : Json → List ℕ
after_comma j = 44 ∷ value_text j

-- values with commas between them
abbrev pub joined : List Json → List ℕ
joined [] = []
joined (v ∷ vs) = value_text v ++ flat_map after_comma vs

more_joined : (vs : List Json) → flat_map after_comma vs ++ 93 ∷ [] ≡ more_items (items_of vs)
more_joined [] = refl
more_joined (v ∷ vs) = ap (λ (t : List ℕ). 44 ∷ t) (append_assoc (value_text v) (flat_map after_comma vs) (93 ∷ []) ∙ ap (λ (t : List ℕ). value_text v ++ t) (more_joined vs))

-- an array
pub array_text : (vs : List Json) → 91 ∷ (joined vs ++ 93 ∷ []) ≡ value_text (array_of vs)
array_text [] = refl
array_text (v ∷ vs) = ap (λ (t : List ℕ). 91 ∷ t) (append_assoc (value_text v) (flat_map after_comma vs) (93 ∷ []) ∙ ap (λ (t : List ℕ). value_text v ++ t) (more_joined vs))

-- before a value that is not the first
not_first : (n : ℕ) → 44 ∷ [] ≡ comma_before (suc n)
not_first n = sym (ap (λ (b : Bool). if b then [] else 44 ∷ []) (ne_eqb (suc n) 0 (λ e. omega arith)))

joined_push : (vs : List Json) (v : Json) → joined (vs ++ v ∷ []) ≡ joined vs ++ (comma_before (length vs) ++ value_text v)
joined_push [] v = append-nil (value_text v)
joined_push (w ∷ vs) v =
    ap (λ (t : List ℕ). value_text w ++ t) (flat_map-append after_comma vs (v ∷ []) ∙ ap (λ (t : List ℕ). flat_map after_comma vs ++ t) (append-nil (after_comma v)))
    ∙ (sym (append_assoc (value_text w) (flat_map after_comma vs) (after_comma v))
    ∙ ap (λ (t : List ℕ). (value_text w ++ flat_map after_comma vs) ++ (t ++ value_text v)) (not_first (length vs)))

-- one more value
pub joined_more : (vs : List Json) (i : ℕ) → i < length vs → joined (take i vs) ++ (comma_before i ++ value_text (get_or vs i null)) ≡ joined (take (i + 1) vs)
joined_more vs i lt =
    sym (ap joined (take_more vs i null lt)
    ∙ (joined_push (take i vs) (get_or vs i null)
    ∙ ap (λ (k : ℕ). joined (take i vs) ++ (comma_before k ++ value_text (get_or vs i null))) (length-take-le i vs (omega arith))))

-- the numbers of an array
pub items_numbers : (vs : List Json) → ((k : ℕ) → k < length vs → HasNumbers (get_or vs k null)) → ItemsHaveNumbers (items_of vs)
items_numbers [] h = tt
items_numbers (v ∷ vs) h = (h 0 (omega arith), items_numbers vs (λ k l. h (suc k) (omega arith)))

module _ {X : Type 0} (value : ℕ × X → Json) (xs : List X) where
  -- as many values as things
  length_placed : length (map value (enumerate_from 0 xs)) ≡ length xs
  length_placed = omega (arith, length-map (enumerate_from 0 xs) value, length-enumerate_from 0 xs)

  -- the value at a place
  placed : (i : ℕ) (d : X) → i < length xs → value (i, get_or xs i d) ≡ get_or (map value (enumerate_from 0 xs)) i null
  placed i d lt =
      sym (get_or-map value (enumerate_from 0 xs) i (i, d) null (omega (arith, lt, length-enumerate_from 0 xs))
      ∙ ap value (get_or-enumerate_from 0 xs i (i, d) lt ∙ ap (λ (n : ℕ). (n, get_or xs i d)) none_before))
    where
      none_before : 0 + i ≡ i
      none_before = omega arith

module _ (profile : Profile) (names : List (List ℕ)) (files : List FileSum) where
  pub length_files : length (file_values profile names files) ≡ length files
  length_files = length_placed (λ file. file_value profile (file.0 + 1) (name_of names file.0) file.1) files

  pub file_at : (i : ℕ) (d : FileSum) → i < length files → file_value profile (i + 1) (name_of names i) (get_or files i d) ≡ get_or (file_values profile names files) i null
  file_at = placed (λ file. file_value profile (file.0 + 1) (name_of names file.0) file.1) files

module _ (layers : List LayerHead) (rings : List RingLack) (accepted : List (Option (Bor (List ℕ)))) where
  length_rings : length (ring_values layers rings accepted) ≡ length rings
  length_rings = length_placed (λ one. ring_value layers (one.0 + 1) one.1 (acceptance_at accepted one.0)) rings

  pub ring_at : (i : ℕ) (d : RingLack) → i < length rings → ring_value layers (i + 1) (get_or rings i d) (acceptance_at accepted i) ≡ get_or (ring_values layers rings accepted) i null
  ring_at = placed (λ one. ring_value layers (one.0 + 1) one.1 (acceptance_at accepted one.0)) rings

module _ (before : ℕ) (gaps : List GapLack) (accepted : List (Option (Bor (List ℕ)))) where
  length_gaps : length (gap_values before gaps accepted) ≡ length gaps
  length_gaps = length_placed (λ one. gap_value (before + (one.0 + 1)) one.1 (acceptance_at accepted one.0)) gaps

  pub gap_at : (i : ℕ) (d : GapLack) → i < length gaps → gap_value (before + (i + 1)) (get_or gaps i d) (acceptance_at accepted i) ≡ get_or (gap_values before gaps accepted) i null
  gap_at = placed (λ one. gap_value (before + (one.0 + 1)) one.1 (acceptance_at accepted one.0)) gaps

module _ (layers : List LayerHead) (rings : List RingLack) (gaps : List GapLack) (of_rings of_gaps : List (Option (Bor (List ℕ)))) where
  -- how many findings there are
  pub length_found : length (ring_values layers rings of_rings ++ gap_values (length rings) gaps of_gaps) ≡ length rings + length gaps
  length_found =
      omega (arith, length-append (ring_values layers rings of_rings) (gap_values (length rings) gaps of_gaps), length_rings layers rings of_rings, length_gaps (length rings) gaps of_gaps)

  -- a ring among the findings
  pub found_ring : (i : ℕ) → i < length rings → get_or (ring_values layers rings of_rings) i null ≡ get_or (ring_values layers rings of_rings ++ gap_values (length rings) gaps of_gaps) i null
  found_ring i lt = sym (get_or_append_left (ring_values layers rings of_rings) (gap_values (length rings) gaps of_gaps) null i (omega (arith, lt, length_rings layers rings of_rings)))

  -- a gap among the findings
  pub found_gap : (i n : ℕ) → n ≡ length rings → n ≤ i
      → get_or (gap_values (length rings) gaps of_gaps) (i - n) null ≡ get_or (ring_values layers rings of_rings ++ gap_values (length rings) gaps of_gaps) i null
  found_gap i n is le =
      sym (ap (λ (k : ℕ). get_or (ring_values layers rings of_rings ++ gap_values (length rings) gaps of_gaps) k null) after
      ∙ get_or-append-add (ring_values layers rings of_rings) (gap_values (length rings) gaps of_gaps) (i - n) null)
    where
      after : i ≡ length (ring_values layers rings of_rings) + (i - n)
      after = omega (arith, is, le, length_rings layers rings of_rings)
