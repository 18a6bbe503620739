-- The lines of a drill file on a layer, from the table of its holes.
use Rattle.board_report.proofs.Common.{Less, Equal, Greater, ltb, ℤ, w64, to_z, of_z, ◌≡◌, ◌++◌, ◌&&◌, ℕ, pos, ◌+◌, ◌*◌, ◌<◌, ◌≤◌, inl, inr, Bool, true, false, cond, List, [], ◌∷◌, Option, Some, None, length, map, get_or, drop, refl, sym, subst, ap, ◌∙◌, arith, Profile, is_some, ◌*ℤ◌, Vec, All, Contains, slice_get, BTreeMap, IsOrdered, get, is_at, keys, values, get_or-map, length-map, drop_more, drop_all, length-append, get_or_append_left, filter_passes, cases_lt, eqb-true, eqb_tells, hole_at, default_hole, needs_ring, BestPad, RingLine, BoardView, FileSum, Drilled, AreRowLines, IsBefore, IsRowLine, RowKey, IsLeastWithNumber, is_in_row, places_in, places_of, holes_before, LayerFileHoles, IsRowOf, IsTableOf, IsNumberedLeast, is_not_empty, row_of}
use Rattle.std.specs.Int.Signed.{mag}
use Rattle.std.proofs.lemmas.Int.{ints}
use Rattle.board.proofs.PassedIntegers.{same}
use Rattle.std.specs.Option.{option_map_or}
use Rattle.std.specs.Ordering.{nat_cmp, is_eq}
use Rattle.std.specs.Cmp.{nat_cmp_total}
use Rattle.std.proofs.Math.Seq.{get_or-append_seam}
use Rattle.std.proofs.lemmas.Option.{slice_get-get_or, get_or_from_slice_get, slice_get_cases}
use Rattle.std.proofs.lemmas.Map.Entries.{btree_map_get_place, place_from_lookup}
use Rattle.std.proofs.lemmas.Map.Keys.{below_from_sorted}
use Rattle.board.specs.Rows.{IsLeastRingOf, IsRingRow}
use Rattle.board.specs.declared.row.RowLeast.{RowLeast}
use Rattle.board.specs.declared.row.RingRow.{RingRow}
use Rattle.report.specs.declared.LeastRing as line

-- the next element of a list
pub next_of : {X : Type 0} (xs rest : List X) (n : ℕ) (x : X) → drop n xs ≡ x ∷ rest → (n < length xs) × (get_or xs n x ≡ x) × (rest ≡ drop (n + 1) xs)
next_of {X} xs rest n x e = elim (cases_lt n (length xs)) [
  | inl inside ↦ (
      let both : get_or xs n x ∷ drop (n + 1) xs ≡ x ∷ rest = sym (drop_more xs n x inside) ∙ e in
      (inside, head_of both, sym (tail_of both)))
  | inr past ↦ absurd (let none : [] ≡ x ∷ rest = sym (drop_all n xs past) ∙ e in cc)
]
  where
    head_of : {a b : X} {us vs : List X} → a ∷ us ≡ b ∷ vs → a ≡ b
    head_of e = cc

    tail_of : {a b : X} {us vs : List X} → a ∷ us ≡ b ∷ vs → us ≡ vs
    tail_of e = cc

with_holes : (xs : List ℕ) → is_not_empty xs ≡ true → 0 < length xs
with_holes [] e = absurd cc
with_holes (x ∷ xs) e = omega arith

is_not_empty_by : (xs : List ℕ) → 0 < length xs → is_not_empty xs ≡ true
is_not_empty_by [] h = absurd (omega (arith, h))
is_not_empty_by (x ∷ xs) h = refl

got : (o : Option (Vec ℕ)) → is_some o ≡ true → (v : Vec ℕ) × (o ≡ Some v)
got None e = absurd cc
got (Some v) e = (v, refl)

-- twice a radius does not overflow
pub doubled : (z : ℤ) (radius : ℕ) → z ≡ pos radius → radius ≤ 5000000000000 → to_z w64 (of_z w64 (pos 2 *ℤ to_z w64 (of_z w64 z))) ≡ pos (2 * radius)
doubled z radius is few =
    let one : mag (pos radius) < 9223372036854775808 = omega (arith, ints, few) in
    let two : mag (pos (2 * radius)) < 9223372036854775808 = omega (arith, ints, few) in
    let twice : pos 2 *ℤ pos radius ≡ pos (2 * radius) = omega (arith, ints) in
    ap (λ (x : ℤ). to_z w64 (of_z w64 (pos 2 *ℤ to_z w64 (of_z w64 x)))) is
    ∙ (ap (λ (x : ℤ). to_z w64 (of_z w64 (pos 2 *ℤ x))) (same (pos radius) one) ∙ (ap (λ (x : ℤ). to_z w64 (of_z w64 x)) twice ∙ same (pos (2 * radius)) two))

-- after the last element nothing is left
pub all_taken : {X : Type 0} (xs : List X) (n : ℕ) → drop n xs ≡ [] → length xs ≤ n
all_taken xs n e = elim (cases_lt n (length xs)) [
  | inl inside ↦ absurd (taken_more xs n inside e)
  | inr past ↦ past
]
  where
    taken_more : {X : Type 0} (xs : List X) (n : ℕ) → n < length xs → drop n xs ≡ [] → ⊥
    taken_more [] n l e = omega (arith, l)
    taken_more (x ∷ xs) n l e = (let more = drop_more (x ∷ xs) n x l in let none : get_or (x ∷ xs) n x ∷ drop (n + 1) (x ∷ xs) ≡ [] = sym more ∙ e in cc)

-- the least ring of a row is that of one of its holes
pub least_inside : (profile : Profile) (bests : List (Option BestPad)) (holes : List Drilled) (chosen : List ℕ) (row : RingRow) (low high : ℕ) → IsRingRow profile bests holes chosen row → All (λ place. (low ≤ place) × (place < high)) chosen
    → (least : RowLeast) → row.least ≡ Some least → (low ≤ least.hole) × (least.hole < high)
least_inside profile bests holes chosen row low high is inside least e =
    let held = subst (IsLeastRingOf profile bests holes chosen (length chosen)) e is.least in
    subst (λ (place : ℕ). (low ≤ place) × (place < high)) held.there (inside held.i 0 held.inside)

-- and its number is the number of that hole
pub least_is_numbered : (files : List FileSum) (drill start end : ℕ) (held : Option RowLeast) (told : Option line.LeastRing) → start ≡ holes_before files drill → end ≡ holes_before files (drill + 1)
    → ((least : RowLeast) → held ≡ Some least → (start ≤ least.hole) × (least.hole < end)) → IsNumberedLeast held start told → IsLeastWithNumber files drill held told
least_is_numbered files drill start end None None starts ends inside is = tt
least_is_numbered files drill start end None (Some told) starts ends inside is = is
least_is_numbered files drill start end (Some held) None starts ends inside is = is
least_is_numbered files drill start end (Some held) (Some told) starts ends inside is =
    let at = inside held refl in
    (is.0, record { at = omega (arith, starts, is.1); from_one = omega (arith, at.0, is.1); inside = omega (arith, at.1, ends) })

-- the first hole of a row has its radius
pub radius_of : (board : BoardView) (key : RowKey) (d : ℕ) → 0 < length (places_of board key) → (hole_at board.holes (get_or (places_of board key) 0 d)).radius ≡ key.radius
radius_of board key d some =
    let place = get_or (places_of board key) 0 d in
    let passes : is_in_row board key place ≡ true = filter_passes (is_in_row board key) (places_in board.files key.drill) 0 d some in
    eqb-true (hole_at board.holes place).radius key.radius (second (needs_ring key.layer (get_or board.holes place default_hole)) _ passes)
  where
    second : (a b : Bool) → (a && b) ≡ true → b ≡ true
    second true b e = e
    second false b e = absurd cc

module _ (profile : Profile) (board : BoardView) (file_holes : LayerFileHoles) (table : BTreeMap ℕ (Vec ℕ)) (is : IsTableOf board file_holes table) (ordered : IsOrdered nat_cmp table) where
  -- the places at an entry of the table are those of its row
  pub at_entry : (i k : ℕ) (v : Vec ℕ) → i < length table.entries → ((get_or (values table) i v).items ≡ places_of board (row_of file_holes (get_or (keys table) i k))) × (0 < length (get_or (values table) i v).items)
  at_entry i k v inside =
      let e = get_or table.entries i (k, v) in
      let found = btree_map_get_place nat_cmp_total table i e.0 e.1 ordered (slice_get-get_or table.entries i (k, v) inside) in
      let at_key : get_or (keys table) i k ≡ e.0 = get_or-map (λ (x : ℕ × Vec ℕ). x.0) table.entries i (k, v) k inside in
      let at_value : get_or (values table) i v ≡ e.1 = get_or-map (λ (x : ℕ × Vec ℕ). x.1) table.entries i (k, v) v inside in
      let items : e.1.items ≡ places_of board (row_of file_holes e.0) = sym (ap (λ (o : Option (Vec ℕ)). option_map_or (λ (places : Vec ℕ). places.items) o []) found) ∙ is.items e.0 in
      let there : is_not_empty (places_of board (row_of file_holes e.0)) ≡ true = sym (is.there e.0) ∙ ap (λ (o : Option (Vec ℕ)). is_some o) found in
      let some : 0 < length e.1.items = subst (λ (xs : List ℕ). 0 < length xs) (sym items) (with_holes (places_of board (row_of file_holes e.0)) there) in
      (ap (λ (w : Vec ℕ). w.items) at_value ∙ (items ∙ ap (λ (r : ℕ). places_of board (row_of file_holes r)) (sym at_key)), subst (λ (w : Vec ℕ). 0 < length w.items) (sym at_value) some)

  -- the next value of the table is at an entry
  pub entry_next : (rest : List (Vec ℕ)) (n : ℕ) (v : Vec ℕ) → drop n (values table) ≡ v ∷ rest
      → (n < length table.entries) × (rest ≡ drop (n + 1) (values table)) × ((k : ℕ) → (v.items ≡ places_of board (row_of file_holes (get_or (keys table) n k))) × (0 < length v.items))
  entry_next rest n v e =
      let t = next_of (values table) rest n v e in
      let inside : n < length table.entries = subst (λ (m : ℕ). n < m) (length-map table.entries (λ (x : ℕ × Vec ℕ). x.1)) t.0 in
      (inside, t.2, λ k. (let a = at_entry n k v inside in (ap (λ (w : Vec ℕ). w.items) (sym t.1) ∙ a.0, subst (λ (w : Vec ℕ). 0 < length w.items) t.1 a.1)))

  entry_of : (radius : ℕ) → 0 < length (places_of board (row_of file_holes radius)) → Contains (keys table) radius
  entry_of radius some =
      let found = got (get nat_cmp table radius) (is.there radius ∙ is_not_empty_by (places_of board (row_of file_holes radius)) some) in
      let place = place_from_lookup (is_at (nat_cmp radius)) table.entries found.0 found.1 in
      let i = place.0 in
      let k = place.1 in
      let same : radius ≡ k = equal radius k place.3 in
      let inside = slice_inside table.entries i (k, found.0) place.2 in (
        i,
        subst (λ (n : ℕ). i < n) (sym (length-map table.entries (λ (x : ℕ × Vec ℕ). x.0))) inside,
        get_or-map (λ (x : ℕ × Vec ℕ). x.0) table.entries i (k, found.0) radius inside ∙ (ap (λ (x : ℕ × Vec ℕ). x.0) (get_or_from_slice_get table.entries i (k, found.0) (k, found.0) place.2) ∙ sym same),
      )
    where
      none : (t : Bool) → is_eq (cond t Less (cond false Equal Greater)) ≡ true → ⊥
      none true e = cc
      none false e = cc

      equal : (a b : ℕ) → is_at (nat_cmp a) b ≡ true → a ≡ b
      equal a b e = elim (eqb_tells a b) [
        | inl same ↦ same.1
        | inr apart ↦ absurd (none (ltb a b) (subst (λ (t : Bool). is_eq (cond (ltb a b) Less (cond t Equal Greater)) ≡ true) apart.0 e))
      ]

      slice_inside : {X : Type 0} (xs : List X) (i : ℕ) (x : X) → slice_get xs i ≡ Some x → i < length xs
      slice_inside xs i x e = elim ((slice_get_cases xs i).1) [
        | inl found ↦ found.1
        | inr past ↦ absurd (let none : None ≡ Some x = sym past.1 ∙ e in cc)
      ]

  pub all_lined : (lines : List RingLine) → length lines ≡ length table.entries → ((i k : ℕ) (d : RingLine) → i < length lines → IsRowLine profile board (row_of file_holes (get_or (keys table) i k)) (get_or lines i d)) → AreRowLines profile board (IsRowOf file_holes) lines
  all_lined lines size line =
      let rows = map (row_of file_holes) (keys table) in
      let count : length (keys table) ≡ length table.entries = length-map table.entries (λ (x : ℕ × Vec ℕ). x.0) in
      let many : length rows ≡ length (keys table) = length-map (keys table) (row_of file_holes) in
      let row = λ (i : ℕ) (k : RowKey) (l : i < length rows). get_or-map (row_of file_holes) (keys table) i k.radius k (subst (λ (n : ℕ). i < n) many l) in
      record {
        keys = rows;
        size = many ∙ (count ∙ sym size);
        line = λ i k d l. subst (λ (key : RowKey). IsRowLine profile board key (get_or lines i d)) (sym (row i k l)) (line i k.radius d (omega (arith, l, many, count, size)));
        there = λ i k l. subst (λ (key : RowKey). IsRowOf file_holes key × (0 < length (places_of board key))) (sym (row i k l)) ((refl, refl), some i k.radius (omega (arith, l, many, count)));
        sorted = λ i j d less l.
            let rises : get_or (keys table) i d.radius < get_or (keys table) j d.radius = below_from_sorted (keys table) i j d.radius ordered less (omega (arith, l, many)) in
            subst (λ (a : RowKey). IsBefore a (get_or rows j d)) (sym (row i d (omega (arith, less, l)))) (subst (IsBefore (row_of file_holes (get_or (keys table) i d.radius))) (sym (row j d l)) (inr (refl, inr (refl, rises))));
        all = λ key its h.
            let same = same_key key its in
            let found = entry_of key.radius (subst (λ (k : RowKey). 0 < length (places_of board k)) same h) in
            let inside : found.0 < length rows = subst (λ (n : ℕ). found.0 < n) (sym many) found.1 in
            (found.0, inside, get_or-map (row_of file_holes) (keys table) found.0 key.radius key found.1 ∙ (ap (row_of file_holes) found.2 ∙ sym same));
      }
    where
      same_key : (key : RowKey) → IsRowOf file_holes key → key ≡ row_of file_holes key.radius
      same_key key its = λ i. record { layer = its.0 i; drill = its.1 i; radius = key.radius }

      some : (i k : ℕ) → i < length table.entries → 0 < length (places_of board (row_of file_holes (get_or (keys table) i k)))
      some i k l = elim ((slice_get_cases table.entries i).1) [
        | inl found ↦ (let t = at_entry i k found.0.1 l in subst (λ (xs : List ℕ). 0 < length xs) t.0 t.1)
        | inr past ↦ absurd (omega (arith, l, past.0))
      ]

-- one more line
pub lines_more : (profile : Profile) (board : BoardView) (file_holes : LayerFileHoles) (ks : List ℕ) (lines all : List RingLine) (line : RingLine) → all ≡ lines ++ line ∷ [] → ((k : ℕ) → IsRowLine profile board (row_of file_holes (get_or ks (length lines) k)) line)
    → ((i k : ℕ) (d : RingLine) → i < length lines → IsRowLine profile board (row_of file_holes (get_or ks i k)) (get_or lines i d)) → (i k : ℕ) (d : RingLine) → i < length all → IsRowLine profile board (row_of file_holes (get_or ks i k)) (get_or all i d)
lines_more profile board file_holes ks lines all line is new old i k d l =
    let count = ap length is ∙ length-append lines (line ∷ []) in
    subst (λ (xs : List RingLine). IsRowLine profile board (row_of file_holes (get_or ks i k)) (get_or xs i d)) (sym is) (elim (cases_lt i (length lines)) [
      | inl low ↦ subst (IsRowLine profile board (row_of file_holes (get_or ks i k))) (sym (get_or_append_left lines (line ∷ []) d i low)) (old i k d low)
      | inr high ↦ (
          let last : i ≡ length lines = omega (arith, high, l, count) in
          subst (λ (n : ℕ). IsRowLine profile board (row_of file_holes (get_or ks n k)) (get_or (lines ++ line ∷ []) n d)) (sym last)
          (subst (IsRowLine profile board (row_of file_holes (get_or ks (length lines) k))) (sym (get_or-append_seam lines line [] d)) (new k)))
    ])
