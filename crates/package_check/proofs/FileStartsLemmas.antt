-- The holes of a board with their places, looked up one at a time.
use Rattle.package_check.proofs.Common.{◌≡◌, ◌<◌, ◌≤◌, ◌+◌, ◌-◌, ◌++◌, ℕ, zero, suc, inl, inr, List, [], ◌∷◌, Some, None, length, take, drop, get_or, min, arith, refl, sym, ap, ap₂, subst, ◌∙◌, true, false, enumerate_from, sum_by, cases_lt, leb-false, leb-true, get_or_append_left, get_or-append_right, get_or_default, length-append, length-drop, length-map, length-take-le, take-take, take_all, sum_by-cons, sum_by-take-le, sum_by_more, slice_get-map, slice_get_past, slice_get_read, Drilled, FileSum, Numbered, CountsAddUp, hole_count, holes_before, numbered_from, numbered_in, AreFileStarts, AreStartsOf, IsPartitionedBy-leb}
use Rattle.std.specs.List.{slice_get}
use Rattle.std.specs.List.Sorted.{IsNonDecreasingBy, IsPartitionPoint, IsPartitionedBy}
use Rattle.std.specs.Option.{option_map}
use Rattle.std.proofs.lemmas.List.FromFn.{length-enumerate_from}
use lib.Dec.{leb}

-- an element of the first of two lists, and one of the second
get_left : {X : Type 0} (xs ys : List X) (i : ℕ) (x : X) → slice_get xs i ≡ Some x → slice_get (xs ++ ys) i ≡ Some x
get_left [] ys i x h = absurd cc
get_left (y ∷ xs) ys zero x h = h
get_left (y ∷ xs) ys (suc i) x h = get_left xs ys i x h

get_right : {X : Type 0} (xs ys : List X) (j : ℕ) → slice_get (xs ++ ys) (length xs + j) ≡ slice_get ys j
get_right [] ys j = let e : 0 + j ≡ j = omega arith in ap (slice_get ys) e
get_right (x ∷ xs) ys j = let e : suc (length xs) + j ≡ suc (length xs + j) = omega arith in ap (slice_get (x ∷ (xs ++ ys))) e ∙ get_right xs ys j

-- an element of a list without its front, and one of its front
get_dropped : {X : Type 0} (k : ℕ) (xs : List X) (j : ℕ) → slice_get (drop k xs) j ≡ slice_get xs (k + j)
get_dropped zero xs j = let e : j ≡ 0 + j = omega arith in ap (slice_get xs) e
get_dropped (suc k) [] j = refl
get_dropped (suc k) (x ∷ xs) j = let e : suc (k + j) ≡ suc k + j = omega arith in get_dropped k xs j ∙ ap (slice_get (x ∷ xs)) e

get_taken : {X : Type 0} (k : ℕ) (xs : List X) (i : ℕ) (x : X) → i < k → slice_get xs i ≡ Some x → slice_get (take k xs) i ≡ Some x
get_taken zero xs i x lt h = absurd (omega arith)
get_taken (suc k) [] i x lt h = h
get_taken (suc k) (y ∷ xs) zero x lt h = h
get_taken (suc k) (y ∷ xs) (suc i) x lt h = get_taken k xs i x (omega arith) h

-- an element with its place
get_enumerated : {X : Type 0} (m : ℕ) (xs : List X) (i : ℕ) (x : X) → slice_get xs i ≡ Some x → slice_get (enumerate_from m xs) i ≡ Some (m + i, x)
get_enumerated m [] i x h = absurd cc
get_enumerated {X} m (y ∷ xs) zero x h =
    let e : m ≡ m + 0 = omega arith in
    ap (λ (k : ℕ). Some (k, y)) e ∙ ap (option_map (λ (z : X). (m + 0, z))) h
get_enumerated m (y ∷ xs) (suc i) x h = let e : m + 1 + i ≡ m + suc i = omega arith in get_enumerated (m + 1) xs i x h ∙ ap (λ (k : ℕ). Some (k, x)) e

-- a hole of one file, with its number there
get_in : (file : ℕ) (xs : List Drilled) (i : ℕ) (x : Drilled) → slice_get xs i ≡ Some x → slice_get (numbered_in file xs) i ≡ Some (record { file = file; number = 1 + i; drilled = x })
get_in file xs i x h =
    let f = λ (hole : ℕ × Drilled). let n : Numbered = record { file = file; number = hole.0; drilled = hole.1 } in n in
    slice_get-map f (enumerate_from 1 xs) i ∙ ap (option_map f) (get_enumerated 1 xs i x h)

length_in : (file : ℕ) (xs : List Drilled) → length (numbered_in file xs) ≡ length xs
length_in file xs = length-map (enumerate_from 1 xs) (λ (hole : ℕ × Drilled). let n : Numbered = record { file = file; number = hole.0; drilled = hole.1 } in n) ∙ length-enumerate_from 1 xs

-- the files after the first count the holes after its own
rest_counted : (one : FileSum) (files : List FileSum) (holes : List Drilled) → CountsAddUp (one ∷ files) holes → (hole_count one ≤ length holes) × CountsAddUp files (drop (hole_count one) holes)
rest_counted one files holes told =
    let cons = sum_by-cons hole_count one files in
    let size = length-drop (hole_count one) holes in
    (omega (arith, told, cons), omega (arith, told, cons, size))

-- each hole has one place in a file
length_numbered : (n : ℕ) (files : List FileSum) (holes : List Drilled) → CountsAddUp files holes → length (numbered_from n files holes) ≡ length holes
unfolding numbered_from
length_numbered n [] holes told = told
length_numbered n (one ∷ files) holes told =
    let k = hole_count one in
    let rest = rest_counted one files holes told in
    let first : length (numbered_in n (take k holes)) ≡ k = length_in n (take k holes) ∙ length-take-le k holes rest.0 in
    let later = length_numbered (n + 1) files (drop k holes) rest.1 in
    let all = length-append (numbered_in n (take k holes)) (numbered_from (n + 1) files (drop k holes)) in
    let size = length-drop k holes in
    let most = rest.0 in
    omega (arith, first, later, all, size, most)

-- the hole at a place that is not before the start of a file and before its end
pub numbered_at : (n : ℕ) (files : List FileSum) (holes : List Drilled) (file place : ℕ) (d : Drilled) → CountsAddUp files holes → file < length files → holes_before files file ≤ place → place < holes_before files (file + 1)
    → slice_get holes place ≡ Some d → slice_get (numbered_from n files holes) place ≡ Some (record { file = n + file; number = place - holes_before files file + 1; drilled = d })
unfolding numbered_from
numbered_at n [] holes file place d told inside low less at = absurd (omega arith)
numbered_at n (one ∷ files) holes zero place d told inside low less at =
    let k = hole_count one in
    let start : holes_before (one ∷ files) 0 ≡ 0 = refl in
    let end : holes_before (one ∷ files) (0 + 1) ≡ k + 0 = sum_by-cons hole_count one [] in
    let here = get_in n (take k holes) place d (get_taken k holes place d (omega (arith, less, end)) at) in
    let same_file : n ≡ n + 0 = omega arith in
    let same_number : 1 + place ≡ place - holes_before (one ∷ files) 0 + 1 = omega (arith, start) in
    get_left (numbered_in n (take k holes)) (numbered_from (n + 1) files (drop k holes)) place (record { file = n; number = 1 + place; drilled = d }) here
    ∙ ap₂ (λ (f m : ℕ). let x : Numbered = record { file = f; number = m; drilled = d } in Some x) same_file same_number
numbered_at n (one ∷ files) holes (suc file) place d told inside low less at =
    let k = hole_count one in
    let rest = rest_counted one files holes told in
    let most = rest.0 in
    let start : holes_before (one ∷ files) (suc file) ≡ k + holes_before files file = sum_by-cons hole_count one (take file files) in
    let after : suc file + 1 ≡ suc (file + 1) = omega arith in
    let end : holes_before (one ∷ files) (suc file + 1) ≡ k + holes_before files (file + 1) = ap (holes_before (one ∷ files)) after ∙ sum_by-cons hole_count one (take (file + 1) files) in
    let first = numbered_in n (take k holes) in
    let size : length first ≡ k = length_in n (take k holes) ∙ length-take-le k holes most in
    let split : k + (place - k) ≡ place = omega (arith, low, start) in
    let there : place ≡ length first + (place - k) = omega (arith, size, split) in
    let later = numbered_at (n + 1) files (drop k holes) file (place - k) d rest.1 (omega (arith, inside)) (omega (arith, low, start)) (omega (arith, less, low, start, end)) (get_dropped k holes (place - k) ∙ (ap (slice_get holes) split ∙ at)) in
    let same_file : n + 1 + file ≡ n + suc file = omega arith in
    let same_number : place - k - holes_before files file + 1 ≡ place - holes_before (one ∷ files) (suc file) + 1 = omega (arith, low, start) in
    ap (slice_get (first ++ numbered_from (n + 1) files (drop k holes))) there
    ∙ (get_right first (numbered_from (n + 1) files (drop k holes)) (place - k)
    ∙ (later ∙ ap₂ (λ (f m : ℕ). let x : Numbered = record { file = f; number = m; drilled = d } in Some x) same_file same_number))

-- no hole is past the last one
pub numbered_past : (files : List FileSum) (holes : List Drilled) (place : ℕ) → CountsAddUp files holes → length holes ≤ place → None ≡ slice_get (numbered_from 0 files holes) place
numbered_past files holes place told past =
    let size = length_numbered 0 files holes told in
    sym (slice_get_past (numbered_from 0 files holes) place (omega (arith, size, past)))

-- the start of a file is in the list
pub start_in : (files : List FileSum) (holes : List Drilled) (file start : ℕ) → CountsAddUp files holes → start ≡ holes_before files file → start ≤ length holes
start_in files holes file start told starts = let most = sum_by-take-le hole_count files file in omega (arith, told, starts, most)

-- the start of the next file, by how many of the rest this one has
pub next_start : (files : List FileSum) (holes : List Drilled) (file start count : ℕ) (one : FileSum) → CountsAddUp files holes → file < length files → one ≡ get_or files file one → start ≡ holes_before files file
    → count ≡ min (hole_count one) (length holes - start) → start + count ≡ holes_before files (file + 1)
next_start files holes file start count one told inside is starts counted =
    let next : holes_before files (file + 1) ≡ holes_before files file + hole_count one = sum_by_more hole_count files file one inside ∙ ap (λ (f : FileSum). holes_before files file + hole_count f) (sym is) in
    let most = sum_by-take-le hole_count files (file + 1) in
    omega (arith, told, starts, counted, next, most)

-- no file, and no start
pub no_starts : (files : List FileSum) (all : List ℕ) → all ≡ [] → AreStartsOf files 0 all
no_starts files all none = record {
  size = ap length none;
  each = λ i lt. absurd (omega (arith, lt));
}

-- all files
pub all_starts : (files : List FileSum) (holes : List Drilled) (count : ℕ) (starts : List ℕ) → CountsAddUp files holes → length files ≤ count → count ≤ length files → AreStartsOf files count starts → AreFileStarts files holes starts
all_starts files holes count starts told past inside was =
    let all : count ≡ length files = omega (arith, past, inside) in
    record { counted = told; are = subst (λ (n : ℕ). AreStartsOf files n starts) all was }

-- the start of one more file
pub starts_more : (files : List FileSum) (count : ℕ) (old all : List ℕ) (start : ℕ) → start ≡ holes_before files count → all ≡ old ++ start ∷ [] → AreStartsOf files count old → AreStartsOf files (count + 1) all
starts_more files count old all start starts is was = subst (AreStartsOf files (count + 1)) (sym is) (record {
  size = (let e = length-append old (start ∷ []) in let s = was.size in omega (arith, e, s));
  each = λ i lt. elim (cases_lt i count) [
    | inl low ↦ (let s = was.size in get_or_append_left old (start ∷ []) 0 i (omega (arith, low, s)) ∙ was.each i low)
    | inr high ↦ last i lt high
  ];
})
  where
    last : (i : ℕ) → i < count + 1 → count ≤ i → get_or (old ++ start ∷ []) i 0 ≡ holes_before files i
    last i lt high =
        let s = was.size in
        let here : i ≡ count = omega (arith, lt, high) in
        let first : i - length old ≡ 0 = omega (arith, here, s) in
        get_or-append_right old (start ∷ []) (length old) i 0 refl (omega (arith, high, s))
        ∙ (ap (λ (n : ℕ). get_or (start ∷ []) n 0) first ∙ (starts ∙ ap (holes_before files) (sym here)))

module _ (files : List FileSum) (holes : List Drilled) (starts : List ℕ) (file_starts : AreFileStarts files holes starts) where
  -- a later file starts no earlier
  rise : IsNonDecreasingBy (λ (start : ℕ). start) starts
  rise i j d l m =
      let size = file_starts.are.size in
      let low : get_or starts i d ≡ holes_before files i = get_or_default starts i d 0 (omega (arith, l, m)) ∙ file_starts.are.each i (omega (arith, l, m, size)) in
      let high : get_or starts j d ≡ holes_before files j = get_or_default starts j d 0 m ∙ file_starts.are.each j (omega (arith, m, size)) in
      let front : holes_before (take j files) i ≡ holes_before files i = ap (sum_by hole_count) (take-take i j files l) in
      let fewer = sum_by-take-le hole_count (take j files) i in
      omega (arith, low, high, front, fewer)

  pub parted : (place : ℕ) → IsPartitionedBy (λ (start : ℕ). leb start place) starts
  parted place = IsPartitionedBy-leb (λ (start : ℕ). start) starts place rise

  -- the last file that starts at a place or before it has the hole at the place
  pub found : (place i : ℕ) → place < length holes → i ≤ length starts → IsPartitionPoint (λ (start : ℕ). leb start place ≡ true) (λ (start : ℕ). leb start place ≡ false) starts i
      → (0 < i) × (i - 1 < length files) × (get_or starts (i - 1) 0 ≡ holes_before files (i - 1)) × (holes_before files (i - 1) ≤ place) × (place < holes_before files (i - 1 + 1))
  found place i inside bound point = (some, file_in, start, low, high)
    where
      size : length starts ≡ length files
      size = file_starts.are.size

      all : holes_before files (length files) ≡ length holes
      all = ap (sum_by hole_count) (take_all (length files) files (omega arith)) ∙ file_starts.counted

      filled : 0 < length files
      filled = elim (cases_lt 0 (length files)) [
        | inl more ↦ more
        | inr empty ↦ absurd (
            let none : length files ≡ 0 = omega (arith, empty) in
            let nothing : holes_before files (length files) ≡ 0 = ap (holes_before files) none in
            omega (arith, nothing, all, inside))
      ]

      some : 0 < i
      some = elim (cases_lt 0 i) [
        | inl above ↦ above
        | inr lacking ↦ absurd (
            let first = leb-false (get_or starts 0 0) place (point.1 0 0 lacking (omega (arith, size, filled))) in
            let zeroth : get_or starts 0 0 ≡ 0 = file_starts.are.each 0 filled in
            omega (arith, first, zeroth))
      ]

      file_in : i - 1 < length files
      file_in = omega (arith, some, bound, size)

      start : get_or starts (i - 1) 0 ≡ holes_before files (i - 1)
      start = file_starts.are.each (i - 1) file_in

      low : holes_before files (i - 1) ≤ place
      low = (let passes = leb-true (get_or starts (i - 1) 0) place (point.0 (i - 1) 0 (omega arith) (omega (arith, some))) in omega (arith, passes, start))

      high : place < holes_before files (i - 1 + 1)
      high =
          let next : i - 1 + 1 ≡ i = omega (arith, some) in
          let same : holes_before files (i - 1 + 1) ≡ holes_before files i = ap (holes_before files) next in
          elim (cases_lt i (length starts)) [
            | inl less ↦ (
                let fails = leb-false (get_or starts i 0) place (point.1 i 0 (omega arith) less) in
                let later = file_starts.are.each i (omega (arith, less, size)) in
                omega (arith, same, fails, later))
            | inr past ↦ (
                let end : i ≡ length files = omega (arith, past, bound, size) in
                let whole : holes_before files i ≡ holes_before files (length files) = ap (holes_before files) end in
                omega (arith, same, whole, all, inside))
          ]

  -- the hole at a place has the file that is found, and its number there
  pub placed : (place i : ℕ) (one : Drilled) → place < length holes → i ≤ length starts → IsPartitionPoint (λ (start : ℕ). leb start place ≡ true) (λ (start : ℕ). leb start place ≡ false) starts i → one ≡ get_or holes place one
      → Some (record { file = i - 1; number = place - get_or starts (i - 1) 0 + 1; drilled = one }) ≡ slice_get (numbered_from 0 files holes) place
  placed place i one inside bound point is =
      let at = found place i inside bound point in
      let file : 0 + (i - 1) ≡ i - 1 = omega arith in
      let number : place - holes_before files (i - 1) + 1 ≡ place - get_or starts (i - 1) 0 + 1 = ap (λ (start : ℕ). place - start + 1) (sym at.2) in
      sym (numbered_at 0 files holes (i - 1) place one file_starts.counted at.1 at.3 at.4 (slice_get_read holes (length holes) place one refl inside is)
      ∙ ap₂ (λ (f m : ℕ). let x : Numbered = record { file = f; number = m; drilled = one } in Some x) file number)
