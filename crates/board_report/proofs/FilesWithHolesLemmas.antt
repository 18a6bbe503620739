-- The drill files that have holes.
use Rattle.board_report.proofs.Common.{◌≡◌, ℕ, ◌+◌, ◌-◌, ◌<◌, ◌≤◌, inl, inr, true, false, zero, suc, List, [], ◌∷◌, ◌++◌, length, get_or, refl, sym, subst, ap, ◌∙◌, arith, Contains, sum_by, cases_lt, nat_tests, get_or_append_left, get_or-append_right, get_or_default, length-append, take_all, Contains-append_left, Contains-push, All-contains, BoardView, hole_count, FileSum, AreFileHoles, AreFilesWithHoles, IsFileHoles, IsPlace, holes_before, FileHoles}
use Rattle.std.specs.List.Sorted.{IsNonDecreasingBy, IsPartitionPoint, IsPartitionedBy}
use Rattle.std.proofs.lemmas.List.Sorted.{IsPartitionedBy-leb}
use Rattle.std.proofs.lemmas.List.Sums.{sum_by_more}
use lib.Dec.{leb}
use Rattle.board.specs.declared.FileSum.TheVariants as sum
use Rattle.board_report.proofs.JoinedRows.{pairs_join}
use Rattle.board_report.proofs.HolePlacesLemmas.{placed}

module _ (files : List FileSum) where
  no_fewer_next : (i : ℕ) → holes_before files i ≤ holes_before files (i + 1)
  no_fewer_next i = elim (cases_lt i (length files)) [
    | inl inside ↦ (let more = sum_by_more hole_count files i (sum.Layer 0 0 0) inside in omega (arith, more))
    | inr past ↦ (let same : holes_before files (i + 1) ≡ holes_before files i = ap (sum_by hole_count) (take_all (i + 1) files (omega (arith, past)) ∙ sym (take_all i files past)) in omega (arith, same))
  ]

  no_fewer_by : (i n : ℕ) → holes_before files i ≤ holes_before files (i + n)
  no_fewer_by i zero = (let e : i + 0 ≡ i = omega arith in let same : holes_before files (i + 0) ≡ holes_before files i = ap (holes_before files) e in omega (arith, same))
  no_fewer_by i (suc n) =
      let rest = no_fewer_by i n in
      let next = no_fewer_next (i + n) in
      let e : i + n + 1 ≡ i + suc n = omega arith in
      let same : holes_before files (i + n + 1) ≡ holes_before files (i + suc n) = ap (holes_before files) e in
      omega (arith, rest, next, same)

  -- a later file has no fewer holes before it
  pub no_fewer : (i j : ℕ) → i ≤ j → holes_before files i ≤ holes_before files j
  no_fewer i j h =
      let e : i + (j - i) ≡ j = omega (arith, h) in
      let same : holes_before files (i + (j - i)) ≡ holes_before files j = ap (holes_before files) e in
      let by = no_fewer_by i (j - i) in
      omega (arith, same, by)

  -- a hole before the end of some files is in one of them
  pub stands : (count hole : ℕ) → hole < holes_before files count → (file : ℕ) × (file < count) × (holes_before files file ≤ hole) × (hole < holes_before files (file + 1))
  stands zero hole less = absurd (omega (arith, less))
  stands (suc n) hole less = elim (cases_lt hole (holes_before files n)) [
    | inl low ↦ (let s = stands n hole low in (s.0, omega (arith, s.1), s.2, s.3))
    | inr high ↦ (let e : suc n ≡ n + 1 = omega arith in (n, omega arith, high, subst (λ (k : ℕ). hole < holes_before files k) e less))
  ]

  -- the holes of a file
  abbrev pub holes_of : ℕ → FileHoles
  holes_of file = record { drill = file; start = holes_before files file; end = holes_before files (file + 1) }

  one_file : (a b : FileHoles) → a.drill ≡ b.drill → IsFileHoles files a → IsFileHoles files b → a ≡ b
  one_file a b at x y =
      let start : a.start ≡ b.start = x.starts ∙ (ap (holes_before files) at ∙ sym y.starts) in
      let end : a.end ≡ b.end = x.ends ∙ (ap (λ (n : ℕ). holes_before files (n + 1)) at ∙ sym y.ends) in
      λ i. record { drill = at i; start = start i; end = end i }

  -- one more file, without holes
  pub empty_more : (count start end : ℕ) (old all : List FileHoles) → start ≡ holes_before files count → end ≡ holes_before files (count + 1) → end ≤ start → all ≡ old → AreFileHoles files count old → AreFileHoles files (count + 1) all
  empty_more count start end old all starts ends none is was = subst (AreFileHoles files (count + 1)) (sym is) (record {
    each = λ i d l. (let e = was.each i d l in (omega (arith, e.0), e.1));
    sorted = was.sorted;
    all = λ file l of. elim (cases_lt file.drill count) [
      | inl low ↦ was.all file low of
      | inr high ↦ absurd (
          let at : file.drill ≡ count = omega (arith, l, high) in
          let low : file.start ≡ start = of.starts ∙ (ap (holes_before files) at ∙ sym starts) in
          let top : file.end ≡ end = of.ends ∙ (ap (λ (n : ℕ). holes_before files (n + 1)) at ∙ sym ends) in
          let some = of.some in
          omega (arith, low, top, some, none))
    ];
  })

  -- one more file, with holes
  pub with_holes_more : (count : ℕ) (old all : List FileHoles) (one : FileHoles) → one.drill ≡ count → IsFileHoles files one → all ≡ old ++ one ∷ [] → AreFileHoles files count old → AreFileHoles files (count + 1) all
  with_holes_more count old all one at its is was = subst (AreFileHoles files (count + 1)) (sym is) (record {
    each = λ i d l. elim (cases_lt i (length old)) [
      | inl low ↦ subst (λ (x : FileHoles). (x.drill < count + 1) × IsFileHoles files x) (sym (get_or_append_left old (one ∷ []) d i low)) (let e = was.each i d low in (omega (arith, e.0), e.1))
      | inr high ↦ subst (λ (x : FileHoles). (x.drill < count + 1) × IsFileHoles files x) (sym (last i d l high)) (omega (arith, at), its)
    ];
    sorted = pairs_join old (one ∷ []) (λ a b. a.drill < b.drill) was.sorted (λ i j d l m. absurd (omega (arith, l, m)))
        (λ i j d l m. subst (λ (x : FileHoles). (get_or old i d).drill < x.drill) (sym (only j d m)) (let e = was.each i d l in omega (arith, e.0, at)));
    all = λ other l of. elim (cases_lt other.drill count) [
      | inl low ↦ Contains-append_left old (one ∷ []) other (was.all other low of)
      | inr high ↦ (
          let same : one ≡ other = one_file one other (omega (arith, l, high, at)) its of in
          subst (Contains (old ++ one ∷ [])) same (Contains-push old one))
    ];
  })
    where
      only : (j : ℕ) (d : FileHoles) → j < 1 → get_or (one ∷ []) j d ≡ one
      only j d m = (let first : j ≡ 0 = omega (arith, m) in ap (λ (n : ℕ). get_or (one ∷ []) n d) first)

      last : (i : ℕ) (d : FileHoles) → i < length (old ++ one ∷ []) → length old ≤ i → get_or (old ++ one ∷ []) i d ≡ one
      last i d l high =
          let size = length-append old (one ∷ []) in
          get_or-append_right old (one ∷ []) (length old) i d refl high ∙ only (i - length old) d (omega (arith, l, high, size))

-- the ends of files never fall
ends_rise : (files : List FileSum) (count : ℕ) (with_holes : List FileHoles) → AreFileHoles files count with_holes → IsNonDecreasingBy (λ file. file.end) with_holes
ends_rise files count with_holes are i j d l m =
    let low = (are.each i d (omega (arith, l, m))).1.ends in
    let high = (are.each j d m).1.ends in
    elim (cases_lt i j) [
      | inl less ↦ (let before = are.sorted i j d less m in let more = no_fewer files ((get_or with_holes i d).drill + 1) ((get_or with_holes j d).drill + 1) (omega (arith, before)) in omega (arith, low, high, more))
      | inr past ↦ (let e : i ≡ j = omega (arith, l, past) in let same : (get_or with_holes i d).end ≡ (get_or with_holes j d).end = ap (λ (n : ℕ). (get_or with_holes n d).end) e in omega (arith, same))
    ]

pub parted : (files : List FileSum) (count : ℕ) (with_holes : List FileHoles) (hole : ℕ) → AreFileHoles files count with_holes → IsPartitionedBy (λ file. leb file.end hole) with_holes
parted files count with_holes hole are = IsPartitionedBy-leb (λ file. file.end) with_holes hole (ends_rise files count with_holes are)

module _ (board : BoardView) (with_holes : List FileHoles) (are : AreFilesWithHoles board with_holes) where
  -- the first file that ends after a hole is the hole's file
  pub found : (hole i : ℕ) → hole < length board.holes → IsPartitionPoint (λ file. leb file.end hole ≡ true) (λ file. leb file.end hole ≡ false) with_holes i
      → (i < length with_holes) × ((d : FileHoles) → ((get_or with_holes i d).start ≤ hole) × (hole < (get_or with_holes i d).end))
  found hole i inside point = (here, λ d. (low d, high d))
    where
      all : holes_before board.files (length board.files) ≡ length board.holes
      all = ap (sum_by hole_count) (take_all (length board.files) board.files (omega arith)) ∙ are.counted

      within : hole < holes_before board.files (length board.files)
      within = omega (arith, all, inside)

      file : ℕ
      file = (stands board.files (length board.files) hole within).0

      its : (file < length board.files) × (holes_before board.files file ≤ hole) × (hole < holes_before board.files (file + 1))
      its = (let s = stands board.files (length board.files) hole within in (s.1, s.2, s.3))

      there : Contains with_holes (holes_of board.files file)
      there = are.are.all (holes_of board.files file) its.0 (record { starts = refl; ends = refl; some = omega (arith, its) })

      not_after : i ≤ there.0
      not_after = elim (cases_lt there.0 i) [
        | inl less ↦ absurd (
            let passes = point.0 there.0 (holes_of board.files file) (omega arith) less in
            let end : (get_or with_holes there.0 (holes_of board.files file)).end ≡ holes_before board.files (file + 1) = ap (λ (f : FileHoles). f.end) there.2 in
            let above = its.2 in
            grind (arith, nat_tests, passes, end, above))
        | inr more ↦ more
      ]

      here : i < length with_holes
      here = (let size = there.1 in let h = not_after in omega (arith, size, h))

      high : (d : FileHoles) → hole < (get_or with_holes i d).end
      high d = (let fails = point.1 i d (omega arith) here in grind (arith, nat_tests, fails))

      no_later : (d : FileHoles) → (get_or with_holes i d).drill ≤ file
      no_later d = elim (cases_lt i there.0) [
        | inl less ↦ (
            let before = are.are.sorted i there.0 d less there.1 in
            let same : (get_or with_holes there.0 d).drill ≡ file = ap (λ (f : FileHoles). f.drill) (get_or_default with_holes there.0 d (holes_of board.files file) there.1 ∙ there.2) in
            omega (arith, before, same))
        | inr past ↦ (
            let h = not_after in
            let e : i ≡ there.0 = omega (arith, past, h) in
            let same : (get_or with_holes i d).drill ≡ file = ap (λ (n : ℕ). (get_or with_holes n d).drill) e ∙ ap (λ (f : FileHoles). f.drill) (get_or_default with_holes there.0 d (holes_of board.files file) there.1 ∙ there.2) in
            omega (arith, same))
      ]

      low : (d : FileHoles) → (get_or with_holes i d).start ≤ hole
      low d =
          let start = (are.are.each i d here).1.starts in
          let fewer = no_fewer board.files (get_or with_holes i d).drill file (no_later d) in
          let above = its.1 in
          omega (arith, start, fewer, above)

-- the number of a hole in its file
pub placed_in : (board : BoardView) (with_holes : List FileHoles) (file : FileHoles) (hole : ℕ) → AreFilesWithHoles board with_holes → Contains with_holes file → file.start ≤ hole → hole < file.end → IsPlace board.files hole (record { drill = file.drill; number = hole - file.start + 1 })
placed_in board with_holes file hole are among low high =
    let its = (All-contains (λ file. (file.drill < length board.files) × IsFileHoles board.files file) with_holes file are.are.each among).1 in
    placed board.files file.drill hole file.start file.end its.starts its.ends low high
