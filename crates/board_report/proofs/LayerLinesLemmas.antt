-- The lines of a layer, drill file by drill file.
use Rattle.board_report.proofs.Common.{◌≡◌, ℕ, ◌+◌, ◌-◌, ◌<◌, ◌≤◌, ◌⊎◌, inl, inr, List, [], ◌++◌, length, get_or, refl, sym, subst, ap, ◌∙◌, arith, Profile, Contains, filter, range_with_len, get_or_default, cases_lt, RingLine, BoardView, AreFilesWithHoles, AreRowLines, IsBefore, RowKey, is_in_row, places_of, holes_before, IsRowOf, FileHoles, LayerFileHoles}
use Rattle.board_report.proofs.FilesWithHolesLemmas.{holes_of}
use Rattle.board_report.proofs.JoinedRows.{join, renamed}
use Rattle.board_report.proofs.TablesLemmas.{no_file}

-- the rows of the layers before one, and on it those of the first drill files of a list
abbrev pub IsUpTo : List FileHoles → ℕ → ℕ → RowKey → Type 0
IsUpTo with_holes layer count key = (key.layer < layer) ⊎ ((key.layer ≡ layer) × ((k : ℕ) × (k < count) × ((d : FileHoles) → (get_or with_holes k d).drill ≡ key.drill)))

-- a row with a hole has a drill file with holes
has_hole : (board : BoardView) (key : RowKey) → 0 < length (places_of board key) → holes_before board.files key.drill < holes_before board.files (key.drill + 1)
has_hole board key some = elim (cases_lt (holes_before board.files key.drill) (holes_before board.files (key.drill + 1))) [
  | inl less ↦ less
  | inr no_more ↦ absurd (
      let none : holes_before board.files (key.drill + 1) - holes_before board.files key.drill ≡ 0 = omega (arith, no_more) in
      let empty : places_of board key ≡ [] = ap (λ (n : ℕ). filter (is_in_row board key) (range_with_len (holes_before board.files key.drill) n)) none in
      let few : 0 < length {A = ℕ} [] = subst (λ (xs : List ℕ). 0 < length xs) empty some in
      omega (arith, few))
]

module _ (profile : Profile) (board : BoardView) (with_holes : List FileHoles) (are : AreFilesWithHoles board with_holes) (layer : ℕ) where
  pub first_file : (lines : List RingLine) → AreRowLines profile board (λ key. key.layer < layer) lines → AreRowLines profile board (IsUpTo with_holes layer 0) lines
  first_file lines = renamed profile board (λ key. key.layer < layer) (IsUpTo with_holes layer 0) lines (λ key a. inl a) (λ key a some. back key a)
    where
      back : (key : RowKey) → IsUpTo with_holes layer 0 key → key.layer < layer
      back key (inl a) = a
      back key (inr a) = absurd (let l = a.1.1 in omega (arith, l))

  pub next_file : (i : ℕ) (file_holes : LayerFileHoles) (old its all : List RingLine) → i < length with_holes → file_holes.layer ≡ layer → ((d : FileHoles) → (get_or with_holes i d).drill ≡ file_holes.drill) → all ≡ old ++ its
      → AreRowLines profile board (IsUpTo with_holes layer i) old → AreRowLines profile board (IsRowOf file_holes) its → AreRowLines profile board (IsUpTo with_holes layer (i + 1)) all
  next_file i file_holes old its all inside on in_it is x y =
      subst (AreRowLines profile board (IsUpTo with_holes layer (i + 1))) (sym is) (join profile board (IsUpTo with_holes layer i) (IsRowOf file_holes) (IsUpTo with_holes layer (i + 1)) old its before first last split x y)
    where
      some_file : FileHoles
      some_file = record { drill = 0; start = 0; end = 0 }

      before : (a b : RowKey) → IsUpTo with_holes layer i a → IsRowOf file_holes b → IsBefore a b
      before a b (inl less) k = inl (omega (arith, less, k.0, on))
      before a b (inr same) k =
          let earlier = are.are.sorted same.1.0 i some_file same.1.1 inside in
          let its = same.1.2 some_file in
          let here = in_it some_file in
          let drill = k.1 in
          inr (same.0 ∙ sym (k.0 ∙ on), inl (omega (arith, earlier, its, here, drill)))

      first : (key : RowKey) → IsUpTo with_holes layer i key → IsUpTo with_holes layer (i + 1) key
      first key (inl less) = inl less
      first key (inr same) = inr (same.0, (same.1.0, (let l = same.1.1 in omega (arith, l)), same.1.2))

      last : (key : RowKey) → IsRowOf file_holes key → IsUpTo with_holes layer (i + 1) key
      last key k = inr (k.0 ∙ on, (i, omega arith, λ d. in_it d ∙ sym k.1))

      split : (key : RowKey) → IsUpTo with_holes layer (i + 1) key → IsUpTo with_holes layer i key ⊎ IsRowOf file_holes key
      split key (inl less) = inl (inl less)
      split key (inr same) = elim (cases_lt same.1.0 i) [
        | inl low ↦ inl (inr (same.0, (same.1.0, low, same.1.2)))
        | inr high ↦ (
            let l = same.1.1 in
            let e : i ≡ same.1.0 = omega (arith, high, l) in
            inr (same.0 ∙ sym on, sym (same.1.2 some_file) ∙ (ap (λ (n : ℕ). (get_or with_holes n some_file).drill) (sym e) ∙ in_it some_file)))
      ]

  pub last_file : (count : ℕ) (lines : List RingLine) → length with_holes ≤ count → AreRowLines profile board (IsUpTo with_holes layer count) lines → AreRowLines profile board (λ key. key.layer < layer + 1) lines
  last_file count lines past = renamed profile board (IsUpTo with_holes layer count) (λ key. key.layer < layer + 1) lines to back
    where
      to : (key : RowKey) → IsUpTo with_holes layer count key → key.layer < layer + 1
      to key (inl less) = omega (arith, less)
      to key (inr same) = (let e = same.0 in omega (arith, e))

      listed_file : (key : RowKey) → 0 < length (places_of board key) → Contains with_holes (holes_of board.files key.drill)
      listed_file key some = elim (cases_lt key.drill (length board.files)) [
        | inl inside ↦ are.are.all (holes_of board.files key.drill) inside (record { starts = refl; ends = refl; some = has_hole board key some })
        | inr far ↦ absurd (no_file board key far some)
      ]

      back : (key : RowKey) → key.layer < layer + 1 → 0 < length (places_of board key) → IsUpTo with_holes layer count key
      back key less some = elim (cases_lt key.layer layer) [
        | inl low ↦ inl low
        | inr high ↦ (
            let at = listed_file key some in
            let within = at.1 in
            inr (omega (arith, less, high), (at.0, omega (arith, within, past), λ d. ap (λ (f : FileHoles). f.drill) (get_or_default with_holes at.0 d (holes_of board.files key.drill) at.1 ∙ at.2))))
      ]
