-- The lines of drill files whose coordinates seem to be off by a factor.
use Rattle.board_report.proofs.Common.{◌≡◌, ℕ, ◌+◌, ◌-◌, ◌<◌, ◌≤◌, inl, inr, Bool, true, false, Option, Some, None, List, [], ◌∷◌, ◌++◌, length, take, drop, get_or, refl, sym, subst, ap, ◌∙◌, arith, if◌then◌else◌, slice_range, cases_lt, false≢true, append-nil, get_or_append_left, get_or_default, get_or-append_right, length-append, Contains-append_left, Contains-append_right, WidePad, Drilled, BoardView, FileSum, holes_before, AreUnitMistakes, IsUnitMistakeOf, first_pads, holes_in, is_plated, AreSearched, AreFoundMistakes, IsSearched, IsUnitMistakeOfOrNone, mistake_list}
use Rattle.report.specs.declared.UnitMistake.{UnitMistake}
use Rattle.report.specs.UnitMistakes.{AreFileRanges, IsUnitMistake, IsUnitMistakeOrNone, bare_count}
use Rattle.report.specs.UnitMistakes as scales
use Rattle.report.specs.declared.mistakes.FileRange.{FileRange}
use Rattle.report.proofs.FewestLemmas.{one_scale}
use Rattle.board.specs.declared.FileSum.TheVariants as sum
use Rattle.board_report.proofs.JoinedRows.{pairs_join}

module _ (board : BoardView) where
  -- the line found for a file's holes is the file's line, and a file without plated holes has none
  pub found_line : (drill : ℕ) (searched : FileRange) (pads : List WidePad) (line : Option UnitMistake) → IsSearched board drill searched → drill < length board.files → 0 < length board.layers → pads ≡ first_pads board
      → IsUnitMistakeOrNone pads (slice_range board.holes searched.start searched.end) searched.drill line → IsUnitMistakeOfOrNone board drill line
  found_line drill searched pads line is inside layer first scale =
      by (is_plated (get_or board.files drill nothing)) refl line
      (subst (λ (ps : List WidePad). IsUnitMistakeOrNone ps (slice_range board.holes searched.start searched.end) drill line) first (subst (λ (n : ℕ). IsUnitMistakeOrNone pads (slice_range board.holes searched.start searched.end) n line) is.file scale))
    where
      nothing : FileSum
      nothing = sum.Layer 0 0 0

      own : is_plated (get_or board.files drill nothing) ≡ true → slice_range board.holes searched.start searched.end ≡ holes_in board drill
      own plated =
          let ends : searched.end ≡ holes_before board.files (drill + 1) = is.ends nothing ∙ ap (λ (t : Bool). if t then holes_before board.files (drill + 1) else searched.start) plated in
          λ k. slice_range board.holes (is.starts k) (ends k)

      empty : is_plated (get_or board.files drill nothing) ≡ false → slice_range board.holes searched.start searched.end ≡ []
      empty other =
          let ends : searched.end ≡ searched.start = is.ends nothing ∙ ap (λ (t : Bool). if t then holes_before board.files (drill + 1) else searched.start) other in
          ap (λ (n : ℕ). take n (drop searched.start board.holes)) (let none : searched.end - searched.start ≡ 0 = omega (arith, ends) in none)

      by : (t : Bool) → is_plated (get_or board.files drill nothing) ≡ t → (l : Option UnitMistake) → IsUnitMistakeOrNone (first_pads board) (slice_range board.holes searched.start searched.end) drill l → IsUnitMistakeOfOrNone board drill l
      by true plated None none = λ line at scale.
          none line (subst (λ (hs : List Drilled). IsUnitMistake (first_pads board) hs line) (sym (own plated)) (subst (λ (n : ℕ). IsUnitMistake (first_pads board) (holes_in board n) line) at scale.scale))
      by true plated (Some line) told = (
        record {
          layer = layer;
          inside = subst (λ (n : ℕ). n < length board.files) (sym told.1) inside;
          plated = λ d. ap is_plated (ap (λ (n : ℕ). get_or board.files n d) told.1 ∙ get_or_default board.files drill d nothing inside) ∙ plated;
          scale = subst (λ (n : ℕ). IsUnitMistake (first_pads board) (holes_in board n) line) (sym told.1) (subst (λ (hs : List Drilled). IsUnitMistake (first_pads board) hs line) (own plated) told.0);
        },
        told.1,
      )
      by false other None none = λ line at scale. false≢true (sym other ∙ (get_is line at ∙ scale.plated nothing))
        where
          get_is : (line : UnitMistake) → line.drill ≡ drill → is_plated (get_or board.files drill nothing) ≡ is_plated (get_or board.files line.drill nothing)
          get_is line at = ap (λ (n : ℕ). is_plated (get_or board.files n nothing)) (sym at)
      by false other (Some line) told = absurd (
          let scale = subst (λ (hs : List Drilled). IsUnitMistake (first_pads board) hs line) (empty other) told.0 in
          let most = scale.most in
          let bare = scale.bare in
          let none : bare_count (first_pads board) [] ≡ 0 = refl in
          omega (arith, most, bare, none))

  -- the holes that are searched for scales are in the list of all holes
  pub searched_fit : (searched : List FileRange) → AreSearched board (length board.files) searched → AreFileRanges board.holes searched
  searched_fit searched are = λ k d l. (let size = are.size in let is = are.each k d (omega (arith, l, size)) in (is.ordered, is.inside))

  -- each file has its line, or none
  pub all_found : (searched : List FileRange) (pads : List WidePad) (found : List (Option UnitMistake)) → AreSearched board (length board.files) searched → 0 < length board.layers → pads ≡ first_pads board
      → scales.AreUnitMistakes pads board.holes searched found → AreFoundMistakes board found
  all_found searched pads found are layer first is = record {
    size = is.size ∙ are.size;
    each = λ k d l. (let size = are.size in found_line k (get_or searched k nothing) pads (get_or found k d) (are.each k nothing l) l layer first (is.each k nothing d (omega (arith, l, size))));
  }
    where
      nothing : FileRange
      nothing = record { drill = 0; start = 0; end = 0 }

  -- one more file searched for a scale
  pub searched_more : (count : ℕ) (old all : List FileRange) (searched : FileRange) → all ≡ old ++ searched ∷ [] → IsSearched board count searched → AreSearched board count old → AreSearched board (count + 1) all
  searched_more count old all searched is more was = subst (AreSearched board (count + 1)) (sym is) (record {
    size = (let size = length-append old (searched ∷ []) in let few = was.size in omega (arith, size, few));
    each = λ k d l. elim (cases_lt k count) [
      | inl low ↦ subst (IsSearched board k) (sym (get_or_append_left old (searched ∷ []) d k (let few = was.size in omega (arith, low, few)))) (was.each k d low)
      | inr high ↦ subst (IsSearched board k) (sym (last k d high l)) (subst (λ (n : ℕ). IsSearched board n searched) (let here : count ≡ k = omega (arith, high, l) in here) more)
    ];
  })
    where
      last : (k : ℕ) (d : FileRange) → count ≤ k → k < count + 1 → get_or (old ++ searched ∷ []) k d ≡ searched
      last k d high l =
          let few = was.size in
          let far : length old ≤ k = omega (arith, high, few) in
          let first : k - length old ≡ 0 = omega (arith, l, few) in
          get_or-append_right old (searched ∷ []) (length old) k d refl far ∙ ap (λ (n : ℕ). get_or (searched ∷ []) n d) first

  -- the lines of all files
  pub all_files : (count : ℕ) (lines : List UnitMistake) → length board.files ≤ count → AreUnitMistakes board count lines → AreUnitMistakes board (length board.files) lines
  all_files count lines past is = record {
    each = λ i d l. (let e = is.each i d l in (e.1.inside, e.1));
    sorted = is.sorted;
    all = λ line l scale. is.all line (omega (arith, l, past)) scale;
  }

  -- one more file
  pub file_more : (file : ℕ) (old all : List UnitMistake) (line : Option UnitMistake) → all ≡ old ++ mistake_list line → IsUnitMistakeOfOrNone board file line → AreUnitMistakes board file old → AreUnitMistakes board (file + 1) all
  file_more file old all None is none was = subst (AreUnitMistakes board (file + 1)) (sym (is ∙ append-nil old)) (record {
    each = λ i d l. (let e = was.each i d l in (omega (arith, e.0), e.1));
    sorted = was.sorted;
    all = λ line l scale. elim (cases_lt line.drill file) [
      | inl low ↦ was.all line low scale
      | inr high ↦ absurd (none line (omega (arith, l, high)) scale)
    ];
  })
  file_more file old all (Some line) is told was = subst (AreUnitMistakes board (file + 1)) (sym is) (record {
    each = λ i d l. elim (cases_lt i (length old)) [
      | inl low ↦ subst (λ (x : UnitMistake). (x.drill < file + 1) × IsUnitMistakeOf board x) (sym (get_or_append_left old (line ∷ []) d i low)) (let e = was.each i d low in (omega (arith, e.0), e.1))
      | inr high ↦ subst (λ (x : UnitMistake). (x.drill < file + 1) × IsUnitMistakeOf board x) (sym (last i d l high)) (omega (arith, told.1), told.0)
    ];
    sorted = pairs_join old (line ∷ []) (λ a b. a.drill < b.drill) was.sorted (λ i j d l m. absurd (omega (arith, l, m)))
        (λ i j d l m. subst (λ (x : UnitMistake). (get_or old i d).drill < x.drill) (sym (only j d m)) (let e = was.each i d l in omega (arith, e.0, told.1)));
    all = λ other l scale. elim (cases_lt other.drill file) [
      | inl low ↦ Contains-append_left old (line ∷ []) other (was.all other low scale)
      | inr high ↦ (
          let at : other.drill ≡ line.drill = omega (arith, l, high, told.1) in
          let same : other ≡ line = one_scale (first_pads board) (holes_in board line.drill) other line at (subst (λ (n : ℕ). IsUnitMistake (first_pads board) (holes_in board n) other) at scale.scale) told.0.scale in
          Contains-append_right old (line ∷ []) other (0, omega arith, sym same))
    ];
  })
    where
      only : (j : ℕ) (d : UnitMistake) → j < 1 → get_or (line ∷ []) j d ≡ line
      only j d m = (let first : j ≡ 0 = omega (arith, m) in ap (λ (n : ℕ). get_or (line ∷ []) n d) first)

      last : (i : ℕ) (d : UnitMistake) → i < length (old ++ line ∷ []) → length old ≤ i → get_or (old ++ line ∷ []) i d ≡ line
      last i d l high =
          let size = length-append old (line ∷ []) in
          get_or-append_right old (line ∷ []) (length old) i d refl high ∙ only (i - length old) d (omega (arith, l, high, size))

-- the lines of scales once some layers are done: none before the first, all after it
pub record ScalesAt (board : BoardView) (layer : ℕ) (scales : List UnitMistake) : Type 0 where
  pub before : layer ≡ 0 → scales ≡ []
  pub after : 0 < layer → AreUnitMistakes board (length board.files) scales

module _ (board : BoardView) where
  pub no_layer_yet : ScalesAt board 0 []
  no_layer_yet = record { before = λ e. refl; after = λ l. absurd (omega (arith, l)) }

  -- the first layer
  pub first_layer : (layer : ℕ) (scales : List UnitMistake) → AreUnitMistakes board (length board.files) scales → ScalesAt board (layer + 1) scales
  first_layer layer scales is = record { before = λ e. absurd (omega (arith, e)); after = λ l. is }

  -- a later one
  pub later_layer : (layer : ℕ) (scales : List UnitMistake) → (layer ≡ 0 → ⊥) → ScalesAt board layer scales → ScalesAt board (layer + 1) scales
  later_layer layer scales later was = record {
    before = λ e. absurd (omega (arith, e));
    after = λ l. elim (cases_lt 0 layer) [
      | inl some ↦ was.after some
      | inr none ↦ absurd (later (omega (arith, none)))
    ];
  }

  -- a board without a layer has no lines of scales
  pub no_layer : (count : ℕ) → length board.layers ≤ 0 → AreUnitMistakes board count []
  no_layer count none = record {
    each = λ i d l. absurd (omega (arith, l));
    sorted = λ i j d l m. absurd (omega (arith, m));
    all = λ line l is. absurd (let some = is.layer in omega (arith, some, none));
  }

  pub all_layers : (layer : ℕ) (scales : List UnitMistake) → length board.layers ≤ layer → ScalesAt board layer scales → AreUnitMistakes board (length board.files) scales
  all_layers layer scales past is = elim (cases_lt 0 layer) [
    | inl some ↦ is.after some
    | inr none ↦ subst (AreUnitMistakes board (length board.files)) (sym (is.before (omega (arith, none)))) (no_layer (length board.files) (omega (arith, past, none)))
  ]
