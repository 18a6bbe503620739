-- Files whose holes are tried at other places, and their lines.
use Rattle.report.proofs.Common.{◌≡◌, ◌↔◌, ℕ, ◌*◌, ◌<◌, ◌≤◌, ◌==◌, ◌⊎◌, inl, inr, Bool, true, false, Some, None, Option, List, length, map, get_or, refl, sym, subst, arith, slice_range, Decides-eqb, All-map, wide_pad_covers, AreBare, AreBestPads, BestPad, WidePad, Drilled, UnitFactor, AreUnitMistakes, IsUnitMistakeOrNone, bare_count_with, factors, holes_in, AreCounted, AreSuspects, AreHoleRanges, AreTried, IsSuspect, IsFewest, IsTried, holes_of, open_part, HoleRange, Fewest, Tried, Suspect, FileRange}
use Rattle.std.proofs.Common.{if◌then◌else◌}
use Rattle.report.specs.declared.UnitMistake.{UnitMistake}
use Rattle.board.proofs.BareLemmas.{bare_by_bests}
use Rattle.board.specs.Rows.{has_no_best_pad}
use Rattle.report.proofs.FewestLemmas.{too_many}
use Rattle.report.proofs.PairedLists.{PairedLists}

-- the best pads of holes tell which of them are bare
pub told_by : (pads : List WidePad) (holes : List Drilled) (bests : List (Option BestPad)) (bare : List Bool) → bare ≡ map has_no_best_pad bests → AreBestPads wide_pad_covers pads holes bests → AreBare wide_pad_covers pads holes bare
told_by pads holes bests bare is all = subst (AreBare wide_pad_covers pads holes) (sym is) (bare_by_bests wide_pad_covers pads holes bests all)

-- ---- lists that belong to each other

module _ (pads : List WidePad) (holes : List Drilled) where
  abbrev pub IsCount : UnitFactor → HoleRange → ℕ → Type 0
  IsCount factor s n = n ≡ bare_count_with pads (holes_of holes s) factor

  pub as_counted : (ranges : List HoleRange) (factor : UnitFactor) (counts : List ℕ) → PairedLists (IsCount factor) ranges counts → AreCounted pads holes ranges factor counts
  as_counted ranges factor counts is = record { size = is.size; each = is.each }

  pub from_counted : (ranges : List HoleRange) (factor : UnitFactor) (counts : List ℕ) → AreCounted pads holes ranges factor counts → PairedLists (IsCount factor) ranges counts
  from_counted ranges factor counts is = record { size = is.size; each = is.each }

  pub as_suspects : (files : List FileRange) (suspects : List Suspect) → PairedLists (IsSuspect pads holes) files suspects → AreSuspects pads holes files suspects
  as_suspects files suspects is = record { size = is.size; each = is.each }

  pub from_suspects : (files : List FileRange) (suspects : List Suspect) → AreSuspects pads holes files suspects → PairedLists (IsSuspect pads holes) files suspects
  from_suspects files suspects is = record { size = is.size; each = is.each }

  abbrev pub IsLineOf : FileRange → Option UnitMistake → Type 0
  IsLineOf file line = IsUnitMistakeOrNone pads (holes_in holes file) file.drill line

  pub as_lines : (files : List FileRange) (lines : List (Option UnitMistake)) → PairedLists IsLineOf files lines → AreUnitMistakes pads holes files lines
  as_lines files lines is = record { size = is.size; each = is.each }

  pub from_lines : (files : List FileRange) (lines : List (Option UnitMistake)) → AreUnitMistakes pads holes files lines → PairedLists IsLineOf files lines
  from_lines files lines is = record { size = is.size; each = is.each }

  pub as_tried : (ranges : List HoleRange) (earlier : List UnitFactor) (tried : List Tried) → PairedLists (IsTried pads holes earlier) ranges tried → AreTried pads holes ranges earlier tried
  as_tried ranges earlier tried is = record { size = is.size; each = is.each }

  pub from_tried : (ranges : List HoleRange) (earlier : List UnitFactor) (tried : List Tried) → AreTried pads holes ranges earlier tried → PairedLists (IsTried pads holes earlier) ranges tried
  from_tried ranges earlier tried is = record { size = is.size; each = is.each }

  -- ---- open holes

  within : (none_left : Bool) (start end : ℕ) → (start ≤ end) × (end ≤ length holes) → (start ≤ (if none_left then start else end)) × ((if none_left then start else end) ≤ length holes)
  within true start end is = (omega arith, omega (arith, is.0, is.1))
  within false start end is = is

  -- the open holes of each stretch are in the list
  pub open_fit : (ranges : List HoleRange) (earlier : List UnitFactor) (tried : List Tried) → AreHoleRanges holes ranges → AreTried pads holes ranges earlier tried → AreHoleRanges holes (map open_part tried)
  open_fit ranges earlier tried fit are =
      All-map (λ (s : HoleRange). (s.start ≤ s.end) × (s.end ≤ length holes)) open_part tried
      (λ k d less. (
      let size = are.size in
      let inside : k < length ranges = omega (arith, less, size) in
      let none : HoleRange = record { start = 0; end = 0 } in
      let one = get_or tried k d in
      let own = subst (λ (s : HoleRange). (s.start ≤ s.end) × (s.end ≤ length holes)) (sym (are.each k none d inside).range) (fit k none inside) in
      within (one.fewest.bare == 0) one.range.start one.range.end own))

  counted_or_none : (none_left : Bool) (range : HoleRange) (factor : UnitFactor) (bare count : ℕ) → (none_left ≡ true → bare ≡ 0)
      → count ≡ bare_count_with pads (holes_of holes (record { start = range.start; end = if none_left then range.start else range.end })) factor
      → (count ≡ bare_count_with pads (holes_of holes range) factor) ⊎ (bare ≡ 0)
  counted_or_none true range factor bare count none is = inr (none refl)
  counted_or_none false range factor bare count none is = inl is

  -- all holes of a stretch are counted, or none is bare by a factor before
  pub open_counted : (one : Tried) (factor : UnitFactor) (count : ℕ) → count ≡ bare_count_with pads (holes_of holes (open_part one)) factor
      → (count ≡ bare_count_with pads (holes_of holes one.range) factor) ⊎ (one.fewest.bare ≡ 0)
  open_counted one factor count is = counted_or_none (one.fewest.bare == 0) one.range factor one.fewest.bare count (Decides-eqb one.fewest.bare 0).0 is

  -- ---- doubted holes

  -- the stretches of doubts are in the list
  pub ranges_fit : (files : List FileRange) (suspects : List Suspect) → AreSuspects pads holes files suspects → AreHoleRanges holes (map (λ suspect. suspect.range) suspects)
  ranges_fit files suspects are =
      All-map (λ (s : HoleRange). (s.start ≤ s.end) × (s.end ≤ length holes)) (λ (suspect : Suspect). suspect.range) suspects
      (λ k d less. (let size = are.size in let is = are.each k (record { drill = 0; start = 0; end = 0 }) d (omega (arith, less, size)) in (is.ordered, is.inside)))

  module _ (file : FileRange) (drill : ℕ) (at : file.drill ≡ drill) (suspect : Suspect) (is : IsSuspect pads holes file suspect) (fewest : Fewest) (are : IsFewest (bare_count_with pads (holes_of holes suspect.range)) factors fewest) where
    same_holes : suspect.range.start ≡ file.start → suspect.range.end ≡ file.end → holes_of holes suspect.range ≡ holes_in holes file
    same_holes start end = (λ k. slice_range holes (start k) (end k))

    -- no line where too many would be bare
    pub no_line : suspect.bare ≤ 2 * fewest.bare → IsUnitMistakeOrNone pads (holes_in holes file) drill None
    no_line many line scale = elim is.either [
      | inl doubted ↦ too_many pads (holes_in holes file) suspect.bare doubted.bare fewest (subst (λ (hs : List Drilled). IsFewest (bare_count_with pads hs) factors fewest) (same_holes doubted.start doubted.end) are) many line scale
      | inr undoubted ↦ undoubted.none line scale
    ]

    -- else there is one
    pub a_line : (line : UnitMistake) → line ≡ record { drill = drill; bare = suspect.bare; factor = fewest.factor; then = fewest.bare } → 2 * fewest.bare < suspect.bare → IsUnitMistakeOrNone pads (holes_in holes file) drill (Some line)
    a_line line told few = subst (λ (l : UnitMistake). IsUnitMistakeOrNone pads (holes_in holes file) drill (Some l)) (sym told) (elim is.either [
      | inl doubted ↦ (
          let first = subst (λ (hs : List Drilled). IsFewest (bare_count_with pads hs) factors fewest) (same_holes doubted.start doubted.end) are in
          (record { bare = doubted.bare; most = doubted.most; first = first.first; then = first.bare; few = few }, refl))
      | inr undoubted ↦ absurd (let none = undoubted.bare in omega (arith, none, few))
    ])
