-- The round holes of some stretches at their new places, stretch by stretch, and how many of each would be bare.
use Rattle.report.proofs.Common.{◌≡◌, ℕ, ◌+◌, ◌<◌, ◌≤◌, ◌++◌, ◌∷◌, [], ◌⊎◌, inl, inr, Bool, List, length, take, get_or, sym, subst, ap, ◌∙◌, arith, slice_range, cases_lt, get_or-take, get_or_append_left, get_or_default, length-append, length-take-le, take_all, get_or-append_seam, wide_pad_covers, WidePad, AreBare, Drilled, UnitFactor, AreRescaled, AreRescaledRanges, IsRescaledRange, AddsRange, holes_of, HoleRange}
use Rattle.report.specs.declared.counts.RescaledHoles.{RescaledHoles}
use Rattle.report.proofs.Slices.{bare_of_part, slice_back, slice_front}

-- none so far
pub ranges_none : (factor : UnitFactor) (holes : List Drilled) (ranges : List HoleRange) (all : RescaledHoles) → all.holes.items ≡ [] → all.bounds.items ≡ 0 ∷ [] → AreRescaledRanges factor holes (take 0 ranges) all
ranges_none factor holes ranges all none first = record {
  size = ap length first;
  last = ap (λ (bs : List ℕ). get_or bs 0 0) first ∙ sym (ap length none);
  each = λ k d less. absurd (omega (arith, less));
}

module _ (factor : UnitFactor) (holes : List Drilled) (ranges : List HoleRange) (i : ℕ) (s : HoleRange) (inside : i < length ranges) (is : s ≡ get_or ranges i s) (old new : RescaledHoles)
    (was : AreRescaledRanges factor holes (take i ranges) old) (more : AddsRange factor (holes_of holes s) old new) where
  abbrev pub before : List ℕ
  before = old.bounds.items

  abbrev pub after : List ℕ
  after = before ++ length new.holes.items ∷ []

  few : length (take i ranges) ≡ i
  few = length-take-le i ranges (omega (arith, inside))

  grown : length (take (i + 1) ranges) ≡ i + 1
  grown = length-take-le (i + 1) ranges (omega (arith, inside))

  count : length before ≡ i + 1
  count = was.size ∙ ap (λ (n : ℕ). n + 1) few

  kept : (k : ℕ) → k < i + 1 → get_or after k 0 ≡ get_or before k 0
  kept k less = get_or_append_left before (length new.holes.items ∷ []) 0 k (omega (arith, less, count))

  ended : get_or after (i + 1) 0 ≡ length new.holes.items
  ended = ap (λ (n : ℕ). get_or after n 0) (sym count) ∙ get_or-append_seam before (length new.holes.items) [] 0

  -- the stretch that is added
  added : IsRescaledRange factor (holes_of holes s) new.holes.items (get_or after i 0) (get_or after (i + 1) 0)
  added =
      let from : get_or after i 0 ≡ length old.holes.items = kept i (omega arith) ∙ (ap (λ (n : ℕ). get_or before n 0) (sym few) ∙ was.last) in
      let size : length new.holes.items ≡ length old.holes.items + length more.rescaled = ap length more.holes ∙ length-append old.holes.items more.rescaled in
      let part : slice_range new.holes.items (length old.holes.items) (length new.holes.items) ≡ more.rescaled =
      ap (λ (hs : List Drilled). slice_range hs (length old.holes.items) (length hs)) more.holes ∙ slice_back old.holes.items more.rescaled in
      record {
        ordered = omega (arith, from, ended, size);
        inside = omega (arith, ended);
        are = subst (λ (n : ℕ). AreRescaled factor (holes_of holes s) (slice_range new.holes.items n (get_or after (i + 1) 0))) (sym from)
            (subst (λ (n : ℕ). AreRescaled factor (holes_of holes s) (slice_range new.holes.items (length old.holes.items) n)) (sym ended)
            (subst (AreRescaled factor (holes_of holes s)) (sym part) more.are));
      }

  -- the stretches before it
  earlier : (k : ℕ) (d : HoleRange) → k < i → IsRescaledRange factor (holes_of holes (get_or ranges k d)) new.holes.items (get_or after k 0) (get_or after (k + 1) 0)
  earlier k d less =
      let there = was.each k d (omega (arith, less, few)) in
      let own : get_or (take i ranges) k d ≡ get_or ranges k d = get_or-take i ranges k d less in
      let size : length new.holes.items ≡ length old.holes.items + length more.rescaled = ap length more.holes ∙ length-append old.holes.items more.rescaled in
      let from : get_or after k 0 ≡ get_or before k 0 = kept k (omega (arith, less)) in
      let to : get_or after (k + 1) 0 ≡ get_or before (k + 1) 0 = kept (k + 1) (omega (arith, less)) in
      let part : slice_range new.holes.items (get_or before k 0) (get_or before (k + 1) 0) ≡ slice_range old.holes.items (get_or before k 0) (get_or before (k + 1) 0) =
      ap (λ (hs : List Drilled). slice_range hs (get_or before k 0) (get_or before (k + 1) 0)) more.holes ∙ slice_front old.holes.items more.rescaled (get_or before k 0) (get_or before (k + 1) 0) there.ordered there.inside in
      let at : IsRescaledRange factor (holes_of holes (get_or ranges k d)) new.holes.items (get_or before k 0) (get_or before (k + 1) 0) = record {
        ordered = there.ordered;
        inside = (let fits = there.inside in omega (arith, fits, size));
        are = subst (λ (x : HoleRange). AreRescaled factor (holes_of holes x) (slice_range new.holes.items (get_or before k 0) (get_or before (k + 1) 0))) own
            (subst (AreRescaled factor (holes_of holes (get_or (take i ranges) k d))) (sym part) there.are);
      } in
      subst (λ (n : ℕ). IsRescaledRange factor (holes_of holes (get_or ranges k d)) new.holes.items n (get_or after (k + 1) 0)) (sym from)
      (subst (λ (n : ℕ). IsRescaledRange factor (holes_of holes (get_or ranges k d)) new.holes.items (get_or before k 0) n) (sym to) at)

  at_each : (k : ℕ) (d : HoleRange) → k < i + 1 → (k < i) ⊎ (i ≤ k) → IsRescaledRange factor (holes_of holes (get_or ranges k d)) new.holes.items (get_or after k 0) (get_or after (k + 1) 0)
  at_each k d less (inl low) = earlier k d low
  at_each k d less (inr high) =
      let same : i ≡ k = omega (arith, less, high) in
      let own : s ≡ get_or ranges i d = is ∙ get_or_default ranges i s d inside in
      subst (λ (n : ℕ). IsRescaledRange factor (holes_of holes (get_or ranges n d)) new.holes.items (get_or after n 0) (get_or after (n + 1) 0)) same
      (subst (λ (x : HoleRange). IsRescaledRange factor (holes_of holes x) new.holes.items (get_or after i 0) (get_or after (i + 1) 0)) own added)

  -- one more stretch
  pub ranges_more : AreRescaledRanges factor holes (take (i + 1) ranges) new
  ranges_more = record {
    size = ap length more.bounds ∙ (length-append before (length new.holes.items ∷ []) ∙ (ap (λ (n : ℕ). n + 1) count ∙ ap (λ (n : ℕ). n + 1) (sym grown)));
    last = ap (λ (n : ℕ). get_or new.bounds.items n 0) grown ∙ (ap (λ (bs : List ℕ). get_or bs (i + 1) 0) more.bounds ∙ ended);
    each = λ k d less. (
        let low : k < i + 1 = omega (arith, less, grown) in
        let own : get_or ranges k d ≡ get_or (take (i + 1) ranges) k d = sym (get_or-take (i + 1) ranges k d low) in
        subst (λ (bs : List ℕ). IsRescaledRange factor (holes_of holes (get_or (take (i + 1) ranges) k d)) new.holes.items (get_or bs k 0) (get_or bs (k + 1) 0)) (sym more.bounds)
        (subst (λ (x : HoleRange). IsRescaledRange factor (holes_of holes x) new.holes.items (get_or after k 0) (get_or after (k + 1) 0)) own (at_each k d low (cases_lt k i))));
  }

-- all stretches
pub ranges_all : (factor : UnitFactor) (holes : List Drilled) (ranges : List HoleRange) (i : ℕ) (all : RescaledHoles) → length ranges ≤ i → AreRescaledRanges factor holes (take i ranges) all → AreRescaledRanges factor holes ranges all
ranges_all factor holes ranges i all past is = subst (λ (ss : List HoleRange). AreRescaledRanges factor holes ss all) (take_all i ranges past) is

-- the holes of one stretch, where its bounds and the list have other names
pub rescaled_part : (factor : UnitFactor) (own all same : List Drilled) → same ≡ all → (a b from to : ℕ) → a ≡ from → b ≡ to → IsRescaledRange factor own all from to → AreRescaled factor own (slice_range same a b)
rescaled_part factor own all same e a b from to f t at =
    subst (λ (hs : List Drilled). AreRescaled factor own (slice_range hs a b)) (sym e)
    (subst (λ (n : ℕ). AreRescaled factor own (slice_range all a n)) (sym t) (subst (λ (n : ℕ). AreRescaled factor own (slice_range all n to)) (sym f) at.are))

pub bare_part : (pads : List WidePad) (all same : List Drilled) → same ≡ all → (b to : ℕ) → b ≡ to → to ≤ length all → (a : ℕ) (bare : List Bool) → AreBare wide_pad_covers pads all bare
    → AreBare wide_pad_covers pads (slice_range same a b) (slice_range bare a b)
bare_part pads all same e b to t inside a bare are =
    bare_of_part pads same a b (let size = ap length e in omega (arith, size, t, inside)) bare (subst (λ (hs : List Drilled). AreBare wide_pad_covers pads hs bare) (sym e) are)
