-- Groups of pads, and the pads of an order that a hole passes over.
use Rattle.board.proofs.Common.{◌≡◌, ℕ, ◌+◌, ◌<◌, ◌≤◌, inl, inr, Bool, true, false, not, Option, Some, None, List, length, get_or, set, IfSome, IsSomeAnd, sym, subst, ap, ◌∙◌, arith, cases_lt, get_or-set_same, get_or-set_other, GridPoint, GridHole, not_true, hole_at, Drilled, IsDeepIn, IsHullOf, IsWiderThan, IsNoBetter, Improves, IsInGroup, HoldsNone, AreNoBetter, BestPad}
use Rattle.board.specs.declared.hull.Hull.{Hull}
use Rattle.board.proofs.HullLemmas.{less_deep}
use Rattle.board.proofs.BestPadsLemmas.{still_no_better}

-- a hull that does not hold one of the ends so deep
refuses : (b : Bool) → not b ≡ true → b ≡ true → ⊥
refuses b fails e = (let f : true ≡ false = sym e ∙ not_true b fails in cc)

pub holds_not_first : (hull : Option Hull) (some : Hull) (depth : ℕ) (h : GridHole) (b : Bool) → hull ≡ Some some → not b ≡ true → (IsDeepIn some h.from depth → b ≡ true) → HoldsNone hull depth h
holds_not_first hull some depth h b is fails deep = subst (λ (o : Option Hull). HoldsNone o depth h) (sym is) (λ reach le from to. refuses b fails (deep (less_deep some h.from depth reach le from)))

pub holds_not_second : (hull : Option Hull) (some : Hull) (depth : ℕ) (h : GridHole) (b : Bool) → hull ≡ Some some → not b ≡ true → (IsDeepIn some h.to depth → b ≡ true) → HoldsNone hull depth h
holds_not_second hull some depth h b is fails deep = subst (λ (o : Option Hull). HoldsNone o depth h) (sym is) (λ reach le from to. refuses b fails (deep (less_deep some h.to depth reach le to)))

module _ {S : Type 0} (covers : S → GridPoint → ℕ → Bool) (pads : List S) where
  -- a wider hull of a pad
  pub hull_of_wider : (pad : S) (inner : Hull) (outer : Option Hull) → IsHullOf covers pad inner → IfSome outer (λ o. IsWiderThan o inner) → IfSome outer (IsHullOf covers pad)
  hull_of_wider pad inner None was wide = tt
  hull_of_wider pad inner (Some o) was wide = λ c reach e. wide c reach (was c reach e)

  -- a pad of a group is a pad of one with a wider hull and an earlier first place
  pub in_wider : (place first next : ℕ) (hull outer : Option Hull) → next ≤ first → IfSome outer (λ o. IsSomeAnd hull (IsWiderThan o)) → IsInGroup covers pads place first hull → IsInGroup covers pads place next outer
  in_wider place first next hull None low wide was = record { late = (let l = was.late in omega (arith, l, low)); within = tt }
  in_wider place first next None (Some outer) low wide was = absurd wide
  in_wider place first next (Some inner) (Some outer) low wide was = record { late = (let l = was.late in omega (arith, l, low)); within = λ s c reach e. wide c reach (was.within s c reach e) }

  -- the pad that was added
  pub in_added : (place next : ℕ) (pad : S) (outer : Option Hull) → next ≤ place → ((s : S) → get_or pads place s ≡ pad) → IfSome outer (IsHullOf covers pad) → IsInGroup covers pads place next outer
  in_added place next pad None low is of_pad = record { late = low; within = tt }
  in_added place next pad (Some outer) low is of_pad = record { late = low; within = λ s c reach e. of_pad c reach (ap (λ (p : S). covers p c reach) (sym (is s)) ∙ e) }

  module _ (order : List ℕ) (h : GridHole) where
    pub none_yet : (start : ℕ) (best : Option BestPad) → AreNoBetter covers pads order start start h best
    none_yet start best i from upto = absurd (omega (arith, from, upto))

    -- pads that were no better, and the next ones
    pub no_better_on : (start middle end : ℕ) (before after : Option BestPad) → Improves covers pads h before after → AreNoBetter covers pads order start middle h before → AreNoBetter covers pads order middle end h after → AreNoBetter covers pads order start end h after
    no_better_on start middle end before after more early late i from upto = elim (cases_lt i middle) [
      | inl less ↦ still_no_better covers pads (get_or order i 0) h before after more (early i from less)
      | inr past ↦ late i past upto
    ]

    pub one_no_better : (i : ℕ) (best : Option BestPad) → IsNoBetter covers pads (get_or order i 0) h best → AreNoBetter covers pads order i (i + 1) h best
    one_no_better i best was j from upto = subst (λ (n : ℕ). IsNoBetter covers pads (get_or order n 0) h best) (let is : i ≡ j = omega (arith, from, upto) in is) was

  -- the pads of the order were tried at one hole more
  pub tried_at_more : (order : List ℕ) (holes : List Drilled) (bests : List (Option BestPad)) (k : ℕ) (next : Option BestPad) → k < length bests → Improves covers pads (hole_at holes k) (get_or bests k None) next → AreNoBetter covers pads order 0 (length order) (hole_at holes k) next
      → ((j : ℕ) → j < k → AreNoBetter covers pads order 0 (length order) (hole_at holes j) (get_or bests j None)) → (j : ℕ) → j < k + 1 → AreNoBetter covers pads order 0 (length order) (hole_at holes j) (get_or (set bests k next) j None)
  tried_at_more order holes bests k next inside improves below was j h = elim (cases_lt j k) [
    | inl less ↦ subst (AreNoBetter covers pads order 0 (length order) (hole_at holes j)) (sym (get_or-set_other bests k j next None (λ e. omega (arith, less, e)))) (was j less)
    | inr more ↦
        subst (λ (n : ℕ). AreNoBetter covers pads order 0 (length order) (hole_at holes n) (get_or (set bests k next) n None)) (let is : k ≡ j = omega (arith, h, more) in is)
        (subst (AreNoBetter covers pads order 0 (length order) (hole_at holes k)) (sym (get_or-set_same bests k next None inside)) below)
  ]
