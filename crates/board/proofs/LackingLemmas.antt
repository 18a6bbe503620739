-- A hole lacks its ring just where it falls short of it by its best pad.
use Rattle.board.proofs.Common.{◌≡◌, ℕ, ◌<◌, Bool, Option, None, List, length, get_or, sym, subst, ap, ◌∙◌, arith, ◌&&◌, get_or_default, GridPoint, Profile, is_ring_finding, hole_at, default_hole, Drilled, AreBestPads, IsBestPad, CoversLess, needs_ring, ring_from_best, BestPad}
use Rattle.board.specs.Inner.Lacking.{falls_short}
use Rattle.board.proofs.MeetsLemmas.{ring_of_best}
use Rattle.board.proofs.WithoutFindings.{short_lacks}

module _ {S : Type 0} (covers : S → GridPoint → ℕ → Bool) (less : CoversLess covers) (profile : Profile) (pads : List S) (holes : List Drilled) (bests : List (Option BestPad)) (are : AreBestPads covers pads holes bests) where
  -- the hole at a place lacks its ring just where it falls short by the best pad there
  pub short_lacks_ring : (layer q k : ℕ) (d : Drilled) (best : Option BestPad) → k < length holes → d ≡ get_or holes k d → best ≡ get_or bests k best → falls_short profile q layer d best ≡ is_ring_finding covers profile q layer pads d
  short_lacks_ring layer q k d best inside at there = ap (λ b. needs_ring layer d && b) (short_lacks covers profile pads d.hole q less (ring_from_best profile best d.hole) (ring_of_best covers profile pads d.hole best is))
    where
      hole_is : get_or holes k default_hole ≡ d
      hole_is = sym (at ∙ get_or_default holes k d default_hole inside)

      best_is : get_or bests k None ≡ best
      best_is = sym (there ∙ get_or_default bests k best None (let size = are.size in omega (arith, inside, size)))

      is : IsBestPad covers pads d.hole best
      is = subst (λ (x : Drilled). IsBestPad covers pads x.hole best) hole_is (subst (λ (b : Option BestPad). IsBestPad covers pads (hole_at holes k) b) best_is (are.each k inside))
