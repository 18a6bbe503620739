-- Pairs of holes that are tried one by one.
use Rattle.board.proofs.Common.{◌≡◌, ℕ, ℤ, ◌<◌, List, length, sym, subst, arith, hole_at, Drilled, IsGap, IsNoFurther, IsPairAt, IsPairInRange, IsNearerPair, Nearest}
use Rattle.board.proofs.NearLemmas.{no_further_self, no_further_same, one_gap}

-- the pair so far stays
pub tried_old : (holes : List Drilled) (first second : ℕ) (best next : Nearest) → IsPairInRange holes best → IsPairAt holes first second next → IsNoFurther best next.first next.second next.gap → IsNearerPair holes first second best best
tried_old holes first second best next held at nearer = record {
  held = held;
  back = no_further_self best;
  new = λ g pair gap. no_further_same best next.first next.second first second next.gap g (sym at.at_first) (sym at.at_second) (one_gap (hole_at holes first) (hole_at holes second) g next.gap gap at.gap) nearer;
}

-- the next pair is nearer
pub tried_new : (holes : List Drilled) (first second : ℕ) (best next : Nearest) → first < second → second < length holes → IsPairAt holes first second next → IsNoFurther next best.first best.second best.gap → IsNearerPair holes first second best next
tried_new holes first second best next less inside at nearer =
    let x : next.first ≡ first = at.at_first in
    let y : next.second ≡ second = at.at_second in
    record {
      held = record {
        listed = record { ordered = omega (arith, x, y, less); inside = omega (arith, y, inside) };
        gap = subst (λ (n : ℕ). IsGap (hole_at holes n) (hole_at holes next.second) next.gap) (sym x) (subst (λ (n : ℕ). IsGap (hole_at holes first) (hole_at holes n) next.gap) (sym y) at.gap);
        possible = at.possible;
      };
      back = nearer;
      new = λ g pair gap. no_further_same next next.first next.second first second next.gap g (sym x) (sym y) (one_gap (hole_at holes first) (hole_at holes second) g next.gap gap at.gap) (no_further_self next);
    }

-- the pair so far stays, as the next one is no nearer
pub tried_far : (holes : List Drilled) (first second : ℕ) (best : Nearest) → IsPairInRange holes best → ((gap : ℤ) → IsGap (hole_at holes first) (hole_at holes second) gap → IsNoFurther best first second gap) → IsNearerPair holes first second best best
tried_far holes first second best held far = record { held = held; back = no_further_self best; new = λ g pair gap. far g gap }
