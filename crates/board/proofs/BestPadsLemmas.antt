-- The best pads of holes, where pads are tried in any order.
use Rattle.board.proofs.Common.{◌≡◌, ◌↔◌, ℕ, ℤ, pos, negsuc, ◌+◌, ◌<◌, ◌≤◌, ◌≤ℤ◌, ◌<ℤ◌, ◌⊎◌, inl, inr, Bool, true, false, Option, Some, None, List, [], ◌∷◌, ◌++◌, length, get_or, set, refl, sym, subst, ap, ◌∙◌, w64, to_z, of_z, arith, unsigned_abs, Contains, ints, cases_lt, cases_eq, nat_tests, get_or-set_same, get_or-set_other, length-set, length-append, get_or_append_left, get_or_push, get_or_default, GridPoint, GridHole, both_true, either, covers_both_ends, IsInZone, CoversNone, Zone, hole_at, entry_at, Drilled, CoversLess, IsBestPad, AreBestPads, one_unless_before, required_depth, IsNoBetter, IsDepthInPad, Improves, IsTriedAt, AllImprove, IsNoBetterAt, IsNoBetterForAll, AreTriedOrLarge, AreAllCovered, BestPad}
use Rattle.board.proofs.PassedIntegers.{natural}

not_both : {P : Type 0} (b : Bool) → b ≡ true → b ≡ false → P
not_both b e f = absurd (let g : true ≡ false = sym e ∙ f in cc)

refuted : (b : Bool) → (b ≡ true → ⊥) → b ≡ false
refuted b never = elim (either b) [ inl e ↦ absurd (never e) | inr e ↦ e ]

-- whether a place is before another one, as a number
pub before_is : (place other : ℕ) → place < other → one_unless_before place other ≡ 0
before_is place other h = grind (arith, nat_tests)

pub not_before_is : (place other : ℕ) → other ≤ place → one_unless_before place other ≡ 1
not_before_is place other h = grind (arith, nat_tests)

one_at_most : (place other : ℕ) → one_unless_before place other ≤ 1
one_at_most place other = elim (cases_lt place other) [
  | inl less ↦ (let e = before_is place other less in omega (arith, e))
  | inr more ↦ (let e = not_before_is place other more in omega (arith, e))
]

-- what is asked of a better shape, once one was better
pub asks_more : (best : Option BestPad) (now : BestPad) → required_depth best now.pad ≤ now.depth → (other : ℕ) → required_depth best other ≤ required_depth (Some now) other
asks_more None now deep other = omega arith
asks_more (Some best) now deep other = elim (cases_lt now.pad best.pad) [
  | inl less ↦
      let e = before_is now.pad best.pad less in
      elim (cases_lt other now.pad) [
        | inl first ↦ (let f = before_is other best.pad (omega (arith, less, first)) in let g = before_is other now.pad first in omega (arith, deep, e, f, g))
        | inr later ↦ (let f = one_at_most other best.pad in let g = not_before_is other now.pad later in omega (arith, deep, e, f, g))
      ]
  | inr more ↦ (let e = not_before_is now.pad best.pad more in let f = one_at_most other best.pad in omega (arith, deep, e, f))
]

-- a depth that is not below 0, as a call passes it on
pub depth_is : (z : ℤ) (m a : ℕ) → m ≡ unsigned_abs (to_z w64 (of_z w64 z)) → pos a ≤ℤ z → z <ℤ pos 20000000000000 → z ≡ pos m
depth_is (pos n) m a e low high = ap pos (sym (natural (pos n) n m (omega (arith, ints, high)) refl e))
depth_is (negsuc n) m a e low high = absurd (omega (arith, ints, low))

-- one place more in a list
pub contains_more : (xs : List ℕ) (x k : ℕ) → Contains xs k → Contains (xs ++ x ∷ []) k
contains_more xs x k was =
    let longer = length-append xs (x ∷ []) in
    let inside = was.1 in (was.0, omega (arith, longer, inside), get_or_append_left xs (x ∷ []) k was.0 was.1 ∙ was.2)

pub contains_last : (xs : List ℕ) (x : ℕ) → Contains (xs ++ x ∷ []) x
contains_last xs x = (length xs, (let longer = length-append xs (x ∷ []) in omega (arith, longer)), get_or_push xs x x (length xs) refl)

module _ {S : Type 0} (covers : S → GridPoint → ℕ → Bool) (pads : List S) where
  -- nothing was tried
  pub improves_none : (h : GridHole) (best : Option BestPad) → Improves covers pads h best best
  improves_none h best = record { more = λ place. omega arith; held = λ was. was }

  pub improves_twice : (h : GridHole) (a b c : Option BestPad) → Improves covers pads h a b → Improves covers pads h b c → Improves covers pads h a c
  improves_twice h a b c first second = record { more = λ place. (let f = first.more place in let s = second.more place in omega (arith, f, s)); held = λ was. second.held (first.held was) }

  -- a shape that was no better is no better now
  pub still_no_better : (place : ℕ) (h : GridHole) (a b : Option BestPad) → Improves covers pads h a b → IsNoBetter covers pads place h a → IsNoBetter covers pads place h b
  still_no_better place h a b more was s reach e = (let l = was s reach e in let m = more.more place in omega (arith, l, m))

  -- a shape that covers a hole so deep is better, and none is deeper than itself
  module _ (place : ℕ) (pad : S) (h : GridHole) (best : Option BestPad) (deep : ℤ) (now : BestPad) (is : (s : S) → get_or pads place s ≡ pad) (exact : (reach : ℕ) → (covers_both_ends covers pad h.from h.to reach ≡ true) ↔ (pos reach ≤ℤ deep)) (bound : deep <ℤ pos 20000000000000) (at : now.pad ≡ place) (depth : now.depth ≡ unsigned_abs (to_z w64 (of_z w64 deep))) (better : covers_both_ends covers pad h.from h.to (required_depth best place) ≡ true) where
    deep_is : deep ≡ pos now.depth
    deep_is = depth_is deep now.depth (required_depth best place) depth ((exact (required_depth best place)).0 better) bound

    pub taken_more : (other : ℕ) → required_depth best other ≤ required_depth (Some now) other
    taken_more = asks_more best now
        (let d = deep_is in let low : pos (required_depth best place) ≤ℤ deep = (exact (required_depth best place)).0 better in let e : required_depth best now.pad ≡ required_depth best place = ap (required_depth best) at in omega (arith, ints, d, low, e))

  -- once all shapes are tried
  pub best_of_all : CoversLess covers → (h : GridHole) (best : Option BestPad) → Improves covers pads h None best → ((place : ℕ) → place < length pads → IsNoBetter covers pads place h best) → IsBestPad covers pads h best
  best_of_all covers_less h None improves below = λ s k reach l. refuted (covers_both_ends covers (get_or pads k s) h.from h.to reach) (λ e. (let f = below k l s reach e in omega (arith, f)))
  best_of_all covers_less h (Some best) improves below =
      let held : IsDepthInPad covers pads h best = improves.held tt in
      record {
        inside = held.inside;
        in_range = held.in_range;
        covered = held.covered;
        deepest = λ s k reach l e. (let f = below k l s reach e in let one = one_at_most k best.pad in omega (arith, f, one));
        first = λ s k l. refuted (covers_both_ends covers (get_or pads k s) h.from h.to best.depth)
            (λ e. (let f = below k (let i = held.inside in omega (arith, l, i)) s best.depth e in let zero = before_is k best.pad l in omega (arith, f, zero)));
      }

  module _ (holes : List Drilled) where
    -- nothing was tried at any hole
    pub all_improve_none : (bests : List (Option BestPad)) → AllImprove covers pads holes bests bests
    all_improve_none bests = record { size = refl; each = λ k. improves_none (hole_at holes k) (get_or bests k None) }

    pub all_improve_twice : (a b c : List (Option BestPad)) → AllImprove covers pads holes a b → AllImprove covers pads holes b c → AllImprove covers pads holes a c
    all_improve_twice a b c first second = record {
      size = second.size ∙ first.size;
      each = λ k. improves_twice (hole_at holes k) (get_or a k None) (get_or b k None) (get_or c k None) (first.each k) (second.each k);
    }

    -- the best of one hole is better
    pub all_improve_at : (bests : List (Option BestPad)) (p : ℕ) (next : Option BestPad) → p < length bests → Improves covers pads (hole_at holes p) (get_or bests p None) next → AllImprove covers pads holes bests (set bests p next)
    all_improve_at bests p next inside step = record {
      size = length-set bests p next;
      each = λ k. elim (cases_eq k p) [
        | inl is ↦
            subst (λ (n : ℕ). Improves covers pads (hole_at holes n) (get_or bests n None) (get_or (set bests p next) n None)) (sym is)
            (subst (Improves covers pads (hole_at holes p) (get_or bests p None)) (sym (get_or-set_same bests p next None inside)) step)
        | inr differs ↦ subst (Improves covers pads (hole_at holes k) (get_or bests k None)) (sym (get_or-set_other bests p k next None differs)) (improves_none (hole_at holes k) (get_or bests k None))
      ];
    }

    -- the shape at a place is no better for one hole more
    pub no_better_at_more : (place p : ℕ) (next : Option BestPad) (near : List ℕ) (count : ℕ) (bests : List (Option BestPad)) → p < length bests → get_or near count 0 ≡ p → IsTriedAt covers pads place (hole_at holes p) (get_or bests p None) next → IsNoBetterAt covers pads place holes near count bests → IsNoBetterAt covers pads place holes near (count + 1) (set bests p next)
    no_better_at_more place p next near count bests inside at step was i h =
        let all = all_improve_at bests p next inside step.improves in
        elim (cases_lt i count) [
          | inl less ↦ still_no_better place (hole_at holes (get_or near i 0)) (get_or bests (get_or near i 0) None) (get_or (set bests p next) (get_or near i 0) None) (all.each (get_or near i 0)) (was i less)
          | inr more ↦
              let last : get_or near i 0 ≡ p = ap (λ (n : ℕ). get_or near n 0) (let is : i ≡ count = omega (arith, h, more) in is) ∙ at in
              subst (λ (n : ℕ). IsNoBetter covers pads place (hole_at holes n) (get_or (set bests p next) n None)) (sym last)
              (subst (IsNoBetter covers pads place (hole_at holes p)) (sym (get_or-set_same bests p next None inside)) step.below)
        ]

    pub all_still_no_better : (place : ℕ) (before after : List (Option BestPad)) → AllImprove covers pads holes before after → IsNoBetterForAll covers pads place holes before → IsNoBetterForAll covers pads place holes after
    all_still_no_better place before after all was k h = still_no_better place (hole_at holes k) (get_or before k None) (get_or after k None) (all.each k) (was k h)

    -- a shape that was tried at all holes that it covers
    pub no_better_elsewhere : (place : ℕ) (pad : S) (near : List ℕ) (bests : List (Option BestPad)) → ((s : S) → get_or pads place s ≡ pad) → AreAllCovered covers pad holes near → IsNoBetterAt covers pads place holes near (length near) bests → IsNoBetterForAll covers pads place holes bests
    no_better_elsewhere place pad near bests is all was k h s reach e =
        let here : covers_both_ends covers pad (hole_at holes k).from (hole_at holes k).to reach ≡ true = ap (λ (p : S). covers_both_ends covers p (hole_at holes k).from (hole_at holes k).to reach) (sym (is s)) ∙ e in
        let from : covers pad (hole_at holes k).from reach ≡ true = (both_true (covers pad (hole_at holes k).from reach) (covers pad (hole_at holes k).to reach) here).0 in
        let among : Contains near k = all k reach h from in
        let listed : get_or near among.0 0 ≡ k = get_or_default near among.0 0 k among.1 ∙ among.2 in
        subst (λ (n : ℕ). IsNoBetter covers pads place (hole_at holes n) (get_or bests n None)) listed (was among.0 among.1) s reach e

    -- a shape that covers no hole
    pub no_better_outside : (place : ℕ) (pad : S) (zone : Zone) (bests : List (Option BestPad)) → ((s : S) → get_or pads place s ≡ pad) → ((k : ℕ) → k < length holes → IsInZone zone (entry_at holes k)) → CoversNone covers pad 0 zone → IsNoBetterForAll covers pads place holes bests
    no_better_outside place pad zone bests is within none k h s reach e =
        let here : covers_both_ends covers pad (hole_at holes k).from (hole_at holes k).to reach ≡ true = ap (λ (p : S). covers_both_ends covers p (hole_at holes k).from (hole_at holes k).to reach) (sym (is s)) ∙ e in
        let from : covers pad (entry_at holes k) reach ≡ true = (both_true (covers pad (hole_at holes k).from reach) (covers pad (hole_at holes k).to reach) here).0 in
        not_both (covers pad (entry_at holes k) reach) from (none (entry_at holes k) reach (omega arith) (within k h))

    -- one shape more was tried, or is listed
    pub one_more : (place : ℕ) (old new : List ℕ) (before after : List (Option BestPad)) → ((k : ℕ) → Contains old k → Contains new k) → AllImprove covers pads holes before after → AreTriedOrLarge covers pads place holes old before → Contains new place ⊎ IsNoBetterForAll covers pads place holes after → AreTriedOrLarge covers pads (place + 1) holes new after
    one_more place old new before after kept all was next k h = elim (cases_lt k place) [
      | inl less ↦ elim (was k less) [ inl listed ↦ inl (kept k listed) | inr tried ↦ inr (all_still_no_better k before after all tried) ]
      | inr more ↦ subst (λ (n : ℕ). Contains new n ⊎ IsNoBetterForAll covers pads n holes after) (let is : place ≡ k = omega (arith, h, more) in is) next
    ]

    -- all shapes were tried at all holes
    pub best_pads_of_all : CoversLess covers → (before after : List (Option BestPad)) → length before ≡ length holes → ((k : ℕ) → k < length holes → get_or before k None ≡ None) → AllImprove covers pads holes before after → ((place : ℕ) → place < length pads → IsNoBetterForAll covers pads place holes after) → AreBestPads covers pads holes after
    best_pads_of_all covers_less before after size none improves below = record {
      size = improves.size ∙ size;
      each = λ k h. best_of_all covers_less (hole_at holes k) (get_or after k None)
          (subst (λ (b : Option BestPad). Improves covers pads (hole_at holes k) b (get_or after k None)) (none k h) (improves.each k)) (λ place l. below place l k h);
    }
