use Rattle.ring_rules.proofs.Common.{◌≡◌, ℕ, ◌+◌, ◌-◌, ◌∷◌, [], ◌++◌, List, length, get_or, sym, ap, subst, ◌∙◌, arith, get_or_default, GridPoint, GridHole, default_hole, hole_at, cell_of, cell_at, IsSpotOf, HasSpot, AddsSpots, Drilled, Spot}
use Rattle.ring_rules.proofs.ChainLemmas.{chain_falls, chain_passed}
use Rattle.ring_rules.proofs.SpotLemmas.{adds_no_spots, adds_spot, has_spot_more, has_last_spot}
use Rattle.ring_rules.proofs.spots.push_chain.Goals as goal

pub loop-link-init : goal.loop-link-init
loop-link-init c =
    let link : c.link_at-link.result ≡ get_or c.args.chains.now.head.items c.args.cell 0 = c.link_at-link.ensures ∙ ap (λ (xs : List ℕ). get_or xs c.args.cell 0) c.deref.ensures.value in
    record {
      adds = adds_no_spots (cell_of c.args.chains.now.x c.args.chains.now.y) c.args.holes.now c.args.cell c.args.spots.now;
      at = λ m e. c.requires.heads_in c.args.cell m (sym link ∙ e);
      found = λ k h e past. absurd (let l = c.requires.heads k h in let f = ap (λ (x : ℕ). get_or c.args.chains.now.head.items x 0) e in omega (arith, l, f, link, past));
    }

pub loop-link-smaller : goal.loop-link-smaller
loop-link-smaller c =
    let at = c.loop-link.invariant.at (c.loop-link.link - 1) (omega (arith, c.loop-link-test.true)) in
    let falls = chain_falls (cell_at c.args.chains.now.x c.args.chains.now.y c.args.holes.now) (length c.args.holes.now) c.args.chains.now.head.items c.args.chains.now.next.items c.requires (c.loop-link.link - 1) at.0 in
    let link : c.link_at-link-in-loop-link.result ≡ get_or c.args.chains.now.next.items (c.loop-link.link - 1) 0 = c.link_at-link-in-loop-link.ensures ∙ ap (λ (xs : List ℕ). get_or xs (c.loop-link.link - 1) 0) c.deref-in-loop-link.ensures.value in
    omega (arith, falls, link, c.loop-link-test.true)

pub loop-link-preserved : goal.loop-link-preserved
loop-link-preserved c =
    let p : ℕ = c.loop-link.link - 1 in
    let is : c.loop-link.link ≡ c.loop-link.link - 1 + 1 = omega (arith, c.loop-link-test.true) in
    let at = c.loop-link.invariant.at (c.loop-link.link - 1) is in
    let link : c.link_at-link-in-loop-link.result ≡ get_or c.args.chains.now.next.items (c.loop-link.link - 1) 0 = c.link_at-link-in-loop-link.ensures ∙ ap (λ (xs : List ℕ). get_or xs (c.loop-link.link - 1) 0) c.deref-in-loop-link.ensures.value in
    let cell : GridPoint → ℕ = cell_of c.args.chains.now.x c.args.chains.now.y in
    let was : List Spot = c.loop-link.spots in
    let s : Spot = record { hole = (get_or c.args.holes.now (c.loop-link.link - 1) c.index-holes-place.result).hole; place = c.loop-link.link - 1 } in
    let hole : (get_or c.args.holes.now (c.loop-link.link - 1) c.index-holes-place.result).hole ≡ hole_at c.args.holes.now (c.loop-link.link - 1) =
    ap (λ (d : Drilled). d.hole) (get_or_default c.args.holes.now (c.loop-link.link - 1) c.index-holes-place.result default_hole at.0) in
    let of_list : IsSpotOf c.args.holes.now s = record { listed = at.0; same = hole } in
    let here : cell_of c.args.chains.now.x c.args.chains.now.y (get_or c.args.holes.now (c.loop-link.link - 1) c.index-holes-place.result).hole.from ≡ c.args.cell =
    ap (λ (h : GridHole). cell_of c.args.chains.now.x c.args.chains.now.y h.from) hole ∙ at.1 in
    record {
      adds = subst (λ (xs : List Spot). AddsSpots cell c.args.holes.now c.args.cell c.args.spots.now xs) (sym c.in_ok-push.ensures.items) (adds_spot cell c.args.holes.now c.args.cell c.args.spots.now was s c.loop-link.invariant.adds of_list here);
      at = λ m e. (let o = c.requires.links_in (c.loop-link.link - 1) m at.0 (sym link ∙ e) in (omega (arith, o.0, at.0), o.1 ∙ at.1));
      found = λ k h e past. subst (λ (xs : List Spot). HasSpot xs k) (sym c.in_ok-push.ensures.items)
          (chain_passed (cell_at c.args.chains.now.x c.args.chains.now.y c.args.holes.now) (length c.args.holes.now) c.args.chains.now.head.items c.args.chains.now.next.items c.requires (λ (j : ℕ). HasSpot (was ++ s ∷ []) j) c.args.cell p at.0 at.1
          (has_last_spot cell c.args.holes.now c.args.cell c.args.spots.now was s)
          (λ j i f more. has_spot_more cell c.args.holes.now c.args.cell c.args.spots.now was s j (c.loop-link.invariant.found j i f (omega (arith, more, is)))) k h e (omega (arith, past, link)));
    }

pub bounds-holes-place : goal.bounds-holes-place
bounds-holes-place c = (c.loop-link.invariant.at (c.loop-link.link - 1) (omega (arith, c.loop-link-test.true))).0

pub offset_bounds-holes-place : goal.offset_bounds-holes-place
offset_bounds-holes-place c = let at = c.loop-link.invariant.at (c.loop-link.link - 1) (omega (arith, c.loop-link-test.true)) in omega (arith, at.0)

pub bounds-holes-place-in-loop-link : goal.bounds-holes-place-in-loop-link
bounds-holes-place-in-loop-link c = (c.loop-link.invariant.at (c.loop-link.link - 1) (omega (arith, c.loop-link-test.true))).0
