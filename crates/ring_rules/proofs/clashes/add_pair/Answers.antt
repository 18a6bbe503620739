use Rattle.ring_rules.proofs.Common.{◌≡◌, ℕ, List, length, true, false, sym, subst, ◌∙◌, arith, length_push, get_or_push, refl, Contains, are_clear, in_order, AreClashing, AddsClashes, Spot}
use Rattle.ring_rules.proofs.AddedClashes.{adds_one}
use Rattle.ring_rules.proofs.clashes.add_pair.Goals as goal
use Rattle.ring_rules.proofs.clashes.add_pair.Goals.{else-other-place-via-then-other-place+else-not-are_clear, else-other-place-via-else-other-place}

pub returns-in_ok-push-clause-adds : goal.returns-in_ok-push-clause-adds
returns-in_ok-push-clause-adds c =
    let spots : List Spot = c.args.spots.now in
    let clash : AreClashing c.args.rules.gap c.args.spots.now c.args.j c.args.i c.in_order.result = record {
      inside_i = c.requires.j;
      inside_j = c.requires.i;
      differ = λ e. c.if-other-place.true (c.place-other.ensures ∙ (e ∙ sym c.place-place.ensures));
      near = (λ n. are_clear c.args.rules.gap (sym c.at.ensures n).hole (sym c.at-then-other-place.ensures n).hole) ∙ (sym c.are_clear.ensures ∙ c.if-not-are_clear.true);
      pair = (λ n. in_order (sym c.place-other.ensures n) (sym c.place-place.ensures n)) ∙ sym c.in_order.ensures;
    } in
    subst (λ (ps : List (ℕ × ℕ)). AddsClashes c.args.rules.gap c.args.spots.now c.args.pairs.now.items ps) (sym c.in_ok-push.ensures.items)
    (adds_one c.args.rules.gap spots c.args.pairs.now.items c.args.j c.args.i c.in_order.result clash)

pub returns-in_ok-push-clause-found : goal.returns-in_ok-push-clause-found
returns-in_ok-push-clause-found c =
    let pairs : List (ℕ × ℕ) = c.args.pairs.now.items in
    let p = c.in_order.result in
    let listed = subst (λ (ps : List (ℕ × ℕ)). Contains ps p) (sym c.in_ok-push.ensures.items) (length pairs, omega (arith, length_push pairs p), get_or_push pairs p p (length pairs) refl) in
    record { there = λ differ near. subst (Contains c.push.new.self.items) (c.in_order.ensures ∙ (λ n. in_order (c.place-other.ensures n) (c.place-place.ensures n))) listed }

pub returns-else-other-place-clause-found : goal.returns-else-other-place-clause-found
returns-else-other-place-clause-found c = record {
  there = λ differ near. absurd (elim c.else-other-place.branch [
    | else-other-place-via-then-other-place+else-not-are_clear w ↦
        let no : true ≡ false = sym w.if-not-are_clear.false ∙ (w.are_clear.ensures ∙ ((λ n. are_clear c.args.rules.gap (w.at.ensures n).hole (w.at-then-other-place.ensures n).hole) ∙ near)) in cc
    | else-other-place-via-else-other-place w ↦ differ (sym c.place-other.ensures ∙ (w.if-other-place.false ∙ c.place-place.ensures))
  ]);
}
