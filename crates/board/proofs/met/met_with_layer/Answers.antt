use Rattle.board.proofs.Common.{◌≡◌, ℕ, ◌+◌, [], map, length, get_or, refl, subst, sym, ap, ◌∙◌, arith, get_or_default, default_hole, AreLeast, NeedsRing, HasRing, needs_ring, NeedsRingBefore, with_length, with_length_in_pads}
use Rattle.board.specs.declared.met.RingsMet.{RingsMet}
use Rattle.board.proofs.MeetsLemmas.{hole_by_best, hole_needs_none, no_hole, layer_needs_rings}
use Rattle.board.proofs.met.met_with_layer.Goals as goal
use Rattle.board.proofs.met.met_with_layer.Goals.{then-needs_ring, else-needs_ring}

pub loop-hole-init : goal.loop-hole-init
loop-hole-init g c =
    no_hole (NeedsRing c.args.layer c.args.holes.now) (HasRing g.S.PadShape.covers c.args.profile (map (λ pads. pads.now) c.args.layers.now) c.args.holes.now) c.args.layer c.args.holes.now c.args.met c.requires.so_far

pub loop-hole-preserved : goal.loop-hole-preserved
loop-hole-preserved g c =
    elim c.if-needs_ring.branch [
      | then-needs_ring w ↦
          hole_by_best g.S.PadShape.covers c.args.profile (map (λ pads. pads.now) c.args.layers.now) (get_or (map (λ pads. pads.now) c.args.layers.now) c.args.layer []) c.args.holes.now c.args.bests.now c.args.layer c.loop-hole.hole c.index-holes-hole.result w.index-bests-hole.result c.loop-hole.met c.if-needs_ring.met
          refl c.requires.bests c.loop-hole-test.true c.index-holes-hole.is w.index-bests-hole.is (sym c.needs_ring.ensures ∙ w.if-needs_ring.true)
          (ap (λ (m : RingsMet). m.ring) w.met-is ∙ (w.least.ensures ∙ ap (with_length c.loop-hole.met.ring) w.ring_of-ring.ensures))
          (ap (λ (m : RingsMet). m.in_pads) w.met-is ∙ (w.with_ring_in_pads.ensures ∙ ap (with_length_in_pads c.loop-hole.met.in_pads) w.ring_of-ring.ensures))
          c.loop-hole.invariant
      | else-needs_ring w ↦
          subst (AreLeast (NeedsRingBefore c.args.layer (c.loop-hole.hole + 1) c.args.holes.now) (HasRing g.S.PadShape.covers c.args.profile (map (λ pads. pads.now) c.args.layers.now) c.args.holes.now)) (sym w.met-is)
          (hole_needs_none (NeedsRing c.args.layer c.args.holes.now) (HasRing g.S.PadShape.covers c.args.profile (map (λ pads. pads.now) c.args.layers.now) c.args.holes.now) c.args.layer c.loop-hole.hole c.args.holes.now c.loop-hole.met
          (ap (needs_ring c.args.layer) (sym (c.index-holes-hole.is ∙ get_or_default c.args.holes.now c.loop-hole.hole c.index-holes-hole.result default_hole c.loop-hole-test.true)) ∙ (sym c.needs_ring.ensures ∙ w.if-needs_ring.false))
          c.loop-hole.invariant)
    ]

pub returns : goal.returns
returns g c =
    let ended : c.loop-hole.hole ≡ length c.args.holes.now = omega arith in
    layer_needs_rings (HasRing g.S.PadShape.covers c.args.profile (map (λ pads. pads.now) c.args.layers.now) c.args.holes.now) c.args.layer c.args.holes.now c.loop-hole.met
    (subst (λ (n : ℕ). AreLeast (NeedsRingBefore c.args.layer n c.args.holes.now) (HasRing g.S.PadShape.covers c.args.profile (map (λ pads. pads.now) c.args.layers.now) c.args.holes.now) c.loop-hole.met) ended c.loop-hole.invariant)
