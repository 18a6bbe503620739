use Rattle.ring_rules.proofs.Common.{◌≡◌, Bool, true, false, sym, ap, ◌∙◌, ◌&&◌, not, covers_hole, is_refused_slot, gives_ring}
use Rattle.ring_rules.proofs.marks.gives_ring.Goals as goal

pub returns-then-not-is_refused_slot : goal.returns-then-not-is_refused_slot
unfolding gives_ring
returns-then-not-is_refused_slot g c =
    let held : is_refused_slot c.args.rules.profile c.args.hole.now ≡ false = sym (c.is_refused_slot.ensures ∙ ap (λ profile. is_refused_slot profile c.args.hole.now) c.profile.ensures) ∙ c.if-not-is_refused_slot.true in
    c.covers_hole.ensures ∙ ap (λ (b : Bool). not b && covers_hole g.S.PadShape.covers c.args.rules.ring c.args.hole.now c.args.pad.now) (sym held)

pub returns-else-not-is_refused_slot : goal.returns-else-not-is_refused_slot
unfolding gives_ring
returns-else-not-is_refused_slot g c =
    let refused : is_refused_slot c.args.rules.profile c.args.hole.now ≡ true = sym (c.is_refused_slot.ensures ∙ ap (λ profile. is_refused_slot profile c.args.hole.now) c.profile.ensures) ∙ c.if-not-is_refused_slot.false in
    ap not c.if-not-is_refused_slot.false ∙ ap (λ (b : Bool). not b && covers_hole g.S.PadShape.covers c.args.rules.ring c.args.hole.now c.args.pad.now) (sym refused)
