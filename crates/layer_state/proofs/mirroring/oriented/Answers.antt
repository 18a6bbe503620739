-- The shape is neither mirrored nor turned.
use Rattle.layer_state.proofs.Common.{◌≡◌, ℕ, IfOk, arith, subst, sym, no_mirroring, oriented_shape}
use Rattle.layer_state.specs.declared.mirroring.Mirroring.{Mirroring}
use Rattle.layer_state.proofs.mirroring.oriented.Goals as goal

pub returns-then-not-mirroring-2 : goal.returns-then-not-mirroring-2
returns-then-not-mirroring-2 c =
    let zero : c.args.turns ≡ 0 = omega arith in
    let none : c.args.mirroring ≡ no_mirroring = λ i. record { x = c.if-not-mirroring.true i; y = c.if-not-mirroring-2.true i } in
    subst (λ (m : Mirroring). IfOk c.unchanged.result (λ answer. answer ≡ oriented_shape m c.args.turns c.args.shape.now)) (sym none)
    (subst (λ (n : ℕ). IfOk c.unchanged.result (λ answer. answer ≡ oriented_shape no_mirroring n c.args.shape.now)) (sym zero) c.unchanged.ensures)
