-- The coordinates of an operation are those of its command.
use Rattle.layer_state.proofs.Common.{◌≡◌, ◌∙◌, sym, subst, Command, Operate, current_after}
use Rattle.layer_state.proofs.current.Current.take.Goals as goal

pub returns-in-Operate : goal.returns-in-Operate
returns-in-Operate c =
    let p = c.in-Operate in
    let named : Operate p.action c.get.result c.get-in-Operate.result p.i p.j ≡ c.args.command.now = (λ k. Operate p.action (c.get.ensures k) (c.get-in-Operate.ensures k) p.i p.j) ∙ sym p.is in
    subst (λ (d : Command). c.set_point.new.self ≡ current_after d c.args.self.now) named (c.set_point.ensures p.action p.i p.j)
