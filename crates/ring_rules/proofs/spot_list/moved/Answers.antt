use Rattle.ring_rules.proofs.Common.{rules, ◌≡◌, ◌∙◌, hole_of_form}
use Rattle.ring_rules.proofs.FormLemmas.{hole_of, moved_to}
use Rattle.ring_rules.proofs.spot_list.moved.Goals as goal

pub returns : goal.returns
returns c =
    let hole : c.unwrap.result ≡ hole_of c.args.from c.unwrap-to.result.x c.unwrap-to.result.y c.args.form.now.radius = search rules in
    let x : c.unwrap-to.result.x ≡ (hole_of_form c.args.form.now c.args.from).to.x = search rules in
    let y : c.unwrap-to.result.y ≡ (hole_of_form c.args.form.now c.args.from).to.y = search rules in
    hole ∙ moved_to c.args.form.now c.args.from c.unwrap-to.result x y
