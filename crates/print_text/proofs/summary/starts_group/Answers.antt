use Rattle.print_text.proofs.Common.{◌≡◌, ◌∙◌, Bool, ap, arith, sym, ◌&&◌, not, is_first_alike}
use Rattle.std.proofs.lemmas.Bool.{eq-eqb}
use Rattle.print_text.proofs.RunLemmas.{any_in_run}
use Rattle.print_text.proofs.summary.starts_group.Goals as goal

pub returns : goal.returns
returns c =
    let one = c.args.one.now in
    let layer = c.args.run.layer in
    let own : one.layer ≡ layer = omega arith in
    ap not (c.is_any_alike.ensures ∙ any_in_run c.args.rings.now layer c.args.run one c.args.place c.requires.run own c.requires.first)
    ∙ sym (ap (λ (b : Bool). b && is_first_alike c.args.rings.now (c.args.place, one)) (eq-eqb one.layer layer own))
