use Rattle.drill_text.proofs.Common.{◌+◌, sym, ap, subst, arith, Coordinates, HasLeadingHit}
use Rattle.drill_text.proofs.FastPathLemmas.{hit_found}
use Rattle.drill_text.proofs.fast_path.leading_hit.Goals as goal

pub returns : goal.returns
returns c =
    let bytes = c.args.bytes.now in
    let blanks = c.in_ok-blanks.blanks in
    let point = c.leading_point-x.result in
    subst (λ (p : Coordinates). HasLeadingHit c.args.settings.now p (c.saturating_sub-len.result + blanks) bytes) (sym c.new.ensures)
    (hit_found c.args.settings.now bytes point.2.now point.0 point.1 blanks _ c.leading_point-x.ensures c.in_ok-blanks.ensures (omega (arith, c.saturating_sub-len.ensures, c.if-len-eq0.false)) (ap (λ n. n + blanks) c.saturating_sub-len.ensures))
