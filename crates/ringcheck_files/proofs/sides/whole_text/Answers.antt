use Rattle.ringcheck_files.proofs.Common.{◌≤◌, ap, length, subst, sym, arith, lit<, length-decimal-le}
use Rattle.ringcheck_files.proofs.sides.whole_text.Goals as goal

pub push_str-requires : goal.push_str-requires
push_str-requires c =
    let short : length c.format.result.now ≤ 5 = subst (λ xs. length xs ≤ 5) (sym c.format.ensures.text) (length-decimal-le 5 c.args.number (lit< tt) c.requires (omega arith)) in
    (lit< tt, omega (arith, short, ap length c.new-text.ensures))

pub returns-clause-short : goal.returns-clause-short
returns-clause-short c =
    let short : length c.format.result.now ≤ 5 = subst (λ xs. length xs ≤ 5) (sym c.format.ensures.text) (length-decimal-le 5 c.args.number (lit< tt) c.requires (omega arith)) in
    omega (arith, short, c.push_str.ensures.len, ap length c.new-text.ensures)
