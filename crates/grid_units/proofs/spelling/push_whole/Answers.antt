use Rattle.std.proofs.Common.{◌≤◌, length, subst, sym, arith, lit<}
use Rattle.std.proofs.lemmas.Fmt.{length-decimal-le}
use Rattle.grid_units.proofs.spelling.push_whole.Goals as goal

pub push_str-requires : goal.push_str-requires
push_str-requires c =
    let short : length c.format.result.now ≤ 6 = subst (λ xs. length xs ≤ 6) (sym c.format.ensures.text) (length-decimal-le 6 c.args.number (lit< tt) c.requires.number (omega arith)) in
    (lit< tt, omega (arith, short, c.requires.room))

pub returns-clause-short : goal.returns-clause-short
returns-clause-short c =
    let short : length c.format.result.now ≤ 6 = subst (λ xs. length xs ≤ 6) (sym c.format.ensures.text) (length-decimal-le 6 c.args.number (lit< tt) c.requires.number (omega arith)) in
    omega (arith, short, c.push_str.ensures.len)

pub returns-clause-shorter : goal.returns-clause-shorter
returns-clause-shorter c small =
    let short : length c.format.result.now ≤ 5 = subst (λ xs. length xs ≤ 5) (sym c.format.ensures.text) (length-decimal-le 5 c.args.number (lit< tt) small (omega arith)) in
    omega (arith, short, c.push_str.ensures.len)
