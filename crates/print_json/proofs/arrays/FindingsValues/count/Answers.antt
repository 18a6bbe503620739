use Rattle.print_json.proofs.Common.{arith}
use Rattle.print_json.proofs.Lists.{length_found}
use Rattle.print_json.proofs.arrays.FindingsValues.count.Goals as goal

pub returns : goal.returns
returns c =
    let report = c.args.self.now.report.now in
    omega (arith, c.len.ensures, length_found report.layers.items report.rings.items report.gaps.items c.args.self.now.accepted.now.rings.now c.args.self.now.accepted.now.gaps.now)
