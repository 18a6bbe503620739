use Rattle.report.proofs.Common.{length, refl}
use Rattle.report.proofs.RescaledCounts.{all_bare}
use Rattle.report.proofs.counts.count_of.Goals as goal

pub returns : goal.returns
returns c = λ factor pads rescaled bare.
    all_bare factor pads c.args.holes.now c.args.rescaled.now c.round_among.result (length c.args.rescaled.now) c.round_bare_count.result rescaled c.round_among.ensures refl (c.round_bare_count.ensures.exact pads bare)
