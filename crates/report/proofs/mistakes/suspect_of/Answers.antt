use Rattle.report.proofs.Common.{inl, inr, refl, arith, holes_in}
use Rattle.report.proofs.FewestLemmas.{too_few}
use Rattle.report.proofs.Slices.{bare_of_part}
use Rattle.report.proofs.mistakes.suspect_of.Goals as goal

pub returns-then-round_among-bare : goal.returns-then-round_among-bare
returns-then-round_among-bare c = λ pads all.
    let file = c.args.file in
    let most = c.if-round_among-bare.true in
    let is = c.round_bare_count-bare.ensures.exact pads (bare_of_part pads c.args.holes.now file.start file.end c.requires.inside c.args.bare.now all) in
    record {
      ordered = c.requires.ordered;
      inside = c.requires.inside;
      either = inl (record { start = refl; end = refl; bare = is; most = omega (arith, most, c.round_among.ensures) });
    }

pub returns : goal.returns
returns c = λ pads all.
    let holes = c.args.holes.now in
    let file = c.args.file in
    let few = c.if-round_among-bare.false in
    let bare = c.round_bare_count-bare.result in
    let is = c.round_bare_count-bare.ensures.exact pads (bare_of_part pads holes file.start file.end c.requires.inside c.args.bare.now all) in
    record {
      ordered = omega arith;
      inside = omega (arith, c.requires.ordered, c.requires.inside);
      either = inr (record { bare = refl; none = too_few pads (holes_in holes file) bare is (omega (arith, few, c.round_among.ensures)) });
    }
