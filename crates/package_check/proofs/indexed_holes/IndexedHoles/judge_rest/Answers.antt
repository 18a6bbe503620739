use Rattle.package_check.proofs.Common.{◌∙◌, ◌++◌, map, ap, sym, plain, FeatureCounts, is_copper_function}
use Rattle.board.specs.declared.FileSum.TheVariants as sum
use Rattle.package_check.proofs.JudgedCopper.{is_left, refused_as_no_copper, rings_there}
use Rattle.package_check.proofs.indexed_holes.IndexedHoles.judge_rest.Goals as goal

pub returns-then-not-is_copper_function-clause-judged : goal.returns-then-not-is_copper_function-clause-judged
returns-then-not-is_copper_function-clause-judged c = λ text left read tried.
    refused_as_no_copper c.args.self.now.rules c.args.self.now.holes c.args.layer text left c.args.rest.now read c.refusal.result c.refusal.ensures
    (sym (ap is_copper_function c.file_function.ensures) ∙ (sym c.is_copper_function.ensures ∙ c.if-not-is_copper_function.true))

pub returns-clause-judged : goal.returns-clause-judged
returns-clause-judged c = λ text left read tried.
    let old = c.args.self.now in
    let mid = c.try_all.new.self in
    let rest = c.args.rest.now in
    let counts = c.counts-counts.result in
    is_left old.rules old.holes c.args.layer text left rest read
    (sym (ap is_copper_function c.file_function.ensures) ∙ (sym c.is_copper_function.ensures ∙ c.if-not-is_copper_function.false))
    (record { sum = sum.Layer counts.flashed counts.other counts.contours; rings = c.in-Ok-rings.rings })
    (ap (λ (n : FeatureCounts). sum.Layer n.flashed n.other n.contours) c.counts-counts.ensures)
    (rings_there mid.rules old.rules mid.holes old.holes c.args.layer (left ++ (map plain c.pads.result.now ++ c.wide_pads.result.now)) (left ++ (map plain rest.pads ++ rest.wide_pads)) c.in-Ok-rings.rings c.in-Ok.ensures.rules c.in-Ok.ensures.holes
    (λ i. left ++ (map plain (c.pads.ensures i) ++ c.wide_pads.ensures i))
    (c.in-Ok-rings.ensures.rings (left ++ (map plain c.pads.result.now ++ c.wide_pads.result.now)) (c.in-Ok.ensures.tried left tried)))
