use Rattle.package_check.proofs.Common.{◌∙◌, ◌<◌, ◌++◌, ◌∷◌, [], List, ap, arith, false, get_or, inl, inr, length, Drilled, get_or_default}
use Rattle.package_check.proofs.MarkedLemmas.{marked_all, marked_more}
use Rattle.package_check.proofs.readers.marked.Goals as goal

pub returns-then-i-plated : goal.returns-then-i-plated
returns-then-i-plated c = c.loop-i.invariant.so_far ∙ marked_all c.args.span.now c.args.holes.now c.args.plated.now c.loop-i.i (inr (omega (arith, c.if-i-plated.true)))

pub loop-i-preserved : goal.loop-i-preserved
loop-i-preserved c =
    let span = c.args.span.now in
    let plated = c.args.plated.now in
    let i = c.loop-i.i in
    let hole = c.index-holes-i.result in
    let one = get_or plated i false in
    let le : i < length plated = omega (arith, c.if-i-plated.false) in
    record {
      so_far =
          c.in_ok-push.ensures.items
          ∙ (ap (λ (ds : List Drilled). ds ++ record { hole = hole; plated = one; span = span } ∷ []) c.loop-i.invariant.so_far ∙ marked_more span c.args.holes.now plated i hole one c.loop-i-test.true le c.index-holes-i.is (get_or_default plated i false one le));
      within = omega (arith, c.if-i-plated.false);
    }

pub returns : goal.returns
returns c = c.loop-i.invariant.so_far ∙ marked_all c.args.span.now c.args.holes.now c.args.plated.now c.loop-i.i (inl (omega (arith, c.loop-i-test.false)))
