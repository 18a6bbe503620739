-- One column more.
use Rattle.layer_features.proofs.Common.{◌≡◌, ◌∙◌, ◌++◌, ℕ, map, subst, refl, sym, arith, append-nil, filter_map, flat_map, numbers_below, shape_at, copy_in, contour_feature, KeepsFeatures}
use Rattle.layer_features.proofs.CopiesLemmas.{and_mapped, next_list}
use Rattle.layer_features.proofs.copies.lay.Goals as goal

pub loop-u-init : goal.loop-u-init
loop-u-init c = record { kept = λ taken features h. subst (KeepsFeatures c.args.kept.now taken) (sym (append-nil features)) h; rows = refl }

pub loop-u-preserved : goal.loop-u-preserved
loop-u-preserved c = record {
  kept = λ taken features h.
      subst (KeepsFeatures c.lay_column.new.kept taken)
      (and_mapped contour_feature features _ _ _ (next_list (shape_at c.args.contour.now) (λ u. map (copy_in c.args.unit c.args.block.now u) (numbers_below c.args.block.now.rows)) c.loop-u.u))
      (c.in_ok-lay_column.ensures.kept taken _ (c.loop-u.invariant.kept taken features h));
  rows = c.lay_column.ensures.rows ∙ c.loop-u.invariant.rows;
}

pub returns-clause-kept : goal.returns-clause-kept
returns-clause-kept c taken features h =
    let ended : c.loop-u.u ≡ c.args.block.now.columns = omega arith in
    let column = λ (u : ℕ). map (copy_in c.args.unit c.args.block.now u) (numbers_below c.args.block.now.rows) in
    subst (λ (n : ℕ). KeepsFeatures c.loop-u.kept taken (features ++ map contour_feature (filter_map (shape_at c.args.contour.now) (flat_map column (numbers_below n))))) ended (c.loop-u.invariant.kept taken features h)
