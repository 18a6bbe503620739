-- One copy more.
use Rattle.layer_features.proofs.Common.{◌≡◌, ◌∙◌, ◌++◌, ℕ, map, arith, subst, refl, sym, append-nil, filter_map, numbers_below, shape_at, copy_in, contour_feature, KeepsFeatures}
use Rattle.layer_features.proofs.CopiesLemmas.{and_mapped, next_copy}
use Rattle.layer_features.proofs.copies.lay_column.Goals as goal

pub loop-v-init : goal.loop-v-init
loop-v-init c = record { kept = λ taken features h. subst (KeepsFeatures c.args.kept.now taken) (sym (append-nil features)) h; rows = refl }

pub loop-v-preserved : goal.loop-v-preserved
loop-v-preserved c = record {
  kept = λ taken features h.
      subst (KeepsFeatures c.lay_copy.new.kept taken) (and_mapped contour_feature features _ _ _ (next_copy (shape_at c.args.contour.now) (copy_in c.args.unit c.args.block.now c.args.u) c.loop-v.v))
      (c.in_ok-lay_copy.ensures.kept taken _ (c.loop-v.invariant.kept taken features h));
  rows = c.lay_copy.ensures.rows ∙ c.loop-v.invariant.rows;
}

pub returns-clause-kept : goal.returns-clause-kept
returns-clause-kept c taken features h =
    let ended : c.loop-v.v ≡ c.args.block.now.rows = omega arith in
    subst (λ (n : ℕ). KeepsFeatures c.loop-v.kept taken (features ++ map contour_feature (filter_map (shape_at c.args.contour.now) (map (copy_in c.args.unit c.args.block.now c.args.u) (numbers_below n))))) ended (c.loop-v.invariant.kept taken features h)
