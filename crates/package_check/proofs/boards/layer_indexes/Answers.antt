use Rattle.package_check.proofs.Common.{ap, ◌∙◌, ◌∷◌, [], flat_map, enumerated_all, index_in}
use Rattle.package_check.proofs.GrowingLists.{flat_map_indexed_more, flat_map_indexed_none, no_index}
use Rattle.package_check.proofs.boards.layer_indexes.Goals as goal
use Rattle.package_check.proofs.boards.layer_indexes.Goals.{in-Layer+in_ok-push, in_default}

pub loop-index-preserved : goal.loop-index-preserved
loop-index-preserved c = elim c.match-file.branch [
  | in-Layer+in_ok-push w ↦
      ap (λ v. v.items) w.indexes-is ∙ (w.in_ok-push.ensures.items ∙ flat_map_indexed_more index_in c.loop-index.indexes.items (c.loop-index.index ∷ []) c.args.files.now c.loop-index.index c.index-files-index.result c.loop-index-test.true c.index-files-index.is (ap (λ x. index_in (c.loop-index.index, x)) w.in-Layer.is) c.loop-index.invariant)
  | in_default w ↦
      ap (λ v. v.items) w.indexes-is ∙ flat_map_indexed_none index_in c.loop-index.indexes.items c.args.files.now c.loop-index.index c.index-files-index.result c.loop-index-test.true c.index-files-index.is (no_index c.loop-index.index c.index-files-index.result w.in_default.not-Layer) c.loop-index.invariant
]

pub returns : goal.returns
returns c = c.loop-index.invariant ∙ ap (flat_map index_in) (enumerated_all c.args.files.now c.loop-index.index c.loop-index-test.false)
