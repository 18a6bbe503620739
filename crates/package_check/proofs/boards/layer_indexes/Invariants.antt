use Rattle.package_check.proofs.Common.{◌≡◌, take, enumerate_from, flat_map, index_in}
use Rattle.package_check.proofs.boards.layer_indexes.Given as goal

abbrev pub invariant-loop-index : goal.invariant-loop-index
invariant-loop-index l = l.indexes.items ≡ flat_map index_in (take l.index (enumerate_from 0 l.files))
