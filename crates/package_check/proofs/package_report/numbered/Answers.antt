use Rattle.package_check.proofs.Common.{ℕ, rules, arith, IsPartitionPoint-from_clause}
use lib.Dec.{leb}
use Rattle.package_check.proofs.FileStartsLemmas.{found, parted, placed}
use Rattle.package_check.proofs.package_report.numbered.Goals as goal

pub overflow_sub-file : goal.overflow_sub-file
overflow_sub-file c =
    let files = c.requires.starts in
    let point = IsPartitionPoint-from_clause (λ (start : ℕ). leb start c.args.place) _ _ c.partition_point-file.ensures.partitioned (parted files.0 c.args.holes.now c.args.starts.now files.1 c.args.place) (λ a r q k. search rules) in
    let some = (found files.0 c.args.holes.now c.args.starts.now files.1 c.args.place c.partition_point-file.result c.requires.place c.partition_point-file.ensures.bound point).0 in
    omega (arith, some)

pub overflow_sub-result : goal.overflow_sub-result
overflow_sub-result c =
    let files = c.requires.starts in
    let point = IsPartitionPoint-from_clause (λ (start : ℕ). leb start c.args.place) _ _ c.partition_point-file.ensures.partitioned (parted files.0 c.args.holes.now c.args.starts.now files.1 c.args.place) (λ a r q k. search rules) in
    let at = found files.0 c.args.holes.now c.args.starts.now files.1 c.args.place c.partition_point-file.result c.requires.place c.partition_point-file.ensures.bound point in
    let start = at.2 in
    let low = at.3 in
    omega (arith, start, low)

pub returns : goal.returns
returns c = λ files are.
    let point = IsPartitionPoint-from_clause (λ (start : ℕ). leb start c.args.place) _ _ c.partition_point-file.ensures.partitioned (parted files c.args.holes.now c.args.starts.now are c.args.place) (λ a r q k. search rules) in
    placed files c.args.holes.now c.args.starts.now are c.args.place c.partition_point-file.result c.index-holes-place.result c.requires.place c.partition_point-file.ensures.bound point c.index-holes-place.is
