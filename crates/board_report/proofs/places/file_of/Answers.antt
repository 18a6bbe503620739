use Rattle.board_report.proofs.Common.{length, rules, Contains-get_or, FileHoles}
use Rattle.std.proofs.lemmas.List.Sorted.{IsPartitionPoint-from_clause}
use lib.Dec.{leb}
use Rattle.board_report.proofs.FilesWithHolesLemmas.{found, parted}
use Rattle.board_report.proofs.places.file_of.Goals as goal

pub bounds-files-index : goal.bounds-files-index
bounds-files-index c = (found c.requires.0 c.args.files.now c.requires.1 c.args.hole c.partition_point-index.result c.requires.2
    (IsPartitionPoint-from_clause (λ file. leb file.end c.args.hole) _ _ c.partition_point-index.ensures.partitioned (parted c.requires.0.files (length c.requires.0.files) c.args.files.now c.args.hole c.requires.1.are) (λ a r q k. search rules))).0

pub returns : goal.returns
returns c =
    let none : FileHoles = record { drill = 0; start = 0; end = 0 } in
    let at = found c.requires.0 c.args.files.now c.requires.1 c.args.hole c.partition_point-index.result c.requires.2
    (IsPartitionPoint-from_clause (λ file. leb file.end c.args.hole) _ _ c.partition_point-index.ensures.partitioned (parted c.requires.0.files (length c.requires.0.files) c.args.files.now c.args.hole c.requires.1.are) (λ a r q k. search rules)) in
    record {
      among = Contains-get_or c.args.files.now c.partition_point-index.result none at.0;
      starts = (at.1 none).0;
      ends = (at.1 none).1;
    }
