use Rattle.package_check.proofs.Common.{refl}
use Rattle.package_check.proofs.FileStartsLemmas.{all_starts, next_start, no_starts, start_in, starts_more}
use Rattle.package_check.proofs.package_report.starts_of.Goals as goal

pub loop-file-init : goal.loop-file-init
loop-file-init c = record {
  start = refl;
  starts = no_starts c.args.files.now c.in_ok-starts.starts.items c.in_ok-starts.ensures.items;
}

pub overflow_sub-holes : goal.overflow_sub-holes
overflow_sub-holes c = start_in c.args.files.now c.args.holes.now c.loop-file.file-index c.loop-file.start c.requires c.loop-file.invariant.start

pub loop-file-preserved : goal.loop-file-preserved
loop-file-preserved c =
    let files = c.args.files.now in
    let file = c.loop-file.file-index in
    let was = c.loop-file.invariant in
    record {
      start = next_start files c.args.holes.now file c.loop-file.start c.hole_count-start.result c.file-item.result c.requires c.loop-file-test.true c.file-item.is was.start c.hole_count-start.ensures;
      starts = starts_more files file c.loop-file.starts.items c.push.new.self.items c.loop-file.start was.start c.in_ok-push.ensures.items was.starts;
    }

pub returns : goal.returns
returns c = all_starts c.args.files.now c.args.holes.now c.loop-file.file-index c.loop-file.starts.items c.requires c.loop-file-test.false c.loop-file.auto.file-index-end c.loop-file.invariant.starts
