use Rattle.report.proofs.Common.{◌+◌, get_or, take, get_or_default, IsSuspect, FileRange}
use Rattle.report.proofs.UnitMistakeLemmas.{as_suspects, from_suspects}
use Rattle.report.proofs.PairedLists.{paired_all, paired_more}
use Rattle.report.proofs.mistakes.suspects_of.Goals as goal

pub loop-file-preserved : goal.loop-file-preserved
loop-file-preserved c = λ pads all.
    let holes = c.args.holes.now in
    let files = c.args.files.now in
    let k = c.loop-file.file-index in
    let none : FileRange = record { drill = 0; start = 0; end = 0 } in
    let one : FileRange = get_or c.args.files.now c.loop-file.file-index none in
    as_suspects pads holes (take (k + 1) files) c.push.new.self.items
    (paired_more (IsSuspect pads holes) files k one c.loop-file-test.true (get_or_default files k none one c.loop-file-test.true) c.loop-file.suspects.items c.push.new.self.items c.suspect_of.result c.in_ok-push.ensures.items
    (c.suspect_of.ensures pads all) (from_suspects pads holes (take k files) c.loop-file.suspects.items (c.loop-file.invariant pads all)))

pub returns : goal.returns
returns c = λ pads all.
    let holes = c.args.holes.now in
    let files = c.args.files.now in
    let k = c.loop-file.file-index in
    as_suspects pads holes files c.loop-file.suspects.items
    (paired_all (IsSuspect pads holes) files k c.loop-file.suspects.items c.loop-file-test.false (from_suspects pads holes (take k files) c.loop-file.suspects.items (c.loop-file.invariant pads all)))
