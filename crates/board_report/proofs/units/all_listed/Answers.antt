use Rattle.board_report.proofs.Common.{◌<◌, length, get_or, arith, None}
use Rattle.board_report.proofs.UnitMistakeLinesLemmas.{all_files, file_more}
use Rattle.board_report.proofs.units.all_listed.Goals as goal

pub loop-line-preserved : goal.loop-line-preserved
loop-line-preserved c =
    let board = c.args.board.now in
    let k = c.loop-line.line-index in
    let inside : c.loop-line.line-index < length c.args.board.now.files = omega (arith, c.loop-line-test.true, c.requires.size) in
    file_more board k c.loop-line.lines.items c.push_line.new.lines.items (get_or c.args.found.now c.loop-line.line-index None) c.in_ok-push_line.ensures (c.requires.each k None inside) c.loop-line.invariant

pub returns : goal.returns
returns c = all_files c.args.board.now c.loop-line.line-index c.loop-line.lines.items (omega (arith, c.loop-line-test.false, c.requires.size)) c.loop-line.invariant
