use Rattle.board_report.proofs.Common.{List, take, subst, sym, AllZip, filter, take_more, Finding, IsGapEntry, is_gap}
use Rattle.board_report.proofs.AddedEntries.{added}
use Rattle.board_report.proofs.gaps.gap_lacks.Goals as goal

pub loop-finding-preserved : goal.loop-finding-preserved
loop-finding-preserved c =
    let i = c.loop-finding.finding-index in
    let all = c.args.findings.now in
    subst (λ (xs : List Finding). AllZip (IsGapEntry c.args.board.now c.args.rules.gap) (filter is_gap xs) c.push.new.output.items) (sym (take_more all i _ c.loop-finding-test.true))
    (added (IsGapEntry c.args.board.now c.args.rules.gap) is_gap (take i all) _ c.loop-finding.output.items c.push.new.output.items c.loop-finding.invariant c.in_ok-push.ensures)
