use Rattle.board_report.proofs.Common.{List, take, subst, sym, not, AllZip, filter, take_more, Finding, IsRingEntry, is_gap}
use Rattle.board_report.proofs.AddedEntries.{added}
use Rattle.board_report.proofs.rings.ring_lacks.Goals as goal

pub push-requires-clause-board_data : goal.push-requires-clause-board_data
push-requires-clause-board_data c = record { bests = c.requires.bests; files = c.requires.files }

pub loop-finding-preserved : goal.loop-finding-preserved
loop-finding-preserved c =
    let i = c.loop-finding.finding-index in
    let all = c.args.findings.now in
    record {
      current = c.in_ok-current.ensures.current;
      output = subst (λ (xs : List Finding). AllZip (IsRingEntry c.args.board.now c.args.rules) (filter (λ finding. not (is_gap finding)) xs) c.push.new.output.items) (sym (take_more all i _ c.loop-finding-test.true))
          (added (IsRingEntry c.args.board.now c.args.rules) (λ finding. not (is_gap finding)) (take i all) _ c.loop-finding.output.items c.push.new.output.items c.loop-finding.invariant.output c.in_ok-current.ensures.adds);
    }
