use Rattle.board_report.proofs.Common.{◌∙◌, ap, arith, refl, FileHoles}
use Rattle.board_report.proofs.FilesWithHolesLemmas.{empty_more, with_holes_more}
use Rattle.board_report.proofs.places.files_with_holes.Goals as goal
use Rattle.board_report.proofs.places.files_with_holes.Goals.{then-start-end+in_ok-push, else-start-end}

pub loop-drill-preserved : goal.loop-drill-preserved
loop-drill-preserved c =
    let files = c.args.board.now.files in
    let drill = c.loop-drill.drill in
    let start = c.loop-drill.start in
    let end = c.end_of-end.result in
    let starts = c.loop-drill.invariant.start in
    let ends = c.end_of-end.ensures.ends in
    let file : FileHoles = record { drill = drill; start = start; end = end } in
    record {
      start = ends;
      with_holes = elim c.if-start-end.branch [
        | then-start-end+in_ok-push w ↦
            with_holes_more files drill c.loop-drill.with_holes.items c.if-start-end.with_holes.items file refl (record { starts = starts; ends = ends; some = w.if-start-end.true }) (ap (λ v. v.items) w.with_holes-is ∙ w.in_ok-push.ensures.items) c.loop-drill.invariant.with_holes
        | else-start-end w ↦
            empty_more files drill start end c.loop-drill.with_holes.items c.if-start-end.with_holes.items starts ends (omega (arith, w.if-start-end.false)) (ap (λ v. v.items) w.with_holes-is) c.loop-drill.invariant.with_holes
      ];
    }
