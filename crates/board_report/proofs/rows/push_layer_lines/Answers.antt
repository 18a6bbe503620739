use Rattle.board_report.proofs.Common.{◌++◌, List, get_or, refl, ap, ◌∙◌, get_or_default, RingLine, FileHoles, LayerFileHoles}
use Rattle.board_report.proofs.LayerLinesLemmas.{first_file, last_file, next_file}
use Rattle.board_report.proofs.rows.push_layer_lines.Goals as goal

pub loop-file-init : goal.loop-file-init
loop-file-init c = first_file c.args.profile c.args.board.now c.args.files.now c.requires.files c.args.layer c.args.lines.now.items c.requires.so_far

pub loop-file-preserved : goal.loop-file-preserved
loop-file-preserved c =
    let files = c.args.files.now in
    let i = c.loop-file.file-index in
    let none : FileHoles = record { drill = 0; start = 0; end = 0 } in
    let file = get_or files i none in
    let file_holes : LayerFileHoles = record { layer = c.args.layer; drill = file.drill; start = file.start; end = file.end } in
    next_file c.args.profile c.args.board.now files c.requires.files c.args.layer i file_holes c.loop-file.lines.items c.in_ok-its.its.items c.extend_from_slice.new.self.items c.loop-file-test.true refl
    (λ (d : FileHoles). ap (λ (f : FileHoles). f.drill) (get_or_default files i d none c.loop-file-test.true))
    (c.in_ok-extend_from_slice.ensures.items ∙ ap (λ (xs : List RingLine). c.loop-file.lines.items ++ xs) c.deref.ensures.value) c.loop-file.invariant c.in_ok-its.ensures

pub returns : goal.returns
returns c = last_file c.args.profile c.args.board.now c.args.files.now c.requires.files c.args.layer c.loop-file.file-index c.loop-file.lines.items c.loop-file-test.false c.loop-file.invariant
