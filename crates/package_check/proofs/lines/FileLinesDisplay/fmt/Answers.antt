use Rattle.package_check.proofs.Common.{◌++◌, ◌+◌, get_or, refl, has_written_append, has_written_of_eq, file_line}
use Rattle.package_check.proofs.ReportTextLemmas.{line_more, lines_end, sums_end}
use Rattle.package_check.proofs.PiecesLemmas.{no_piece}
use Rattle.package_check.proofs.lines.FileLinesDisplay.fmt.Goals as goal

pub loop-index-preserved : goal.loop-index-preserved
loop-index-preserved g c = λ plain.
    let lines = c.args.self.now in
    let index = c.loop-index.index in
    let sum = c.index-self-index.result in
    let before = c.loop-index.invariant plain in (
      before.0 ++ file_line lines.profile (index + 1) (get_or lines.names.now index no_piece).now (get_or lines.files.now index sum),
      has_written_append _ _ _ _ _ _ before.1 (c.in_ok-write_file.ensures before.1.plain refl),
      line_more lines.profile lines.names.now lines.files.now index (index + 1) no_piece sum _ _ _ c.loop-index-test.true c.if-index-self.false before.2 refl,
    )

pub returns-then-index-self-clause-writes : goal.returns-then-index-self-clause-writes
returns-then-index-self-clause-writes g c = λ plain ok.
    let lines = c.args.self.now in
    let index = c.loop-index.index in
    let all = c.loop-index.invariant plain in
    has_written_of_eq _ _ _ _ _ (sums_end lines.profile lines.names.now lines.files.now index (index + 1) _ _ c.if-index-self.true all.2) all.1

pub returns-clause-writes : goal.returns-clause-writes
returns-clause-writes g c = λ plain ok.
    let lines = c.args.self.now in
    let index = c.loop-index.index in
    let all = c.loop-index.invariant plain in
    has_written_of_eq _ _ _ _ _ (lines_end lines.profile lines.names.now lines.files.now index (index + 1) _ _ c.loop-index-test.false all.2) all.1
