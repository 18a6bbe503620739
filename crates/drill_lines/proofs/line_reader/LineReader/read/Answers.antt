use Rattle.drill_lines.proofs.Common.{ℕ, List, subst, Wide, ReadsLine, without_end_blanks}
use Rattle.drill_lines.proofs.RouteLemmas.{strict_answers, wide_answers}
use Rattle.drill_lines.proofs.line_reader.LineReader.read.Goals as goal

pub returns-in-Strict : goal.returns-in-Strict
returns-in-Strict c profile earlier h = strict_answers c.args.self.now profile c.args.settings earlier (without_end_blanks c.args.line.now) c.read_line.result c.in-Strict.is h c.read_line.ensures

pub returns-in-Wide : goal.returns-in-Wide
returns-in-Wide c profile earlier h =
    wide_answers c.args.self.now c.read_wide.new.self profile c.args.settings earlier (without_end_blanks c.args.line.now) c.read_wide.result c.in-Wide.is h
    (λ k. subst (λ (l : List ℕ). ReadsLine c.read_wide.result c.read_wide.new.self Wide c.args.settings earlier l) c.trimmed_len.ensures.exact (c.read_wide.ensures earlier k))
