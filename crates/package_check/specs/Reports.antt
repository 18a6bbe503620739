-- What a report holds.
use Rattle.std.specs.Prelude.{ℕ, List}
use Rattle.grid_units.specs.Holes.{GridRules}
use Rattle.ring_rules.specs.declared.finding.Finding.{Finding}
use Rattle.board.specs.declared.FileSum.{FileSum}
use Rattle.board.specs.declared.Numbered.{Numbered}

-- a report: the rules, the counts of each file, the indexes of the copper files, all holes with their places, and the findings
pub record ReportView : Type 0 where
  pub rules : GridRules
  pub files : List FileSum
  pub layers : List ℕ
  pub holes : List Numbered
  pub findings : List Finding
