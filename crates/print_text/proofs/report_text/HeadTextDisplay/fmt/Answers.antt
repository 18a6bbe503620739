use Rattle.print_text.proofs.Common.{◌++◌, ℕ, List, ap₂, map, flat_map, has_written_of_eq, conflict_line, head_text, rules_line, scale_line}
use Rattle.report.specs.declared.RoleConflict.{RoleConflict}
use Rattle.report.specs.declared.UnitMistake.{UnitMistake}
use Rattle.print_text.specs.Drilling.{drilling_text}
use Rattle.print_text.proofs.report_text.HeadTextDisplay.fmt.Goals as goal

pub returns-clause-writes : goal.returns-clause-writes
unfolding head_text
returns-clause-writes g c = λ plain ok.
    let text = c.args.self.now in
    let names : List (List ℕ) = map (λ name. name.now) text.names.now in
    has_written_of_eq _ _ _ _ _
    (ap₂ (λ (scales : List UnitMistake) (conflicts : List RoleConflict). flat_map (scale_line names) scales ++ (flat_map (conflict_line names) conflicts ++ (rules_line text.report.now.rules ++ drilling_text text.report.now.rules text.drilling))) c.deref.ensures.value c.deref-2.ensures.value)
    (c.write.ensures.writes plain ok)
