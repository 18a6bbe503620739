use Rattle.package_check.proofs.Common.{◌∙◌, ◌++◌, ap, append_assoc, length, map, refl, sym, flat_map, has_written_append, has_written_of_eq, GridRules, file_lines, finding_line, last_line, rules_line}
use Rattle.package_check.proofs.text.CheckTextDisplay.fmt.Goals as goal

pub returns-clause-writes : goal.returns-clause-writes
returns-clause-writes g c = λ plain ok.
    let report = c.args.self.now.report.now in
    let names = map (λ name. name.now) c.args.self.now.names.now in
    let rules = rules_line report.rules in
    let line = finding_line report.layers report.holes in
    let files = file_lines report.rules.profile 1 names report.files in
    let findings = flat_map line report.findings in
    let profile_is = c.profile.ensures ∙ ap (λ (r : GridRules). r.profile) c.rules-rules.ensures in
    let first = c.in_ok-write_rules.ensures plain refl in
    let second = c.in_ok-write.ensures.writes first.plain refl in
    has_written_of_eq _ _ _ _ _
    ((λ i. rules_line (c.rules-rules.ensures i) ++ ((file_lines (profile_is i) 1 names (c.files.ensures i) ++ flat_map line (c.findings-found.ensures i)) ++ last_line (length (c.findings-found.ensures i))))
    ∙ (sym (append_assoc rules (files ++ findings) (last_line (length report.findings))) ∙ ap (λ t. t ++ last_line (length report.findings)) (sym (append_assoc rules files findings))))
    (has_written_append _ _ _ _ _ _ first (has_written_append _ _ _ _ _ _ second (c.write_last.ensures second.plain ok)))
