use Rattle.report_page.proofs.Common.{◌++◌, ℕ, List, ap₂, map, refl, flat_map, has_written_append, has_written_of_eq, Profile, conflict_warning, files_text, particulars_text, verdict, BEFORE_RULES, BEFORE_STYLE, BODY, HEAD}
use Rattle.report.specs.declared.RoleConflict.{RoleConflict}
use Rattle.report_page.specs.declared.style.TheConstants.{STYLE}
use Rattle.report_page.proofs.page.write_head.Goals as goal

-- each line writes its part
pub returns : goal.returns
returns g c = λ plain ok.
    let report = c.args.report.now in
    let words = c.args.verdict.now in
    let names : List (List ℕ) = map (λ name. name.now) c.args.names.now in
    let said = verdict words.findings words.waived in
    let first = c.in_ok-write.ensures.writes plain refl in
    let second = c.in_ok-write-2.ensures.writes first.plain refl in
    has_written_of_eq _ _ _ _ _
    (ap₂
    (λ (conflicts : List RoleConflict) (profile : Profile).
    (HEAD.now ++ (said ++ (BEFORE_STYLE.now ++ (STYLE.now ++ BODY.now))))
    ++ ((said ++ (BEFORE_RULES.now ++ flat_map (conflict_warning names) conflicts))
    ++ (particulars_text c.args.about.now report.rules words.findings ++ files_text profile names c.args.files.now)))
    c.deref.ensures.value c.profile.ensures)
    (has_written_append _ _ _ _ _ _ first (has_written_append _ _ _ _ _ _ second (c.write-3.ensures.writes second.plain ok)))
