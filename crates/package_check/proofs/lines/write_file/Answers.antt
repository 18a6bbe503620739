use Rattle.package_check.proofs.Common.{◌∙◌, ◌++◌, List, ℕ, ap, append_assoc, refl, sym, has_written_append, has_written_of_eq, drill_words, file_line, layer_words, name_words, span_words}
use Rattle.package_check.proofs.lines.write_file.Goals as goal

pub returns-in_ok-write-in-Layer : goal.returns-in_ok-write-in-Layer
unfolding layer_words
returns-in_ok-write-in-Layer g c = λ plain ok.
    let first = c.in_ok-write-in-Layer.ensures.writes plain refl in
    has_written_of_eq _ _ _ _ _ (ap (file_line c.args.profile c.args.number c.args.name.now) (sym c.in-Layer.is)) (has_written_append _ _ _ _ _ _ first (c.write-in-Layer.ensures.writes first.plain ok))

pub returns-in-Drill : goal.returns-in-Drill
returns-in-Drill g c = λ plain ok.
    let a = c.args in
    has_written_of_eq _ _ _ _ _
    (ap (λ (word : List ℕ). drill_words a.number word c.in-Drill.round c.in-Drill.slots ++ (span_words c.in-Drill.span ++ name_words a.name.now)) c.yes_or_no-plated.ensures
    ∙ (sym (append_assoc (drill_words a.number _ c.in-Drill.round c.in-Drill.slots) (span_words c.in-Drill.span) (name_words a.name.now)) ∙ ap (file_line a.profile a.number a.name.now) (sym c.in-Drill.is)))
    (c.write-in-Drill.ensures.writes plain ok)

pub returns-in-Mixed : goal.returns-in-Mixed
returns-in-Mixed g c = λ plain ok. has_written_of_eq _ _ _ _ _ (ap (file_line c.args.profile c.args.number c.args.name.now) (sym c.in-Mixed.is)) (c.write-in-Mixed.ensures.writes plain ok)
