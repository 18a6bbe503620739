use Rattle.manifest.proofs.Common.{sym, ap, ◌∙◌, fields_of, is_plain_text}
use Rattle.manifest.proofs.EntryFields.{empty_plain, field_is, no_field}
use Rattle.manifest.proofs.rows.text_field.Goals as goal

pub returns-in-Some : goal.returns-in-Some
returns-in-Some c = rw (← field_is (fields_of c.args.row.now) c.args.i _ c.in-Some.ensures.value) c.plain_text.ensures

pub returns-in-None : goal.returns-in-None
returns-in-None c =
    let none = no_field (fields_of c.args.row.now) c.args.i c.in-None.ensures.value in
    (ap is_plain_text none ∙ empty_plain, sym none)
