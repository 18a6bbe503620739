use Rattle.manifest.proofs.Common.{◌∙◌, ap₂, sym, bytes_eq, fields_of}
use Rattle.manifest.proofs.EntryFields.{empty_differs, field_is, no_field}
use Rattle.manifest.proofs.rows.has_field.Goals as goal

pub returns-in-Some : goal.returns-in-Some
returns-in-Some c =
    let same = field_is (fields_of c.args.row.now) c.args.i _ c.in-Some.ensures.value in
    c.eq.ensures ∙ ap₂ bytes_eq same c.as_bytes.ensures.value

pub returns-in-None : goal.returns-in-None
returns-in-None c = rw (no_field (fields_of c.args.row.now) c.args.i c.in-None.ensures.value) (sym (empty_differs c.args.text.now c.requires))
