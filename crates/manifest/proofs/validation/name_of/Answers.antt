use Rattle.manifest.proofs.Common.{sym, fields_of}
use Rattle.manifest.proofs.EntryFields.{field_is, no_field}
use Rattle.manifest.proofs.validation.name_of.Goals as goal

pub returns-in-Some : goal.returns-in-Some
returns-in-Some c = field_is (fields_of c.args.row.now) 1 _ c.in-Some.ensures.value

pub returns-in-None : goal.returns-in-None
returns-in-None c = sym (no_field (fields_of c.args.row.now) 1 c.in-None.ensures.value)
