use Rattle.manifest.proofs.Common.{◌∙◌, sym, fields_of, format_of_fields, may_say}
use Rattle.manifest.proofs.EntryFields.{ill_formed, may_not_say, well_formed}
use Rattle.manifest.proofs.SpanFieldLemmas.{said_none, said_some}
use Rattle.manifest.proofs.validation.text_fields.Goals as goal

pub returns : goal.returns
returns c =
    let row = fields_of c.args.row.now in
    let said = said_some _ _ _ _ _ c.in_ok-said_format.ensures in
    let unit = c.in_ok-text_field-5.ensures.1 in
    let digits = c.in_ok-text_field-6.ensures.1 in
    let zeros = c.in_ok-text_field-7.ensures.1 in (
      well_formed row c.args.width (sym c.len.ensures ∙ c.if-len-width.false) c.requires c.in_ok-role.ensures.0 c.in_ok-text_field.ensures.0 c.in_ok-text_field-2.ensures.0 c.in_ok-text_field-3.ensures.0 c.in_ok-text_field-4.ensures.0 c.in_ok-text_field-5.ensures.0 c.in_ok-text_field-6.ensures.0 c.in_ok-text_field-7.ensures.0
          ((λ i. may_say (sym c.in_ok-role.ensures.1 i) (sym unit i) (sym digits i) (sym zeros i)) ∙ said.0),
      c.in_ok-role.ensures.1,
      c.in_ok-text_field.ensures.1,
      c.in_ok-text_field-2.ensures.1,
      c.in_ok-text_field-3.ensures.1,
      c.in_ok-text_field-4.ensures.1,
      said.1 ∙ (λ i. format_of_fields (unit i) (digits i) (zeros i)),
    )

pub returns-in_err-said_format : goal.returns-in_err-said_format
returns-in_err-said_format c =
    let none = said_none _ _ _ _ c.in_err-said_format.ensures in
    rw c.from_residual-in_err-said_format.ensures (may_not_say (fields_of c.args.row.now) c.args.width ((λ i. may_say (sym c.in_ok-role.ensures.1 i) (sym c.in_ok-text_field-5.ensures.1 i) (sym c.in_ok-text_field-6.ensures.1 i) (sym c.in_ok-text_field-7.ensures.1 i)) ∙ none))

pub returns-in_err-role : goal.returns-in_err-role
returns-in_err-role c = rw c.from_residual.ensures (ill_formed (fields_of c.args.row.now) c.args.width 0 c.in_err-role.ensures)

pub returns-in_err-text_field : goal.returns-in_err-text_field
returns-in_err-text_field c = rw c.from_residual-in_err-text_field.ensures (ill_formed (fields_of c.args.row.now) c.args.width 1 c.in_err-text_field.ensures)

pub returns-in_err-text_field-2 : goal.returns-in_err-text_field-2
returns-in_err-text_field-2 c = rw c.from_residual-in_err-text_field-2.ensures (ill_formed (fields_of c.args.row.now) c.args.width 2 c.in_err-text_field-2.ensures)

pub returns-in_err-text_field-3 : goal.returns-in_err-text_field-3
returns-in_err-text_field-3 c = rw c.from_residual-in_err-text_field-3.ensures (ill_formed (fields_of c.args.row.now) c.args.width 3 c.in_err-text_field-3.ensures)

pub returns-in_err-text_field-4 : goal.returns-in_err-text_field-4
returns-in_err-text_field-4 c = rw c.from_residual-in_err-text_field-4.ensures (ill_formed (fields_of c.args.row.now) c.args.width 4 c.in_err-text_field-4.ensures)

pub returns-in_err-text_field-5 : goal.returns-in_err-text_field-5
returns-in_err-text_field-5 c = rw c.from_residual-in_err-text_field-5.ensures (ill_formed (fields_of c.args.row.now) c.args.width 5 c.in_err-text_field-5.ensures)

pub returns-in_err-text_field-6 : goal.returns-in_err-text_field-6
returns-in_err-text_field-6 c = rw c.from_residual-in_err-text_field-6.ensures (ill_formed (fields_of c.args.row.now) c.args.width 6 c.in_err-text_field-6.ensures)

pub returns-in_err-text_field-7 : goal.returns-in_err-text_field-7
returns-in_err-text_field-7 c = rw c.from_residual-in_err-text_field-7.ensures (ill_formed (fields_of c.args.row.now) c.args.width 7 c.in_err-text_field-7.ensures)
