use Rattle.manifest.proofs.Common.{◌≢◌, ◌≡◌, ◌++◌, ◌∙◌, map, default_writer, fields_written, has_written, row_text, writer_pending, writer_setup, writer_under}
use Rattle.csv.specs.declared.writer.QuoteStyle.TheVariants as style
use Rattle.manifest.proofs.table.Table.with_row.Goals as goal

pub returns-in-Ok : goal.returns-in-Ok
returns-in-Ok c =
    let inv = c.self.invariant in
    let boxed = c.deref_mut.ensures.value in
    let fields = map (λ field. field.now) c.args.fields.now in
    let setup : writer_setup c.deref_mut.result.now ≡ default_writer = (λ k. writer_setup (boxed k)) ∙ inv.0 in
    let plain : (writer_setup c.deref_mut.result.now).style ≢ style.NonNumeric = rw setup (λ e. cc e) in
    let written = c.in-Ok.ensures.bytes ((λ k. fields_written (boxed k)) ∙ inv.1) ((λ k. has_written (boxed k)) ∙ inv.2) plain in
    let text = (λ k. (writer_under (boxed k)).items ++ writer_pending (boxed k)) ∙ c.self.view_is in
    written ∙ (λ k. text k ++ row_text (setup k) fields)
