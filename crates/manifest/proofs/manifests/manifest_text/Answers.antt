use Rattle.manifest.proofs.Common.{◌≡◌, ◌∙◌, ◌++◌, IfOk, ap, map, Bor, subst, length, if◌then◌else◌, flat_map, base_name, Proposal, entry_row, heading, label, manifest_text, named_row}
use Rattle.std.specs.Prelude.{◌==◌, ◌||◌}
use Rattle.manifest.proofs.RowLemmas.{row_more, rows_all, rows_of}
use Rattle.manifest.proofs.manifests.manifest_text.Goals as goal

pub loop-entry-preserved : goal.loop-entry-preserved
loop-entry-preserved c =
    let entries = map (λ (e : Bor Proposal). e.now) c.args.entries.now in
    let p = c.entry-item.result.now in
    let short = base_name p.file in
    let name : c.label.result.now ≡ label entries p =
    c.label.ensures ∙ (λ k. if (length short == 0) || c.in_ok-shared.ensures short k then p.file else short) in
    row_more (λ (entry : Bor Proposal). entry_row c.has_spans-spans.result entries entry.now) c.args.entries.now c.loop-entry.entry-index c.entry-item.result _ _ _ c.loop-entry-test.true c.entry-item.is c.loop-entry.invariant
    (c.in_ok-table-2.ensures ∙ (λ k. c.loop-entry.table ++ named_row c.has_spans-spans.result (name k) p))

pub returns : goal.returns
returns c =
    let spans = c.has_spans-spans.result in
    let entries = map (λ (e : Bor Proposal). e.now) c.args.entries.now in
    let all = rows_all (λ (entry : Bor Proposal). entry_row spans entries entry.now) c.args.entries.now c.loop-entry.entry-index _ _ c.loop-entry-test.false c.loop-entry.invariant in
    let body = rows_of (entry_row spans entries) (λ (e : Bor Proposal). e.now) c.args.entries.now in
    let text : c.loop-entry.table ≡ manifest_text entries =
    all ∙ (λ k. c.in_ok-table.ensures k ++ body k) ∙ ap (λ b. heading b ++ flat_map (entry_row b entries) entries) c.has_spans-spans.ensures in
    subst (λ table. IfOk c.into_bytes.result (λ text. text.items ≡ table)) text c.into_bytes.ensures
