use Rattle.manifest.proofs.Common.{◌∙◌, ap, not}
use Rattle.manifest.proofs.SharedNames.{met_more, shared_kept, shared_more, was_met}
use Rattle.manifest.proofs.naming.shared_names.Goals as goal

pub loop-entry-preserved-then-is_new : goal.loop-entry-preserved-then-is_new
loop-entry-preserved-then-is_new c =
    let entries = c.args.entries.now in
    let i = c.loop-entry.entry-index in
    let entry = c.entry-item.result in
    let lt = c.loop-entry-test.true in
    let here = c.entry-item.is in
    let inv = c.loop-entry.invariant in
    let was = was_met entries i entry lt here c.short-name.result.now _ _ c.short-name.ensures c.in_ok-is_new.ensures.added (inv.met c.short-name.result.now) in
    record {
      met = λ name. met_more entries i entry lt here name c.short-name.result.now _ _ c.short-name.ensures (c.in_ok-is_new.ensures.updates.0 (record { ref_ptr = (0, 0); now = name })) (inv.met name);
      twice = λ name. shared_kept entries i entry lt here name _ (was ∙ ap not c.if-is_new.true) (inv.twice name);
    }

pub loop-entry-preserved : goal.loop-entry-preserved
loop-entry-preserved c =
    let entries = c.args.entries.now in
    let i = c.loop-entry.entry-index in
    let entry = c.entry-item.result in
    let lt = c.loop-entry-test.true in
    let here = c.entry-item.is in
    let inv = c.loop-entry.invariant in
    let was = was_met entries i entry lt here c.short-name.result.now _ _ c.short-name.ensures c.in_ok-is_new.ensures.added (inv.met c.short-name.result.now) in
    record {
      met = λ name. met_more entries i entry lt here name c.short-name.result.now _ _ c.short-name.ensures (c.in_ok-is_new.ensures.updates.0 (record { ref_ptr = (0, 0); now = name })) (inv.met name);
      twice = λ name. shared_more entries i entry lt here name c.short-name.result.now _ _ c.short-name.ensures (was ∙ ap not c.if-is_new.false) (c.in_ok-insert.ensures.updates.0 (record { ref_ptr = (0, 0); now = name })) (inv.twice name);
    }
