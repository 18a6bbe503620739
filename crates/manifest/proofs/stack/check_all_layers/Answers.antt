use Rattle.manifest.proofs.Common.{◌≡◌, ◌∙◌, ap, length, map, sym, count_by, is_copper, is_stack, layers_checked_in}
use Rattle.manifest.proofs.LayerCheckLoop.{all_done, one_more, written}
use Rattle.manifest.proofs.stack.check_all_layers.Goals as goal

pub loop-file-preserved : goal.loop-file-preserved
loop-file-preserved c =
    one_more (layers_checked_in c.in_ok-stack.stack c.copper_count-count.result) c.deref_mut-file-items.result.now c.loop-file.file-items c.loop-file.file-index c.check_layers.new.file _ c.loop-file-test.true c.loop-file.invariant c.check_layers.ensures

pub returns : goal.returns
returns c =
    let items = c.args.files.now.items in
    let value = c.deref_mut-file-items.ensures.value in
    let stack : c.in_ok-stack.stack ≡ is_stack items = c.in_ok-stack.ensures ∙ ap is_stack c.deref-2.ensures.value in
    let count : c.copper_count-count.result ≡ count_by is_copper items = c.copper_count-count.ensures ∙ ap (count_by is_copper) c.deref.ensures.value in
    let f = layers_checked_in c.in_ok-stack.stack c.copper_count-count.result in
    written f items c.loop-file.file-items c.args.files.now.len (c.loop-file.auto.file-items ∙ ap length value) (sym (ap length value) ∙ c.deref_mut-file-items.ensures.len)
    ∙ all_done f c.deref_mut-file-items.result.now c.loop-file.file-items c.loop-file.file-index c.loop-file-test.false c.loop-file.invariant ∙ (λ k. map (layers_checked_in (stack k) (count k)) (value k))
