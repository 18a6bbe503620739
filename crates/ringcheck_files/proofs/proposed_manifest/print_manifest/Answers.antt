use Rattle.ringcheck_files.proofs.Common.{◌∙◌, inl, sym, IfOk-weaker, IsHeldStatus, IsManifestStatus, loaded_files}
use Rattle.ringcheck_files.proofs.Appending.{appends_both}
use Rattle.ringcheck_files.proofs.ManifestStatus.{all_of_map, held_status, texts}
use Rattle.ringcheck_files.proofs.proposed_manifest.print_manifest.Goals as goal

pub returns-then-not-are_entry_names-clause-says : goal.returns-then-not-are_entry_names-clause-says
returns-then-not-are_entry_names-clause-says g c = inl (all_of_map c.args.names.now ∙ sym c.if-not-are_entry_names.ensures, appends_both _ _ _ _ _ c.in_ok-refuse_word.ensures c.in_ok-write.ensures.bytes)

pub returns-clause-says : goal.returns-clause-says
returns-clause-says g c =
    let has = g.L.Loader.has c.args.loader.now in
    let failed_before = g.L.Loader.failed c.args.loader.now in
    let failed_after = g.L.Loader.failed c.load_files.new.loader in
    let names = c.args.names.now in
    let all = c.in_ok-loaded.loaded.items in
    let before = g.W.Write.contents c.args.out.now in
    let after = g.W.Write.contents c.print_held.new.out in
    let loaded = c.in_ok-loaded.ensures in
    IfOk-weaker c.print_held.result (IsHeldStatus c.args.profile c.args.why (loaded_files names all) before after) (IsManifestStatus c.args.profile c.args.why has failed_before failed_after (texts names) before after)
    (held_status c.args.profile c.args.why has failed_before failed_after names all before after loaded.1 (all_of_map names ∙ sym c.if-not-are_entry_names.ensures) loaded.0 loaded.2)
    (rw c.as_slice.ensures.value at c.print_held.ensures.says)

pub returns-clause-cause : goal.returns-clause-cause
returns-clause-cause g c = c.print_held.ensures.cause
