use Rattle.ringcheck_files.proofs.Common.{◌≡◌, ◌∙◌, sym, ap, is_ok, true, rules, map, arith, map-append, loaded_file}
use Rattle.ringcheck_files.proofs.ManifestStatus.{all_loaded, next_loaded}
use Rattle.ringcheck_files.proofs.proposed_manifest.files_of.Goals as goal

pub loop-index-preserved : goal.loop-index-preserved
loop-index-preserved c =
    let good : is_ok c.push.result ≡ true = search rules in
    let items = rw good at c.push.ensures.items in
    let next = next_loaded c.args.names.now c.args.loaded.now c.loop-index.index c.index-loaded-index.result c.loop-index-test.true (omega arith) c.index-loaded-index.is in
    ap (map loaded_file) items ∙ map-append loaded_file c.loop-index.files.items _ ∙ rw (c.file_of-file.ensures, c.loop-index.invariant) (sym next)

pub returns : goal.returns
returns c = c.loop-index.invariant ∙ all_loaded c.args.names.now c.args.loaded.now c.loop-index.index c.loop-index-test.false
