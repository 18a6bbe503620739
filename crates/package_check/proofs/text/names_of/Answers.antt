use Rattle.package_check.proofs.Common.{Bor, ℕ, List, [], ◌∷◌, ◌++◌, map, ap, sym, ◌∙◌}
use Rattle.std.proofs.lemmas.List.{map_more, map_push}
use Rattle.package_check.specs.declared.File.{File}
use Rattle.package_check.proofs.text.names_of.Goals as goal

pub loop-file-preserved : goal.loop-file-preserved
loop-file-preserved c =
    let shown = λ (name : Bor (List ℕ)). name.now in
    let more = map_more (λ (file : File). file.name.now) c.args.files.now c.loop-file.file-index c.file-item.result c.loop-file-test.true in
    ap (map shown) c.in_ok-push.ensures.items ∙ (map_push shown c.loop-file.names.items c.file-item.result.name ∙ ((λ j. c.loop-file.invariant j ++ (c.file-item.is j).name.now ∷ []) ∙ sym more))
