use Rattle.picture.proofs.Common.{◌≡◌, rules, w64, ◌++◌, codes, decimal, to_z, of_z, to_z-of_z, has_written_of_eq}
use Rattle.picture.specs.Panels.{panel_start, translation}
use Rattle.picture.proofs.panel.write_panel_start.Goals as goal

pub returns : goal.returns
unfolding panel_start translation
returns g c = λ plain ok.
    let x : to_z w64 (of_z w64 c.args.place.now.x) ≡ c.args.place.now.x = search (rules, to_z-of_z) in
    let y : to_z w64 (of_z w64 c.args.place.now.y) ≡ c.args.place.now.y = search (rules, to_z-of_z) in
    let start = codes "<g class=\"layer\" data-file=\"" ++ decimal c.args.place.now.file in
    has_written_of_eq _ _ _ _ _ (λ i. start ++ translation (x i) (y i)) (c.write.ensures.writes plain ok)
