use Rattle.picture.proofs.Common.{◌≡◌, rules, w64, to_z, of_z, to_z-of_z, has_written_of_eq, path_open}
use Rattle.picture.proofs.elements.write_path_open.Goals as goal

pub returns : goal.returns
unfolding path_open
returns g c = λ plain ok.
    let width : to_z w64 (of_z w64 c.args.width) ≡ c.args.width = search (rules, to_z-of_z) in
    has_written_of_eq _ _ _ _ _ (λ i. path_open c.args.element.now (width i)) (c.write.ensures.writes plain ok)
