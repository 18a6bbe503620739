use Rattle.picture.proofs.Common.{◌≡◌, rules, w64, to_z, of_z, to_z-of_z, has_written_of_eq, circle}
use Rattle.picture.proofs.elements.write_circle.Goals as goal

pub returns : goal.returns
unfolding circle
returns g c = λ plain ok.
    let x : to_z w64 (of_z w64 c.args.x) ≡ c.args.x = search (rules, to_z-of_z) in
    let y : to_z w64 (of_z w64 c.args.y) ≡ c.args.y = search (rules, to_z-of_z) in
    let radius : to_z w64 (of_z w64 c.args.radius) ≡ c.args.radius = search (rules, to_z-of_z) in
    let width : to_z w64 (of_z w64 c.args.width) ≡ c.args.width = search (rules, to_z-of_z) in
    has_written_of_eq _ _ _ _ _ (λ i. circle c.args.class.now (x i) (y i) (radius i) (width i)) (c.write.ensures.writes plain ok)
