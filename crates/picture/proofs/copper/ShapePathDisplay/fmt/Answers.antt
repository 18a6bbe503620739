use Rattle.picture.proofs.Common.{◌≡◌, rules, w64, to_z, of_z, flat_map, to_z-of_z, has_written_of_eq, drawn_polygon, flash_corner}
use Rattle.picture.proofs.copper.ShapePathDisplay.fmt.Goals as goal

pub returns-clause-writes : goal.returns-clause-writes
unfolding drawn_polygon
returns-clause-writes g c = λ plain ok.
    let width : to_z w64 (of_z w64 c.args.self.now.width) ≡ c.args.self.now.width = search (rules, to_z-of_z) in
    let x : to_z w64 (of_z w64 c.args.self.now.x) ≡ c.args.self.now.x = search (rules, to_z-of_z) in
    let y : to_z w64 (of_z w64 c.args.self.now.y) ≡ c.args.self.now.y = search (rules, to_z-of_z) in
    has_written_of_eq _ _ _ _ _ (λ i. drawn_polygon c.args.self.now.ink.now (width i) (x i) (y i) (flat_map (flash_corner c.args.self.now.at.0) c.args.self.now.others.now)) (c.write.ensures.writes plain ok)
