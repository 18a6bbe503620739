use Rattle.drill_text.proofs.Common.{◌≡◌, ◌∙◌, w64, to_z, of_z, sym, rules, Ok, to_z-of_z, within_limit, unit_or, coordinate_in}
use Rattle.drill_text.proofs.DiameterLemmas.{point_within}
use Rattle.drill_text.proofs.state.DrillState.point.Goals as goal

pub returns : goal.returns
returns c =
    let unit = unit_or c.args.self.now.settings.unit in
    let x = c.in_ok-length.field-0 in
    let y = c.in_ok-length-2.field-0 in
    let x_back : to_z w64 (of_z w64 x) ≡ x = to_z-of_z w64 x (search rules) in
    let y_back : to_z w64 (of_z w64 y) ≡ y = to_z-of_z w64 y (search rules) in
    let x_is : Ok x ≡ within_limit (coordinate_in unit c.args.x) = sym c.in_ok-length.was ∙ c.length.ensures in
    let y_is : Ok y ≡ within_limit (coordinate_in unit c.args.y) = sym c.in_ok-length-2.was ∙ c.length-2.ensures in
    c.ok_or.ensures.value ∙ point_within (coordinate_in unit c.args.x) (coordinate_in unit c.args.y) x y c.new.result x_is y_is (rw (x_back, y_back) at c.new.ensures.valid) (rw (x_back, y_back) at c.new.ensures.value)
