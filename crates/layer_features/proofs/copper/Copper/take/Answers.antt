-- One command more was met: its flashes are added, and then its contours.
use Rattle.layer_features.proofs.Common.{◌∙◌, ◌++◌, append_assoc, map, subst, CopperState, KeepsFeatures, contours_in, contour_feature, flash_feature, copper_state, selection}
use Rattle.layer_features.proofs.CopperLemmas.{as_selected, met_more}
use Rattle.layer_features.proofs.copper.Copper.take.Goals as goal

pub returns : goal.returns
returns c keep taken commands met is own =
    let command = c.args.command.now in
    let before = selection c.args.setting.now in
    let s = copper_state before c.draw.new.self in
    let flashes = map (flash_feature s) c.args.flashes.now in
    met_more before keep taken c.args.self.now c.draw.new.self c.add_contours.new.self c.clear_where.new.self c.advance.new.self c.args.flashes.now commands command met is.current (as_selected c.args.setting.now commands command c.args.flashes.now is own) (record {
      parts = c.in_ok-draw.ensures.parts;
      asked = c.draw.ensures.asked;
      state = c.draw.ensures.state;
      kept = c.draw.ensures.kept;
    }) (record {
      kept = λ out features h.
          subst (KeepsFeatures c.add_contours.new.self.kept out) (append_assoc features flashes (map contour_feature (contours_in s command)))
          (subst (λ (t : CopperState). KeepsFeatures c.add_contours.new.self.kept out ((features ++ flashes) ++ map contour_feature (contours_in t command))) c.add_flashes.ensures.state
          (c.in_ok-add_contours.ensures.kept out (features ++ flashes) (c.in_ok-add_flashes.ensures.kept out features h)));
      rows = c.add_contours.ensures.rows ∙ c.add_flashes.ensures.rows;
      state = c.add_contours.ensures.state ∙ c.add_flashes.ensures.state;
      drawing = c.add_contours.ensures.drawing ∙ c.add_flashes.ensures.drawing;
    }) (record {
      kept = c.in_ok-clear_where.ensures.kept;
      rows = c.clear_where.ensures.rows;
      state = c.clear_where.ensures.state;
      drawing = c.clear_where.ensures.drawing;
    }) (record {
      state = c.in_ok-advance.ensures.state;
      kept = c.advance.ensures.kept;
      drawing = c.advance.ensures.drawing;
    })
