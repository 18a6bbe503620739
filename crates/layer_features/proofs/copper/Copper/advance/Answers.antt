-- Each field is that of the state after the command, and the parts make the same contour.
use Rattle.layer_features.proofs.Common.{draw_state, selection, parts_after}
use Rattle.layer_features.proofs.copper.Copper.advance.Goals as goal

pub returns-clause-state : goal.returns-clause-state
returns-clause-state c next = record {
  rest = λ i. record {
    draw = c.take.ensures (selection c.args.setting.now) next i;
    parts = parts_after c.args.command.now (draw_state (selection c.args.setting.now) c.args.self.now.plotter) c.args.self.now.parts.items;
    regions = c.regions_after-self.ensures i;
    clearing = c.after_command-self.ensures i;
  };
  parts = c.in_ok-add_parts.ensures;
}
