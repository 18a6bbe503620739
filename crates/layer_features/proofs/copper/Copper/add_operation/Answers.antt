-- The flashes of the operation are added, and the region goes on.
use Rattle.layer_features.proofs.Common.{refl, selection}
use Rattle.gerber_commands.specs.declared.command.Command.TheVariants as command
use Rattle.layer_features.proofs.CopperLemmas.{as_selected, operation_more}
use Rattle.layer_features.proofs.copper.Copper.add_operation.Goals as goal

pub returns : goal.returns
returns c keep taken commands met is own =
    let o = c.args.operation.now in
    operation_more (selection c.args.setting.now) keep taken c.args.self.now c.add_flashes.new.self _ c.args.flashes.now commands o.action o.x o.y o.i o.j c.requires.asked c.requires.clear c.requires.in_block met is.current
    (as_selected c.args.setting.now commands (command.Operate o.action o.x o.y o.i o.j) c.args.flashes.now is own) (record {
      kept = c.in_ok-add_flashes.ensures.kept;
      rows = c.add_flashes.ensures.rows;
      state = c.add_flashes.ensures.state;
      drawing = c.add_flashes.ensures.drawing;
    }) (record {
      plotter = refl;
      parts = c.in_ok-add_operation.ensures;
      regions = refl;
      clearing = refl;
      kept = refl;
      drawing = refl;
    })
