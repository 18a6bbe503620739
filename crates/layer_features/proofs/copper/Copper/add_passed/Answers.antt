-- The flashes are added as before the operation, since they depend on no current point.
use Rattle.layer_features.proofs.Common.{selection}
use Rattle.layer_features.proofs.CopperLemmas.{operation_passed}
use Rattle.layer_features.proofs.copper.Copper.add_passed.Goals as goal

pub returns : goal.returns
returns c keep taken commands o met passed is own =
    operation_passed (selection c.args.setting.now) keep taken c.args.self.now c.add_flashes.new.self c.args.own.now commands o met passed is own
    (record { kept = c.in_ok-add_flashes.ensures.kept; rows = c.add_flashes.ensures.rows; state = c.add_flashes.ensures.state; drawing = c.add_flashes.ensures.drawing })
