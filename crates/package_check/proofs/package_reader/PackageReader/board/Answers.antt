use Rattle.package_check.proofs.Common.{IsBoard, IsDrawnBoard, IsFlashedBoard}
use Rattle.package_check.proofs.TakeSteps.{board_read, drawn_board_read, flashed_board_read, stop_returned}
use Rattle.package_check.proofs.package_reader.PackageReader.board.Goals as goal

pub returns-in-Some-clause-exact : goal.returns-in-Some-clause-exact
returns-in-Some-clause-exact c keep sources all = stop_returned c.args.self keep sources all IsBoard c.in-Some.fault c.in-Some.is

pub returns-in-Some-clause-flashes : goal.returns-in-Some-clause-flashes
returns-in-Some-clause-flashes c keep sources all keeps = stop_returned c.args.self keep sources all IsFlashedBoard c.in-Some.fault c.in-Some.is

pub returns-in-Some-clause-drawn : goal.returns-in-Some-clause-drawn
returns-in-Some-clause-drawn c keep sources all keeps = stop_returned c.args.self keep sources all IsDrawnBoard c.in-Some.fault c.in-Some.is

pub returns-in-Ok-clause-exact : goal.returns-in-Ok-clause-exact
returns-in-Ok-clause-exact c keep sources all = board_read c.args.self keep sources all c.in-None.is c.in-Ok.board c.in-Ok.ensures

pub returns-in-Ok-clause-flashes : goal.returns-in-Ok-clause-flashes
returns-in-Ok-clause-flashes c keep sources all keeps = flashed_board_read c.args.self keep sources all c.in-None.is c.in-Ok.board c.in-Ok.ensures keeps

pub returns-in-Ok-clause-drawn : goal.returns-in-Ok-clause-drawn
returns-in-Ok-clause-drawn c keep sources all keeps = drawn_board_read c.args.self keep sources all c.in-None.is c.in-Ok.board c.in-Ok.ensures c.readings_in_profiles.ensures.unique keeps
