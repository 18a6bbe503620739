use Rattle.std.proofs.Common.{◌≡◌, ◌-◌, ◌≤◌, ◌<◌, true, false}
use Rattle.pad_shapes.specs.Rounded.{rounded_covers}
use Rattle.pad_shapes.proofs.rounded.Rounded.reach_round.Given as goal

abbrev pub invariant-loop-missed : goal.invariant-loop-missed
invariant-loop-missed l = record {
  apart : l.covered < l.missed;
  high : l.missed ≤ 20000000000000;
  covers : rounded_covers l.self l.centre l.covered ≡ true;
  misses : rounded_covers l.self l.centre l.missed ≡ false;
}

abbrev pub decreases-loop-missed : goal.decreases-loop-missed
decreases-loop-missed l = l.missed - l.covered
