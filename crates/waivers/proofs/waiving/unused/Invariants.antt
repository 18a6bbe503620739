use Rattle.waivers.proofs.Common.{◌≡◌, take, unused_numbers}
use Rattle.waivers.proofs.waiving.unused.Given as goal

abbrev pub invariant-loop-place : goal.invariant-loop-place
invariant-loop-place l = l.idle.items ≡ unused_numbers l.used (take l.place l.firsts)
