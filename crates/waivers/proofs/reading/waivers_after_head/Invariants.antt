use Rattle.waivers.proofs.Common.{◌≡◌, map, take, [], waiver_of, fields_of, violations}
use Rattle.waivers.proofs.RecordLemmas.{rule}
use Rattle.waivers.proofs.reading.waivers_after_head.Given as goal

abbrev pub invariant-loop-i : goal.invariant-loop-i
invariant-loop-i l = record {
  named : l.waivers.items ≡ map waiver_of (map fields_of (take l.i l.rows));
  lawful : violations rule (map fields_of (take l.i l.rows)) ≡ [];
}
