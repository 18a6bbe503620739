use Rattle.waivers.proofs.Common.{◌≡◌, sym, rules, true, arith, err_from_is_err_and, fields_of}
use Rattle.std.specs.Result.{is_ok}
use Rattle.manifest.proofs.EntryLoop.{map_split, length_map_take, one_more}
use Rattle.waivers.proofs.RecordLemmas.{accepted_more, refused}
use Rattle.waivers.proofs.reading.waivers_after_head.Goals as goal

pub returns-in_err-waiver : goal.returns-in_err-waiver
returns-in_err-waiver c =
    let residual = c.from_residual in
    let p = err_from_is_err_and residual.result residual.ensures.1 in
    let all = map_split fields_of c.args.rows.now c.loop-i.i c.index-rows-i.result c.loop-i-test.true c.index-rows-i.is in
    let place = length_map_take fields_of c.args.rows.now c.loop-i.i (omega arith) in
    rw (p.1, p.2) (refused _ _ _ _ _ _ all (sym place) c.loop-i.invariant.lawful c.in_err-waiver.ensures)

pub loop-i-preserved : goal.loop-i-preserved
loop-i-preserved c =
    let good : is_ok c.push.result ≡ true = search rules in
    let items = rw good at c.push.ensures.items in
    let more = one_more fields_of c.args.rows.now c.loop-i.i c.index-rows-i.result c.loop-i-test.true c.index-rows-i.is in
    let grown = accepted_more _ _ _ c.loop-i.waivers.items _ c.in_ok-waiver.waiver _ more c.loop-i.invariant.named items c.loop-i.invariant.lawful c.in_ok-waiver.ensures in
    record { named = grown.0; lawful = grown.1 }
