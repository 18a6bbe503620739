use Rattle.manifest.proofs.Common.{◌≡◌, ◌∙◌, ap, sym, rules, true, map, not, arith, take, is_ok, fields_of, violations, broken_after, entry_of, field, is_repeated, joint_fault}
use Rattle.std.proofs.lemmas.Result.{err_from_is_err_and}
use Rattle.manifest.proofs.NameSet.{set_has_more, set_has}
use Rattle.manifest.proofs.EntryLoop.{map_split, accepted_more, map_take_all, at_end, length_map_take, one_more, refused}
use Rattle.manifest.proofs.validation.entries_of.Goals as goal

pub returns-in_err-entry : goal.returns-in_err-entry
returns-in_err-entry c =
    let residual = c.from_residual-in_err-entry in
    let p = err_from_is_err_and residual.result residual.ensures.1 in
    let all = map_split fields_of c.args.files.now c.loop-i.i c.index-files-i.result c.loop-i-test.true c.index-files-i.is in
    let place = length_map_take fields_of c.args.files.now c.loop-i.i (omega arith) in
    let repeated : not c.in_ok-is_new.is_new ≡ is_repeated (field 1 (fields_of c.index-files-i.result)) (map entry_of (map fields_of (take c.loop-i.i c.args.files.now))) =
    set_has _ _ _ _ _ c.name_of.ensures c.in_ok-is_new.ensures.added (c.loop-i.invariant.had c.name_of.result.now) in
    rw (p.1, p.2) (refused c.args.profile c.args.width _ _ _ _ (not c.in_ok-is_new.is_new) _ _ all (sym place) repeated c.loop-i.invariant.lawful c.in_err-entry.ensures)

pub loop-i-preserved : goal.loop-i-preserved
loop-i-preserved c =
    let good : is_ok c.push.result ≡ true = search rules in
    let items = rw good at c.push.ensures.items in
    let more = one_more fields_of c.args.files.now c.loop-i.i c.index-files-i.result c.loop-i-test.true c.index-files-i.is in
    let repeated : not c.in_ok-is_new.is_new ≡ is_repeated (field 1 (fields_of c.index-files-i.result)) (map entry_of (map fields_of (take c.loop-i.i c.args.files.now))) =
    set_has _ _ _ _ _ c.name_of.ensures c.in_ok-is_new.ensures.added (c.loop-i.invariant.had c.name_of.result.now) in
    let grown = accepted_more c.args.profile c.args.width _ _ _ (not c.in_ok-is_new.is_new) c.loop-i.entries.items _ c.in_ok-entry.entry _ more repeated c.loop-i.invariant.named items c.loop-i.invariant.lawful c.in_ok-entry.ensures in
    record {
      had = λ name. set_has_more _ _ _ c.name_of.result.now name _ _ more c.name_of.ensures (c.in_ok-is_new.ensures.updates.0 (record { ref_ptr = (0, 0); now = name })) (c.loop-i.invariant.had name);
      named = grown.0;
      lawful = grown.1;
    }

pub returns-in-Some : goal.returns-in-Some
returns-in-Some c =
    let all = map_take_all fields_of c.args.files.now c.loop-i.i (omega arith) in
    let are = c.loop-i.invariant.named ∙ ap (map entry_of) all in
    let none = ap (violations (broken_after c.args.profile c.args.width)) (sym all) ∙ c.loop-i.invariant.lawful in
    rw c.refused.ensures (at_end c.args.profile c.args.width _ _ _ are (c.in-Some.ensures ∙ ap joint_fault c.as_slice.ensures.value) none)
