use Rattle.package_check.proofs.Common.{◌≡◌, List, Option, ap, length, map, refl, rules, sym, ◌∙◌, flat_map, Kept, count_in, holes_in, YieldsList-from_vec, YieldsList-end, map-id, into_iter_len}
use Rattle.package_check.proofs.DrillSlots.{goes_on, slots_counted}
use Rattle.package_check.proofs.package_reader.PackageReader.checking.Goals as goal

pub returns-clause-stands : goal.returns-clause-stands
returns-clause-stands c = λ keep sources h.
    let so = c.loop-slot.invariant in
    let kept = c.args.self.slots.items in
    let len : into_iter_len c.into_iter-slot-iterator.result ≡ length kept = search rules in
    let end = YieldsList-end (YieldsList-from_vec kept c.into_iter-slot-iterator.ensures.into_iter_gives.0 len) c.loop-slot.yielded c.loop-slot.slot-iterator c.loop-slot.yielded_by c.next.result c.next.new.self c.in-None.is c.next.ensures.steps in
    let all : c.loop-slot.yielded ≡ kept = sym (map-id c.loop-slot.yielded) ∙ end.0 in
    goes_on c.args.self _ c.args.rules keep sources (c.in_ok-holes.ensures.holes ∙ (so.holes ∙ ap (λ (ks : List (Option Kept)). flat_map holes_in ks) all)) c.in_ok-holes.ensures.rules
    (so.slots ∙ ap (λ (ks : List (Option Kept)). map count_in ks) all) refl h

pub invariant_of-result : goal.invariant_of-result
invariant_of-result c =
    let so = c.loop-slot.invariant in
    slots_counted c.loop-slot.slots.items c.loop-slot.yielded so.slots ∙ sym (ap length (c.in_ok-holes.ensures.holes ∙ so.holes))
