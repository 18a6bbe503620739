use Rattle.waivers.proofs.Common.{◌∙◌, ℕ, ap, arith, map, gap_fields, ring_fields, record_key, place_at}
use Rattle.std.specs.Global.{Vec}
use Rattle.waivers.proofs.Matches.{all_found}
use Rattle.waivers.proofs.waiving.waive.Goals as goal

pub returns-clause-rings : goal.returns-clause-rings
returns-clause-rings c =
    let bytes = λ (key : Vec ℕ). key.items in
    let names = map (λ name. name.now) c.args.names.now in
    let same = ap (map bytes) c.as_slice-3.ensures.value ∙ c.in_ok-keys.ensures in
    let wanted = ap (map bytes) c.as_slice-4.ensures.value ∙ (c.in_ok-rings.ensures ∙ (λ i. map (λ lack. record_key (ring_fields names (c.as_slice-layers.ensures.value i) lack)) (c.as_slice.ensures.value i))) in
    all_found bytes c.as_slice-3.result.now c.args.waivers.now same (ring_fields names c.args.report.now.layers.items) c.args.report.now.rings.items c.as_slice-4.result.now _ (place_at c.in_ok-table.table) (λ lack. omega arith)
    c.in_ok-table.ensures wanted c.in_ok-places_of.ensures

pub returns-clause-gaps : goal.returns-clause-gaps
returns-clause-gaps c =
    let bytes = λ (key : Vec ℕ). key.items in
    let names = map (λ name. name.now) c.args.names.now in
    let same = ap (map bytes) c.as_slice-3.ensures.value ∙ c.in_ok-keys.ensures in
    let wanted = ap (map bytes) c.as_slice-5.ensures.value ∙ (c.in_ok-gaps.ensures ∙ (λ i. map (λ lack. record_key (gap_fields names lack)) (c.as_slice-2.ensures.value i))) in
    all_found bytes c.as_slice-3.result.now c.args.waivers.now same (gap_fields names) c.args.report.now.gaps.items c.as_slice-5.result.now _ (place_at c.in_ok-table.table) (λ lack. omega arith)
    c.in_ok-table.ensures wanted c.in_ok-places_of-2.ensures
