use Rattle.waivers.proofs.Common.{◌≡◌, ◌∙◌, ℕ, ap, arith, map, IfOk-weaker, place_at, compared_fields, waived_by}
use Rattle.std.specs.Global.{Vec}
use Rattle.waivers.proofs.Matches.{all_found}
use Rattle.waivers.proofs.waiving.first_equal_places.Goals as goal

pub returns : goal.returns
returns c =
    let bytes = λ (key : Vec ℕ). key.items in
    let all = c.args.waivers.now in
    let table = c.in_ok-table.table in
    let keys = c.as_slice-2.result.now in
    let same = ap (map bytes) c.as_slice.ensures.value ∙ c.in_ok-keys.ensures in
    let wanted = ap (map bytes) c.as_slice-2.ensures.value ∙ c.in_ok-keys.ensures in
    IfOk-weaker c.places_of.result (λ places. places.items ≡ map (λ key. place_at table key.items) keys) (λ firsts. firsts.items ≡ map (λ waiver. waived_by all (compared_fields waiver)) all)
    (λ places is. all_found bytes c.as_slice.result.now all same compared_fields all keys places.items (place_at table) (λ waiver. omega arith) c.in_ok-table.ensures wanted is)
    c.places_of.ensures
