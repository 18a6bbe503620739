use Rattle.waivers.proofs.Common.{◌≡◌, ◌∙◌, Some, None, sym, if◌then◌else◌, bytes_eq, option_or}
use Rattle.waivers.proofs.FirstPlaces.{first_more}
use Rattle.waivers.proofs.keys.first_places.Goals as goal

pub loop-place-preserved : goal.loop-place-preserved
loop-place-preserved c = λ key.
    let same : c.as_slice.result.now ≡ c.index-keys-place.result.items = c.as_slice.ensures.value in
    let more = first_more (λ other. bytes_eq other.items key) c.args.keys.now c.loop-place.place c.index-keys-place.result c.loop-place-test.true c.index-keys-place.is in
    c.in_ok-add_first.ensures key ∙ ((λ i. option_or (c.loop-place.invariant key i) (if bytes_eq (same i) key then Some c.loop-place.place else None)) ∙ sym more)
