use Rattle.report.proofs.Common.{◌≡◌, ◌<◌, ◌+◌, length, get_or, arith, ap, ◌∙◌, nat_tests, get_or_default, All-get_or, pad_places}
use Rattle.report.proofs.PlacesLemmas.{places_below}
use Rattle.report.proofs.layer.CauseFinder.flash_of.Goals as goal

pub overflow_add-result : goal.overflow_add-result
overflow_add-result c =
    let rows = c.args.rows.now in
    let place = c.in-Some.place.now in
    let among : c.args.pad < length c.args.self.now.places.items = (let t = c.in-Some.ensures.lookup.0 in grind (arith, nat_tests)) in
    let inside : c.args.pad < length (pad_places rows) = (let same = ap length c.requires.places in omega (arith, same, among)) in
    let below = All-get_or (λ place. place < length rows) (pad_places rows) c.args.pad place inside (places_below rows) in
    let is : place ≡ get_or (pad_places rows) c.args.pad place = c.in-Some.ensures.lookup.1 ∙ ap (λ places. get_or places c.args.pad place) (c.deref.ensures.value ∙ c.requires.places) in
    omega (arith, below, is)

pub returns-in-Some : goal.returns-in-Some
returns-in-Some c =
    let rows = c.args.rows.now in
    let place = c.in-Some.place.now in
    let among : c.args.pad < length c.args.self.now.places.items = (let t = c.in-Some.ensures.lookup.0 in grind (arith, nat_tests)) in
    let inside : c.args.pad < length (pad_places rows) = (let same = ap length c.requires.places in omega (arith, same, among)) in
    let is : place ≡ get_or (pad_places rows) c.args.pad place = c.in-Some.ensures.lookup.1 ∙ ap (λ places. get_or places c.args.pad place) (c.deref.ensures.value ∙ c.requires.places) in
    ap (λ n. n + 1) (is ∙ get_or_default (pad_places rows) c.args.pad place 0 inside)
