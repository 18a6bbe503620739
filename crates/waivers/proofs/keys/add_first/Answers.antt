use Rattle.waivers.proofs.Common.{◌≡◌, false, sym, place_at}
use Rattle.std.specs.Prelude.{is_some}
use Rattle.waivers.proofs.FirstPlaces.{place_added, first_place_step}
use Rattle.waivers.proofs.keys.add_first.Goals as goal

pub returns : goal.returns
returns c =
    let none : is_some (place_at c.args.table.now c.args.key.now) ≡ false = sym c.if-contains_key.ensures in
    place_added (place_at c.args.table.now) (place_at c.insert.new.self) c.args.key.now c.args.place none
    (first_place_step c.args.key.now c.args.place c.args.table.now c.insert.new.self c.in_ok-insert.ensures.updates)
