use Rattle.waivers.proofs.Common.{◌≡◌, map, take, place_at}
use Rattle.waivers.proofs.keys.places_of.Given as goal

abbrev pub invariant-loop-key : goal.invariant-loop-key
invariant-loop-key l = l.places.items ≡ map (λ key. place_at l.table key.items) (take l.key-index l.keys)
