use Rattle.waivers.proofs.Common.{◌≡◌, ℕ, List, take, position_from, bytes_eq, place_at}
use Rattle.waivers.proofs.keys.first_places.Given as goal

abbrev pub invariant-loop-place : goal.invariant-loop-place
invariant-loop-place l = (key : List ℕ) → place_at l.table key ≡ position_from (λ other. bytes_eq other.items key) 0 (take l.place l.keys)
