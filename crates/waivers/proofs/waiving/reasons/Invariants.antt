use Rattle.waivers.proofs.Common.{◌≡◌, map, take, option_map, reason_at}
use Rattle.waivers.proofs.waiving.reasons.Given as goal

abbrev pub invariant-loop-place : goal.invariant-loop-place
invariant-loop-place l = map (option_map (λ why. why.now)) l.accepted.items ≡ map (reason_at l.waivers) (take l.place-index l.places)
