use Rattle.waivers.proofs.Common.{◌≡◌, map, take}
use Rattle.waivers.proofs.keys.keys_of.Given as goal

abbrev pub invariant-loop-one : goal.invariant-loop-one
invariant-loop-one g l = map (λ key. key.items) l.keys.items ≡ map (g.T.Line.text l.page) (take l.one-index l.all)
