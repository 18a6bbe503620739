use Rattle.layer_state.proofs.Common.{◌≡◌, ◌+◌, length, take}
use Rattle.std.specs.List.{sum_by}
use Rattle.layer_state.proofs.shapes.is_short.Given as goal

abbrev pub invariant-loop-text : goal.invariant-loop-text
invariant-loop-text l = l.left + sum_by (λ piece. length piece + 1) (take l.text-index l.texts) ≡ 4096
