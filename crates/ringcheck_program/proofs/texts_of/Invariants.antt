use Rattle.std.proofs.Common.{◌≡◌, map, take}
use Rattle.std.specs.String.{string_bytes}
use Rattle.ringcheck_program.proofs.texts_of.Given as goal

abbrev pub invariant-loop-argument : goal.invariant-loop-argument
invariant-loop-argument l = map (λ text. text.now) l.texts.items ≡ map string_bytes (take l.argument-index l.arguments)
