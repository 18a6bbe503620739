use Rattle.std.proofs.Common.{◌⊎◌, inl, inr, replicate, ℕ}
use Rattle.std.proofs.lemmas.List.{length-replicate}
use Rattle.program_tests.proofs.ringcheck_calls.LongShelfLoader.load_into.Goals as goal

either : {A B C : Type 0} → (A → B) → A ⊎ C → B ⊎ C
either to (inl a) = inl (to a)
either to (inr c) = inr c

pub returns-then-self-limit-clause-too_long : goal.returns-then-self-limit-clause-too_long
returns-then-self-limit-clause-too_long g c said =
    let size = length-replicate {A = ℕ} c.args.self.now.length 0 in
    (replicate c.args.self.now.length 0, inr size, rw size c.if-self-limit.true)

pub returns-clause-keeps : goal.returns-clause-keeps
returns-clause-keeps g c n b = (either (c.load_into.ensures.keeps n b).0, either (c.load_into.ensures.keeps n b).1)
