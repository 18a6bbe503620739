use Rattle.std.proofs.Common.{rules, refl, codes, None}
use Rattle.ringcheck.specs.Sentences.{check_sentence}
use Rattle.ringcheck.proofs.ThreeFiles.{sound_of_three}
use Rattle.program_tests.proofs.ringcheck_calls.sound.is_passed.Goals as goal

pub returns : goal.returns
returns c pass =
    let says = rw c.new.ensures at (c.run.ensures.check (codes "0.125") (codes "0.25") None None (codes "m.csv") refl refl refl refl refl refl) in
    sound_of_three (check_sentence None (codes "0.125") (codes "0.25")) c.args.records.now c.args.layer.now c.args.drill.now _ _ _ c.run.result says (search rules)
