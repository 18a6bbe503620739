use Rattle.std.proofs.Common.{rules, refl, codes, None}
use Rattle.ringcheck.specs.Sentences.{measure_sentence}
use Rattle.ringcheck.proofs.ThreeFiles.{met_of_three}
use Rattle.program_tests.proofs.ringcheck_calls.sound.is_measured.Goals as goal

pub returns : goal.returns
returns c pass =
    let says = rw c.new.ensures at (c.run.ensures.measure None None None (codes "m.csv") refl refl refl refl refl) in
    met_of_three (measure_sentence None None) c.args.records.now c.args.layer.now c.args.drill.now _ _ _ c.run.result says (search rules)
