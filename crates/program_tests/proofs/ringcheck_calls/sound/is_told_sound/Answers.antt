use Rattle.std.proofs.Common.{rules, refl, codes, true, false, None}
use Rattle.ringcheck.specs.Sentences.{report_sentence}
use Rattle.ringcheck.proofs.ThreeFiles.{report_of_three}
use Rattle.program_tests.proofs.ringcheck_calls.sound.is_told_sound.Goals as goal

pub returns : goal.returns
returns c pass =
    let says = rw c.new.ensures at (c.run.ensures.report false (codes "0.125") (codes "0.25") None None None None None None None None (codes "m.csv") refl refl refl refl refl refl refl refl refl refl refl refl) in
    report_of_three true (report_sentence None (codes "0.125") (codes "0.25") None None None false None) c.args.records.now c.args.layer.now c.args.drill.now _ _ _ c.run.result says (search rules)
