use Rattle.gerber_text.proofs.Common.{◌++◌, Option, None, Some, take, IfSome, WordReader, Holds, StandsIn, passed_text, text_entries}
use Rattle.gerber_text.specs.declared.placed.PassedText.{PassedText}
use Rattle.gerber_text.proofs.reader.WordReader.pass_text.Goals as goal

of_some : (r : Option PassedText) (P Q : PassedText → Type 0) → ((passed : PassedText) → P passed → Q passed) → IfSome r P → IfSome r Q
of_some None P Q f h = tt
of_some (Some passed) P Q f h = f passed h

pub returns-clause-some : goal.returns-clause-some
returns-clause-some c none_held profile gone text h =
    let bytes = c.args.bytes.now in
    let reader : WordReader = record { progress = c.pass_text.new.self; failed = c.args.self.now.failed } in
    of_some c.pass_text.result (λ passed. Holds c.pass_text.new.self profile (gone ++ text_entries passed (passed_text passed bytes)) (text ++ take passed.len bytes)) (λ passed. StandsIn reader profile (gone ++ text_entries passed (passed_text passed bytes)) (text ++ take passed.len bytes))
    (λ passed k. record { sound = h.sound; holds = k }) (c.pass_text.ensures.some none_held profile gone text h.holds)
