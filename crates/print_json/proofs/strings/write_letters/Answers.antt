use Rattle.print_json.proofs.Common.{has_written_of_eq}
use Rattle.std.proofs.lemmas.Iterator.{YieldsList-from_chars}
use Rattle.std.proofs.lemmas.Iterator.Consumers.{YieldsList-end}
use Rattle.print_json.proofs.Escapes.{text_escaped}
use Rattle.print_json.proofs.strings.write_letters.Goals as goal

pub returns : goal.returns
returns g c = λ plain ok.
    let all = YieldsList-end (YieldsList-from_chars c.args.text.now c.utf8.text cc) c.loop-letter.yielded _ c.loop-letter.yielded_by _ _ c.in-None.is c.next.ensures.steps in
    has_written_of_eq _ _ _ _ _ (text_escaped c.loop-letter.yielded c.args.text.now c.utf8.text all.0) (c.loop-letter.invariant plain)
