use Rattle.print_json.proofs.Common.{arith, has_written_of_eq}
use Rattle.print_json.proofs.Escapes.{letter_stands}
use Rattle.print_json.proofs.strings.write_letter.Goals as goal

pub returns-in_default-2 : goal.returns-in_default-2
returns-in_default-2 g c = λ plain ok.
    has_written_of_eq _ _ _ _ _ (letter_stands c.args.letter (λ e. omega arith) (λ e. omega arith) (omega arith)) (c.write_char.ensures.writes plain ok)
