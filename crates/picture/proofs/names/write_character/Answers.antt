use Rattle.picture.proofs.Common.{arith, sym, has_written_of_eq}
use Rattle.picture.proofs.EscapesLemmas.{and_character, forbidden_character, less_character, more_character, plain_character}
use Rattle.picture.proofs.names.write_character.Goals as goal
use Rattle.picture.proofs.names.write_character.Goals.{in_default-via-then-character-lt65534, in_default-via-else-character-lt65534+else-character-lt65536}

pub returns-in-38 : goal.returns-in-38
returns-in-38 g c = λ plain ok. has_written_of_eq _ _ _ _ _ (and_character c.args.character c.in-38.is) (c.write_str.ensures.writes plain ok)

pub returns-in-60 : goal.returns-in-60
returns-in-60 g c = λ plain ok. has_written_of_eq _ _ _ _ _ (less_character c.args.character c.in-60.is) (c.write_str-in-60.ensures.writes plain ok)

pub returns-in-62 : goal.returns-in-62
returns-in-62 g c = λ plain ok. has_written_of_eq _ _ _ _ _ (more_character c.args.character c.in-62.is) (c.write_str-in-62.ensures.writes plain ok)

pub returns-in-65534 : goal.returns-in-65534
returns-in-65534 g c = λ plain ok. has_written_of_eq _ _ _ _ _ (forbidden_character c.args.character (omega arith) (omega arith)) (c.write_char.ensures.writes plain ok)

pub returns-in_default : goal.returns-in_default
returns-in_default g c =
    elim c.in_default.branch [
      | in_default-via-then-character-lt65534 w ↦ λ plain ok.
          has_written_of_eq _ _ _ _ _ (sym (plain_character c.args.character (λ e. omega arith) (λ e. omega arith) (λ e. omega arith) (λ e. omega arith) (λ e. omega arith))) (c.write_char-in_default.ensures.writes plain ok)
      | in_default-via-else-character-lt65534+else-character-lt65536 w ↦ λ plain ok.
          has_written_of_eq _ _ _ _ _ (sym (plain_character c.args.character (λ e. omega arith) (λ e. omega arith) (λ e. omega arith) (λ e. omega arith) (λ e. omega arith))) (c.write_char-in_default.ensures.writes plain ok)
    ]
