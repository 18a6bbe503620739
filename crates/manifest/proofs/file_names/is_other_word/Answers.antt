use Rattle.manifest.proofs.Common.{◌∙◌, ◌||◌, sym, is_one_of}
use Rattle.manifest.specs.Names.{other_words}
use Rattle.manifest.proofs.file_names.is_other_word.Goals as goal

pub returns-else-has_part : goal.returns-else-has_part
returns-else-has_part c = λ i. sym (sym c.has_part.ensures ∙ c.if-has_part.false) i || (c.is_one_of.ensures ∙ (λ j. is_one_of (c.split_at_digit.ensures.letters j) other_words)) i
