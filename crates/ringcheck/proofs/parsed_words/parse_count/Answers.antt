use Rattle.ringcheck.proofs.Common.{◌≡◌, ◌∙◌, ap, min, sym, true}
use Rattle.grid_units.specs.Numbers.{is_digits, value}
use Rattle.ringcheck.proofs.ParseCountLemmas.{count_is}
use Rattle.ringcheck.proofs.parsed_words.parse_count.Goals as goal

pub returns : goal.returns
returns c =
    let digits : is_digits c.args.word.now ≡ true = ap is_digits (sym c.as_bytes.ensures.value) ∙ sym c.if-not-is_digits.ensures in
    count_is _ _ digits c.if-word-gt9.false (c.capped_value.ensures ∙ ap (λ text. min (value text) 999999999) c.as_bytes-2.ensures.value)
