use Rattle.gerber_text.proofs.Common.{◌+◌, sym, ◌∙◌, arith}
use Rattle.gerber_text.proofs.LeadingTextLemmas.{text_found}
use Rattle.gerber_text.proofs.text_items.leading_text.Goals as goal

pub returns-clause-begins : goal.returns-clause-begins
returns-clause-begins c =
    text_found c.args.bytes.now c.in_ok-kind.rest.now c.split_at.result.0.now c.split_at.result.1.now c.in_ok-after_end.field-0.now (record { kind = c.in_ok-kind.kind; text_len = c.inside_len-text_len.result; len = 3 + c.inside_len-text_len.result + c.end_len.result })
    c.in_ok-kind.ensures c.inside_len-text_len.ensures.within c.inside_len-text_len.ensures.inside c.split_at.ensures.front c.split_at.ensures.back c.in_ok-after_end.ensures
    (sym c.contains.ensures ∙ c.if-contains.false) (sym c.is_negative.ensures ∙ c.if-is_negative.false) (omega (arith, c.end_len.ensures)) (omega arith)
