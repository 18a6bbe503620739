-- The text is met, and its command is gone.
use Rattle.layer_image.proofs.Common.{ℕ, List, [], ◌∷◌, ◌++◌, subst, ◌∙◌, passed_text, text_entries, text_command, item_entries}
use Rattle.layer_image.proofs.Pieces.{same_words_met}
use Rattle.layer_image.proofs.reader.take_other.Goals as goal

pub returns-in_ok-take_text-in-Some-clause-ok : goal.returns-in_ok-take_text-in-Some-clause-ok
returns-in_ok-take_text-in-Some-clause-ok g c profile keep taken text h =
    let passed = c.in-Some.passed in
    record {
      gone = h.gone ++ text_entries passed (passed_text passed c.args.bytes.now);
      words = c.in-Some.ensures.some h.none profile h.gone text h.words;
      none = c.pass_text.ensures.held ∙ h.none;
      met = subst (λ (t : List ℕ). g.C.CommandSink.has_met profile keep taken c.take_text.new.self (h.gone ++ item_entries passed.place passed.byte (text_command passed.item.kind t ∷ []))) c.text_in.ensures (c.in_ok-take_text-in-Some.ensures profile keep taken h.gone passed.place passed.byte h.met);
    }

-- where no text was passed, nothing has changed
pub returns-in-None-clause-err : goal.returns-in-None-clause-err
returns-in-None-clause-err g c profile keep taken text h =
    c.take_part-in-None.ensures.err profile keep taken text (same_words_met c.in-None.ensures.none h)

pub returns-in-None-clause-ok : goal.returns-in-None-clause-ok
returns-in-None-clause-ok g c profile keep taken text h =
    c.take_part-in-None.ensures.ok profile keep taken text (same_words_met c.in-None.ensures.none h)
