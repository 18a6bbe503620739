-- The rule's fault comes before the fault of a later item, and where there is none the commands are met and gone.
use Rattle.layer_image.proofs.Common.{◌++◌, [], ap, cond, sym, subst, ◌∙◌, err_from_is_err_and, Entries, held_entries, LayerContent, HasContent, keeps_commands}
use Rattle.layer_image.proofs.Pieces.{legal_content, rule_shown, words_shown}
use Rattle.layer_image.proofs.reader.LayerReader.take_whole.Goals as goal

pub returns-in_err-take_all-clause-err : goal.returns-in_err-take_all-clause-err
returns-in_err-take_all-clause-err c profile keep taken text h =
    let p = err_from_is_err_and c.from_residual.result c.from_residual.ensures.1 in
    let all = text ++ c.args.piece.now in
    rw (p.1, p.2) (rule_shown profile all c.feed-outcome.new.self h.gone c.commands.result.now c.feed-outcome.result c.in_err-take_all.field-0.0 (c.feed-outcome.ensures.ok profile h.gone text h.words) (c.feed-outcome.ensures.err profile h.gone text h.words)
    (c.commands.ensures.shown profile h.gone all) (c.commands.ensures.kept profile h.gone all) (c.in_err-take_all.ensures.refused profile keep taken h.gone h.content))

pub returns-in_err-outcome-clause-err : goal.returns-in_err-outcome-clause-err
returns-in_err-outcome-clause-err c profile keep taken text h =
    let p = err_from_is_err_and c.from_residual-in_err-outcome.result c.from_residual-in_err-outcome.ensures.1 in
    let all = text ++ c.args.piece.now in
    let e = c.in_err-outcome.field-0.0 in
    let failed = c.in_err-outcome.ensures.err profile h.gone text h.words in
    rw (p.1, p.2) (words_shown profile all c.feed-outcome.new.self h.gone c.commands.result.now e failed (c.commands.ensures.kept profile h.gone all e failed) (legal_content profile keep taken c.take_all.new.self (h.gone ++ c.commands.result.now) (c.in_ok-take_all.ensures.ok profile keep taken h.gone h.content)))

pub returns-clause-ok : goal.returns-clause-ok
returns-clause-ok c profile keep taken text h =
    let now = held_entries c.feed-outcome.new.self in
    let all = ap keeps_commands (sym h.same) ∙ c.requires in
    let content = subst (λ (x : Entries). HasContent profile keep taken c.take_all.new.self (h.gone ++ x)) c.commands.ensures.held (c.in_ok-take_all.ensures.ok profile keep taken h.gone h.content) in
    record {
      sound = c.in_ok-keep_commands.ensures.failed ∙ h.sound;
      same = c.in_ok-keep_commands.ensures.keep ∙ h.same;
      same_profile = c.in_ok-keep_commands.ensures.profile ∙ h.same_profile;
      gone = h.gone ++ now;
      words = c.in_ok-keep_commands.ensures.words profile h.gone (text ++ c.args.piece.now) (c.in_ok-outcome.ensures.ok profile h.gone text h.words);
      none = c.in_ok-keep_commands.ensures.none;
      content = subst (λ (s : LayerContent). HasContent profile keep taken s (h.gone ++ now)) (sym c.in_ok-keep_commands.ensures.content) content;
      kept = c.in_ok-keep_commands.ensures.kept ∙ (λ i. (h.kept ∙ (λ j. cond (all j) h.gone [])) i ++ now) ∙ sym (λ j. cond (all j) (h.gone ++ now) []);
    }
