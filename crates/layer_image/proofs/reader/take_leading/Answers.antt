-- The operation is judged, and its commands are gone.
use Rattle.layer_image.proofs.Common.{◌++◌, ◌∙◌, err_from_is_err_and, passed_entries}
use Rattle.layer_image.proofs.Pieces.{gone_shown, same_words_met}
use Rattle.layer_image.proofs.reader.take_leading.Goals as goal

pub returns-in_err-take_operation-in-Some-clause-err : goal.returns-in_err-take_operation-in-Some-clause-err
returns-in_err-take_operation-in-Some-clause-err g c profile keep taken text h =
    let p = err_from_is_err_and c.from_residual.result c.from_residual.ensures.1 in
    let passed = c.in-Some.passed in
    rw (p.1, p.2) (gone_shown profile text c.args.bytes.now passed.len c.pass_operation.new.self (h.gone ++ passed_entries passed) c.in_err-take_operation-in-Some.field-0.0 (c.in-Some.ensures.some h.none profile h.gone text h.words) (c.pass_operation.ensures.held ∙ h.none) (c.in_err-take_operation-in-Some.ensures.refused profile keep taken h.gone h.met))

pub returns-in_ok-take_operation-in-Some-clause-ok : goal.returns-in_ok-take_operation-in-Some-clause-ok
returns-in_ok-take_operation-in-Some-clause-ok g c profile keep taken text h =
    let passed = c.in-Some.passed in
    record {
      gone = h.gone ++ passed_entries passed;
      words = c.in-Some.ensures.some h.none profile h.gone text h.words;
      none = c.pass_operation.ensures.held ∙ h.none;
      met = c.in_ok-take_operation-in-Some.ensures.ok profile keep taken h.gone h.met;
    }

-- where no operation was passed, nothing has changed
pub returns-in_err-take_other-in-None-clause-err : goal.returns-in_err-take_other-in-None-clause-err
returns-in_err-take_other-in-None-clause-err g c profile keep taken text h =
    let p = err_from_is_err_and c.from_residual-in_err-take_other-in-None.result c.from_residual-in_err-take_other-in-None.ensures.1 in
    rw (p.1, p.2) (c.in_err-take_other-in-None.ensures.err profile keep taken text (same_words_met c.in-None.ensures.none h))

pub returns-in_ok-take_other-in-None-clause-ok : goal.returns-in_ok-take_other-in-None-clause-ok
returns-in_ok-take_other-in-None-clause-ok g c profile keep taken text h =
    c.in_ok-take_other-in-None.ensures.ok profile keep taken text (same_words_met c.in-None.ensures.none h)
