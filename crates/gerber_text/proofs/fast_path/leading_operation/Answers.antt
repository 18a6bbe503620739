use Rattle.gerber_text.proofs.FastPathLemmas.{plain_item}
use Rattle.gerber_text.proofs.fast_path.leading_operation.Goals as goal

pub returns : goal.returns
returns c =
    rw (c.of.ensures, c.of-2.ensures, c.of-3.ensures, c.of-4.ensures) (plain_item c.args.bytes.now c.first_mode-mode.result.1.now c.in_ok-x.after_x.now c.in_ok-y.after_y.now c.in_ok-i.after_i.now c.in_ok-j.code.now c.in_ok-action.ensures.0 c.first_mode-mode.result.0 c.in_ok-x.x c.in_ok-y.y c.in_ok-i.i c.in_ok-j.j c.in_ok-action.action
    c.first_mode-mode.ensures c.in_ok-x.ensures.value c.in_ok-y.ensures.value c.in_ok-i.ensures.value c.in_ok-j.ensures.value c.in_ok-action.ensures.1 (c.may_stand.ensures.begins c.if-not-may_stand.false) (c.may_stand.ensures.stands c.if-not-may_stand.false))
