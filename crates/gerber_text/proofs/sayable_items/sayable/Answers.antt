use Rattle.gerber_text.proofs.Common.{◌≡◌, ◌+◌, Bool, true, false, not, ◌&&◌, drop, refl, sym, ap, ◌∙◌, is_sayable, is_finish}
use Rattle.gerber_text.proofs.TextIsSayable.{goes_on, from_first, one_more, more_than}
use Rattle.gerber_text.proofs.sayable_items.sayable.Goals.{then-ended-via-then-ended, then-ended-via-else-ended+then-not-is_sayable}
use Rattle.gerber_text.proofs.sayable_items.sayable.Goals as goal

and_false : (a b c : Bool) → b ≡ false → (a && (b && c)) ≡ false
and_false true b c h = ap (λ t. t && c) h
and_false false b c h = refl

pub loop-command-init : goal.loop-command-init
loop-command-init c = from_first c.args.commands.now

pub returns-then-ended : goal.returns-then-ended
returns-then-ended c =
    let cs = c.args.commands.now in
    let n = c.loop-command.command-index in
    let d = c.command-item.result in
    let next = c.loop-command.invariant ∙ one_more cs n d c.loop-command.ended c.loop-command-test.true c.command-item.is in
    sym (next ∙ elim c.then-ended.branch [
      | then-ended-via-then-ended w ↦ ap (λ t. not t && (is_sayable d && goes_on (is_finish d) (drop (n + 1) cs))) w.if-ended.true
      | then-ended-via-else-ended+then-not-is_sayable w ↦ and_false (not c.loop-command.ended) (is_sayable d) (goes_on (is_finish d) (drop (n + 1) cs)) (sym w.is_sayable.ensures ∙ w.if-not-is_sayable.true)
    ])

pub loop-command-preserved : goal.loop-command-preserved
loop-command-preserved c =
    let cs = c.args.commands.now in
    let n = c.loop-command.command-index in
    let d = c.command-item.result in
    let sayable : is_sayable d ≡ true = sym c.is_sayable.ensures ∙ c.if-not-is_sayable.false in
    c.loop-command.invariant
    ∙ (one_more cs n d c.loop-command.ended c.loop-command-test.true c.command-item.is
    ∙ (λ i. not (c.if-ended.false i) && (sayable i && goes_on (sym c.is_finish-ended.ensures i) (drop (n + 1) cs))))

pub returns : goal.returns
returns c = sym (c.loop-command.invariant ∙ more_than c.args.commands.now c.loop-command.command-index c.loop-command.ended c.loop-command-test.false)
