use Rattle.drill_text.proofs.Common.{◌+◌, drop, ◌&&◌, sym, ap, ◌∙◌, drop_all, are_sayable, part_from, is_after_end}
use Rattle.drill_lines.specs.declared.command.Part.TheVariants.{Before}
use Rattle.drill_text.proofs.RoundTrip.{sayable_more, sayable_not, part_at}
use Rattle.drill_text.proofs.writer.drill_sayable.Goals as goal

pub loop-command-preserved : goal.loop-command-preserved
loop-command-preserved c =
    let cs = c.args.commands.now in
    let n = c.loop-command.command-index in
    let p = c.loop-command.part in
    let d = c.command-item.result in
    record {
      said = c.loop-command.invariant.said ∙ (sayable_more cs p n d c.loop-command-test.true c.command-item.is (sym c.is_sayable.ensures ∙ c.if-not-is_sayable.false) ∙ ap (λ q. are_sayable q (drop (n + 1) cs)) (sym c.part_with-part.ensures));
      ends = c.loop-command.invariant.ends ∙ (part_at cs p n d c.loop-command-test.true c.command-item.is ∙ ap (λ q. part_from q (drop (n + 1) cs)) (sym c.part_with-part.ensures));
    }

pub returns-then-not-is_sayable : goal.returns-then-not-is_sayable
returns-then-not-is_sayable c =
    let cs = c.args.commands.now in
    let none = c.loop-command.invariant.said ∙ sayable_not cs c.loop-command.part c.loop-command.command-index c.command-item.result c.loop-command-test.true c.command-item.is (sym c.is_sayable.ensures ∙ c.if-not-is_sayable.true) in
    sym (ap (λ t. t && is_after_end (part_from Before cs)) none)

pub returns : goal.returns
returns c =
    let cs = c.args.commands.now in
    let p = c.loop-command.part in
    let done = drop_all c.loop-command.command-index cs c.loop-command-test.false in
    c.is_after_end.ensures ∙ sym ((λ i. c.loop-command.invariant.said i && is_after_end (c.loop-command.invariant.ends i)) ∙ (λ i. are_sayable p (done i) && is_after_end (part_from p (done i))))
