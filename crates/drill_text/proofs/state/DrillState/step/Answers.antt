use Rattle.drill_text.proofs.Common.{length, Some, refl, sym, ap, ◌∙◌, subst, DrillCommand, state_of, AppliesOrRefuses, hole_of, path_between}
use Rattle.drill_lines.specs.declared.command.DrillCommand.TheVariants as command
use Rattle.drill_text.proofs.Lookbacks.{moved_two}
use Rattle.drill_text.proofs.HoleLines.{ok_unless, same_rules, slot_rule}
use Rattle.drill_text.proofs.AppliedHoles.{judges_drilled}
use Rattle.drill_text.proofs.state.DrillState.step.Goals as goal

pub returns-in-Hit : goal.returns-in-Hit
returns-in-Hit c kind before is_state = subst (λ (d : DrillCommand). AppliesOrRefuses kind before d c.step_hit.new.self c.step_hit.result) (sym c.in-Hit.is) (c.step_hit.ensures kind before is_state)

pub returns-in-Slot : goal.returns-in-Slot
returns-in-Slot c kind before is_state =
    let old = c.args.self.now in
    let s = state_of old in
    let p = c.in-Slot.first in
    let q = c.in-Slot.second in
    subst (λ (d : DrillCommand). AppliesOrRefuses kind before d c.drill_slot.new.self c.drill_slot.result) (sym c.in-Slot.is)
    (judges_drilled old c.drill_slot.new.self kind before (command.Slot p q) p q (path_between s p q) c.drill_slot.result is_state
    (record { path = refl; rule = slot_rule s (length old.holes.items) p q ∙ ap (λ o. ok_unless o (hole_of (path_between s p q))) (sym (same_rules old.words.profile s (length old.holes.items) (Some (path_between s p q)) (command.Slot p q) refl)); moves = moved_two p q s; defines = refl; otherwise = refl; makes = λ number. refl; drilled = refl; silent = refl; unheard = refl; hears = refl }) c.drill_slot.ensures)
