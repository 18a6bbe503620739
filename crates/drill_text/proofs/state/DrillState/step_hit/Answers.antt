use Rattle.drill_text.proofs.Common.{length, Some, refl, sym, ap, ◌∙◌, state_of, hole_of, no_point, path_between}
use Rattle.drill_lines.specs.declared.command.DrillCommand.TheVariants as command
use Rattle.drill_text.proofs.Lookbacks.{moved_one}
use Rattle.drill_text.proofs.HoleLines.{hit_rule, ok_unless, same_rules}
use Rattle.drill_text.proofs.AppliedHoles.{judges_drilled}
use Rattle.drill_text.proofs.state.DrillState.step_hit.Goals as goal

pub returns : goal.returns
returns c kind before is_state =
    let old = c.args.self.now in
    let s = state_of old in
    let p = c.args.point.now in
    judges_drilled old c.drill_hit.new.self kind before (command.Hit p) p no_point (path_between s p no_point) c.drill_hit.result is_state
    (record { path = refl; rule = hit_rule s (length old.holes.items) p ∙ ap (λ o. ok_unless o (hole_of (path_between s p no_point))) (sym (same_rules old.words.profile s (length old.holes.items) (Some (path_between s p no_point)) (command.Hit p) refl)); moves = moved_one p s; defines = refl; otherwise = refl; makes = λ number. refl; drilled = refl; silent = refl; unheard = refl; hears = refl }) c.drill_hit.ensures
