-- An operation on the fast path breaks no rule, and leaves the fast path as it is.
use Rattle.layer_state.proofs.Common.{◌≡◌, Ok, refl, sym, subst, Command, State, AreCachedValues, IsFlashOf, flash_count, AppliesOrRefuses, is_allowed_again, state_of}
use Rattle.gerber_commands.specs.declared.command.Command.TheVariants as command
use Rattle.layer_state.proofs.StateLemmas.{at_point}
use Rattle.layer_state.proofs.FastOperations.{step_result, move_applies, flash_applies}
use Rattle.layer_state.proofs.cached.CachedState.operate.Goals as goal

pub invariant_of-self : goal.invariant_of-self
invariant_of-self c =
    let cached = c.args.self.now in
    record { cached_values = subst (AreCachedValues cached.cached) (sym (at_point cached.state c.set_point.new.self c.args.action c.get-across.result c.get-up.result c.args.i c.args.j (c.set_point.ensures c.args.action c.args.i c.args.j))) cached.cached_values }

pub invariant_of-self-in-Some : goal.invariant_of-self-in-Some
invariant_of-self-in-Some c =
    let cached = c.args.self.now in
    record { cached_values = subst (AreCachedValues cached.cached) (sym (c.add.ensures.state_of c.args.action c.args.i c.args.j)) cached.cached_values }

pub returns-then-is_plain_move : goal.returns-then-is_plain_move
returns-then-is_plain_move c parts before is_state =
    let old = c.args.self.now.state in
    let new : State = record { alloc = old.alloc; current = c.set_point.new.self; apertures = old.apertures; macros = old.macros; flashes = old.flashes } in
    let o = command.Operate c.args.action c.get-across.result c.get-up.result c.get-offset_x.result c.get-offset_y.result in
    let named : o ≡ command.Operate c.args.action c.args.x c.args.y c.args.i c.args.j = λ k. command.Operate c.args.action (c.get-across.ensures k) (c.get-up.ensures k) (c.get-offset_x.ensures k) (c.get-offset_y.ensures k) in
    let moved = at_point old c.set_point.new.self c.args.action c.get-across.result c.get-up.result c.get-offset_x.result c.get-offset_y.result (c.set_point.ensures c.args.action c.get-offset_x.result c.get-offset_y.result) in
    let takes = move_applies old new c.args.action c.get-across.result c.get-up.result c.get-offset_x.result c.get-offset_y.result (c.is_plain_move.ensures.no_flash c.if-is_plain_move.true) moved refl refl refl in
    subst (λ (d : Command). AppliesOrRefuses parts before d new (Ok tt)) named (step_result old new o (c.is_plain_move.ensures.legal c.if-is_plain_move.true) takes parts before is_state)

pub returns-in-Some : goal.returns-in-Some
returns-in-Some c parts before is_state =
    let old = c.args.self.now.state in
    let o = command.Operate c.args.action c.get-across.result c.get-up.result c.get-offset_x.result c.get-offset_y.result in
    let named : o ≡ command.Operate c.args.action c.args.x c.args.y c.args.i c.args.j = λ k. command.Operate c.args.action (c.get-across.ensures k) (c.get-up.ensures k) (c.get-offset_x.ensures k) (c.get-offset_y.ensures k) in
    let is : IsFlashOf (is_allowed_again old.apertures o) (state_of old) (flash_count old.flashes) o c.in-Some.flash = c.in-Some.ensures in
    let takes = flash_applies old c.add.new.self c.args.action c.get-across.result c.get-up.result c.get-offset_x.result c.get-offset_y.result c.in-Some.flash is.flashes (c.add.ensures.state_of c.args.action c.get-offset_x.result c.get-offset_y.result) c.add.ensures.macros c.add.ensures.apertures c.in_ok-add.ensures.flashes in
    subst (λ (d : Command). AppliesOrRefuses parts before d c.add.new.self (Ok tt)) named (step_result old c.add.new.self o is.legal takes parts before is_state)
