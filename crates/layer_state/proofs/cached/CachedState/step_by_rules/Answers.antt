-- A command that was taken in and changes nothing of the fast path leaves it true.
use Rattle.layer_state.proofs.Common.{◌≡◌, false, Result, Ok, Err, OnOk, sym, subst, ◌∙◌, AreCachedValues, ItemFail, Applies, state_of}
use Rattle.std.specs.Result.{is_err}
use Rattle.layer_state.proofs.FastOperations.{cached_stays_valid}
use Rattle.layer_state.proofs.cached.CachedState.step_by_rules.Goals as goal

taken : (r : Result (Unit {0}) ItemFail) (P : Type 0) → OnOk r P → is_err r ≡ false → P
taken (Ok x) P h e = h
taken (Err s) P h e = absurd cc

pub invariant_of-self : goal.invariant_of-self
invariant_of-self c =
    let cached = c.args.self.now in
    let takes : Applies cached.state c.args.command.now c.step-outcome.new.self = taken c.step-outcome.result _ c.step-outcome.ensures.takes (sym c.is_err.ensures.value ∙ c.if-is_err.false) in
    record { cached_values = subst (AreCachedValues cached.cached) (sym takes.state_after) (cached_stays_valid cached.cached (state_of cached.state) c.args.command.now (sym c.changes_cached.ensures ∙ c.if-changes_cached.false) cached.cached_values) }
