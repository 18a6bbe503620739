-- The fast path shows that no rule applies.
use Rattle.layer_state.proofs.Common.{sym, ◌∙◌, flash_count, state_of}
use Rattle.layer_state.proofs.FastOperations.{move_is_legal}
use Rattle.layer_state.proofs.cached.CachedState.is_plain_move.Goals as goal

pub returns-clause-legal : goal.returns-clause-legal
returns-clause-legal c _ =
    let cached = c.args.self.now in
    move_is_legal _ (state_of cached.state) (flash_count cached.state.flashes) cached.cached.lengths c.args.action c.args.x c.args.y c.args.i c.args.j cached.cached.lengths.near (cached.cached_values.0 c.if-not-self.false)
    (sym c.is_flash.ensures ∙ c.if-is_flash.false) (sym c.lacks_aperture.ensures ∙ c.if-lacks_aperture.false)
    (sym c.has.ensures ∙ c.if-not-has.false) (sym c.has-else-not-has.ensures ∙ c.if-not-has-2.false)
    (sym c.has-2.ensures ∙ c.if-not-has-3.false) (sym c.has-else-not-has-3.ensures ∙ c.if-not-has-4.false)
