-- The fast path shows that no rule applies, and what the flash leaves.
use Rattle.layer_state.proofs.Common.{arith, rules, FitsSigned, nat_le, unsigned_abs, ap, sym, ◌∙◌, w64, GridPoint, point_of, flash_count, state_of, moved_what}
use Rattle.layer_state.proofs.FastOperations.{flash_is_legal}
use Rattle.layer_state.proofs.SumLemmas.{named}
use Rattle.layer_state.proofs.cached.CachedState.flash.Goals as goal

pub returns : goal.returns
returns c =
    let cached = c.args.self.now in
    let l = cached.cached.lengths in
    let x : FitsSigned w64 cached.state.current.x = search rules in
    let y : FitsSigned w64 cached.state.current.y = search rules in
    let named_x : FitsSigned w64 c.unwrap_or-across.result = search rules in
    let named_y : FitsSigned w64 c.unwrap_or-up.result = search rules in
    let across = named c.args.x c.unwrap_or-across.result cached.state.current.x named_x x c.unwrap_or-across.ensures in
    let up = named c.args.y c.unwrap_or-up.result cached.state.current.y named_y y c.unwrap_or-up.ensures in
    let at = c.point-at.ensures ∙ (λ k. point_of l (across k) (up k)) in
    flash_is_legal _ (state_of cached.state) (flash_count cached.state.flashes) l cached.cached.what c.args.action c.args.x c.args.y c.args.i c.args.j _ l.near (cached.cached_values.0 c.if-not-self.false) (cached.cached_values.1 c.if-not-self-2.false)
    (sym c.is_flash.ensures ∙ c.if-not-is_flash.false) (cc) (omega arith)
    (ap (λ n. nat_le (unsigned_abs n) l.limit) (sym across) ∙ sym c.has.ensures ∙ c.if-not-has.false)
    (ap (λ n. nat_le (unsigned_abs n) l.limit) (sym up) ∙ sym c.has-else-not-has.ensures ∙ c.if-not-has-2.false)
    (sym c.has-2.ensures ∙ c.if-not-has-3.false) (sym c.has-else-not-has-3.ensures ∙ c.if-not-has-4.false)
    (λ k. record { at = at k; what = (c.at.ensures ∙ ap (λ (p : GridPoint). moved_what p cached.cached.what) at) k })
