-- What breaks no rule does not reach too far, and has no size out of its range.
use Rattle.layer_state.proofs.Common.{◌≡◌, ◌∙◌, sym, subst, false, Command, sets_bad_size, flash_count, is_allowed_again, state_of, state_with, aperture_at, has_name}
use Rattle.layer_state.proofs.RulesLemmas.{sizes_in_range}
use Rattle.layer_state.proofs.StateLemmas.{FlashFits, flash_fits}
use Rattle.layer_state.proofs.state.State.take.Goals as goal

pub aperture_of-aperture-requires : goal.aperture_of-aperture-requires
aperture_of-aperture-requires c =
    rw c.get-template.ensures (subst (λ (x : Command). sets_bad_size x ≡ false) c.in-Define.is (sizes_in_range (is_allowed_again c.args.self.now.apertures c.args.command.now) (state_of c.args.self.now) (flash_count c.args.self.now.flashes) c.args.command.now c.requires))

fits : (c : goal.After-flash-arg-1) → FlashFits (state_with c.take.new.self (aperture_at c.args.self.now.apertures) (has_name c.args.self.now.macros)) (flash_count c.args.self.now.flashes)
fits c =
    let p = c.in-Operate in
    flash_fits c.args.self.now c.take.new.self c.args.command.now p.action p.x p.y p.i p.j c.requires c.take.ensures p.is (sym c.is_flash.ensures ∙ c.if-is_flash.true)

pub flash-requires-clause-points : goal.flash-requires-clause-points
flash-requires-clause-points c = (fits c).points

pub flash-requires-clause-pad : goal.flash-requires-clause-pad
flash-requires-clause-pad c = (fits c).pad

pub flash-requires-clause-few : goal.flash-requires-clause-few
flash-requires-clause-few c = (fits c).few
