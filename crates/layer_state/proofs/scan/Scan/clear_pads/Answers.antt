use Rattle.layer_state.proofs.Common.{flashes_of, without_places}
use Rattle.layer_state.proofs.scan.Scan.clear_pads.Goals as goal

pub returns-clause-gone : goal.returns-clause-gone
returns-clause-gone c parts before h =
    let state = h.met.is_state in
    record {
      met = record { is_state = record { state_after = state.state_after; profile = state.profile; templates = state.templates; macros = state.macros; apertures = state.apertures; flashes = c.clear_pads.ensures.gone parts (flashes_of (without_places before)) state.flashes }; named = h.met.named };
      legal = h.legal;
    }
