-- Before the first command nothing is defined.
use Rattle.layer_state.proofs.Common.{option_and_then, option_map, state_with, Defined}
use Rattle.std.specs.Prelude.{is_some}
use Rattle.layer_state.proofs.state.State.new.Goals as goal

pub returns : goal.returns
returns c = record {
  state_after = λ i. state_with (c.new.ensures i) (λ number. option_map (λ (d : Defined). d.aperture) (c.new-2.ensures.none number i)) (λ name. is_some (c.new-3.ensures name i));
  profile = c.new-2.ensures.profile;
  templates = λ wide i number. c.new-2.ensures.templates number i;
  macros = λ asked i name. option_and_then (λ p. p) (c.new-3.ensures name i);
  apertures = λ asked i number. c.new-2.ensures.none number i;
  flashes = c.new-4.ensures c.args.profile;
}
