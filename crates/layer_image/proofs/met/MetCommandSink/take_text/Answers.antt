-- The text is met, and it makes no flash.
use Rattle.layer_image.proofs.Common.{List, subst, sym, Command, text_command, without_places, flashes_of, without_flashes, HasMet}
use Rattle.layer_image.proofs.MetLemmas.{after_text, text_dropped}
use Rattle.layer_image.proofs.met.MetCommandSink.take_text.Goals as goal

pub returns : goal.returns
returns c profile keep taken before place byte h = (
  h.0,
  record {
    scanned = text_dropped profile c.text.new.self before place byte c.args.kind c.args.text.now (c.in_ok-text.ensures (without_flashes profile (flashes_of (without_places before))) before place byte h.1.scanned);
    copper = subst (λ (l : List Command). HasMet keep taken c.take_text.new.self l) (sym (after_text before place byte (text_command c.args.kind c.args.text.now)))
        (c.in_ok-take_text.ensures keep taken (without_places before) c.args.kind c.args.text.now h.1.copper (c.current.ensures (without_flashes profile (flashes_of (without_places before))) before h.1.scanned));
  },
)
