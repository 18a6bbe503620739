-- The command is judged, and its flashes are those that the judge has added.
use Rattle.layer_image.proofs.Common.{List, [], ◌∷◌, ◌++◌, ◌∙◌, ap, refl, subst, sym, err_from_is_err_and, Command, without_places, flashes_of, without_flashes, HasMet, defined_numbered}
use Rattle.layer_image.proofs.MetLemmas.{all_dropped, next_entry, own_flashes}
use Rattle.layer_image.proofs.met.Met.take_command.Goals as goal

pub returns-in_err-take-clause-refused : goal.returns-in_err-take-clause-refused
returns-in_err-take-clause-refused c profile keep taken before h =
    let p = err_from_is_err_and c.from_residual.result c.from_residual.ensures.1 in
    rw (p.1, p.2) (c.in_err-take.ensures.refused (without_flashes profile (flashes_of (without_places before))) before h.scanned)

pub returns-clause-ok : goal.returns-clause-ok
returns-clause-ok c profile keep taken before h =
    let e = c.args.entry.now in
    let all = before ++ e ∷ [] in
    let dropped = flashes_of (without_places before) in
    let scanned = c.in_ok-take.ensures.ok (without_flashes profile dropped) before h.scanned in
    let now = c.current.ensures (without_flashes profile dropped) before h.scanned in
    record {
      scanned = all_dropped profile c.take.new.self c.clear_flashes.new.self dropped all scanned (c.clear_flashes.ensures.gone (without_flashes profile dropped) all scanned);
      copper = subst (λ (l : List Command). HasMet keep taken c.take-2.new.self l) (sym (next_entry before e))
          (c.in_ok-take-2.ensures keep taken (without_places before) h.copper (record { current = now; apertures = c.apertures.ensures (without_flashes profile dropped) all scanned refl ∙ ap defined_numbered (next_entry before e) })
          (c.flashes.ensures ∙ own_flashes profile c.take.new.self dropped all (without_places before) e.what scanned (next_entry before e) refl));
    }
