-- The operation is judged, and its flashes are those that the judge has added.
use Rattle.layer_image.proofs.Common.{◌++◌, ◌∙◌, List, ap, refl, subst, sym, err_from_is_err_and, Command, passed_entries, without_places, flashes_of, without_flashes, HasMet, modes_of, Operate, defined_numbered}
use Rattle.layer_features.proofs.CopperLemmas.{same_with_mode}
use Rattle.layer_image.proofs.MetLemmas.{after_operation, all_dropped, flashes_with_mode, own_flashes}
use Rattle.layer_image.proofs.met.Met.add_operation.Goals as goal

pub returns-in_err-operate-clause-refused : goal.returns-in_err-operate-clause-refused
returns-in_err-operate-clause-refused c profile keep taken before h =
    let p = err_from_is_err_and c.from_residual.result c.from_residual.ensures.1 in
    rw (p.1, p.2) (c.in_err-operate.ensures.refused (without_flashes profile (flashes_of (without_places before))) before h.scanned)

pub returns-clause-ok : goal.returns-clause-ok
returns-clause-ok c profile keep taken before h =
    let passed = c.args.passed.now in
    let found = passed.operation in
    let what = Operate found.action found.x found.y found.i found.j in
    let all = before ++ passed_entries passed in
    let dropped = flashes_of (without_places before) in
    let scanned = c.in_ok-operate.ensures.ok (without_flashes profile dropped) before h.scanned in
    let now = c.current.ensures (without_flashes profile dropped) before h.scanned in
    let commands = after_operation before passed.place passed.byte found.mode what in
    record {
      scanned = all_dropped profile c.operate.new.self c.clear_flashes.new.self dropped all scanned (c.clear_flashes.ensures.gone (without_flashes profile dropped) all scanned);
      copper = subst (λ (l : List Command). HasMet keep taken c.operate-2.new.self l) (sym commands)
          (c.in_ok-operate-2.ensures keep taken (without_places before) h.copper (record { current = now ∙ sym (same_with_mode (without_places before) found.mode); apertures = c.apertures.ensures (without_flashes profile dropped) all scanned refl ∙ ap defined_numbered commands })
          (c.flashes.ensures ∙ own_flashes profile c.operate.new.self dropped all (without_places before ++ modes_of found.mode) what scanned commands (sym (flashes_with_mode (without_places before) found.mode))));
    }
