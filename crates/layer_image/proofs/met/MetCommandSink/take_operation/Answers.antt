-- The operation is judged, and its flashes are those that the judge has added.
use Rattle.layer_image.proofs.Common.{◌≡◌, ◌++◌, ◌∷◌, ◌∙◌, [], List, Option, ap, refl, subst, sym, append-nil, err_from_is_err_and, Command, passed_entries, without_places, flashes_of, without_flashes, HasMet, modes_of, Interpolation, option_and_then, IsPassed}
use Rattle.layer_features.specs.Inner.Plotters.{selection_after}
use Rattle.layer_features.specs.Inner.States.{command_of}
use Rattle.layer_state.specs.declared.current.Current.{Current}
use Rattle.layer_image.proofs.MetLemmas.{after_operation, all_dropped, and_then, own_flashes}
use Rattle.layer_image.proofs.met.MetCommandSink.take_operation.Goals as goal

-- where it does not pass, the copper meets the setting before it
pub returns-then-not-passes-clause-ok : goal.returns-then-not-passes-clause-ok
returns-then-not-passes-clause-ok c profile keep taken before h = and_then c.add_operation.result (c.add_operation.ensures.ok profile keep taken before h.1) (λ met. (h.0, met))

pub returns-then-not-passes-clause-refused : goal.returns-then-not-passes-clause-refused
returns-then-not-passes-clause-refused c profile keep taken before h = c.add_operation.ensures.refused profile keep taken before h.1

pub returns-in_err-operate-clause-refused : goal.returns-in_err-operate-clause-refused
returns-in_err-operate-clause-refused c profile keep taken before h =
    let p = err_from_is_err_and c.from_residual.result c.from_residual.ensures.1 in
    rw (p.1, p.2) (c.in_err-operate.ensures.refused (without_flashes profile (flashes_of (without_places before))) before h.1.scanned)

pub returns-clause-ok : goal.returns-clause-ok
returns-clause-ok c profile keep taken before h =
    let passed = c.args.passed.now in
    let found = passed.operation in
    let what = command_of found in
    let all = before ++ passed_entries passed in
    let first = without_places before in
    let dropped = flashes_of first in
    let passes = c.passes.ensures c.if-not-passes.false in
    let scanned = c.in_ok-operate.ensures.ok (without_flashes profile dropped) before h.1.scanned in
    let commands : without_places all ≡ first ++ what ∷ [] =
    after_operation before passed.place passed.byte found.mode what ∙ ap (λ (l : List Command). l ++ what ∷ []) (ap (λ (m : Option Interpolation). first ++ modes_of m) passes.alone ∙ append-nil first) in
    let now = c.current-2.ensures (without_flashes profile dropped) all scanned in
    let apertures = c.apertures.ensures (without_flashes profile dropped) all scanned refl in (
      h.0,
      record {
        scanned = all_dropped profile c.operate.new.self c.clear_flashes.new.self dropped all scanned (c.clear_flashes.ensures.gone (without_flashes profile dropped) all scanned);
        copper = subst (λ (l : List Command). HasMet keep taken c.add_passed.new.self l) (sym commands)
            (c.in_ok-add_passed.ensures keep taken first found h.1.copper (subst (λ (n : Current). IsPassed c.args.self.now.copper n found) (c.current.ensures (without_flashes profile dropped) before h.1.scanned) passes)
            ((λ k. record { now = now k; aperture = option_and_then (apertures k) (now k).selected }) ∙ ap selection_after commands)
            (c.flashes.ensures ∙ own_flashes profile c.operate.new.self dropped all first what scanned commands refl));
      },
    )
