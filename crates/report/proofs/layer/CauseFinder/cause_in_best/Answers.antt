use Rattle.report.proofs.Common.{◌≡◌, sym, subst, ◌∙◌, rules, w64, to_z-of_z, get_or_default, IsCause, RingCause}
use mir.Val.{to_z, of_z}
use Rattle.report.proofs.CauseLemmas.{plain_is_cause}
use Rattle.report.proofs.layer.CauseFinder.cause_in_best.Goals as goal

pub returns-in-Plain : goal.returns-in-Plain
returns-in-Plain c = λ uncounted.
    let pads = c.args.pads.now in
    let ring : to_z w64 (of_z w64 c.ring_of-ring.result) ≡ c.ring_of-ring.result = search (rules, to_z-of_z) in
    let lack : to_z w64 (of_z w64 c.lack_of-lack.result) ≡ c.lack_of-lack.result = search (rules, to_z-of_z) in
    subst (λ (why : RingCause). IsCause c.args.rules.profile c.args.rows.now pads uncounted c.args.rules.ring c.args.hole.now why) (sym c.plain_cause.ensures)
    (plain_is_cause c.args.rules.profile c.args.rows.now pads uncounted c.args.rules.ring c.args.hole.now _ c.requires.holds (record {
      best = c.args.best;
      deepest = c.requires.best;
      flash = c.flash_of-flash.ensures;
      pad = λ p. get_or_default pads c.args.best.pad p c.index-pads-best.result c.requires.best.inside ∙ (sym c.index-pads-best.is ∙ c.in-Plain.is);
      ring = ring ∙ c.ring_of-ring.ensures.value;
      lack = lack ∙ c.lack_of-lack.ensures;
    }))

pub returns-in-Rounded : goal.returns-in-Rounded
returns-in-Rounded c = λ uncounted.
    let pads = c.args.pads.now in
    let ring : to_z w64 (of_z w64 c.ring_of-ring.result) ≡ c.ring_of-ring.result = search (rules, to_z-of_z) in
    let lack : to_z w64 (of_z w64 c.lack_of-lack.result) ≡ c.lack_of-lack.result = search (rules, to_z-of_z) in (
      c.requires.holds,
      record {
        best = c.args.best;
        deepest = c.requires.best;
        flash = c.flash_of-flash.ensures;
        polygon = c.in-Rounded.field-0;
        pad = λ p. get_or_default pads c.args.best.pad p c.index-pads-best.result c.requires.best.inside ∙ (sym c.index-pads-best.is ∙ c.in-Rounded.is);
        ring = ring ∙ c.ring_of-ring.ensures.value;
        lack = lack ∙ c.lack_of-lack.ensures;
      },
    )
