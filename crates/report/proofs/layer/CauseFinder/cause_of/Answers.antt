use Rattle.report.proofs.Common.{◌≡◌, Option, false, sym, subst, ◌∙◌, IfOk-weaker, wide_pad_covers, is_refused_slot, IsBestPad, BestPad, IsCause, other_in, cause_without_pad, RingCause}
use Rattle.grid_units.specs.declared.profile.Profile.{Profile}
use Rattle.report.proofs.CauseLemmas.{without_pad_is_cause}
use Rattle.report.proofs.layer.CauseFinder.cause_of.Goals as goal

pub returns-in-None : goal.returns-in-None
returns-in-None c = λ uncounted otherwise.
    let h = c.args.hole.now in
    let rows = c.args.rows.now in
    let pads = c.args.pads.now in
    let profile = c.args.rules.profile in
    let holds = subst (λ (one : Profile). is_refused_slot one h ≡ false) c.profile.ensures (sym c.is_refused_slot.ensures ∙ c.if-is_refused_slot.false) in
    let none = subst (λ (best : Option BestPad). IsBestPad wide_pad_covers pads h best) c.in-None.is c.requires.best in
    let is = without_pad_is_cause profile rows pads uncounted c.args.rules.ring h c.args.otherwise (holds, none) otherwise in
    IfOk-weaker c.cause_without_pad.result (λ (why : RingCause). why ≡ cause_without_pad (other_in rows h) c.args.otherwise) (IsCause profile rows pads uncounted c.args.rules.ring h)
    (λ why same. subst (IsCause profile rows pads uncounted c.args.rules.ring h) (sym same) is)
    c.cause_without_pad.ensures

pub returns-in-Some : goal.returns-in-Some
returns-in-Some c = λ uncounted otherwise. c.cause_in_best.ensures uncounted
