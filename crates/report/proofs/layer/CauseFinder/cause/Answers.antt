use Rattle.report.proofs.Common.{◌≡◌, None, Option, get_or, length, ap, sym, subst, ◌∙◌, arith, IfOk, get_or_default, wide_pad_covers, default_hole, Drilled, IsBestPad, BestPad, IsCause, uncounted_pads, uncounted_cause}
use Rattle.report.proofs.layer.CauseFinder.cause.Goals as goal

pub cause_of-requires-clause-best : goal.cause_of-requires-clause-best
cause_of-requires-clause-best c =
    let pads = c.args.pads.now in
    let size : length c.args.self.now.bests.items ≡ length c.args.holes.now = c.requires.known.bests.size in
    let best_is : c.index.result.now ≡ get_or c.args.self.now.bests.items c.args.place None = c.index.ensures ∙ get_or_default c.args.self.now.bests.items c.args.place c.index.result.now None (omega (arith, size, c.requires.place)) in
    subst (λ (o : Option BestPad). IsBestPad wide_pad_covers pads (get_or c.args.holes.now c.args.place c.index-holes-place.result).hole o) (sym best_is)
    (subst (λ (d : Drilled). IsBestPad wide_pad_covers pads d.hole (get_or c.args.self.now.bests.items c.args.place None)) (sym (get_or_default c.args.holes.now c.args.place c.index-holes-place.result default_hole c.requires.place))
    (c.requires.known.bests.each c.args.place c.requires.place))

pub returns : goal.returns
returns c =
    let given = uncounted_pads c.args.uncounted in
    let same = get_or_default c.args.holes.now c.args.place c.index-holes-place.result default_hole c.requires.place in
    subst (λ (d : Drilled). IfOk c.cause_of.result (IsCause c.args.rules.profile c.args.rows.now c.args.pads.now given c.args.rules.ring d.hole)) same
    (c.cause_of.ensures given (c.cause_at-otherwise.ensures ∙ ap (λ (d : Drilled). uncounted_cause given d.hole) (sym same)))
