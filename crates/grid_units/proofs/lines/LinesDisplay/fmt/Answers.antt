use Rattle.std.proofs.Common.{◌++◌, ◌∷◌, [], take, refl, sym, ap, ◌∙◌}
use Rattle.std.specs.List.{flat_map}
use Rattle.std.proofs.lemmas.List.{flat_map_more, take_more}
use Rattle.std.proofs.Output.{has_written_append, has_written_of_eq}
use Rattle.grid_units.proofs.lines.LinesDisplay.fmt.Goals as goal

pub loop-line-preserved : goal.loop-line-preserved
loop-line-preserved g c = λ plain.
    let text = g.T.Line.text c.args.self.now.page.now in
    let lines = c.args.self.now.lines.now in
    let before = c.loop-line.invariant plain in
    has_written_of_eq _ _ _ _ _ (flat_map_more text [] _ _ ∙ ap (λ x. flat_map text (take c.loop-line.line-index lines ++ x ∷ [])) c.line-item.is ∙ sym (ap (flat_map text) (take_more lines _ _ c.loop-line-test.true)))
    (has_written_append _ _ _ _ _ _ before (c.in_ok-fmt_on.ensures.writes before.plain refl))
