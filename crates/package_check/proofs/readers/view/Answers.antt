use Rattle.package_check.proofs.Common.{◌∙◌, [], sym, subst, keeps_rows, Keep, copper_keep, both_ways, IfOk-weaker, on_ok_weaker}
use Rattle.layer_image.specs.Kept.{IsKeptOf}
use Rattle.package_check.proofs.ShownLemmas.{drawn_too, drawn_viewed, pads_else, rows_too, rows_where_drawn, viewed}
use Rattle.package_check.proofs.readers.view.Goals as goal

pub returns-then-rows-clause-view : goal.returns-then-rows-clause-view
returns-then-rows-clause-view c text read =
    let keeps = rows_too c.args.keep (sym c.rows.ensures ∙ c.if-rows.true) in
    IfOk-weaker c.rows_view.result _ _ (λ v e. (read.0, read.1, e)) (c.rows_view.ensures.view (copper_keep c.args.keep) read.0.commands read.2 keeps (viewed c.strict_layers.ensures c.args.profile text read.0 read.1))

pub returns-then-rows-clause-rows : goal.returns-then-rows-clause-rows
returns-then-rows-clause-rows c text read keeps =
    on_ok_weaker c.rows_view.result (λ e. (read.0, read.1, e)) (c.rows_view.ensures.rows (copper_keep c.args.keep) read.0.commands read.2 (rows_too c.args.keep keeps) (viewed c.strict_layers.ensures c.args.profile text read.0 read.1))

pub returns-then-rows-clause-drawn : goal.returns-then-rows-clause-drawn
returns-then-rows-clause-drawn c text read draws =
    on_ok_weaker c.rows_view.result (λ e. (read.0, read.1, e ∙ drawn_viewed c.strict_layers.ensures c.args.profile text read.0 read.1)) (c.rows_view.ensures.drawn (copper_keep c.args.keep) read.0.commands read.2 (drawn_too c.args.keep draws))

pub returns-clause-view : goal.returns-clause-view
returns-clause-view c text read =
    let alone = pads_else c.args.keep (sym c.rows.ensures ∙ c.if-rows.false) in
    let kept = subst (λ (k : Keep). IsKeptOf c.args.profile k [] read.0.commands c.args.image) alone read.2 in
    IfOk-weaker c.pads_view.result _ _ (λ v e. (read.0, read.1, e)) (c.pads_view.ensures c.args.profile read.0.commands kept)

pub returns-clause-rows : goal.returns-clause-rows
returns-clause-rows c text read keeps = absurd (both_ways (keeps_rows c.args.keep) (sym c.rows.ensures ∙ c.if-rows.false) keeps)

pub returns-clause-drawn : goal.returns-clause-drawn
returns-clause-drawn c text read draws = absurd (both_ways (keeps_rows c.args.keep) (sym c.rows.ensures ∙ c.if-rows.false) (rows_where_drawn c.args.keep draws))
