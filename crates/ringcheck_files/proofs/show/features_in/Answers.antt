use Rattle.ringcheck_files.proofs.Common.{ap, ◌∙◌, view_in}
use Rattle.ringcheck_files.proofs.Pieces.{ok_more, viewed}
use Rattle.ringcheck_files.proofs.show.features_in.Goals as goal

pub returns : goal.returns
returns c bytes read =
    ok_more _ _ (λ features e. (read.0, read.1, e ∙ ap (view_in c.args.profile) (c.into_rows-features.ensures.features ∙ read.2.features) ∙ viewed c.strict_layers.ensures c.args.profile bytes read.0 read.1)) c.view_in.result c.view_in.ensures
