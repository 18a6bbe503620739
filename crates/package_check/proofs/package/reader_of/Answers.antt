use Rattle.package_check.proofs.Common.{◌≡◌, ◌∙◌, file_views_in, layer_count, setting_of}
use Rattle.package_check.proofs.TakeSteps.{both_kinds}
use Rattle.package_check.proofs.package.reader_of.Goals as goal

pub returns : goal.returns
returns c =
    let sources = file_views_in c.args.profile c.args.files.now in
    let setting : setting_of c.keeping-reader.result ≡ record { layers = layer_count c.args.files.now; profile = c.args.profile } = c.keeping-reader.ensures.setting ∙ (λ j. record { layers = c.layer_count.ensures j; profile = c.args.profile }) in
    both_kinds c.keeping-reader.result c.take_kind.new.reader c.take_kind-2.new.reader c.args.keep sources (c.in_ok-take_kind.ensures.takes c.args.profile setting)
    (c.in_ok-take_kind-2.ensures.takes c.args.profile (c.in_ok-take_kind.ensures.setting ∙ setting)) (c.keeping-reader.ensures.stands sources)
