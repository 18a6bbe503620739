use Rattle.package_check.proofs.Common.{◌≡◌, ◌∙◌, ap, false, subst, true, Setting, count_by, is_copper, views_in, GridRules, Profile, JudgesThose, is_kind_at, setting_of}
use Rattle.layer_features.specs.declared.keep.Keep.TheVariants as keep
use Rattle.package_check.proofs.CheckSteps.{all_taken}
use Rattle.package_check.proofs.package.check_of.Goals as goal

pub returns : goal.returns
returns g c =
    let sources = views_in g.S.SourceFile.seen g.S.SourceFile.role_of c.args.rules.profile c.args.files.now in
    let setting : setting_of c.new-reader.result ≡ record { layers = count_by (λ file. is_copper (g.S.SourceFile.role_of file)) c.args.files.now; profile = c.args.rules.profile } = c.new-reader.ensures.setting ∙ (λ j. record { layers = c.copper_count.ensures j; profile = c.profile.ensures j }) in
    let drills = c.in_ok-take_kind.ensures.takes c.args.rules.profile setting keep.Pads (λ i. false) (c.new-reader.ensures.stands sources) in
    let drilled = c.in_ok-check.ensures.stands keep.Pads sources drills in
    all_taken c.in_ok-check.check c.take_copper.new.check sources c.args.rules drilled
    (subst (λ (p : Profile). JudgesThose c.in_ok-check.check c.take_copper.new.check (views_in g.S.SourceFile.seen g.S.SourceFile.role_of p c.args.files.now) (is_kind_at true (views_in g.S.SourceFile.seen g.S.SourceFile.role_of p c.args.files.now))) (ap (λ (r : GridRules). r.profile) drilled.same_rules)
    (c.in_ok-take_copper.ensures (c.in_ok-check.ensures.layers ∙ ap (λ (s : Setting). s.layers) (c.in_ok-take_kind.ensures.setting ∙ setting))))
