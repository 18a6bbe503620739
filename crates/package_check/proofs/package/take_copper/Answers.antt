use Rattle.package_check.proofs.Common.{◌∙◌, ap, refl, subst, sym, arith, true, ◌&&◌, ◌+◌, ℕ, ltb, map, count_by, CheckView, JudgesThose, is_kind_at, Setting, is_copper}
use Rattle.package_check.specs.CheckViews.{setting_of}
use Rattle.package_check.proofs.CheckSteps.{OfCheck, number_left, number_taken}
use Rattle.package_check.proofs.TakeSteps.{kind_all, kind_left, kind_none, kind_taken}
use Rattle.package_check.proofs.package.take_copper.Goals as goal
use Rattle.package_check.proofs.package.take_copper.Goals.{then-is_copper+in_ok-give_copper, else-is_copper}

pub loop-index-init : goal.loop-index-init
loop-index-init g c =
    let setting : Setting = record { layers = count_by (λ file. is_copper (g.S.SourceFile.role_of file)) c.args.files.now; profile = c.args.check.now.rules.profile } in
    record { setting = refl; number = refl; few = omega arith; takes = λ same. kind_none (OfCheck (map (g.S.SourceFile.seen setting) c.args.files.now)) (g.S.SourceFile.seen setting) true c.args.files.now c.args.check.now }

pub loop-index-preserved : goal.loop-index-preserved
loop-index-preserved g c =
    let files = c.args.files.now in
    let setting : Setting = record { layers = count_by (λ file. is_copper (g.S.SourceFile.role_of file)) files; profile = c.args.check.now.rules.profile } in
    let seen = g.S.SourceFile.seen setting in
    let k = c.loop-index.index in
    let file = c.index-files-index.result in
    let inv = c.loop-index.invariant in
    let start = c.args.check.now in
    let few = inv.few in
    let role = ap is_copper (g.met.S.SourceFile.have_roles setting file ∙ sym c.role.ensures) ∙ sym c.is_copper.ensures in
    let so_far = λ (r : CheckView). JudgesThose start r (map seen files) (λ i. ltb i (k + 1) && is_kind_at true (map seen files) i) in
    elim c.if-is_copper.branch [
      | then-is_copper+in_ok-give_copper w ↦
          let copper = role ∙ w.if-is_copper.true in
          let layer_is = w.layer-is in
          record {
            setting = ap setting_of w.check-is ∙ (w.in_ok-give_copper.ensures.setting ∙ inv.setting);
            number = w.layer-is ∙ (ap (λ (n : ℕ). n + 1) inv.number ∙ sym (number_taken seen files k file c.loop-index-test.true c.index-files-index.is copper));
            few = omega (arith, few, layer_is);
            takes = λ same. subst so_far (sym w.check-is)
                (kind_taken (OfCheck (map seen files)) seen true files start c.loop-index.check w.give_copper.new.check k file (g.S.SourceFile.seen (setting_of c.loop-index.check) file) c.loop-index-test.true c.index-files-index.is copper
                (λ j. g.S.SourceFile.seen ((inv.setting ∙ (λ i. record { layers = same i; profile = c.args.check.now.rules.profile })) j) file) (inv.takes same)
                (λ at. w.in_ok-give_copper.ensures.stands (ap is_copper (sym c.role.ensures) ∙ (sym c.is_copper.ensures ∙ w.if-is_copper.true)) (map seen files) at inv.number));
          }
      | else-is_copper w ↦
          let drill = role ∙ w.if-is_copper.false in
          let layer_is = w.layer-is in
          record {
            setting = ap setting_of w.check-is ∙ inv.setting;
            number = w.layer-is ∙ (inv.number ∙ sym (number_left seen files k file c.loop-index-test.true c.index-files-index.is drill));
            few = omega (arith, few, layer_is);
            takes = λ same. subst so_far (sym w.check-is) (kind_left (OfCheck (map seen files)) seen true files start c.loop-index.check k file c.loop-index-test.true c.index-files-index.is drill (inv.takes same));
          }
    ]

pub returns : goal.returns
returns g c = λ same.
    let setting : Setting = record { layers = count_by (λ file. is_copper (g.S.SourceFile.role_of file)) c.args.files.now; profile = c.args.check.now.rules.profile } in
    kind_all (OfCheck (map (g.S.SourceFile.seen setting) c.args.files.now)) (g.S.SourceFile.seen setting) true c.args.files.now c.args.check.now c.loop-index.check c.loop-index.index c.loop-index-test.false (c.loop-index.invariant.takes same)
