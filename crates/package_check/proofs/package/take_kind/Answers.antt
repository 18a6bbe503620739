use Rattle.package_check.proofs.Common.{◌∙◌, ap, refl, subst, sym, ◌&&◌, ◌+◌, ltb, map, count_by, Setting, is_copper, is_kind, TakesThose, setting_of, is_kind_at, Profile, PackageReader}
use Rattle.package_check.proofs.TakeSteps.{OfReader, kind_all, kind_left, kind_none, kind_taken}
use Rattle.package_check.proofs.package.take_kind.Goals as goal
use Rattle.package_check.proofs.package.take_kind.Goals.{then-is_kind+in_ok-give, else-is_kind}

pub loop-index-init : goal.loop-index-init
loop-index-init g c =
    let setting = λ (profile : Profile). let s : Setting = record { layers = count_by (λ file. is_copper (g.S.SourceFile.role_of file)) c.args.files.now; profile = profile } in s in
    record { setting = refl; takes = λ profile same. kind_none (OfReader (map (g.S.SourceFile.seen (setting profile)) c.args.files.now)) (g.S.SourceFile.seen (setting profile)) c.args.copper c.args.files.now c.args.reader.now }

pub loop-index-preserved : goal.loop-index-preserved
loop-index-preserved g c =
    let files = c.args.files.now in
    let setting = λ (profile : Profile). let s : Setting = record { layers = count_by (λ file. is_copper (g.S.SourceFile.role_of file)) files; profile = profile } in s in
    let seen = λ (profile : Profile). g.S.SourceFile.seen (setting profile) in
    let k = c.loop-index.index in
    let file = c.index-files-index.result in
    let inv = c.loop-index.invariant in
    let start = c.args.reader.now in
    let kind = λ (profile : Profile). ap (is_kind c.args.copper) (g.met.S.SourceFile.have_roles (setting profile) file ∙ sym c.role.ensures) ∙ sym c.is_kind.ensures in
    let so_far = λ (profile : Profile) (r : PackageReader). TakesThose start r (map (seen profile) files) (λ i. ltb i (k + 1) && is_kind_at c.args.copper (map (seen profile) files) i) in
    elim c.if-is_kind.branch [
      | then-is_kind+in_ok-give w ↦ record {
        setting = ap setting_of w.reader-is ∙ (w.in_ok-give.ensures.setting ∙ inv.setting);
        takes = λ profile same. subst (so_far profile) (sym w.reader-is)
            (kind_taken (OfReader (map (seen profile) files)) (seen profile) c.args.copper files start c.loop-index.reader w.give.new.reader k file (g.S.SourceFile.seen (setting_of c.loop-index.reader) file) c.loop-index-test.true c.index-files-index.is (kind profile ∙ w.if-is_kind.true)
            (λ j. g.S.SourceFile.seen ((inv.setting ∙ same) j) file) (inv.takes profile same) (w.in_ok-give.ensures.stands (map (seen profile) files)));
      }
      | else-is_kind w ↦ record {
        setting = ap setting_of w.reader-is ∙ inv.setting;
        takes = λ profile same. subst (so_far profile) (sym w.reader-is)
            (kind_left (OfReader (map (seen profile) files)) (seen profile) c.args.copper files start c.loop-index.reader k file c.loop-index-test.true c.index-files-index.is (kind profile ∙ w.if-is_kind.false) (inv.takes profile same));
      }
    ]

pub returns-clause-takes : goal.returns-clause-takes
returns-clause-takes g c = λ profile same.
    let setting : Setting = record { layers = count_by (λ file. is_copper (g.S.SourceFile.role_of file)) c.args.files.now; profile = profile } in
    kind_all (OfReader (map (g.S.SourceFile.seen setting) c.args.files.now)) (g.S.SourceFile.seen setting) c.args.copper c.args.files.now c.args.reader.now c.loop-index.reader c.loop-index.index c.loop-index-test.false (c.loop-index.invariant.takes profile same)
