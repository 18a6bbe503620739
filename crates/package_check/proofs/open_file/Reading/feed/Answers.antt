use Rattle.package_check.proofs.Common.{◌++◌, [], subst, drill_kind, HasReadText, copper_keep, mixed_kind, Reading, on_ok_weaker}
use Rattle.package_check.proofs.OpenFiles.{drill_errs, layer_errs, mixed_errs}
use Rattle.package_check.proofs.open_file.Reading.feed.Goals as goal

pub returns-in-Layer-clause-ok : goal.returns-in-Layer-clause-ok
returns-in-Layer-clause-ok c = λ keep of said setting text h.
    let was = subst (λ (r : Reading). HasReadText keep of said setting r text) c.in-Layer.is h in
    on_ok_weaker c.feed.result (λ read. (was.0, was.1, read)) (c.feed.ensures.ok setting.profile (copper_keep keep) [] text was.2)

pub returns-in-Layer-clause-err : goal.returns-in-Layer-clause-err
returns-in-Layer-clause-err c = λ keep of said setting text h.
    let was = subst (λ (r : Reading). HasReadText keep of said setting r text) c.in-Layer.is h in
    layer_errs c.readings_in_profiles.ensures.joined of said setting (text ++ c.args.piece.now) c.feed.result was.0 was.1 (c.feed.ensures.err setting.profile (copper_keep keep) [] text was.2)

pub returns-in-Drill-clause-ok : goal.returns-in-Drill-clause-ok
returns-in-Drill-clause-ok c = λ keep of said setting text h.
    let was = subst (λ (r : Reading). HasReadText keep of said setting r text) c.in-Drill.is h in
    on_ok_weaker c.feed-in-Drill.result (λ read. (was.0, was.1, read)) (c.feed-in-Drill.ensures.ok (drill_kind setting.profile said.format c.in-Drill.plated) _ text was.2)

pub returns-in-Drill-clause-err : goal.returns-in-Drill-clause-err
returns-in-Drill-clause-err c = λ keep of said setting text h.
    let was = subst (λ (r : Reading). HasReadText keep of said setting r text) c.in-Drill.is h in
    drill_errs c.readings_of_kinds.ensures.stays of c.in-Drill.plated said setting (text ++ c.args.piece.now) c.feed-in-Drill.result was.0 was.1 (c.feed-in-Drill.ensures.err (drill_kind setting.profile said.format c.in-Drill.plated) _ text was.2)

pub returns-in-Mixed-clause-ok : goal.returns-in-Mixed-clause-ok
returns-in-Mixed-clause-ok c = λ keep of said setting text h.
    let was = subst (λ (r : Reading). HasReadText keep of said setting r text) c.in-Mixed.is h in
    on_ok_weaker c.feed-in-Mixed.result (λ read. (was.0, was.1, read)) (c.feed-in-Mixed.ensures.ok (mixed_kind setting.profile said.format) _ text was.2)

pub returns-in-Mixed-clause-err : goal.returns-in-Mixed-clause-err
returns-in-Mixed-clause-err c = λ keep of said setting text h.
    let was = subst (λ (r : Reading). HasReadText keep of said setting r text) c.in-Mixed.is h in
    mixed_errs c.readings_of_kinds.ensures.stays of said setting (text ++ c.args.piece.now) c.feed-in-Mixed.result was.0 was.1 (c.feed-in-Mixed.ensures.err (mixed_kind setting.profile said.format) _ text was.2)
