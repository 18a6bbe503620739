use Rattle.package_check.proofs.Common.{subst, HasReadText, Reading}
use Rattle.package_check.proofs.OpenFiles.{failed_read, read_as_copper, read_as_drill, read_as_mixed}
use Rattle.package_check.proofs.open_file.Reading.finish.Goals as goal

pub returns-in-Layer-clause-content : goal.returns-in-Layer-clause-content
returns-in-Layer-clause-content c = λ of setting text h.
    let was = subst (λ (r : Reading). HasReadText c.args.keep of c.args.said setting r text) c.in-Layer.is h in
    read_as_copper of c.args.said setting text c.read_copper.result was.0 was.1 (c.read_copper.ensures.copper setting.profile text was.2)

pub returns-in-Drill-clause-content : goal.returns-in-Drill-clause-content
returns-in-Drill-clause-content c = λ of setting text h.
    let was = subst (λ (r : Reading). HasReadText c.args.keep of c.args.said setting r text) c.in-Drill.is h in
    read_as_drill of c.in-Drill.plated c.args.said setting text c.read_drill.result was.0 was.1 (c.read_drill.ensures setting.profile text was.2)

pub returns-in-Failed-clause-content : goal.returns-in-Failed-clause-content
returns-in-Failed-clause-content c = λ of setting text h.
    failed_read of c.args.said setting text c.in-Failed.fail (subst (λ (r : Reading). HasReadText c.args.keep of c.args.said setting r text) c.in-Failed.is h)

pub returns-in-Mixed-clause-content : goal.returns-in-Mixed-clause-content
returns-in-Mixed-clause-content c = λ of setting text h.
    let was = subst (λ (r : Reading). HasReadText c.args.keep of c.args.said setting r text) c.in-Mixed.is h in
    read_as_mixed of c.args.said setting text c.read_mixed.result was.0 was.1 (c.read_mixed.ensures setting.profile text was.2)
