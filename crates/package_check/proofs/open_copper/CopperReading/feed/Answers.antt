use Rattle.package_check.proofs.Common.{◌++◌, refl, subst, HasReadCopper, CopperReading, on_ok_weaker}
use Rattle.manifest.specs.declared.Role.TheVariants as role
use Rattle.package_check.proofs.CopperPieces.{no_span}
use Rattle.package_check.proofs.OpenFiles.{layer_errs}
use Rattle.package_check.proofs.open_copper.CopperReading.feed.Goals as goal

pub returns-in-Layer-clause-ok : goal.returns-in-Layer-clause-ok
returns-in-Layer-clause-ok c = λ said layers text h.
    let was = subst (λ (r : CopperReading). HasReadCopper c.args.holes.now c.args.layer said layers r text) c.in-Layer.is h in
    on_ok_weaker c.feed.result (λ read. (was.0, read)) (c.feed.ensures.ok text was.1)

pub returns-in-Layer-clause-err : goal.returns-in-Layer-clause-err
returns-in-Layer-clause-err c = λ said layers text h.
    let was = subst (λ (r : CopperReading). HasReadCopper c.args.holes.now c.args.layer said layers r text) c.in-Layer.is h in
    layer_errs c.readings_in_profiles.ensures.joined role.Copper said (record { layers = layers; profile = c.args.holes.now.rules.profile }) (text ++ c.args.piece.now) c.feed.result refl (no_span said.span layers was.0) (c.feed.ensures.err text was.1)
