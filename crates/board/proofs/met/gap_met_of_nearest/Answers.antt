use Rattle.std.proofs.Common.{rules}
use Rattle.std.proofs.lemmas.Int.{to_z-of_z}
use Rattle.board.proofs.Common.{◌≡◌, ℤ, to_z, of_z, w64, subst, sym, IsPair, IsNearestOf, MeetsGaps}
use Rattle.board.specs.declared.met.Met.TheVariants as mets
use Rattle.board.proofs.GapsExist.{nearest_least}
use Rattle.board.proofs.WithoutFindings.{gaps_pass}
use Rattle.board.proofs.met.gap_met_of_nearest.Goals as goal

pub returns-in-Some-clause-exact : goal.returns-in-Some-clause-exact
returns-in-Some-clause-exact c =
    let fits : to_z w64 (of_z w64 c.in-Some.nearest.gap) ≡ c.in-Some.nearest.gap = search (rules, to_z-of_z) in
    subst (λ (gap : ℤ). MeetsGaps c.args.holes.now (mets.UpTo gap)) (sym fits)
    (nearest_least c.args.holes.now c.in-Some.nearest (subst (IsNearestOf c.args.holes.now (IsPair c.args.holes.now)) c.in-Some.is c.requires))

pub returns-in-Some-clause-passes : goal.returns-in-Some-clause-passes
returns-in-Some-clause-passes c = gaps_pass c.args.holes.now (mets.UpTo (to_z w64 (of_z w64 c.in-Some.nearest.gap))) (returns-in-Some-clause-exact c)

pub returns-in-None-clause-passes : goal.returns-in-None-clause-passes
returns-in-None-clause-passes c = gaps_pass c.args.holes.now mets.Any (subst (IsNearestOf c.args.holes.now (IsPair c.args.holes.now)) c.in-None.is c.requires)
