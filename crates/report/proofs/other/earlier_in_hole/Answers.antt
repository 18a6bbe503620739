use Rattle.report.proofs.Common.{◌++◌, ◌∷◌, [], Some, subst, sym, ◌∙◌, IsFirstIn, Other}
use Rattle.report.proofs.FirstInHole.{lesser_is, passed_by}
use Rattle.report.proofs.other.earlier_in_hole.Goals as goal

pub returns-then-not-covers : goal.returns-then-not-covers
returns-then-not-covers c = λ seen is. passed_by c.args.hole.now seen c.args.first c.args.other (sym c.covers.ensures ∙ c.if-not-covers.true) is

pub returns : goal.returns
returns c = λ seen is.
    subst (λ (found : Other). IsFirstIn (seen ++ c.args.other ∷ []) c.args.hole.now (Some found)) (sym c.earlier_flash.ensures)
    (lesser_is c.args.hole.now seen c.args.first c.args.other (sym c.covers.ensures ∙ c.if-not-covers.false) is)
