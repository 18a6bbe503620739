use Rattle.drawing.proofs.Common.{List, ℕ, map, refl, subst, Drawn, IsPage}
use Rattle.std.proofs.lemmas.Result.{IfOk-weaker}
use Rattle.drawing.proofs.draw.Drawing.new.Goals as goal

pub returns : goal.returns
returns c =
    let names : List (List ℕ) = map (λ name. name.now) c.args.names.now in
    IfOk-weaker c.page_of.result _ _
    (λ d shows. record { drawing = d; shows = subst (λ (edge : List Drawn). IsPage names c.args.board.now edge c.args.rules d) c.shown_outline.ensures shows; is = refl }) c.page_of.ensures
