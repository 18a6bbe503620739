use Rattle.report.proofs.Common.{◌≡◌, ℕ, List, [], ◌∷◌, ◌++◌, length, map, ap, sym, subst, ◌∙◌, length-map, IfOk-weaker, WidePad, Drilled, UnitFactor, HoleRange, AreCounted, AreHoleRanges, AreTried, open_part}
use Rattle.report.proofs.UnitMistakeLemmas.{open_fit}
use Rattle.report.proofs.fewest.try_next.Goals as goal

pub counts_by-requires : goal.counts_by-requires
counts_by-requires c =
    let same : c.deref.result.now ≡ map open_part c.args.tried.now = c.deref.ensures.value ∙ c.in_ok-parts.ensures in
    subst (AreHoleRanges c.args.holes.now) (sym same) (open_fit c.args.pads.now c.args.holes.now c.requires.0 c.requires.1 c.args.tried.now c.requires.2 c.requires.3)

pub with_next-requires : goal.with_next-requires
with_next-requires c =
    let same : c.deref.result.now ≡ map open_part c.args.tried.now = c.deref.ensures.value ∙ c.in_ok-parts.ensures in
    let counted = c.in_ok-counts.ensures in
    ap (λ (ns : List ℕ). length ns) c.deref-2.ensures.value ∙ (counted.size ∙ (ap (λ (ss : List HoleRange). length ss) same ∙ length-map c.args.tried.now open_part))

pub returns : goal.returns
returns c =
    let same : c.deref.result.now ≡ map open_part c.args.tried.now = c.deref.ensures.value ∙ c.in_ok-parts.ensures in
    let counted = subst (λ (ns : List ℕ). AreCounted c.args.pads.now c.args.holes.now (map open_part c.args.tried.now) c.args.factor ns) (sym c.deref-2.ensures.value)
    (subst (λ (ss : List HoleRange). AreCounted c.args.pads.now c.args.holes.now ss c.args.factor c.in_ok-counts.counts.items) same c.in_ok-counts.ensures) in
    IfOk-weaker c.with_next.result
    (λ all. (pads : List WidePad) (holes : List Drilled) (ranges : List HoleRange) (earlier : List UnitFactor) → AreTried pads holes ranges earlier c.args.tried.now
    → AreCounted pads holes (map open_part c.args.tried.now) c.args.factor c.deref-2.result.now → AreTried pads holes ranges (earlier ++ c.args.factor ∷ []) all.items)
    (λ all. (ranges : List HoleRange) (earlier : List UnitFactor) → AreTried c.args.pads.now c.args.holes.now ranges earlier c.args.tried.now → AreTried c.args.pads.now c.args.holes.now ranges (earlier ++ c.args.factor ∷ []) all.items)
    (λ all is. λ ranges earlier are. is c.args.pads.now c.args.holes.now ranges earlier are counted) c.with_next.ensures
