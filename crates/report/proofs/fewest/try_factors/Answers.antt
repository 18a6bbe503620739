use Rattle.report.proofs.Common.{ℕ, List, [], ◌∷◌, ◌++◌, length, ap, sym, subst, ◌∙◌, IfOk-weaker, factors, UnitFactor, HoleRange, AreCounted, AreTried}
use Rattle.report.specs.declared.UnitFactor.TheVariants as kind
use Rattle.report.proofs.fewest.try_factors.Goals as goal

pub with_first-requires : goal.with_first-requires
with_first-requires c = ap (λ (ns : List ℕ). length ns) c.deref.ensures.value ∙ c.in_ok-counts.ensures.size

pub try_next-requires : goal.try_next-requires
try_next-requires c =
    let pads = c.args.pads.now in
    let holes = c.args.holes.now in
    let ranges = c.args.ranges.now in
    let counted = subst (AreCounted pads holes ranges kind.Ten) (sym c.deref.ensures.value) c.in_ok-counts.ensures in
    let ten = subst (AreTried pads holes ranges (kind.Ten ∷ [])) (sym c.deref-2.ensures.value) (c.in_ok-ten.ensures pads holes counted) in
    (ranges, kind.Ten ∷ [], c.requires, ten)

pub try_next-requires-2 : goal.try_next-requires-2
try_next-requires-2 c =
    let pads = c.args.pads.now in
    let holes = c.args.holes.now in
    let ranges = c.args.ranges.now in
    let counted = subst (AreCounted pads holes ranges kind.Ten) (sym c.deref.ensures.value) c.in_ok-counts.ensures in
    let ten = subst (AreTried pads holes ranges (kind.Ten ∷ [])) (sym c.deref-2.ensures.value) (c.in_ok-ten.ensures pads holes counted) in
    let tenth = subst (AreTried pads holes ranges (kind.Ten ∷ kind.Tenth ∷ [])) (sym c.deref-3.ensures.value) (c.in_ok-tenth.ensures ranges (kind.Ten ∷ []) ten) in
    (ranges, kind.Ten ∷ kind.Tenth ∷ [], c.requires, tenth)

pub try_next-requires-3 : goal.try_next-requires-3
try_next-requires-3 c =
    let pads = c.args.pads.now in
    let holes = c.args.holes.now in
    let ranges = c.args.ranges.now in
    let counted = subst (AreCounted pads holes ranges kind.Ten) (sym c.deref.ensures.value) c.in_ok-counts.ensures in
    let ten = subst (AreTried pads holes ranges (kind.Ten ∷ [])) (sym c.deref-2.ensures.value) (c.in_ok-ten.ensures pads holes counted) in
    let tenth = subst (AreTried pads holes ranges (kind.Ten ∷ kind.Tenth ∷ [])) (sym c.deref-3.ensures.value) (c.in_ok-tenth.ensures ranges (kind.Ten ∷ []) ten) in
    let inch = subst (AreTried pads holes ranges (kind.Ten ∷ kind.Tenth ∷ kind.Inch ∷ [])) (sym c.deref-4.ensures.value) (c.in_ok-inch.ensures ranges (kind.Ten ∷ kind.Tenth ∷ []) tenth) in
    (ranges, kind.Ten ∷ kind.Tenth ∷ kind.Inch ∷ [], c.requires, inch)

pub returns : goal.returns
returns c =
    let pads = c.args.pads.now in
    let holes = c.args.holes.now in
    let ranges = c.args.ranges.now in
    let counted = subst (AreCounted pads holes ranges kind.Ten) (sym c.deref.ensures.value) c.in_ok-counts.ensures in
    let ten = subst (AreTried pads holes ranges (kind.Ten ∷ [])) (sym c.deref-2.ensures.value) (c.in_ok-ten.ensures pads holes counted) in
    let tenth = subst (AreTried pads holes ranges (kind.Ten ∷ kind.Tenth ∷ [])) (sym c.deref-3.ensures.value) (c.in_ok-tenth.ensures ranges (kind.Ten ∷ []) ten) in
    let inch = subst (AreTried pads holes ranges (kind.Ten ∷ kind.Tenth ∷ kind.Inch ∷ [])) (sym c.deref-4.ensures.value) (c.in_ok-inch.ensures ranges (kind.Ten ∷ kind.Tenth ∷ []) tenth) in
    IfOk-weaker c.try_next-3.result
    (λ all. (rs : List HoleRange) (earlier : List UnitFactor) → AreTried c.args.pads.now c.args.holes.now rs earlier c.deref-4.result.now → AreTried c.args.pads.now c.args.holes.now rs (earlier ++ kind.PerInch ∷ []) all.items)
    (λ all. AreTried c.args.pads.now c.args.holes.now c.args.ranges.now factors all.items)
    (λ all is. is ranges (kind.Ten ∷ kind.Tenth ∷ kind.Inch ∷ []) inch) c.try_next-3.ensures
