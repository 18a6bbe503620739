use Rattle.report.proofs.Common.{◌≡◌, List, length, map, ap, sym, subst, ◌∙◌, length-map, factors, AreHoleRanges, AreSuspects, AreTried, HoleRange, Tried, Suspect}
use Rattle.report.proofs.UnitMistakeLemmas.{ranges_fit, told_by}
use Rattle.report.proofs.mistakes.unit_mistakes.Goals as goal

pub suspects_of-requires-clause-size : goal.suspects_of-requires-clause-size
suspects_of-requires-clause-size c = (let told = told_by c.args.pads.now c.args.holes.now c.args.bests.now c.deref.result.now (c.deref.ensures.value ∙ c.in_ok-bare.ensures) c.requires.bests in told.size)

pub try_factors-requires : goal.try_factors-requires
try_factors-requires c =
    let suspects = c.in_ok-suspects.suspects.items in
    let are = c.in_ok-suspects.ensures c.args.pads.now (told_by c.args.pads.now c.args.holes.now c.args.bests.now c.deref.result.now (c.deref.ensures.value ∙ c.in_ok-bare.ensures) c.requires.bests) in
    let same : c.deref-3.result.now ≡ map (λ (d : Suspect). d.range) c.in_ok-suspects.suspects.items =
    c.deref-3.ensures.value ∙ (c.in_ok-ranges.ensures ∙ ap (map (λ (d : Suspect). d.range)) c.deref-2.ensures.value) in
    subst (AreHoleRanges c.args.holes.now) (sym same) (ranges_fit c.args.pads.now c.args.holes.now c.args.files.now suspects are)

pub lines_by-requires-clause-suspects : goal.lines_by-requires-clause-suspects
lines_by-requires-clause-suspects c =
    let are = c.in_ok-suspects.ensures c.args.pads.now (told_by c.args.pads.now c.args.holes.now c.args.bests.now c.deref.result.now (c.deref.ensures.value ∙ c.in_ok-bare.ensures) c.requires.bests) in
    ap (λ (ds : List Suspect). length ds) c.deref-4.ensures.value ∙ are.size

pub lines_by-requires-clause-tried : goal.lines_by-requires-clause-tried
lines_by-requires-clause-tried c =
    let are = c.in_ok-suspects.ensures c.args.pads.now (told_by c.args.pads.now c.args.holes.now c.args.bests.now c.deref.result.now (c.deref.ensures.value ∙ c.in_ok-bare.ensures) c.requires.bests) in
    let tried = c.in_ok-tried.ensures in
    let same : c.deref-3.result.now ≡ map (λ (d : Suspect). d.range) c.in_ok-suspects.suspects.items =
    c.deref-3.ensures.value ∙ (c.in_ok-ranges.ensures ∙ ap (map (λ (d : Suspect). d.range)) c.deref-2.ensures.value) in
    ap (λ (ts : List Tried). length ts) c.deref-5.ensures.value
    ∙ (tried.size ∙ (ap (λ (ss : List HoleRange). length ss) same ∙ (length-map c.in_ok-suspects.suspects.items (λ (d : Suspect). d.range) ∙ are.size)))

pub returns : goal.returns
returns c =
    let are = c.in_ok-suspects.ensures c.args.pads.now (told_by c.args.pads.now c.args.holes.now c.args.bests.now c.deref.result.now (c.deref.ensures.value ∙ c.in_ok-bare.ensures) c.requires.bests) in
    let pads = c.args.pads.now in
    let holes = c.args.holes.now in
    let same : c.deref-3.result.now ≡ map (λ (d : Suspect). d.range) c.deref-4.result.now =
    c.deref-3.ensures.value ∙ (c.in_ok-ranges.ensures ∙ ap (map (λ (d : Suspect). d.range)) (c.deref-2.ensures.value ∙ sym c.deref-4.ensures.value)) in
    c.lines_by.ensures pads holes (subst (AreSuspects pads holes c.args.files.now) (sym c.deref-4.ensures.value) are)
    (subst (AreTried pads holes (map (λ (d : Suspect). d.range) c.deref-4.result.now) factors) (sym c.deref-5.ensures.value)
    (subst (λ (ss : List HoleRange). AreTried pads holes ss factors c.in_ok-tried.tried.items) same c.in_ok-tried.ensures))
