use Rattle.report.proofs.Common.{◌≡◌, ap, subst, sym, true, ◌∙◌, find, GridRounded, is_outline, is_in_shape, others, Other}
use Rattle.std.specs.List.Sorted.{IsPermutation}
use Rattle.report.proofs.HolePoints.{outline_of}
use Rattle.report.proofs.layer.CauseFinder.other_in.Goals as goal

pub first_in-requires-clause-outline : goal.first_in-requires-clause-outline
first_in-requires-clause-outline c = subst (λ (s : GridRounded). is_outline s.first s.others ≡ true) (sym c.in_ok-shape.ensures) (outline_of c.args.hole.now)

pub returns : goal.returns
returns c =
    let rows = c.args.rows.now in
    let known = subst (IsPermutation (others rows)) (sym c.deref.ensures.value) c.requires.others in
    c.first_in.ensures rows known ∙ ap (λ (s : GridRounded). find (λ (other : Other). is_in_shape s other.at) (others rows)) c.in_ok-shape.ensures
