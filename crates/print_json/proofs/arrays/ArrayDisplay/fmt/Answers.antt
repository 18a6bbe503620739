use Rattle.print_json.proofs.Common.{◌++◌, ◌∷◌, ◌∙◌, [], ℕ, List, ap, arith, get_or, refl, take, has_written_append, has_written_of_eq, take_all, Json, null, value_text}
use Rattle.print_json.proofs.Lists.{array_text, joined, joined_more}
use Rattle.print_json.proofs.arrays.ArrayDisplay.fmt.Goals as goal

pub loop-place-preserved : goal.loop-place-preserved
loop-place-preserved g c = λ plain.
    let all = g.V.Values.values c.args.self.now.0.now in
    let before = c.loop-place.invariant plain in
    let comma = c.in_ok-write_str-2.ensures.writes before.plain refl in
    let value = c.in_ok-write_at.ensures comma.plain refl in
    has_written_of_eq _ _ _ _ _
    (ap (λ (t : List ℕ). joined (take c.loop-place.place all) ++ (t ++ value_text (get_or all c.loop-place.place null))) c.comma_before.ensures ∙ joined_more all c.loop-place.place (omega arith))
    (has_written_append _ _ _ _ _ _ before (has_written_append _ _ _ _ _ _ comma value))

pub returns-clause-writes : goal.returns-clause-writes
returns-clause-writes g c = λ plain ok.
    let all = g.V.Values.values c.args.self.now.0.now in
    let first = c.in_ok-write_str.ensures.writes plain refl in
    let items = c.loop-place.invariant first.plain in
    has_written_of_eq _ _ _ _ _
    (ap (λ (vs : List Json). 91 ∷ (joined vs ++ 93 ∷ [])) (take_all c.loop-place.place all (omega arith)) ∙ array_text all)
    (has_written_append _ _ _ _ _ _ first (has_written_append _ _ _ _ _ _ items (c.write_str-2.ensures.writes items.plain ok)))
