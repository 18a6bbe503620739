use Rattle.ringcheck.proofs.Common.{◌≡◌, ◌∙◌, ◌++◌, ◌∷◌, [], ap, refl, map, List, ℕ, flat_map, flat_map_more, indented_row}
use Rattle.std.specs.Borrow.{Bor}
use Rattle.std.proofs.Output.{has_written_append, has_written_of_eq}
use Rattle.std.proofs.lemmas.Iterator.Consumers.{YieldsList-end}
use Rattle.std.proofs.lemmas.Iterator.Splits.{YieldsList-from_lines}
use Rattle.ringcheck.proofs.refusals.IndentedDisplay.fmt.Goals as goal

-- the rows of texts that are lent
rows_of_lent : (rows : List (Bor (List ℕ))) → flat_map (λ (r : Bor (List ℕ)). indented_row r.now) rows ≡ flat_map indented_row (map (λ (r : Bor (List ℕ)). r.now) rows)
rows_of_lent [] = refl
rows_of_lent (r ∷ rs) = ap (λ (t : List ℕ). indented_row r.now ++ t) (rows_of_lent rs)

pub loop-row-preserved : goal.loop-row-preserved
loop-row-preserved g c = λ plain.
    let before = c.loop-row.invariant plain in
    has_written_of_eq _ _ _ _ _ (flat_map_more (λ (r : Bor (List ℕ)). indented_row r.now) [] c.loop-row.yielded c.in-Some.row)
    (has_written_append _ _ _ _ _ _ before (c.in_ok-write.ensures.writes before.plain refl))

pub returns-clause-writes : goal.returns-clause-writes
returns-clause-writes g c = λ plain ok.
    let all = YieldsList-end (YieldsList-from_lines c.args.self.now.0.now cc) c.loop-row.yielded _ c.loop-row.yielded_by _ _ c.in-None.is c.next.ensures.steps in
    has_written_of_eq _ _ _ _ _ (rows_of_lent c.loop-row.yielded ∙ ap (flat_map indented_row) all.0) (c.loop-row.invariant plain)
