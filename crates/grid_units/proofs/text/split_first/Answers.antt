use Rattle.std.proofs.Common.{◌+◌, ℕ, List, ◌∷◌, take, sym, ap, ◌∙◌}
use Rattle.std.proofs.lemmas.List.{take_rest}
use Rattle.grid_units.specs.Rows.{split_by}
use Rattle.grid_units.proofs.SplitLemmas.{split_some, split_none}
use Rattle.grid_units.proofs.text.split_first.Goals as goal

pub returns-in-Some-clause-parts : goal.returns-in-Some-clause-parts
returns-in-Some-clause-parts c =
    split_some c.args.at c.args.text.now c.in-Some.i (sym c.in-Some.ensures) ∙ ap (λ (rest : List ℕ). take c.in-Some.i c.args.text.now ∷ split_by c.args.at rest) (sym (take_rest c.args.text.now (c.in-Some.i + 1)))

pub returns-in-None-clause-parts : goal.returns-in-None-clause-parts
returns-in-None-clause-parts c = split_none c.args.at c.args.text.now (sym c.in-None.ensures)
