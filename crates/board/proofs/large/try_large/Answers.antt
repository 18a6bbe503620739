use Rattle.board.proofs.Common.{ℕ, ◌<◌, List, length, sym, subst, All, Contains}
use Rattle.std.proofs.lemmas.List.Sorted.{All-permutation, Contains-permutation}
use Rattle.board.proofs.large.try_large.Goals as goal

pub try_ordered-requires-clause-order : goal.try_ordered-requires-clause-order
try_ordered-requires-clause-order g c =
    subst (λ (xs : List ℕ). All (λ k. k < length c.args.pads.now) xs) (sym c.deref.ensures.value) (All-permutation (λ k. k < length c.args.pads.now) c.args.large.items c.in_ok-order.order.items c.in_ok-order.ensures c.requires.large)

pub returns-clause-below : goal.returns-clause-below
returns-clause-below g c = λ place among.
    c.in_ok-try_ordered.ensures.below place
    (subst (λ (xs : List ℕ). Contains xs place) (sym c.deref.ensures.value) (Contains-permutation c.args.large.items c.in_ok-order.order.items place c.in_ok-order.ensures among))
