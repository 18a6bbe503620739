use Rattle.picture.proofs.Common.{◌≡◌, rules, kind_of}
use Rattle.std.proofs.lemmas.Fn.{always_returns_same}
use Rattle.picture.proofs.scene.sorted_pads.Goals as goal

pub returns-clause-order : goal.returns-clause-order
returns-clause-order c = c.in_ok-sort_by_key.ensures.sorted kind_of (always_returns_same _ (λ a r. r ≡ kind_of a.0.now) _ (λ a r q k. search rules))
