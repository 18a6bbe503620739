use Rattle.manifest.proofs.Common.{◌≡◌, rules, tests, IsNonDecreasingBy-from_sort_by_key}
use Rattle.std.proofs.lemmas.Fn.{always_returns_same}
use Rattle.manifest.proofs.SortLemmas.{is_in_order, key}
use Rattle.manifest.proofs.order.in_manifest_order.Goals as goal

pub returns : goal.returns
returns c =
    is_in_order c.in_ok-entries.entries.items c.sort_by_key.new.self.items _ c.in_ok-entries.ensures c.in_ok-sort_by_key.ensures.permutation
    (IsNonDecreasingBy-from_sort_by_key key _ c.in_ok-sort_by_key.ensures.sorted (λ a r q k. search (rules, tests)))
    (c.in_ok-sort_by_key.ensures.stable key (always_returns_same _ (λ a r. r ≡ key a.0.now) _ (λ a r q k. search (rules, tests))))
