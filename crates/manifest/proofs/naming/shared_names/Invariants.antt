use Rattle.manifest.proofs.Common.{◌≡◌, List, ℕ, nat_lt, contains_by, slice_cmp, nat_cmp}
use Rattle.manifest.proofs.SharedNames.{so_far}
use Rattle.manifest.proofs.naming.shared_names.Given as goal

abbrev pub invariant-loop-entry : goal.invariant-loop-entry
invariant-loop-entry l = record {
  met : (name : List ℕ) → contains_by (λ k. slice_cmp nat_cmp name k.now) l.seen ≡ nat_lt 0 (so_far l.entries l.entry-index name);
  twice : (name : List ℕ) → contains_by (λ k. slice_cmp nat_cmp name k.now) l.shared ≡ nat_lt 1 (so_far l.entries l.entry-index name);
}
