use Rattle.manifest.proofs.Common.{◌≡◌, ℕ, take, nat_lt, contains_by, nat_cmp, count_ranked}
use Rattle.manifest.proofs.places.shared_ranks.Given as goal

abbrev pub invariant-loop-file : goal.invariant-loop-file
invariant-loop-file l = record {
  met : (n : ℕ) → contains_by (nat_cmp n) l.seen ≡ nat_lt 0 (count_ranked (take l.file-index l.files) n);
  twice : (n : ℕ) → contains_by (nat_cmp n) l.shared ≡ nat_lt 1 (count_ranked (take l.file-index l.files) n);
}
