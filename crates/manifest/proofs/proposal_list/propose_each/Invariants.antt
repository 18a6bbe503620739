use Rattle.manifest.proofs.Common.{◌≡◌, List, ℕ, take, contains_by, slice_cmp, nat_cmp, separate_proposals, is_named}
use Rattle.manifest.proofs.proposal_list.propose_each.Given as goal

abbrev pub invariant-loop-file : goal.invariant-loop-file
invariant-loop-file l = record {
  had : (name : List ℕ) → contains_by (λ k. slice_cmp nat_cmp name k.now) l.names ≡ is_named name (take l.file-index l.files);
  proposed : l.list.items ≡ separate_proposals l.profile (take l.file-index l.files);
}
