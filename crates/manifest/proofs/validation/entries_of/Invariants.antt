use Rattle.manifest.proofs.Common.{◌≡◌, List, ℕ, map, take, [], contains_by, slice_cmp, nat_cmp, fields_of, violations, broken_after, entry_of, is_repeated}
use Rattle.manifest.proofs.validation.entries_of.Given as goal

abbrev pub invariant-loop-i : goal.invariant-loop-i
invariant-loop-i l = record {
  had : (name : List ℕ) → contains_by (λ k. slice_cmp nat_cmp name k.now) l.names ≡ is_repeated name (map entry_of (map fields_of (take l.i l.files)));
  named : l.entries.items ≡ map entry_of (map fields_of (take l.i l.files));
  lawful : violations (broken_after l.profile l.width) (map fields_of (take l.i l.files)) ≡ [];
}
