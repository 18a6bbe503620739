use Rattle.manifest.proofs.Common.{◌≡◌, ◌++◌, take, map, Bor, flat_map, Proposal, entry_row}
use Rattle.manifest.proofs.manifests.manifest_text.Given as goal

abbrev pub invariant-loop-entry : goal.invariant-loop-entry
invariant-loop-entry l = l.table ≡ l.initial.table ++ flat_map (λ (entry : Bor Proposal). entry_row l.spans (map (λ (e : Bor Proposal). e.now) l.entries) entry.now) (take l.entry-index l.entries)
