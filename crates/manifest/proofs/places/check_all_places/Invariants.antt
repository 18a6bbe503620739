use Rattle.manifest.proofs.Common.{◌≡◌, ◌++◌, take, drop, map, contains_by, nat_cmp, rank, place_checked_in}
use Rattle.manifest.proofs.places.check_all_places.Given as goal

abbrev pub invariant-loop-file : goal.invariant-loop-file
invariant-loop-file l = l.file-items ≡ map (λ p. place_checked_in (contains_by (nat_cmp (rank p.role)) l.shared) p) (take l.file-index l.initial.file-items) ++ drop l.file-index l.initial.file-items
