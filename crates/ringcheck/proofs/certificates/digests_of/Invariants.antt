use Rattle.ringcheck.proofs.Common.{◌≡◌, map, take}
use Rattle.std.specs.List.{zip}
use Rattle.print_json.specs.Certificates.{digest_of}
use Rattle.ringcheck.proofs.certificates.digests_of.Given as goal

abbrev pub invariant-loop-index : goal.invariant-loop-index
invariant-loop-index l = record {
  so_far : map digest_of l.subjects.items ≡ zip (map (λ entry. entry.file) (take l.index l.entries)) l.digests;
}
