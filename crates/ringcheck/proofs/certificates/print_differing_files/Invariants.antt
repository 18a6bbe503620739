use Rattle.ringcheck.proofs.Common.{◌≤◌, ℕ, List, AllByRecursion, map}
use Rattle.std.specs.Prelude.{string_bytes}
use Rattle.ringcheck.specs.CertificateStatus.{IsOtherAt}
use Rattle.ringcheck.specs.Inner.Certificates.{ListsOthers}
use Rattle.ringcheck.proofs.certificates.print_differing_files.Given as goal

abbrev pub invariant-loop-index : goal.invariant-loop-index
invariant-loop-index g l = record {
  keeps : (n b : List ℕ) → g.L.Loader.has l.loader n b → g.L.Loader.has l.initial.loader n b;
  counted : g.L.Loader.failed l.initial.loader ≤ g.L.Loader.failed l.loader;
  lines : ListsOthers (AllByRecursion (IsOtherAt (g.L.Loader.has l.initial.loader) (map string_bytes l.written) l.entries)) (g.W.Write.contents l.initial.out) (g.W.Write.contents l.out) l.any;
}
