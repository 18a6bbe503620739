use Rattle.ringcheck.proofs.Common.{◌≡◌, ◌≤◌, ◌↔◌, ℕ, List, LoadsKind}
use Rattle.package_check.specs.Holding.{setting_of}
use Rattle.ringcheck.proofs.load_package.take_kind.Given as goal

abbrev pub invariant-loop-index : goal.invariant-loop-index
invariant-loop-index g l = record {
  keeps : (n b : List ℕ) → g.L.Loader.has l.loader n b ↔ g.L.Loader.has l.initial.loader n b;
  counted : g.L.Loader.failed l.initial.loader ≤ g.L.Loader.failed l.loader;
  setting : setting_of l.reader ≡ setting_of l.initial.reader;
  loaded : LoadsKind (g.L.Loader.has l.initial.loader) l.entries l.initial.reader l.reader l.initial.digests l.digests l.fn.copper l.index;
}
