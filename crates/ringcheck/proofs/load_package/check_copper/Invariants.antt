use Rattle.ringcheck.proofs.Common.{◌≡◌, ◌≤◌, ◌↔◌, ℕ, List, take, count_by, setting_of, is_copper, LoadsCopperTo}
use Rattle.ringcheck.proofs.load_package.check_copper.Given as goal

abbrev pub invariant-loop-index : goal.invariant-loop-index
invariant-loop-index g l = record {
  keeps : (n b : List ℕ) → g.L.Loader.has l.loader n b ↔ g.L.Loader.has l.initial.loader n b;
  counted : g.L.Loader.failed l.initial.loader ≤ g.L.Loader.failed l.loader;
  setting : setting_of l.check ≡ setting_of l.initial.check;
  number : l.layer ≡ count_by (λ entry. is_copper entry.role) (take l.index l.entries);
  few : l.layer ≤ l.index;
  loaded : LoadsCopperTo (g.L.Loader.has l.initial.loader) l.entries l.initial.check l.check l.initial.digests l.digests l.index;
}
