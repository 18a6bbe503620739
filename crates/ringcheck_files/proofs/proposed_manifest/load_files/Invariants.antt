use Rattle.ringcheck_files.proofs.Common.{◌≡◌, ◌↔◌, ℕ, List, length, take, HasAllLoaded, HasRisenBy, count_unread, loaded_files}
use Rattle.ringcheck_files.proofs.proposed_manifest.load_files.Given as goal

abbrev pub invariant-loop-name : goal.invariant-loop-name
invariant-loop-name g l = record {
  keeps : (n b : List ℕ) → g.L.Loader.has l.loader n b ↔ g.L.Loader.has l.fn.loader n b;
  many : length l.all.items ≡ l.name-index;
  counted : HasRisenBy (count_unread (loaded_files (take l.name-index l.names) l.all.items)) (g.L.Loader.failed l.fn.loader) (g.L.Loader.failed l.loader);
  loaded : HasAllLoaded (g.L.Loader.has l.fn.loader) (loaded_files (take l.name-index l.names) l.all.items);
}
