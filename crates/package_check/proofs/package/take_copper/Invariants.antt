use Rattle.package_check.proofs.Common.{◌≡◌, ◌≤◌, ◌&&◌, nat_lt, count_by, is_copper, JudgesThose, layer_number, is_kind_at, views_in}
use Rattle.std.specs.Prelude.{true}
use Rattle.package_check.specs.CheckViews.{setting_of}
use Rattle.package_check.proofs.package.take_copper.Given as goal

abbrev pub invariant-loop-index : goal.invariant-loop-index
invariant-loop-index g l = record {
  setting : setting_of l.check ≡ setting_of l.initial.check;
  number : l.layer ≡ layer_number (views_in g.S.SourceFile.seen g.S.SourceFile.role_of l.initial.check.rules.profile l.files) l.index;
  few : l.layer ≤ l.index;
  takes : l.initial.check.layers ≡ count_by (λ file. is_copper (g.S.SourceFile.role_of file)) l.files
      → JudgesThose l.initial.check l.check (views_in g.S.SourceFile.seen g.S.SourceFile.role_of l.initial.check.rules.profile l.files) (λ i. nat_lt i l.index && is_kind_at true (views_in g.S.SourceFile.seen g.S.SourceFile.role_of l.initial.check.rules.profile l.files) i);
}
