use Rattle.package_check.proofs.Common.{◌≡◌, ◌&&◌, nat_lt, count_by, is_copper, views_in, TakesThose, setting_of, is_kind_at, Profile}
use Rattle.package_check.proofs.package.take_kind.Given as goal

abbrev pub invariant-loop-index : goal.invariant-loop-index
invariant-loop-index g l = record {
  setting : setting_of l.reader ≡ setting_of l.initial.reader;
  takes : (profile : Profile) → setting_of l.initial.reader ≡ record { layers = count_by (λ file. is_copper (g.S.SourceFile.role_of file)) l.files; profile = profile }
      → TakesThose l.initial.reader l.reader (views_in g.S.SourceFile.seen g.S.SourceFile.role_of profile l.files) (λ i. nat_lt i l.index && is_kind_at l.fn.copper (views_in g.S.SourceFile.seen g.S.SourceFile.role_of profile l.files) i);
}
