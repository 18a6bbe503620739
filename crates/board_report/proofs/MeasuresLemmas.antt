-- A package passes under just the rules that it meets.
use Rattle.board_report.proofs.Common.{◌≡◌, ◌++◌, List, [], ◌∷◌, refl, sym, ap, ◌∙◌, Profile, wide_pad_covers, GapsPass, GapsPassExactly, RingsPass, RingsPassExactly, BoardView, BoardPasses, IsMeasure}
use Rattle.ring_rules.specs.Findings.{ring_findings, gap_findings}
use Rattle.board.specs.declared.met.Met.{Met}
use Rattle.report.specs.declared.Measure.{Measure}
use Rattle.grid_units.proofs.ListLemmas.{append_nil_left, append_nil_right}

neither : {X : Type 0} (xs ys : List X) → xs ≡ [] → ys ≡ [] → xs ++ ys ≡ []
neither [] ys e k = k
neither (x ∷ xs) ys e k = absurd cc

-- a board passes where its rings and its gaps pass
pub board_passes : (profile : Profile) (board : BoardView) (ring gap : Met) → RingsPass wide_pad_covers profile board.layers board.holes ring → GapsPass board.holes gap → BoardPasses profile board ring gap
board_passes profile board ring gap rings gaps rules same =
    let found = ring_findings wide_pad_covers rules.profile rules.ring board.layers board.holes in
    let near = gap_findings rules.gap board.holes in
    let in_profile = λ (p : Profile). ring_findings wide_pad_covers p rules.ring board.layers board.holes in (
      λ none. ((rings rules.ring).0 (sym (ap in_profile same) ∙ append_nil_left found near none), (gaps rules.gap).0 (append_nil_right found near none)),
      λ allowed. neither found near (ap in_profile same ∙ (rings rules.ring).1 allowed.0) ((gaps rules.gap).1 allowed.1),
    )

-- the measure of a board is of the rules that it meets
pub measure_passes : RingsPassExactly wide_pad_covers → GapsPassExactly → (profile : Profile) (board : BoardView) (measure : Measure) → IsMeasure profile board measure → BoardPasses profile board measure.meets.ring measure.meets.gap
measure_passes rings gaps profile board measure h =
    board_passes profile board measure.meets.ring measure.meets.gap (rings profile board.layers board.holes measure.meets.ring h.rings) (gaps board.holes measure.meets.gap h.gaps)
