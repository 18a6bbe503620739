use Rattle.board_report.proofs.Common.{◌≡◌, ◌∙◌, rules, sym, subst, w64, GridHole, hole_at}
use mir.Val.{to_z, of_z}
use Rattle.std.proofs.lemmas.Int.{to_z-of_z}
use Rattle.board.specs.Gaps.{IsGap}
use Rattle.board_report.proofs.gaps.gap_lack.Goals as goal

pub returns : goal.returns
returns c =
    let holes = c.args.board.now.holes in
    let gap : to_z w64 (of_z w64 c.gap_between-gap.result) ≡ c.gap_between-gap.result = search (rules, to_z-of_z) in
    let first : c.hole_at-first.result.hole ≡ hole_at holes c.args.first = c.hole_at-first.ensures.hole in
    let second : c.hole_at-second.result.hole ≡ hole_at holes c.args.second = c.hole_at-second.ensures.hole in
    record {
      first_at = c.hole_at-first.ensures;
      second_at = c.hole_at-second.ensures;
      gap = subst (IsGap (hole_at holes c.args.first) (hole_at holes c.args.second)) (sym gap)
          (subst (λ (h : GridHole). IsGap h (hole_at holes c.args.second) c.gap_between-gap.result) first (subst (λ (h : GridHole). IsGap c.hole_at-first.result.hole h c.gap_between-gap.result) second c.gap_between-gap.ensures.exact));
      lack = search (rules, to_z-of_z);
    }
