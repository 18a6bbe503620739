use Rattle.board_report.proofs.Common.{◌≡◌, ◌<◌, ◌*◌, pos, ℕ, List, length, get_or, subst, sym, ap, ◌∙◌, arith, rules, Drilled, row_of, get_or_default, hole_at, default_hole}
use Rattle.board.specs.Rows.{IsRingRow}
use Rattle.board_report.proofs.RowLinesLemmas.{doubled, least_inside, least_is_numbered, radius_of}
use Rattle.board_report.proofs.rows.row_line.Goals as goal

pub ring_row-row-requires-clause-chosen : goal.ring_row-row-requires-clause-chosen
ring_row-row-requires-clause-chosen c = λ k d l.
    let at = c.requires.inside k d l in
    let inside = c.requires.file_holes.inside in
    subst (λ (hs : List Drilled). get_or c.args.places.now k d < length hs) (sym c.holes-holes.ensures) (omega (arith, at.1, inside))

pub numbered_least-requires : goal.numbered_least-requires
numbered_least-requires c = λ least e.
    let on_board : IsRingRow c.args.profile c.args.bests.now c.args.board.now.holes c.args.places.now c.ring_row-row.result = subst (λ (hs : List Drilled). IsRingRow c.args.profile c.args.bests.now hs c.args.places.now c.ring_row-row.result) c.holes-holes.ensures c.ring_row-row.ensures in
    let at = least_inside c.args.profile c.args.bests.now c.args.board.now.holes c.args.places.now c.ring_row-row.result c.args.file_holes.now.start c.args.file_holes.now.end on_board c.requires.inside least e in
    let far = at.1 in
    (at.0, omega (arith, far))

pub returns : goal.returns
returns c = λ radius is.
    let first : ℕ = get_or c.args.places.now 0 0 in
    let at = c.requires.inside 0 0 c.requires.some in
    let inside = c.requires.file_holes.inside in
    let listed : get_or c.args.places.now 0 0 < length c.holes-holes.result.now = subst (λ (hs : List Drilled). get_or c.args.places.now 0 0 < length hs) (sym c.holes-holes.ensures) (omega (arith, at.1, inside)) in
    let listed_at : Drilled = get_or c.holes-holes.result.now first c.index-holes-places.result in
    let read : get_or c.holes-holes.result.now first c.index-holes-places.result ≡ get_or c.args.board.now.holes first default_hole = get_or_default c.holes-holes.result.now first c.index-holes-places.result default_hole listed ∙ ap (λ (hs : List Drilled). get_or hs first default_hole) c.holes-holes.ensures in
    let reach : (get_or c.holes-holes.result.now (get_or c.args.places.now 0 0) c.index-holes-places.result).hole.radius ≡ radius =
    ap (λ (d : Drilled). d.hole.radius) read ∙ (ap (λ (ps : List ℕ). (hole_at c.args.board.now.holes (get_or ps 0 0)).radius) is ∙ radius_of c.args.board.now (row_of c.args.file_holes.now radius) 0 (subst (λ (ps : List ℕ). 0 < length ps) is c.requires.some)) in
    let on_board : IsRingRow c.args.profile c.args.bests.now c.args.board.now.holes c.args.places.now c.ring_row-row.result = subst (λ (hs : List Drilled). IsRingRow c.args.profile c.args.bests.now hs c.args.places.now c.ring_row-row.result) c.holes-holes.ensures c.ring_row-row.ensures in
    record {
      bests = c.args.bests.now;
      best = c.requires.bests;
      row = c.ring_row-row.result;
      is = subst (λ (places : List ℕ). IsRingRow c.args.profile c.args.bests.now c.args.board.now.holes places c.ring_row-row.result) is on_board;
      layer = search rules;
      drill = search rules;
      diameter = doubled c.radius.result listed_at.hole.radius c.radius.ensures.value c.radius.ensures.in_range.1 ∙ ap (λ (n : ℕ). pos (2 * n)) reach;
      holes = search rules;
      bare = search rules;
      least = least_is_numbered c.args.board.now.files c.args.file_holes.now.drill c.args.file_holes.now.start c.args.file_holes.now.end c.ring_row-row.result.least c.numbered_least.result c.requires.file_holes.starts c.requires.file_holes.ends
          (least_inside c.args.profile c.args.bests.now c.args.board.now.holes c.args.places.now c.ring_row-row.result c.args.file_holes.now.start c.args.file_holes.now.end on_board c.requires.inside) c.numbered_least.ensures;
    }
