use Rattle.board_report.proofs.Common.{◌≡◌, ◌&&◌, ◌||◌, ◌++◌, ◌∷◌, [], ◌+◌, ◌-◌, ◌<◌, ℕ, cond, eqb, List, length, get_or, subst, sym, ap, ◌∙◌, arith, rules, filter, range_with_len, get_or_default, default_hole, Drilled, needs_ring, is_in_row, has_radius, is_not_empty, items_at, row_of}
use Rattle.board_report.proofs.TablesLemmas.{items_added, places_in_file, there_added}
use Rattle.board_report.proofs.rows.table_of.Goals as goal

pub loop-place-init : goal.loop-place-init
loop-place-init c =
    let none : c.args.file_holes.now.start - c.args.file_holes.now.start ≡ 0 = omega arith in
    record {
      items = λ radius. subst (λ (m : ℕ). items_at c.new-table.result radius ≡ filter (is_in_row c.args.board.now (row_of c.args.file_holes.now radius)) (range_with_len c.args.file_holes.now.start m)) (sym none) (search rules);
      there = λ radius. subst (λ (m : ℕ). has_radius c.new-table.result radius ≡ is_not_empty (filter (is_in_row c.args.board.now (row_of c.args.file_holes.now radius)) (range_with_len c.args.file_holes.now.start m))) (sym none) (search rules);
    }

pub loop-place-preserved : goal.loop-place-preserved
loop-place-preserved c =
    let start = c.args.file_holes.now.start in
    let place = c.loop-place.place in
    let layer = c.args.file_holes.now.layer in
    let n = place - start in
    let low = c.loop-place.auto.place in
    let here : start + n ≡ place = omega (arith, low) in
    let more : place + 1 - start ≡ n + 1 = omega (arith, low) in
    let inside = c.requires.inside in
    let listed : place < length c.holes-holes.result.now = subst (λ (hs : List Drilled). place < length hs) (sym c.holes-holes.ensures) (omega (arith, inside, c.loop-place-test.true)) in
    let is : c.index-holes-place.result ≡ get_or c.args.board.now.holes place default_hole = c.index-holes-place.is ∙ (get_or_default c.holes-holes.result.now place c.index-holes-place.result default_hole listed ∙ ap (λ (hs : List Drilled). get_or hs place default_hole) c.holes-holes.ensures) in
    record {
      items = λ radius.
          let old = items_at c.loop-place.table radius in
          subst (λ (m : ℕ). items_at c.push_needed.new.table radius ≡ filter (is_in_row c.args.board.now (row_of c.args.file_holes.now radius)) (range_with_len start m)) (sym more)
          (items_added (is_in_row c.args.board.now (row_of c.args.file_holes.now radius)) start n place here old (items_at c.push_needed.new.table radius) (c.loop-place.invariant.items radius)
          (c.in_ok-push_needed.ensures.items radius ∙ ap (λ (d : Drilled). cond (needs_ring layer d && eqb d.hole.radius radius) (old ++ place ∷ []) old) is));
      there = λ radius.
          let old = has_radius c.loop-place.table radius in
          subst (λ (m : ℕ). has_radius c.push_needed.new.table radius ≡ is_not_empty (filter (is_in_row c.args.board.now (row_of c.args.file_holes.now radius)) (range_with_len start m))) (sym more)
          (there_added (is_in_row c.args.board.now (row_of c.args.file_holes.now radius)) start n place here old (has_radius c.push_needed.new.table radius) (c.loop-place.invariant.there radius)
          (c.in_ok-push_needed.ensures.there radius ∙ ap (λ (d : Drilled). (needs_ring layer d && eqb d.hole.radius radius) || old) is));
    }

pub returns : goal.returns
returns c =
    let start = c.args.file_holes.now.start in
    let ordered = c.requires.ordered in
    let last = c.loop-place.auto.place-end ordered in
    let ended : c.loop-place.place - start ≡ c.args.file_holes.now.end - start = omega (arith, last, c.loop-place-test.false) in
    record {
      items = λ radius.
          let p = is_in_row c.args.board.now (row_of c.args.file_holes.now radius) in
          c.loop-place.invariant.items radius ∙ (ap (λ (m : ℕ). filter p (range_with_len start m)) ended ∙ sym (places_in_file c.args.board.now c.args.file_holes.now radius c.requires));
      there = λ radius.
          let p = is_in_row c.args.board.now (row_of c.args.file_holes.now radius) in
          c.loop-place.invariant.there radius ∙ ap is_not_empty (ap (λ (m : ℕ). filter p (range_with_len start m)) ended ∙ sym (places_in_file c.args.board.now c.args.file_holes.now radius c.requires));
    }
