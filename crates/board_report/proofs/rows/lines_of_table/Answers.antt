use Rattle.board_report.proofs.Common.{◌≡◌, ◌+◌, ◌<◌, ◌≤◌, ◌∷◌, [], ℕ, List, length, get_or, drop, subst, sym, ap, ◌∙◌, arith, Vec, All, keys, values, length-append, length-map}
use Rattle.std.specs.Map.Iter.{deref}
use Rattle.std.proofs.lemmas.Map.Iter.{rest_more, rest_all}
use Rattle.board_report.proofs.RowLinesLemmas.{all_lined, all_taken, entry_next, lines_more}
use Rattle.board_report.proofs.TablesLemmas.{places_inside}
use Rattle.board_report.proofs.rows.lines_of_table.Goals as goal

pub row_line-requires-clause-some : goal.row_line-requires-clause-some
row_line-requires-clause-some c =
    let left = sym c.loop-places.invariant.left ∙ rest_more deref c.loop-places.places-iterator c.next.new.self c.next.result c.in-Some.places c.in-Some.is c.next.ensures.steps in
    let e = entry_next c.args.profile c.args.board.now c.args.file_holes.now c.args.table.now c.requires.table c.values-places-items.ensures.ordered c.next.new.self (length c.loop-places.lines.items) c.in-Some.places.now left in
    subst (λ (xs : List ℕ). 0 < length xs) (sym c.deref.ensures.value) (e.2 0).1

pub row_line-requires-clause-inside : goal.row_line-requires-clause-inside
row_line-requires-clause-inside c =
    let left = sym c.loop-places.invariant.left ∙ rest_more deref c.loop-places.places-iterator c.next.new.self c.next.result c.in-Some.places c.in-Some.is c.next.ensures.steps in
    let e = entry_next c.args.profile c.args.board.now c.args.file_holes.now c.args.table.now c.requires.table c.values-places-items.ensures.ordered c.next.new.self (length c.loop-places.lines.items) c.in-Some.places.now left in
    subst (All (λ place. (c.args.file_holes.now.start ≤ place) × (place < c.args.file_holes.now.end))) (sym (c.deref.ensures.value ∙ (e.2 0).0))
    (places_inside c.args.board.now c.args.file_holes.now (get_or (keys c.args.table.now) (length c.loop-places.lines.items) 0) c.requires.file_holes)

pub loop-places-preserved : goal.loop-places-preserved
loop-places-preserved c =
    let n = length c.loop-places.lines.items in
    let left = sym c.loop-places.invariant.left ∙ rest_more deref c.loop-places.places-iterator c.next.new.self c.next.result c.in-Some.places c.in-Some.is c.next.ensures.steps in
    let e = entry_next c.args.profile c.args.board.now c.args.file_holes.now c.args.table.now c.requires.table c.values-places-items.ensures.ordered c.next.new.self n c.in-Some.places.now left in
    let count : length c.push.new.self.items ≡ n + 1 = ap length c.in_ok-push.ensures.items ∙ length-append c.loop-places.lines.items (c.row_line.result ∷ []) in
    record {
      size = omega (arith, e.0, count);
      left = e.1 ∙ ap (λ (m : ℕ). drop m (values c.args.table.now)) (sym count);
      lines = lines_more c.args.profile c.args.board.now c.args.file_holes.now (keys c.args.table.now) c.loop-places.lines.items c.push.new.self.items c.row_line.result c.in_ok-push.ensures.items
          (λ k. c.row_line.ensures (get_or (keys c.args.table.now) n k) (c.deref.ensures.value ∙ (e.2 k).0)) c.loop-places.invariant.lines;
    }

pub returns : goal.returns
returns c =
    let none = sym c.loop-places.invariant.left ∙ rest_all deref c.loop-places.places-iterator c.next.new.self c.next.result c.in-None.is c.next.ensures.steps in
    let past = all_taken (values c.args.table.now) (length c.loop-places.lines.items) none in
    let whole = length-map c.args.table.now.entries (λ (x : ℕ × Vec ℕ). x.1) in
    let few = c.loop-places.invariant.size in
    all_lined c.args.profile c.args.board.now c.args.file_holes.now c.args.table.now c.requires.table c.values-places-items.ensures.ordered c.loop-places.lines.items (omega (arith, past, whole, few)) c.loop-places.invariant.lines
