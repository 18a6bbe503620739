use Rattle.print_text.proofs.Common.{◌∙◌, ◌+◌, ◌++◌, ℕ, List, Option, ap, ap₂, map, refl, sym, take, Bor, enumerate_from, has_written_append, has_written_of_eq, GapLack, gap_lines, gap_line}
use Rattle.print_text.proofs.Showing.{gap_added, gap_left_out, marks_all}
use Rattle.print_text.proofs.report_text.write_gaps.Goals as goal

pub loop-i-preserved-then-not-is_shown : goal.loop-i-preserved-then-not-is_shown
loop-i-preserved-then-not-is_shown g c = λ plain.
    let text = c.args.text.now in
    let names : List (List ℕ) = map (λ name. name.now) text.names.now in
    let off = sym c.is_shown.ensures ∙ c.if-not-is_shown.true in
    has_written_of_eq _ _ _ _ _ (sym (gap_left_out names text.rules.now text.accepted.now text.limit text.rings text.gaps.now c.loop-i.i c.index-gaps-i.result c.loop-i-test.true off)) (c.loop-i.invariant plain)

pub loop-i-preserved : goal.loop-i-preserved
loop-i-preserved g c = λ plain.
    let text = c.args.text.now in
    let i = c.loop-i.i in
    let names : List (List ℕ) = map (λ name. name.now) text.names.now in
    let before = c.loop-i.invariant plain in
    let on = sym c.is_shown.ensures ∙ c.if-not-is_shown.false in
    let written = gap_lines names text.rules.now text.accepted.now text.limit text.rings (take i (enumerate_from text.rings text.gaps.now)) in
    has_written_of_eq _ _ _ _ _
    (ap₂ (λ (lack : GapLack) (why : Option (Bor (List ℕ))). written ++ gap_line names text.rules.now (text.rings + i + 1) lack why) c.index-gaps-i.is c.acceptance_of-why.ensures
    ∙ sym (gap_added names text.rules.now text.accepted.now text.limit text.rings text.gaps.now i c.index-gaps-i.result c.loop-i-test.true on))
    (has_written_append _ _ _ _ _ _ before (c.in_ok-write.ensures.writes before.plain refl))

pub returns : goal.returns
returns g c = λ plain ok.
    let text = c.args.text.now in
    let names : List (List ℕ) = map (λ name. name.now) text.names.now in
    has_written_of_eq _ _ _ _ _ (ap (gap_lines names text.rules.now text.accepted.now text.limit text.rings) (marks_all text.rings text.gaps.now c.loop-i.i c.loop-i-test.false)) (c.loop-i.invariant plain)
