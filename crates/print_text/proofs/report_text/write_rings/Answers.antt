use Rattle.print_text.proofs.Common.{◌∙◌, ◌+◌, ◌++◌, ◌<◌, ℕ, Bool, List, Option, ap, ap₂, arith, length, map, refl, rules, sym, take, ◌==◌, ◌&&◌, Bor, enumerate_from, filter, flat_map, has_written_append, has_written_of_eq, RingLack, ring_lines, is_shown, number_of, ring_line, acceptance_at}
use Rattle.grid_units.specs.Holes.{GridRules}
use Rattle.print_text.proofs.Showing.{ring_added, ring_left_out}
use Rattle.print_text.proofs.RunLemmas.{all_after, none_before}
use Rattle.print_text.proofs.report_text.write_rings.Goals as goal

-- the lines of those that are shown
abbrev shown : List (List ℕ) → GridRules → List (Option (Bor (List ℕ))) → Option ℕ → List (ℕ × RingLack) → List ℕ
shown names rules accepted limit findings = flat_map (λ finding. ring_line names rules (number_of finding.0) finding.1 (acceptance_at accepted finding.0)) (filter (λ finding. is_shown limit finding.0) findings)

pub loop-i-init : goal.loop-i-init
loop-i-init g c = λ plain.
    let page = c.args.page.now in
    let names : List (List ℕ) = map (λ name. name.now) page.names.now in
    has_written_of_eq _ _ _ _ _ (sym (ap (shown names page.rules.now page.accepted.now page.limit) (none_before page.rings.now c.args.run.layer c.args.run c.requires))) (search rules)

pub loop-i-preserved-then-not-is_on : goal.loop-i-preserved-then-not-is_on
loop-i-preserved-then-not-is_on g c = λ plain.
    let page = c.args.page.now in
    let i = c.loop-i.i in
    let layer = c.args.run.layer in
    let names : List (List ℕ) = map (λ name. name.now) page.names.now in
    let within : i < length page.rings.now = omega (arith, c.loop-i-test.true, c.requires.inside) in
    let shown_on = ap (λ (lack : RingLack). (lack.layer == layer) && is_shown page.limit i) (sym c.index-rings-i.is) ∙ sym (c.is_on.ensures ∙ ap (λ (shown : Bool). (c.index-rings-i.result.layer == layer) && shown) c.is_shown.ensures) in
    has_written_of_eq _ _ _ _ _ (sym (ring_left_out names page.rules.now page.accepted.now page.limit layer page.rings.now i c.index-rings-i.result within (shown_on ∙ c.if-not-is_on.true))) (c.loop-i.invariant plain)

pub loop-i-preserved : goal.loop-i-preserved
loop-i-preserved g c = λ plain.
    let page = c.args.page.now in
    let i = c.loop-i.i in
    let layer = c.args.run.layer in
    let names : List (List ℕ) = map (λ name. name.now) page.names.now in
    let within : i < length page.rings.now = omega (arith, c.loop-i-test.true, c.requires.inside) in
    let shown_on = ap (λ (lack : RingLack). (lack.layer == layer) && is_shown page.limit i) (sym c.index-rings-i.is) ∙ sym (c.is_on.ensures ∙ ap (λ (shown : Bool). (c.index-rings-i.result.layer == layer) && shown) c.is_shown.ensures) in
    let before = c.loop-i.invariant plain in
    let written = ring_lines names page.rules.now page.accepted.now page.limit layer (take i (enumerate_from 0 page.rings.now)) in
    has_written_of_eq _ _ _ _ _
    (ap₂ (λ (lack : RingLack) (why : Option (Bor (List ℕ))). written ++ ring_line names page.rules.now (i + 1) lack why) c.index-rings-i.is c.acceptance_of-why.ensures
    ∙ sym (ring_added names page.rules.now page.accepted.now page.limit layer page.rings.now i c.index-rings-i.result within (shown_on ∙ c.if-not-is_on.false)))
    (has_written_append _ _ _ _ _ _ before (c.in_ok-write.ensures.writes before.plain refl))

pub returns : goal.returns
returns g c = λ plain ok.
    let page = c.args.page.now in
    let names : List (List ℕ) = map (λ name. name.now) page.names.now in
    has_written_of_eq _ _ _ _ _ (ap (shown names page.rules.now page.accepted.now page.limit) (all_after page.rings.now c.args.run.layer c.args.run c.loop-i.i c.requires c.loop-i-test.false)) (c.loop-i.invariant plain)
