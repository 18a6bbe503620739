use Rattle.print_text.proofs.Common.{◌≡◌, ◌∙◌, ◌++◌, ◌<◌, ℕ, List, ap, arith, length, refl, rules, sym, take, ◌==◌, ◌&&◌, enumerate_from, filter, flat_map, has_written_append, has_written_of_eq, RingLack, group_lines, group_line, is_first_alike}
use Rattle.print_text.proofs.Showing.{group_added, group_left_out}
use Rattle.print_text.proofs.RunLemmas.{all_after, group_in_run, none_before, on_layer}
use Rattle.print_text.proofs.summary.write_groups.Goals as goal

-- the lines of those that are the first of their diameter
abbrev firsts : List ℕ → List RingLack → List (ℕ × RingLack) → List ℕ
firsts name rings findings = flat_map (λ finding. group_line name rings finding.1) (filter (is_first_alike rings) findings)

pub loop-i-init : goal.loop-i-init
loop-i-init g c = λ plain.
    has_written_of_eq _ _ _ _ _ (sym (ap (firsts c.args.name.now c.args.rings.now) (none_before c.args.rings.now c.args.run.layer c.args.run c.requires))) (search rules)

pub loop-i-preserved-then-not-starts_group : goal.loop-i-preserved-then-not-starts_group
loop-i-preserved-then-not-starts_group g c = λ plain.
    let rings = c.args.rings.now in
    let layer = c.args.run.layer in
    let i = c.loop-i.i in
    let within : i < length rings = omega (arith, c.loop-i-test.true, c.requires.inside) in
    let first = ap (λ (x : RingLack). (x.layer == layer) && is_first_alike rings (i, x)) (sym c.index-rings-i.is) ∙ sym c.starts_group.ensures in
    has_written_of_eq _ _ _ _ _ (sym (group_left_out c.args.name.now layer rings i c.index-rings-i.result within (first ∙ c.if-not-starts_group.true))) (c.loop-i.invariant plain)

pub loop-i-preserved : goal.loop-i-preserved
loop-i-preserved g c = λ plain.
    let name = c.args.name.now in
    let rings = c.args.rings.now in
    let layer = c.args.run.layer in
    let i = c.loop-i.i in
    let one = c.index-rings-i.result in
    let within : i < length rings = omega (arith, c.loop-i-test.true, c.requires.inside) in
    let first = ap (λ (x : RingLack). (x.layer == layer) && is_first_alike rings (i, x)) (sym c.index-rings-i.is) ∙ sym c.starts_group.ensures in
    let own : one.layer ≡ layer = on_layer one.layer layer (is_first_alike rings (i, one)) (sym c.starts_group.ensures ∙ c.if-not-starts_group.false) in
    let before = c.loop-i.invariant plain in
    let written = group_lines name rings layer (take i (enumerate_from 0 rings)) in
    has_written_of_eq _ _ _ _ _
    (ap (λ (t : List ℕ). written ++ t) (group_in_run name rings layer c.args.run one c.requires own ∙ ap (group_line name rings) c.index-rings-i.is)
    ∙ sym (group_added name layer rings i one within (first ∙ c.if-not-starts_group.false)))
    (has_written_append _ _ _ _ _ _ before (c.in_ok-write.ensures.writes before.plain refl))

pub returns : goal.returns
returns g c = λ plain ok.
    has_written_of_eq _ _ _ _ _ (ap (firsts c.args.name.now c.args.rings.now) (all_after c.args.rings.now c.args.run.layer c.args.run c.loop-i.i c.requires c.loop-i-test.false)) (c.loop-i.invariant plain)
