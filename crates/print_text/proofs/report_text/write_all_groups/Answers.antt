use Rattle.print_text.proofs.Common.{◌∙◌, ◌++◌, ◌<◌, ℕ, List, ap, ap₂, arith, get_or, length, map, refl, sym, take, enumerate_from, flat_map, has_written_append, has_written_of_eq, LayerHead, group_lines, groups_text}
use Rattle.print_text.proofs.Showing.{layers_more, marks_all}
use Rattle.print_text.proofs.report_text.write_all_groups.Goals as goal

pub loop-i-preserved : goal.loop-i-preserved
loop-i-preserved g c = λ plain.
    let rings = c.args.page.now.rings.now in
    let all = c.args.layers.now in
    let i = c.loop-i.i in
    let names : List (List ℕ) = map (λ name. name.now) c.args.page.now.names.now in
    let text = groups_text names rings in
    let head : LayerHead = get_or all i (record { file = 0; needed = 0 }) in
    let here : i < length c.args.runs.now = omega (arith, c.loop-i-test.true, c.requires.length) in
    let own = (c.requires.runs i (record { layer = 0; first = 0; end = 0 }) here).own in
    let before = c.loop-i.invariant plain in
    has_written_of_eq _ _ _ _ _
    (ap₂ (λ (name : List ℕ) (k : ℕ). flat_map text (take i (enumerate_from 0 all)) ++ group_lines name rings k (enumerate_from 0 rings)) c.name_of-name.ensures own ∙ sym (layers_more text all i _ c.loop-i-test.true))
    (has_written_append _ _ _ _ _ _ before (c.in_ok-write_groups.ensures before.plain refl))

pub returns : goal.returns
returns g c = λ plain ok.
    let names : List (List ℕ) = map (λ name. name.now) c.args.page.now.names.now in
    has_written_of_eq _ _ _ _ _ (ap (flat_map (groups_text names c.args.page.now.rings.now)) (marks_all 0 c.args.layers.now c.loop-i.i c.loop-i-test.false)) (c.loop-i.invariant plain)
