use Rattle.report.proofs.Common.{◌≡◌, ◌+◌, ◌<◌, get_or, length, map, take, subst, refl, arith, get_or-map, get_or_default, length-map, bare_count_with, factors, IsFewest, holes_of, HoleRange, Tried, Suspect, FileRange}
use Rattle.report.specs.declared.UnitFactor.TheVariants as kind
use Rattle.report.proofs.UnitMistakeLemmas.{IsLineOf, as_lines, from_lines}
use Rattle.report.proofs.PairedLists.{paired_all, paired_more}
use Rattle.report.proofs.mistakes.lines_by.Goals as goal

pub loop-place-preserved : goal.loop-place-preserved
loop-place-preserved c = λ pads holes suspects are.
    let files = c.args.files.now in
    let k = c.loop-place.place in
    let nothing : HoleRange = record { start = 0; end = 0 } in
    let none : FileRange = record { drill = 0; start = 0; end = 0 } in
    let undoubted : Suspect = record { range = record { start = 0; end = 0 }; bare = 0 } in
    let one : FileRange = get_or c.args.files.now c.loop-place.place none in
    let suspect : Suspect = get_or c.args.suspects.now c.loop-place.place undoubted in
    let untried : Tried = record { range = record { start = 0; end = 0 }; fewest = record { factor = kind.Ten; bare = 0 } } in
    let tried : Tried = get_or c.args.tried.now c.loop-place.place untried in
    let inside : c.loop-place.place < length c.args.suspects.now = omega (arith, c.loop-place-test.true, c.requires.suspects) in
    let size = length-map c.args.suspects.now (λ (d : Suspect). d.range) in
    let own : get_or (map (λ (d : Suspect). d.range) c.args.suspects.now) c.loop-place.place nothing ≡ suspect.range =
    get_or-map (λ (d : Suspect). d.range) c.args.suspects.now k undoubted nothing inside in
    let fewest = subst (λ (s : HoleRange). IsFewest (bare_count_with pads (holes_of holes s)) factors tried.fewest) own (are.each k nothing untried (omega (arith, inside, size))).fewest in
    as_lines pads holes (take (k + 1) files) c.push.new.self.items
    (paired_more (IsLineOf pads holes) files k one c.loop-place-test.true (get_or_default files k none one c.loop-place-test.true) c.loop-place.lines.items c.push.new.self.items c.line_of.result c.in_ok-push.ensures.items
    (c.line_of.ensures pads holes one refl (suspects.each k none undoubted c.loop-place-test.true) fewest) (from_lines pads holes (take k files) c.loop-place.lines.items (c.loop-place.invariant pads holes suspects are)))

pub returns : goal.returns
returns c = λ pads holes suspects are.
    let files = c.args.files.now in
    let k = c.loop-place.place in
    as_lines pads holes files c.loop-place.lines.items
    (paired_all (IsLineOf pads holes) files k c.loop-place.lines.items c.loop-place-test.false (from_lines pads holes (take k files) c.loop-place.lines.items (c.loop-place.invariant pads holes suspects are)))
