use Rattle.package_check.proofs.Common.{rules, ◌≡◌, ◌*◌, pos, true, false, has_written_of_eq, is_round, length_words, slot_words}
use Rattle.grid_units.specs.Spellings.{millimetres}
use Rattle.package_check.proofs.lines.write_lengths.Goals as goal

pub returns-then-is_round : goal.returns-then-is_round
unfolding length_words
returns-then-is_round g c = λ plain ok.
    let hole = c.args.hole.now in
    let x : c.write_mm-x.result.bytes ≡ millimetres hole.from.x = search rules in
    let y : c.write_mm-y.result.bytes ≡ millimetres hole.from.y = search rules in
    let diameter : c.write_mm-diameter.result.bytes ≡ millimetres (pos (2 * hole.radius)) = search rules in
    let round : is_round hole ≡ true = search rules in
    rw round (has_written_of_eq _ _ _ _ _ (λ i. length_words (x i) (y i) (diameter i)) (c.write.ensures.writes plain ok))

pub returns : goal.returns
unfolding slot_words
returns g c = λ plain ok.
    let hole = c.args.hole.now in
    let x : c.write_mm-x.result.bytes ≡ millimetres hole.from.x = search rules in
    let y : c.write_mm-y.result.bytes ≡ millimetres hole.from.y = search rules in
    let x2 : c.write_mm-x2.result.bytes ≡ millimetres hole.to.x = search rules in
    let y2 : c.write_mm-y2.result.bytes ≡ millimetres hole.to.y = search rules in
    let diameter : c.write_mm-diameter.result.bytes ≡ millimetres (pos (2 * hole.radius)) = search rules in
    let slot : is_round hole ≡ false = search rules in
    rw slot (has_written_of_eq _ _ _ _ _ (λ i. slot_words (x i) (y i) (x2 i) (y2 i) (diameter i)) (c.write-2.ensures.writes plain ok))
