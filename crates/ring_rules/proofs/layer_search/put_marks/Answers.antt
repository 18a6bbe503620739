use Rattle.ring_rules.proofs.Common.{◌<◌, false, length, get_or, ◌∙◌, arith, length-set}
use Rattle.ring_rules.proofs.MarksAfterPads.{put_more}
use Rattle.ring_rules.proofs.layer_search.put_marks.Goals as goal

pub loop-i-preserved : goal.loop-i-preserved
loop-i-preserved c =
    let listed : c.loop-i.i < length c.args.spots.now = omega (arith, c.loop-i-test.true, c.len-i-end.ensures) in
    let inside : c.place.result < length c.loop-i.marks = (let l = c.requires.places c.loop-i.i listed in omega (arith, l, c.place.ensures, c.loop-i.invariant.size)) in
    record {
      size = length-set c.loop-i.marks c.place.result (get_or c.args.own.now c.loop-i.i false) ∙ c.loop-i.invariant.size;
      done = λ test stands. put_more c.args.spots.now c.args.own.now c.loop-i.marks c.loop-i.i c.place.result c.place.ensures inside test (stands c.loop-i.i listed) (c.loop-i.invariant.done test stands);
    }

pub returns : goal.returns
returns c = λ test stands i h. c.loop-i.invariant.done test stands i (omega (arith, h, c.loop-i-test.false, c.len-i-end.ensures))
