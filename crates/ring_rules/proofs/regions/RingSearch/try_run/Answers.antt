use Rattle.ring_rules.proofs.Common.{◌≡◌, ℕ, ◌<◌, Bool, List, length, arith, ◌&&◌, not, gives_ring_at, is_marked}
use Rattle.ring_rules.proofs.MarksLemmas.{removes_more, tried_more, none_more}
use Rattle.ring_rules.proofs.regions.RingSearch.try_run.Goals as goal

pub loop-i-preserved : goal.loop-i-preserved
loop-i-preserved g c =
    let p : ℕ = c.loop-i.i in
    let marks : List Bool = c.loop-i.marks in
    let test : ℕ → Bool = gives_ring_at g.S.PadShape.covers c.args.self.now.index.now c.args.self.now.pad.now in
    let listed : c.loop-i.i < length c.args.self.now.index.now.cells.spots = omega (arith, c.loop-i-test.true, c.requires.within) in
    let inside : c.loop-i.i < length c.loop-i.marks = omega (arith, listed, c.loop-i.invariant.removes.size, c.requires.size) in
    let same : c.keeps_mark-keeps_mark.result ≡ (is_marked c.loop-i.marks c.loop-i.i && not (test c.loop-i.i)) = c.keeps_mark-keeps_mark.ensures in
    record {
      removes = removes_more test c.args.marks.now marks p inside c.keeps_mark-keeps_mark.result same c.loop-i.invariant.removes;
      tried = tried_more test c.args.marks.now marks p inside c.keeps_mark-keeps_mark.result same c.args.run.start c.loop-i.invariant.tried;
      none = none_more test c.args.marks.now marks p inside c.keeps_mark-keeps_mark.result same c.args.run.start c.loop-i.is_left c.loop-i.invariant.none;
    }
