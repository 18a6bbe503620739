use Rattle.ringcheck.proofs.Common.{List, ℕ, refl, subst, Appends, measure_page}
use Rattle.ringcheck.proofs.measures.measure.Goals as goal

pub returns : goal.returns
returns g c all named read =
    let board = c.args.board.now in
    let measure = c.in_ok-measure.measure in
    let contents = g.W.Write.contents in
    let is = c.in_ok-measure.ensures.exact in
    record {
      board = board;
      read = read;
      measure = measure;
      is = is;
      written = subst (λ (ns : List (List ℕ)). Appends (contents c.args.out.now) (contents c.print.new.out) (measure_page c.args.order ns board measure)) named c.in_ok-print.ensures;
      met = c.measured_passes.ensures c.args.order.profile all board measure.meets.ring measure.meets.gap read is.rings is.gaps;
      passed = refl;
    }
