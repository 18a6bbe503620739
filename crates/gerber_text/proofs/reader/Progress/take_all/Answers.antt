use Rattle.gerber_text.proofs.Common.{◌-◌, ℕ, List, length, take, drop, subst, arith, length-drop, length-take, take-append-drop, take_rest, err_from_is_err_and, Refuses}
use Rattle.gerber_text.proofs.ShowsLemmas.{Advances-both, Refuses-then}
use Rattle.gerber_text.proofs.reader.Progress.take_all.Goals as goal

pub returns-in_err-taken-clause-err : goal.returns-in_err-taken-clause-err
returns-in_err-taken-clause-err c =
    let p = err_from_is_err_and c.from_residual.result c.from_residual.ensures.1 in
    let bytes = c.args.bytes.now in
    let n = c.loop-taken.taken in
    let e = c.in_err-taken.field-0.0 in
    let left = c.take_leading.new.self.commands.items in
    rw (p.1, p.2) (subst (λ (x : List ℕ). Refuses c.args.self.now left x e) (take-append-drop n bytes) (Refuses-then c.args.self.now c.loop-taken.self left (take n bytes) (drop n bytes) e c.loop-taken.invariant.advanced (subst (λ (x : List ℕ). Refuses c.loop-taken.self left x e) (take_rest bytes n) c.in_err-taken.ensures.err)))

pub loop-taken-preserved : goal.loop-taken-preserved
loop-taken-preserved c =
    let bytes = c.args.bytes.now in
    let n = c.loop-taken.taken in
    let k = c.in_ok-taken.field-0 in
    let taken = c.in_ok-taken.ensures.taken in
    record {
      within = omega (arith, taken, length-drop n bytes, length-take (length bytes - n) (drop n bytes));
      offset = omega (arith, taken);
      advanced = Advances-both c.args.self.now c.loop-taken.self c.take_leading.new.self bytes n k c.loop-taken.invariant.advanced c.in_ok-taken.ensures.ok;
    }
