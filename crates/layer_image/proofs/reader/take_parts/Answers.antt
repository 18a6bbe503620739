-- Some bytes more; a fault of what follows them is one of the whole piece.
use Rattle.layer_image.proofs.Common.{◌≡◌, ◌-◌, ◌++◌, ℕ, List, length, take, drop, ap, subst, ◌∙◌, arith, append_assoc, length-drop, length-take, take-append-drop, take_rest, take_all, err_from_is_err_and, IfFault, two_takes, HasMetText, ShowsLayerFaultIn}
use Rattle.layer_image.proofs.reader.take_parts.Goals as goal

pub returns-in_err-taken-clause-err : goal.returns-in_err-taken-clause-err
returns-in_err-taken-clause-err g c profile keep taken text h =
    let p = err_from_is_err_and c.from_residual.result c.from_residual.ensures.1 in
    let piece = c.args.piece.now in
    let n = c.loop-taken.taken in
    let so_far = text ++ take n piece in
    let whole : so_far ++ take (length piece - n) (drop n piece) ≡ text ++ piece = ap (λ (x : List ℕ). so_far ++ x) (take_rest piece n) ∙ (append_assoc text (take n piece) (drop n piece) ∙ ap (λ (x : List ℕ). text ++ x) (take-append-drop n piece)) in
    rw (p.1, p.2) (subst (λ (t : List ℕ). IfFault (ShowsLayerFaultIn profile t) c.in_err-taken.field-0.0) whole (c.in_err-taken.ensures.err profile keep taken so_far (c.loop-taken.invariant.stands profile keep taken text h)))

pub loop-taken-preserved : goal.loop-taken-preserved
loop-taken-preserved g c =
    let piece = c.args.piece.now in
    let n = c.loop-taken.taken in
    let k = c.in_ok-taken.field-0 in
    record {
      within = omega (arith, c.in_ok-taken.ensures.taken, length-drop n piece, length-take (length piece - n) (drop n piece));
      stands = λ profile keep taken text h.
          let so_far = text ++ take n piece in
          subst (HasMetText (g.C.CommandSink.has_met profile keep taken) c.take_leading.new.words c.take_leading.new.content profile) (two_takes text piece n k) (c.in_ok-taken.ensures.ok profile keep taken so_far (c.loop-taken.invariant.stands profile keep taken text h));
    }

pub returns-clause-ok : goal.returns-clause-ok
returns-clause-ok g c profile keep taken text h =
    let piece = c.args.piece.now in
    let n = c.loop-taken.taken in
    subst (λ (x : List ℕ). HasMetText (g.C.CommandSink.has_met profile keep taken) c.loop-taken.words c.loop-taken.content profile (text ++ x)) (take_all n piece (omega arith)) (c.loop-taken.invariant.stands profile keep taken text h)
