use Rattle.ringcheck_files.proofs.Common.{◌++◌, ℕ, List, [], ap, rules, subst, sym, ◌∙◌, append_assoc, err_from_is_err_and, chunks_rest, Strict, LayerStands, left_pads, done_is_all}
use Rattle.layer_features.specs.declared.keep.Keep.TheVariants as keep
use Rattle.ringcheck_files.proofs.WriterLemmas.{joined, layer_fault}
use Rattle.ringcheck_files.proofs.rewrite.check_layer.Goals as goal

pub loop-piece-init : goal.loop-piece-init
loop-piece-init c = (search rules, tt, search rules, ([], c.in_profile-reader.ensures, search rules))

pub loop-piece-preserved : goal.loop-piece-preserved
loop-piece-preserved c =
    let piece = c.in-Some.piece.now in
    let steps = c.in-Some.ensures.steps in
    let so_far = c.loop-piece.invariant.3 in (
      search rules,
      tt,
      steps.0 ∙ c.loop-piece.invariant.2,
      (
        so_far.0 ++ piece,
        c.in_ok-feed.ensures.ok Strict keep.Pads [] so_far.0 so_far.1,
        append_assoc so_far.0 piece (chunks_rest c.next.new.self) ∙ (ap (λ (t : List ℕ). so_far.0 ++ t) (sym steps.1.0) ∙ so_far.2),
      ),
    )

pub returns-in_err-feed-clause-err : goal.returns-in_err-feed-clause-err
returns-in_err-feed-clause-err c =
    let p = err_from_is_err_and c.from_residual.result c.from_residual.ensures.1 in
    let piece = c.in-Some.piece.now in
    let rest = chunks_rest c.next.new.self in
    let so_far = c.loop-piece.invariant.3 in
    let whole = append_assoc so_far.0 piece rest ∙ (ap (λ (t : List ℕ). so_far.0 ++ t) (sym c.in-Some.ensures.steps.1.0) ∙ so_far.2) in
    rw (p.1, p.2) (joined (c.readings_in_profiles.ensures.joined Strict) (so_far.0 ++ piece) rest c.args.bytes.now c.in_err-feed.field-0.0 whole (c.in_err-feed.ensures.err Strict keep.Pads [] so_far.0 so_far.1))

pub returns-in_err-_layer-clause-err : goal.returns-in_err-_layer-clause-err
returns-in_err-_layer-clause-err c =
    let p = err_from_is_err_and c.from_residual-in_err-_layer.result c.from_residual-in_err-_layer.ensures.1 in
    let bytes = c.args.bytes.now in
    let so_far = c.loop-piece.invariant.3 in
    let all = done_is_all so_far.0 (chunks_rest c.loop-piece.piece-iterator) bytes c.in-None.ensures.steps.1.0 so_far.2 in
    rw (p.1, p.2) (layer_fault keep.Pads (left_pads c.loop-piece.reader []) bytes c.in_err-_layer.field-0.0 (c.in_err-_layer.ensures.exact Strict keep.Pads [] bytes (subst (LayerStands c.loop-piece.reader Strict keep.Pads []) all so_far.1)))

pub returns-clause-ok : goal.returns-clause-ok
returns-clause-ok c =
    let bytes = c.args.bytes.now in
    let so_far = c.loop-piece.invariant.3 in
    let all = done_is_all so_far.0 (chunks_rest c.loop-piece.piece-iterator) bytes c.in-None.ensures.steps.1.0 so_far.2 in
    let read = c.in_ok-_layer.ensures.exact Strict keep.Pads [] bytes (subst (LayerStands c.loop-piece.reader Strict keep.Pads []) all so_far.1) in
    (read.0, read.1)
