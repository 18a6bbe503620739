use Rattle.ringcheck_files.proofs.Common.{◌++◌, ℕ, List, [], ap, rules, subst, sym, ◌∙◌, append_assoc, err_from_is_err_and, chunks_rest, LayerStands, has_forgotten, Answers, WidePad, KeptLayer, ReadsKeptIn, done_is_all}
use Rattle.layer_features.specs.declared.keep.Keep.TheVariants as keep
use Rattle.layer_image.proofs.Pieces.{none_left}
use Rattle.ringcheck_files.proofs.Pieces.{layer_joined}
use Rattle.ringcheck_files.proofs.show.read_layer.Goals as goal

pub loop-piece-init : goal.loop-piece-init
loop-piece-init c = (search rules, tt, search rules, ([], c.in_profile-reader.ensures, search rules))

pub loop-piece-preserved : goal.loop-piece-preserved
loop-piece-preserved c =
    let piece = c.in-Some.piece.now in
    let steps = c.in-Some.ensures.steps in
    let so_far = c.loop-piece.invariant.3 in (
      search rules,
      tt,
      steps.0 ∙ c.loop-piece.invariant.2,
      (
        so_far.0 ++ piece,
        c.in_ok-feed.ensures.ok c.args.profile keep.Rows [] so_far.0 so_far.1,
        append_assoc so_far.0 piece (chunks_rest c.next.new.self) ∙ (ap (λ (t : List ℕ). so_far.0 ++ t) (sym steps.1.0) ∙ so_far.2),
      ),
    )

pub returns-in_err-feed : goal.returns-in_err-feed
returns-in_err-feed c =
    let p = err_from_is_err_and c.from_residual.result c.from_residual.ensures.1 in
    let piece = c.in-Some.piece.now in
    let rest = chunks_rest c.next.new.self in
    let so_far = c.loop-piece.invariant.3 in
    let whole = append_assoc so_far.0 piece rest ∙ (ap (λ (t : List ℕ). so_far.0 ++ t) (sym c.in-Some.ensures.steps.1.0) ∙ so_far.2) in
    rw (p.1, p.2) (layer_joined c.args.profile keep.Rows [] (c.readings_in_profiles.ensures.joined c.args.profile) (so_far.0 ++ piece) rest c.args.bytes.now c.in_err-feed.field-0.0 whole (c.in_err-feed.ensures.err c.args.profile keep.Rows [] so_far.0 so_far.1))

pub returns : goal.returns
returns c =
    let bytes = c.args.bytes.now in
    let so_far = c.loop-piece.invariant.3 in
    let all = done_is_all so_far.0 (chunks_rest c.loop-piece.piece-iterator) bytes c.in-None.ensures.steps.1.0 so_far.2 in
    subst (λ (left : List WidePad). Answers {T = KeptLayer} (λ layer. layer) (ReadsKeptIn c.args.profile keep.Rows left bytes) c.finish.result) (sym (none_left (has_forgotten c.loop-piece.reader)))
    (c.finish.ensures.exact c.args.profile keep.Rows [] bytes (subst (LayerStands c.loop-piece.reader c.args.profile keep.Rows []) all so_far.1))
