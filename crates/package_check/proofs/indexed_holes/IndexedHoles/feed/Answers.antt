use Rattle.package_check.proofs.Common.{◌≡◌, ◌++◌, ℕ, List, [], ap, refl, rules, subst, sym, ◌∙◌, append_assoc, err_from_is_err_and, chunks_rest, nil_from_length, GridRules, IfFault, ShowsLayerFaultIn, HasTriedPadsOf}
use Rattle.std.proofs.Common.{append-nil}
use Rattle.package_check.proofs.PiecesLemmas.{fault_stays_in_longer}
use Rattle.package_check.proofs.indexed_holes.IndexedHoles.feed.Goals as goal

pub loop-chunk-init : goal.loop-chunk-init
loop-chunk-init c =
    (search rules, tt, search rules, λ text stands. ([], subst (HasTriedPadsOf c.args.self.now c.args.layer c.args.reader.now) (sym (append-nil text)) stands, search rules), refl, refl)

pub loop-chunk-preserved : goal.loop-chunk-preserved
loop-chunk-preserved c =
    let chunk = c.in-Some.chunk.now in
    let steps = c.in-Some.ensures.steps in
    let was = c.loop-chunk.invariant in (
      search rules,
      tt,
      steps.0 ∙ was.2,
      λ text stands.
          let so_far = was.3 text stands in (
            so_far.0 ++ chunk,
            subst (HasTriedPadsOf c.feed_chunk.new.self c.args.layer c.feed_chunk.new.reader) (append_assoc text so_far.0 chunk) (c.in_ok-feed_chunk.ensures.ok (text ++ so_far.0) so_far.1),
            append_assoc so_far.0 chunk (chunks_rest c.next.new.self) ∙ (ap (λ (t : List ℕ). so_far.0 ++ t) (sym steps.1.0) ∙ so_far.2),
          ),
      c.in_ok-feed_chunk.ensures.holes ∙ was.4,
      c.in_ok-feed_chunk.ensures.rules ∙ was.5,
    )

pub returns-in_err-feed_chunk-clause-err : goal.returns-in_err-feed_chunk-clause-err
returns-in_err-feed_chunk-clause-err c = λ text stands.
    let p = err_from_is_err_and c.from_residual.result c.from_residual.ensures.1 in
    let chunk = c.in-Some.chunk.now in
    let rest = chunks_rest c.next.new.self in
    let so_far = c.loop-chunk.invariant.3 text stands in
    let parts = append_assoc so_far.0 chunk rest ∙ (ap (λ (t : List ℕ). so_far.0 ++ t) (sym c.in-Some.ensures.steps.1.0) ∙ so_far.2) in
    let whole : ((text ++ so_far.0) ++ chunk) ++ rest ≡ text ++ c.args.piece.now = ap (λ (t : List ℕ). t ++ rest) (append_assoc text so_far.0 chunk) ∙ (append_assoc text (so_far.0 ++ chunk) rest ∙ ap (λ (t : List ℕ). text ++ t) parts) in
    rw (p.1, p.2)
    (fault_stays_in_longer c.args.self.now.rules.profile (c.readings_in_profiles.ensures.stays c.args.self.now.rules.profile) ((text ++ so_far.0) ++ chunk) rest (text ++ c.args.piece.now) c.in_err-feed_chunk.field-0.0 whole
    (subst (λ (r : GridRules). IfFault (ShowsLayerFaultIn r.profile ((text ++ so_far.0) ++ chunk)) c.in_err-feed_chunk.field-0.0) c.loop-chunk.invariant.5 (c.in_err-feed_chunk.ensures.err (text ++ so_far.0) so_far.1)))

pub returns-clause-ok : goal.returns-clause-ok
returns-clause-ok c = λ text stands.
    let so_far = c.loop-chunk.invariant.3 text stands in
    subst (λ (t : List ℕ). HasTriedPadsOf c.loop-chunk.self c.args.layer c.loop-chunk.reader (text ++ t))
    (sym (append-nil so_far.0) ∙ (ap (λ (r : List ℕ). so_far.0 ++ r) (sym (nil_from_length (chunks_rest c.loop-chunk.chunk-iterator) c.in-None.ensures.steps.1.0)) ∙ so_far.2)) so_far.1
