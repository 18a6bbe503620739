use Rattle.manifest.proofs.Common.{◌≡◌, ◌∙◌, ℕ, ap, get_or, length, map, sym, nat_lt, contains_by, nat_cmp, Proposal, rank, count_ranked, place_checked_in}
use Rattle.manifest.proofs.LayerCheckLoop.{all_done, one_more, written}
use Rattle.manifest.proofs.places.check_all_places.Goals as goal

pub loop-file-preserved : goal.loop-file-preserved
loop-file-preserved c =
    let shared = c.in_ok-shared.shared in
    let f = λ (p : Proposal). place_checked_in (contains_by (nat_cmp (rank p.role)) shared) p in
    let file = c.file-item.result in
    one_more f c.deref_mut-file-items.result.now c.loop-file.file-items c.loop-file.file-index c.check_place.new.file file c.loop-file-test.true c.loop-file.invariant
    (c.check_place.ensures ∙ (λ k. place_checked_in ((c.contains-is_shared.ensures ∙ ap (λ (n : ℕ). contains_by (nat_cmp n) shared) c.rank.ensures) k) (get_or c.loop-file.file-items c.loop-file.file-index file)))

pub returns : goal.returns
returns c =
    let items = c.args.files.now.items in
    let value = c.deref_mut-file-items.ensures.value in
    let shared = c.in_ok-shared.shared in
    let f = λ (p : Proposal). place_checked_in (contains_by (nat_cmp (rank p.role)) shared) p in
    let same : (n : ℕ) → contains_by (nat_cmp n) shared ≡ nat_lt 1 (count_ranked items n) = λ n. c.in_ok-shared.ensures n ∙ ap (λ ps. nat_lt 1 (count_ranked ps n)) c.deref.ensures.value in
    written f items c.loop-file.file-items c.args.files.now.len (c.loop-file.auto.file-items ∙ ap length value) (sym (ap length value) ∙ c.deref_mut-file-items.ensures.len)
    ∙ all_done f c.deref_mut-file-items.result.now c.loop-file.file-items c.loop-file.file-index c.loop-file-test.false c.loop-file.invariant ∙ (λ k. map (λ (p : Proposal). place_checked_in (same (rank p.role) k) p) (value k))
