use Rattle.gerber_text.proofs.Common.{◌≡◌, ℕ, ◌+◌, ◌<◌, ◌≤◌, List, [], ◌∷◌, ◌++◌, length, take, drop, get_or, sym, ap, ◌∙◌, arith, take_more, take-append-drop, append-nil, length-append, flat_map-append, lt-leb}
use Rattle.gerber_text.proofs.PieceLemmas.{starred}
use Rattle.gerber_text.proofs.sayable_items.fit_in.Goals as goal

-- one more text and its `*`
starred_more : (ps : List (List ℕ)) (i : ℕ) (p : List ℕ) → i < length ps → p ≡ get_or ps i p → length (starred (take (i + 1) ps)) ≡ length (starred (take i ps)) + (length p + 1)
starred_more ps i p lt is =
    let prefix = starred (take i ps) in
    let star : List ℕ = 42 ∷ [] in
    let one : starred (get_or ps i p ∷ []) ≡ p ++ star = append-nil (get_or ps i p ++ star) ∙ ap (λ (x : List ℕ). x ++ star) (sym is) in
    let all : starred (take (i + 1) ps) ≡ prefix ++ (p ++ star) = ap starred (take_more ps i p lt) ∙ (flat_map-append (λ (x : List ℕ). x ++ star) (take i ps) (get_or ps i p ∷ []) ∙ ap (λ (x : List ℕ). prefix ++ x) one) in
    omega (arith, ap length all, length-append prefix (p ++ star), length-append p star)

-- first texts take no more than all
starred_prefix : (ps : List (List ℕ)) (i : ℕ) → length (starred (take i ps)) ≤ length (starred ps)
starred_prefix ps i =
    let whole : starred ps ≡ starred (take i ps) ++ starred (drop i ps) = ap starred (sym (take-append-drop i ps)) ∙ flat_map-append (λ (x : List ℕ). x ++ 42 ∷ []) (take i ps) (drop i ps) in
    omega (arith, ap length whole, length-append (starred (take i ps)) (starred (drop i ps)))

pub returns-then-bytes-left : goal.returns-then-bytes-left
returns-then-bytes-left c =
    let ps = c.args.texts.now in
    let more = starred_more ps c.loop-text.text-index c.text-item.result c.loop-text-test.true c.text-item.is in
    let prefix = starred_prefix ps (c.loop-text.text-index + 1) in
    sym (lt-leb (length (starred ps)) c.args.room (omega (arith, more, prefix, c.loop-text.invariant, c.if-bytes-left.true, ap length c.bytes.ensures)))
