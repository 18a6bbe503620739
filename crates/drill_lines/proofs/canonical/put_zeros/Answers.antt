use Rattle.drill_lines.proofs.Common.{◌≡◌, ℕ, zero, suc, List, [], ◌∷◌, ◌++◌, refl, sym, ap, ◌∙◌, append_assoc, replicate}
use Rattle.std.proofs.Common.{add-one}
use Rattle.drill_lines.proofs.canonical.put_zeros.Goals as goal

zeros : ℕ → List ℕ
zeros n = replicate n 48

one_more : (n : ℕ) → zeros n ++ 48 ∷ [] ≡ zeros (suc n)
unfolding zeros
one_more zero = refl
one_more (suc n) = ap (λ (x : List ℕ). 48 ∷ x) (one_more n)

pub loop-i-preserved : goal.loop-i-preserved
unfolding zeros
loop-i-preserved c =
    let old : List ℕ = c.args.text.now.items in
    let n = c.loop-i._i in
    c.in_ok-push.ensures.items
    ∙ (ap (λ (x : List ℕ). x ++ 48 ∷ []) c.loop-i.invariant
    ∙ (append_assoc old (zeros n) (48 ∷ [])
    ∙ (ap (λ (x : List ℕ). old ++ x) (one_more n) ∙ ap (λ k. old ++ zeros k) (sym (add-one n)))))
