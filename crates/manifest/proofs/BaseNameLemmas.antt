-- A name after its last slash.
use Rattle.manifest.proofs.Common.{◌≡◌, ◌∙◌, ◌<◌, ◌+◌, ◌-◌, ℕ, Bool, true, false, not, List, length, drop, get_or, Some, None, arith, refl, sym, ap, suffix_len, suffix_len_is, base_name}
use Rattle.memchr.specs.Find.{IsLastByte, is_byte}

not_from : (b : Bool) → (b ≡ true → Unit {0} → ⊥) → not b ≡ true
not_from true h = absurd (h refl tt)
not_from false h = refl

module _ (name : List ℕ) where
  -- a name without a slash
  pub short_none : IsLastByte (is_byte 47) name None → name ≡ base_name name
  short_none h =
      let all : suffix_len (λ b. not (is_byte 47 b)) name ≡ length name - 0 =
      suffix_len_is (λ b. not (is_byte 47 b)) name 0 0 (omega arith) (λ k a b. not_from (is_byte 47 (get_or name k 0)) (λ e u. h k (omega arith) b e)) (λ no. absurd (omega arith)) in
      sym (ap (λ n. drop (length name - n) name) all ∙ ap (λ n. drop n name) (let z : length name - (length name - 0) ≡ 0 = omega arith in z))

  -- a name with a slash
  pub short_some : (at : ℕ) → IsLastByte (is_byte 47) name (Some at) → drop (at + 1) name ≡ base_name name
  short_some at h =
      let high : at < length name = h.0.high in
      let all : suffix_len (λ b. not (is_byte 47 b)) name ≡ length name - (at + 1) =
      suffix_len_is (λ b. not (is_byte 47 b)) name (at + 1) 0 (omega arith) (λ k a b. not_from (is_byte 47 (get_or name k 0)) (λ e u. h.0.after k a b e))
      (λ no. let n : at + 1 - 1 ≡ at = omega arith in rw n (ap not h.1)) in
      sym (ap (λ n. drop (length name - n) name) all ∙ ap (λ n. drop n name) (let z : length name - (length name - (at + 1)) ≡ at + 1 = omega arith in z))
