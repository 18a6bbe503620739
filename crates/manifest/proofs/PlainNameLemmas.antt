-- What follows the last slash of a name has no slash, and is text where the name is.
use Rattle.manifest.proofs.Common.{◌≡◌, ◌∙◌, ◌<◌, ◌≤◌, ◌+◌, ◌-◌, ◌==◌, ◌||◌, ℕ, zero, suc, Bool, true, false, not, List, [], ◌∷◌, length, drop, take, get_or, arith, refl, sym, ap, list_any, suffix_len, is_utf8, IsUtf8, eqb-true, false≢true, take-append-drop, length-drop, get_or-drop, list_any-append, suffix_len_is, IsUtf8-from_is_utf8, is_utf8-from_IsUtf8, IsUtf8-drop, IsCharBoundary-after_ascii, base_name}

-- a byte that is no slash
abbrev no_slash : ℕ → Bool
no_slash b = not (b == 47)

-- the place after the last slash
record IsCut (name : List ℕ) (n : ℕ) : Type 0 where
  pub high : n ≤ length name
  pub after : (k : ℕ) → n ≤ k → k < length name → no_slash (get_or name k 0) ≡ true
  pub before : 0 < n → no_slash (get_or name (n - 1) 0) ≡ false

after_last_more : (x : ℕ) (xs : List ℕ) (n : ℕ) → IsCut xs n → (k : ℕ) → suc n ≤ k → k < suc (length xs) → no_slash (get_or (x ∷ xs) k 0) ≡ true
after_last_more x xs n c zero a l = absurd (omega arith)
after_last_more x xs n c (suc k) a l = c.after k (omega arith) (omega arith)

after_last_all : (x : ℕ) (xs : List ℕ) → IsCut xs 0 → no_slash x ≡ true → (k : ℕ) → k < suc (length xs) → no_slash (get_or (x ∷ xs) k 0) ≡ true
after_last_all x xs c e zero l = e
after_last_all x xs c e (suc k) l = c.after k (omega arith) (omega arith)

cut : (name : List ℕ) → (n : ℕ) × IsCut name n
cut [] = (0, record { high = omega arith; after = λ k a l. absurd (omega arith); before = λ lt. absurd (omega arith) })
cut (x ∷ xs) = by (cut xs).0 (cut xs).1 (no_slash x) refl
  where
    by : (n : ℕ) → IsCut xs n → (b : Bool) → no_slash x ≡ b → (m : ℕ) × IsCut (x ∷ xs) m
    by (suc n) c b e =
        let one : suc (suc n) - 1 ≡ suc (suc n - 1) = omega arith in
        (suc (suc n), record { high = omega (arith, c.high); after = after_last_more x xs (suc n) c; before = λ lt. rw one (c.before (omega arith)) })
    by zero c true e = (0, record { high = omega arith; after = λ k a l. after_last_all x xs c e k l; before = λ lt. absurd (omega arith) })
    by zero c false e = (1, record { high = omega arith; after = after_last_more x xs 0 c; before = λ lt. e })

-- the place after the last slash of a name
abbrev place : List ℕ → ℕ
place name = (cut name).0

base_name_is : (name : List ℕ) → base_name name ≡ drop (place name) name
base_name_is name =
    let c : IsCut name (place name) = (cut name).1 in
    let n : ℕ = place name in
    let high : n ≤ length name = c.high in
    let s : suffix_len no_slash name ≡ length name - n = suffix_len_is no_slash name n 0 high c.after c.before in
    ap (λ k. drop k name) (let e : length name - suffix_len no_slash name ≡ n = omega (arith, s) in e)

-- no further slash follows the last one
pub base_name_of_base_name : (name : List ℕ) → base_name (base_name name) ≡ base_name name
base_name_of_base_name name = ap base_name (base_name_is name) ∙ whole ∙ sym (base_name_is name)
  where
    rest : List ℕ
    rest = drop (place name) name

    clean : (k : ℕ) → 0 ≤ k → k < length (drop (place name) name) → no_slash (get_or (drop (place name) name) k 0) ≡ true
    clean k a l =
        let c : IsCut name (place name) = (cut name).1 in
        let lt : place name + k < length name = omega (arith, length-drop (place name) name) in
        ap no_slash (get_or-drop (place name) name k 0) ∙ c.after (place name + k) (omega arith) lt

    whole : base_name (drop (place name) name) ≡ drop (place name) name
    whole =
        let all : suffix_len no_slash (drop (place name) name) ≡ length (drop (place name) name) - 0 =
        suffix_len_is no_slash (drop (place name) name) 0 0 (omega arith) clean (λ lt. absurd (omega arith)) in
        ap (λ k. drop k (drop (place name) name)) (let e : length (drop (place name) name) - suffix_len no_slash (drop (place name) name) ≡ 0 = omega (arith, all) in e)

no_control_after : (p : ℕ → Bool) (n : ℕ) (name : List ℕ) → list_any p name ≡ false → list_any p (drop n name) ≡ false
no_control_after p n name h = second (list_any p (take n name)) (list_any p (drop n name)) (sym (list_any-append p (take n name) (drop n name)) ∙ ap (list_any p) (take-append-drop n name) ∙ h)
  where
    second : (a b : Bool) → (a || b) ≡ false → b ≡ false
    second true b e = absurd (false≢true (sym e))
    second false b e = e

-- a test that no byte of the name passes
pub base_name_keeps : (p : ℕ → Bool) (name : List ℕ) → list_any p name ≡ false → list_any p (base_name name) ≡ false
base_name_keeps p name h = ap (list_any p) (base_name_is name) ∙ no_control_after p (place name) name h

slash : (b : ℕ) → no_slash b ≡ false → b ≡ 47
slash b h = by (b == 47) refl h
  where
    by : (t : Bool) → (b == 47) ≡ t → not t ≡ false → b ≡ 47
    by true e k = eqb-true b 47 e
    by false e k = absurd (false≢true (sym k))

after_cut : (name : List ℕ) (n : ℕ) → IsCut name n → IsUtf8 name → IsUtf8 (drop n name)
after_cut name zero c u = u
after_cut name (suc n) c u =
    let one : suc n - 1 ≡ n = omega arith in
    let at : get_or name n 0 ≡ 47 = slash (get_or name n 0) (rw one at (c.before (omega arith))) in
    let high : suc n ≤ length name = c.high in
    let lt : get_or name n 0 < 128 = omega (arith, at) in
    let next : n + 1 ≡ suc n = omega arith in
    IsUtf8-drop name (suc n) u (rw next at (IsCharBoundary-after_ascii name n u (omega arith) lt))

-- what follows the last slash of a text is text
pub base_name_is_text : (name : List ℕ) → is_utf8 name ≡ true → is_utf8 (base_name name) ≡ true
base_name_is_text name h =
    ap is_utf8 (base_name_is name) ∙ is_utf8-from_IsUtf8 (drop (place name) name) (after_cut name (place name) (cut name).1 (IsUtf8-from_is_utf8 name h))
