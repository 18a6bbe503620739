-- Bytes after a text, with their offsets.
use Rattle.gerber_text.proofs.Common.{◌≡◌, ℕ, suc, ◌+◌, ◌<◌, true, false, cond, not, List, [], ◌∷◌, ◌++◌, length, refl, sym, ap, ◌∙◌, arith, add-zero, append_assoc, enumerate_from, AllByRecursion, append-nil, filter-append, is_line_break, OffsetByte, offset_bytes_from, offset_bytes, bytes_of, first_offset}
use Rattle.std.specs.List.{filter}

enumerate-append : (n : ℕ) (xs ys : List ℕ) → enumerate_from n (xs ++ ys) ≡ enumerate_from n xs ++ enumerate_from (n + length xs) ys
enumerate-append n [] ys = ap (λ k. enumerate_from k ys) (sym (add-zero n))
enumerate-append n (x ∷ xs) ys =
    let k : (n + 1) + length xs ≡ n + suc (length xs) = omega arith in
    ap (λ (zs : List OffsetByte). (n, x) ∷ zs) (enumerate-append (n + 1) xs ys ∙ ap (λ j. enumerate_from (n + 1) xs ++ enumerate_from j ys) k)

pub offset_bytes_from-append : (n : ℕ) (xs ys : List ℕ) → offset_bytes_from n (xs ++ ys) ≡ offset_bytes_from n xs ++ offset_bytes_from (n + length xs) ys
offset_bytes_from-append n xs ys = ap (filter (λ m. not (is_line_break m.1))) (enumerate-append n xs ys) ∙ filter-append (λ m. not (is_line_break m.1)) (enumerate_from n xs) (enumerate_from (n + length xs) ys)

pub offset_bytes-append : (text bytes : List ℕ) → offset_bytes (text ++ bytes) ≡ offset_bytes text ++ offset_bytes_from (length text) bytes
offset_bytes-append text bytes =
    let k : 0 + length text ≡ length text = omega arith in
    offset_bytes_from-append 0 text bytes ∙ ap (λ j. offset_bytes text ++ offset_bytes_from j bytes) k

pub offset_bytes-break : (text : List ℕ) (b : ℕ) → is_line_break b ≡ true → offset_bytes (text ++ b ∷ []) ≡ offset_bytes text
offset_bytes-break text b h =
    let none : offset_bytes_from (length text) (b ∷ []) ≡ [] = ap (λ t. cond (not t) ((length text, b) ∷ []) []) h in
    offset_bytes-append text (b ∷ []) ∙ (ap (λ (x : List OffsetByte). offset_bytes text ++ x) none ∙ append-nil (offset_bytes text))

-- line breaks after a text add nothing
pub offset_bytes-breaks : (text run : List ℕ) → AllByRecursion (λ b. is_line_break b ≡ true) run → offset_bytes (text ++ run) ≡ offset_bytes text
offset_bytes-breaks text [] h = ap offset_bytes (append-nil text)
offset_bytes-breaks text (b ∷ run) h = ap offset_bytes (sym (append_assoc text (b ∷ []) run)) ∙ (offset_bytes-breaks (text ++ b ∷ []) run h.1 ∙ offset_bytes-break text b h.0)

-- bytes without line breaks are all kept
pub offset_bytes_from-kept : (n : ℕ) (run : List ℕ) → AllByRecursion (λ b. is_line_break b ≡ false) run → offset_bytes_from n run ≡ enumerate_from n run
offset_bytes_from-kept n [] h = refl
offset_bytes_from-kept n (b ∷ run) h =
    let one : offset_bytes_from n (b ∷ run) ≡ (n, b) ∷ offset_bytes_from (n + 1) run = ap (λ t. cond (not t) ((n, b) ∷ offset_bytes_from (n + 1) run) (offset_bytes_from (n + 1) run)) h.0 in
    one ∙ ap (λ (x : List OffsetByte). (n, b) ∷ x) (offset_bytes_from-kept (n + 1) run h.1)

pub bytes_of-enumerate : (n : ℕ) (run : List ℕ) → bytes_of (enumerate_from n run) ≡ run
bytes_of-enumerate n [] = refl
bytes_of-enumerate n (b ∷ run) = ap (λ (x : List ℕ). b ∷ x) (bytes_of-enumerate (n + 1) run)

pub AllR-append : (P : ℕ → Type 0) (xs ys : List ℕ) → AllByRecursion P xs → AllByRecursion P ys → AllByRecursion P (xs ++ ys)
AllR-append P [] ys h k = k
AllR-append P (x ∷ xs) ys h k = (h.0, AllR-append P xs ys h.1 k)

pub AllR-weaker : (P Q : ℕ → Type 0) → ((x : ℕ) → P x → Q x) → (xs : List ℕ) → AllByRecursion P xs → AllByRecursion Q xs
AllR-weaker P Q f [] h = tt
AllR-weaker P Q f (x ∷ xs) h = (f x h.0, AllR-weaker P Q f xs h.1)

pub first_offset-append : (xs ys : List OffsetByte) → 0 < length xs → first_offset (xs ++ ys) ≡ first_offset xs
first_offset-append [] ys h = absurd (omega arith)
first_offset-append (x ∷ xs) ys h = refl
