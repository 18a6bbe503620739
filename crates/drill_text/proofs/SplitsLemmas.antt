-- A text that goes on: its lines and its rest.
use Rattle.drill_text.proofs.Common.{◌≡◌, ◌≢◌, ℕ, List, [], ◌∷◌, ◌++◌, sym, ap, ◌∙◌, append_assoc, AllByRecursion, append-nil, flat_map-append, ended_line, bytes_of, HasNoBreak, Splits}

pub AllR-append : {A : Type 0} (P : A → Type 0) (xs ys : List A) → AllByRecursion P xs → AllByRecursion P ys → AllByRecursion P (xs ++ ys)
AllR-append P [] ys h k = k
AllR-append P (x ∷ xs) ys h k = (h.0, AllR-append P xs ys h.1 k)

pub bytes_of-push : (lines : List (List ℕ)) (line : List ℕ) → bytes_of (lines ++ line ∷ []) ≡ bytes_of lines ++ (line ++ 10 ∷ [])
bytes_of-push lines line = flat_map-append ended_line lines (line ∷ []) ∙ ap (λ (x : List ℕ). bytes_of lines ++ x) (append-nil (line ++ 10 ∷ []))

-- bytes without LF lengthen the rest
pub Splits-grow : (text : List ℕ) (lines : List (List ℕ)) (rest run : List ℕ) → Splits text lines rest → HasNoBreak run → Splits (text ++ run) lines (rest ++ run)
Splits-grow text lines rest run s h = record {
  whole = ap (λ (x : List ℕ). x ++ run) s.whole ∙ append_assoc (bytes_of lines) rest run;
  each = s.each;
  partial = AllR-append (λ b. b ≢ 10) rest run s.partial h;
}

-- an LF makes the rest a line
pub Splits-close : (text : List ℕ) (lines : List (List ℕ)) (rest : List ℕ) → Splits text lines rest → Splits (text ++ 10 ∷ []) (lines ++ rest ∷ []) []
Splits-close text lines rest s = record {
  whole = ap (λ (x : List ℕ). x ++ 10 ∷ []) s.whole ∙ (append_assoc (bytes_of lines) rest (10 ∷ []) ∙ (sym (bytes_of-push lines rest) ∙ sym (append-nil (bytes_of (lines ++ rest ∷ [])))));
  each = AllR-append HasNoBreak lines (rest ∷ []) s.each (s.partial, tt);
  partial = tt;
}
