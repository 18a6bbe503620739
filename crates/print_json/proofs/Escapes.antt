-- Texts in strings of JSON.
use Rattle.print_json.proofs.Common.{◌≡◌, ◌≤◌, ◌+◌, ◌++◌, ◌∙◌, ◌%◌, ◌/◌, ℕ, Bool, true, false, cond, List, [], ◌∷◌, map, refl, ap, ap₂, sym, arith, encode_utf8, flat_map, map-id, escape, escape_byte}
use Rattle.std.specs.Str.{chars, encode_utf8_all, IsUtf8}
use Rattle.std.proofs.lemmas.List.Concat.{flat_map-append}
use Rattle.std.proofs.lemmas.Str.{encodes-chars}
use lib.Utf8.{encode}
use Rattle.json.proofs.Printed.Strings.{escape_byte_plain}

-- a byte past ASCII before others
past_ascii : (x : ℕ) (xs : List ℕ) → 128 ≤ x → escape xs ≡ xs → escape (x ∷ xs) ≡ x ∷ xs
past_ascii x xs h e = ap₂ (λ (a b : List ℕ). a ++ b) (escape_byte_plain x (λ p. omega arith) (λ p. omega arith) (omega arith)) e

-- the bytes of a character
two : (w x : ℕ) → 128 ≤ w → 128 ≤ x → escape (w ∷ x ∷ []) ≡ w ∷ x ∷ []
two w x h k = past_ascii w (x ∷ []) h (past_ascii x [] k refl)

three : (w x y : ℕ) → 128 ≤ w → 128 ≤ x → 128 ≤ y → escape (w ∷ x ∷ y ∷ []) ≡ w ∷ x ∷ y ∷ []
three w x y h k l = past_ascii w (x ∷ y ∷ []) h (two x y k l)

four : (w x y z : ℕ) → 128 ≤ w → 128 ≤ x → 128 ≤ y → 128 ≤ z → escape (w ∷ x ∷ y ∷ z ∷ []) ≡ w ∷ x ∷ y ∷ z ∷ []
four w x y z h k l m = past_ascii w (x ∷ y ∷ z ∷ []) h (three x y z k l m)

either : (b : Bool) (x y : List ℕ) → escape x ≡ x → escape y ≡ y → escape (cond b x y) ≡ cond b x y
either true x y e h = e
either false x y e h = h

-- a character that stands for itself
pub letter_stands : (c : ℕ) → (c ≡ 34 → ⊥) → (c ≡ 92 → ⊥) → 32 ≤ c → encode_utf8 c ≡ escape (encode_utf8 c)
unfolding encode
letter_stands c q b l =
    sym (either _ _ _ (ap (λ (t : List ℕ). t ++ []) (escape_byte_plain c q b l))
    (either _ _ _ (two (192 + c / 64) (128 + c % 64) (omega arith) (omega arith))
    (either _ _ _ (three (224 + c / 4096) (128 + c / 64 % 64) (128 + c % 64) (omega arith) (omega arith) (omega arith))
    (four (240 + c / 262144) (128 + c / 4096 % 64) (128 + c / 64 % 64) (128 + c % 64) (omega arith) (omega arith) (omega arith) (omega arith)))))

letters_escaped : (ls : List ℕ) → flat_map (λ letter. escape (encode_utf8 letter)) ls ≡ escape (encode_utf8_all ls)
letters_escaped [] = refl
letters_escaped (l ∷ ls) = ap (λ (t : List ℕ). escape (encode_utf8 l) ++ t) (letters_escaped ls) ∙ sym (flat_map-append escape_byte (encode_utf8 l) (encode_utf8_all ls))

-- all characters of a text
pub text_escaped : (ls text : List ℕ) → IsUtf8 text → map (λ (l : ℕ). l) ls ≡ chars text → flat_map (λ letter. escape (encode_utf8 letter)) ls ≡ escape text
text_escaped ls text utf8 all = letters_escaped ls ∙ ap escape (ap encode_utf8_all (sym (map-id ls) ∙ all) ∙ encodes-chars text utf8)
