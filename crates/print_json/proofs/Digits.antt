-- Hexadecimal digits in strings.
use Rattle.print_json.proofs.Common.{◌≡◌, ◌<◌, ◌+◌, ◌/◌, ◌%◌, ◌++◌, ◌∙◌, ℕ, true, List, [], ◌∷◌, refl, ap, ap₂, sym, arith, append-nil, length, take, get_or, take_more, flat_map, escape, escape_byte}
use Rattle.std.specs.Prelude.{slice_index}
use Rattle.std.specs.Char.{digit_char}
use Rattle.std.specs.Str.{bytes_eq}
use Rattle.std.proofs.lemmas.Bool.{agree_below_at}
use Rattle.std.proofs.lemmas.List.Concat.{flat_map-append}
use Rattle.std.proofs.lemmas.Slice.Eq.{bytes_eq-Decides}
use Rattle.hex.specs.Hex.{encode_lower, encode_with, lower_digits}

-- a digit of the table stands for itself
digit_stands : (d : ℕ) → d < 16 → escape_byte (slice_index lower_digits d) ≡ digit_char d ∷ []
unfolding escape_byte
digit_stands d lt =
    (bytes_eq-Decides _ _).0 (agree_below_at (λ x. bytes_eq (escape_byte (slice_index lower_digits x)) (digit_char x ∷ [])) (λ x. true) 16 d refl lt)

-- the text of one byte
abbrev pub byte_text : ℕ → List ℕ
byte_text byte = escape (encode_lower (byte ∷ []))

-- a byte as its two digits
pub byte_digits : (b : ℕ) → b < 256 → digit_char (b / 16) ∷ digit_char (b % 16) ∷ [] ≡ byte_text b
unfolding encode_with
byte_digits b lt = sym (ap₂ (λ (x y : List ℕ). x ++ (y ++ [])) (digit_stands (b / 16) (omega arith)) (digit_stands (b % 16) (omega arith)))

-- all bytes
pub bytes_text : (bs : List ℕ) → flat_map byte_text bs ≡ escape (encode_lower bs)
unfolding encode_with
bytes_text [] = refl
bytes_text (b ∷ bs) =
    ap (λ (t : List ℕ). byte_text b ++ t) (bytes_text bs) ∙ sym (flat_map-append escape_byte (encode_lower (b ∷ [])) (encode_lower bs))

-- one more byte
pub byte_more : (bs : List ℕ) (i d : ℕ) → i < length bs → flat_map byte_text (take i bs) ++ byte_text (get_or bs i d) ≡ flat_map byte_text (take (i + 1) bs)
byte_more bs i d lt =
    ap (λ (t : List ℕ). flat_map byte_text (take i bs) ++ t) (sym (append-nil (byte_text (get_or bs i d))))
    ∙ (sym (flat_map-append byte_text (take i bs) (get_or bs i d ∷ [])) ∙ ap (λ (t : List ℕ). flat_map byte_text t) (sym (take_more bs i d lt)))
