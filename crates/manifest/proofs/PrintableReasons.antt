-- A reason is printable ASCII.
use Rattle.manifest.proofs.Common.{◌≡◌, ◌∙◌, ◌<◌, ◌&&◌, ℕ, ◌+◌, ◌-◌, ◌/◌, ◌%◌, Bool, true, false, not, List, [], ◌∷◌, arith, refl, nat_le, nat_lt, if◌then◌else◌, list_all, flat_map, ltb-true, le-leb, list_all-append, and_true, both_true, because_text, backslash, byte_text, hex_digit, is_printed, named_function, reason_words}
use Rattle.std.specs.Prelude.{◌==◌}
use Rattle.manifest.specs.declared.model.ProposalReason.{ProposalReason}
use Rattle.manifest.specs.declared.model.ProposalReason.TheVariants as because

abbrev is_visible : ℕ → Bool
is_visible b = nat_le 32 b && nat_le b 126

abbrev is_byte : ℕ → Bool
is_byte b = nat_lt b 256

words_visible : (why : ProposalReason) → list_all is_visible (reason_words why) ≡ true
words_visible because.NoKind = refl
words_visible because.NoHoles = refl
words_visible because.Archive = refl
words_visible because.Folder = refl
words_visible (because.FileFunction function) = refl
words_visible because.MixedHoles = refl
words_visible because.MixedTools = refl
words_visible because.UnreadMixed = refl
words_visible because.PlatedType = refl
words_visible because.UnplatedType = refl
words_visible because.ByName = refl
words_visible because.ConflictingName = refl
words_visible because.RepeatedLayer = refl
words_visible because.DrillByDefault = refl
words_visible because.DrillInGerber = refl
words_visible because.Plane = refl
words_visible because.NothingSays = refl
words_visible because.UnclearLayers = refl
words_visible because.NotRead = refl
words_visible because.TooLong = refl

digit_visible : (n : ℕ) → n < 16 → is_visible (hex_digit n) ≡ true
digit_visible n lt = by (nat_lt n 10) refl
  where
    by : (b : Bool) → nat_lt n 10 ≡ b → is_visible (if b then 48 + n else 97 + (n - 10)) ≡ true
    by true e = let low : n < 10 = ltb-true n 10 e in and_true (nat_le 32 (48 + n)) (nat_le (48 + n) 126) (le-leb 32 (48 + n) (omega arith)) (le-leb (48 + n) 126 (omega arith))
    by false e = and_true (nat_le 32 (97 + (n - 10))) (nat_le (97 + (n - 10)) 126) (le-leb 32 (97 + (n - 10)) (omega arith)) (le-leb (97 + (n - 10)) 126 (omega arith))

byte_visible : (b : ℕ) → is_byte b ≡ true → list_all is_visible (byte_text b) ≡ true
byte_visible b h = by (is_printed b) refl
  where
    low : b < 256
    low = ltb-true b 256 h

    by : (p : Bool) → is_printed b ≡ p → list_all is_visible (if p then b ∷ [] else backslash ∷ 120 ∷ hex_digit (b / 16) ∷ hex_digit (b % 16) ∷ []) ≡ true
    by true e =
        let k = both_true (nat_le 32 b) (nat_lt b 127 && not (b == backslash)) e in
        let l = both_true (nat_lt b 127) (not (b == backslash)) k.1 in
        let lt : b < 127 = ltb-true b 127 l.0 in
        and_true (is_visible b) true (and_true (nat_le 32 b) (nat_le b 126) k.0 (le-leb b 126 (omega arith))) refl
    by false e =
        and_true (is_visible (hex_digit (b / 16))) (is_visible (hex_digit (b % 16)) && true) (digit_visible (b / 16) (omega (arith, low)))
        (and_true (is_visible (hex_digit (b % 16))) true (digit_visible (b % 16) (omega (arith, low))) refl)

bytes_visible : (bs : List ℕ) → list_all is_byte bs ≡ true → list_all is_visible (flat_map byte_text bs) ≡ true
bytes_visible [] h = refl
bytes_visible (b ∷ bs) h =
    let k = both_true (is_byte b) (list_all is_byte bs) h in
    list_all-append is_visible (byte_text b) (flat_map byte_text bs) ∙ and_true (list_all is_visible (byte_text b)) (list_all is_visible (flat_map byte_text bs)) (byte_visible b k.0) (bytes_visible bs k.1)

pub all_printable : (why : ProposalReason) → list_all is_byte (named_function why) ≡ true → list_all is_visible (because_text why) ≡ true
all_printable why h =
    list_all-append is_visible (reason_words why) (flat_map byte_text (named_function why))
    ∙ and_true (list_all is_visible (reason_words why)) (list_all is_visible (flat_map byte_text (named_function why))) (words_visible why) (bytes_visible (named_function why) h)
