-- Names that are escaped.
use Rattle.picture.proofs.Common.{◌≡◌, ◌≢◌, ◌≤◌, ◌<◌, ◌+◌, ◌/◌, ◌==◌, ◌&&◌, ◌||◌, inl, inr, ◌++◌, ◌∷◌, ◌∙◌, [], ℕ, List, Bool, true, false, cond, ltb, length, refl, sym, subst, ap, ap₂, arith, append-nil, codes, if◌then◌else◌, IsTrue, rules, append_assoc, nil_from_length, IsEscaped, begins, begins_entity, begins_forbidden, ends_forbidden, escaped_name, escaped_after, escaped_byte, written_byte}
use lib.Utf8.{encode, next}
use Rattle.std.proofs.lemmas.Bool.{cases_lt}
use Rattle.std.proofs.lemmas.Bool.Decides.{nat_tests}

-- ---- no byte begins U+FFFE or U+FFFF

-- after the second byte
last_written : (low high amp less more : Bool) (d : ℕ) (t : List ℕ) → (d == 190) ≡ low → (d == 191) ≡ high
    → (begins (190 ∷ []) ((if low || high then 189 ∷ [] else if amp then codes "&amp;" else if less then codes "&lt;" else if more then codes "&gt;" else d ∷ []) ++ t)
    || begins (191 ∷ []) ((if low || high then 189 ∷ [] else if amp then codes "&amp;" else if less then codes "&lt;" else if more then codes "&gt;" else d ∷ []) ++ t)) ≡ false
last_written true high amp less more d t is_low is_high = search rules
last_written false true amp less more d t is_low is_high = search rules
last_written false false true less more d t is_low is_high = search rules
last_written false false false true more d t is_low is_high = search rules
last_written false false false false true d t is_low is_high = search rules
last_written false false false false false d t is_low is_high =
    let low : (190 == d) ≡ false = grind (arith, nat_tests, is_low) in
    let high : (191 == d) ≡ false = grind (arith, nat_tests, is_high) in
    rw (low, high) refl

after_second : (ds : List ℕ) → (begins (190 ∷ []) (escaped_after 239 191 ds) || begins (191 ∷ []) (escaped_after 239 191 ds)) ≡ false
unfolding escaped_after
after_second [] = refl
after_second (d ∷ ds) = last_written (d == 190) (d == 191) (d == 38) (d == 60) (d == 62) d (escaped_after 191 d ds) refl refl

-- after the first byte
abbrev EndsNoForbidden : List ℕ → Type 0
EndsNoForbidden t = (begins (191 ∷ 190 ∷ []) t || begins (191 ∷ 191 ∷ []) t) ≡ false

next_plain : (same : Bool) (c : ℕ) (cs : List ℕ) → (191 == c) ≡ same → EndsNoForbidden (c ∷ escaped_after 239 c cs)
next_plain false c cs is = rw is refl
next_plain true c cs is =
    let at : 191 ≡ c = grind (arith, nat_tests, is) in
    subst (λ (x : ℕ). EndsNoForbidden (x ∷ escaped_after 239 x cs)) at (after_second cs)

next_written : (amp less more : Bool) (c : ℕ) (cs : List ℕ)
    → EndsNoForbidden ((if amp then codes "&amp;" else if less then codes "&lt;" else if more then codes "&gt;" else c ∷ []) ++ escaped_after 239 c cs)
next_written true less more c cs = search rules
next_written false true more c cs = search rules
next_written false false true c cs = search rules
next_written false false false c cs = next_plain (191 == c) c cs refl

after_first : (second : ℕ) (bs : List ℕ) → EndsNoForbidden (escaped_after second 239 bs)
unfolding escaped_after
after_first second [] = refl
after_first second (c ∷ cs) = next_written (c == 38) (c == 60) (c == 62) c cs

-- a byte, and the rest of the name as it is printed
no_forbidden_start : (same : Bool) (second b : ℕ) (bs : List ℕ) → (239 == b) ≡ same → begins_forbidden (b ∷ escaped_after second b bs) ≡ false
no_forbidden_start false second b bs is = rw is refl
no_forbidden_start true second b bs is =
    let at : 239 ≡ b = grind (arith, nat_tests, is) in
    subst (λ (x : ℕ). begins_forbidden (x ∷ escaped_after second x bs) ≡ false) at (after_first second bs)

-- ---- a whole name

-- a byte that is neither `&` nor `<`
plain : (b : ℕ) (t : List ℕ) → b ≢ 38 → b ≢ 60 → begins_forbidden (b ∷ t) ≡ false → IsEscaped t → IsEscaped (b ∷ t)
unfolding IsEscaped
plain b t and less ends h = (less, (λ e. absurd (and e)), ends, h)

-- the `&` of an entity
entity : (t : List ℕ) → IsTrue (begins_entity t) → IsEscaped t → IsEscaped (38 ∷ t)
unfolding IsEscaped
entity t is h = (search rules, (λ e. is), refl, h)

-- a byte as it is printed
written : (last amp less more : Bool) (b : ℕ) (t : List ℕ) → (b == 38) ≡ amp → (b == 60) ≡ less → begins_forbidden (b ∷ t) ≡ false → IsEscaped t
    → IsEscaped ((if last then 189 ∷ [] else if amp then codes "&amp;" else if less then codes "&lt;" else if more then codes "&gt;" else b ∷ []) ++ t)
written true amp less more b t and other ends h = plain 189 t (search rules) (search rules) refl h
written false true less more b t and other ends h =
    entity (97 ∷ 109 ∷ 112 ∷ 59 ∷ t) (search rules) (plain 97 _ (search rules) (search rules) refl (plain 109 _ (search rules) (search rules) refl (plain 112 _ (search rules) (search rules) refl (plain 59 _ (search rules) (search rules) refl h))))
written false false true more b t and other ends h =
    entity (108 ∷ 116 ∷ 59 ∷ t) (search rules) (plain 108 _ (search rules) (search rules) refl (plain 116 _ (search rules) (search rules) refl (plain 59 _ (search rules) (search rules) refl h)))
written false false false true b t and other ends h =
    entity (103 ∷ 116 ∷ 59 ∷ t) (search rules) (plain 103 _ (search rules) (search rules) refl (plain 116 _ (search rules) (search rules) refl (plain 59 _ (search rules) (search rules) refl h)))
written false false false false b t and other ends h = plain b t (grind (arith, nat_tests, and)) (grind (arith, nat_tests, other)) ends h

-- the rest of a name as it is printed is escaped
pub escaped_safe : (first second : ℕ) (name : List ℕ) → IsEscaped (escaped_after first second name)
unfolding IsEscaped escaped_after
escaped_safe first second [] = tt
escaped_safe first second (b ∷ bs) =
    written (ends_forbidden first second b) (b == 38) (b == 60) (b == 62) b (escaped_after second b bs) refl refl (no_forbidden_start (239 == b) second b bs refl) (escaped_safe second b bs)

-- ---- character by character

and_false : (s : Bool) → (s && false) ≡ false
and_false true = refl
and_false false = refl

-- a byte that is the last neither of U+FFFE nor of U+FFFF
byte_by_itself : (first second b : ℕ) → b ≢ 190 → b ≢ 191 → written_byte first second b ≡ escaped_byte b
byte_by_itself first second b low high =
    let is_low : (b == 190) ≡ false = grind (arith, nat_tests, low) in
    let is_high : (b == 191) ≡ false = grind (arith, nat_tests, high) in
    rw (is_low, is_high, and_false (first == 239), and_false (second == 191)) refl

-- a byte after one that is not the second of U+FFFE
byte_after : (first second b : ℕ) → second ≢ 191 → written_byte first second b ≡ escaped_byte b
byte_after first second b other =
    let is : (second == 191) ≡ false = grind (arith, nat_tests, other) in
    rw is refl

-- a byte after two of which the first is not that of U+FFFE
byte_after_two : (first second b : ℕ) → first ≢ 239 → written_byte first second b ≡ escaped_byte b
byte_after_two first second b other =
    let is : (first == 239) ≡ false = grind (arith, nat_tests, other) in
    rw (is, and_false (second == 191)) refl

same_byte : (b : ℕ) → b ≢ 38 → b ≢ 60 → b ≢ 62 → escaped_byte b ≡ b ∷ []
same_byte b and less more =
    let is_and : (b == 38) ≡ false = grind (arith, nat_tests, and) in
    let is_less : (b == 60) ≡ false = grind (arith, nat_tests, less) in
    let is_more : (b == 62) ≡ false = grind (arith, nat_tests, more) in
    rw (is_and, is_less, is_more) refl

high_byte : (b : ℕ) → 128 ≤ b → escaped_byte b ≡ b ∷ []
high_byte b high = same_byte b (λ e. omega arith) (λ e. omega arith) (λ e. omega arith)

-- bytes in two parts
in_parts : (first second : ℕ) (bytes rest : List ℕ)
    → (f : ℕ) × (s : ℕ) × (escaped_after first second (bytes ++ rest) ≡ escaped_after first second bytes ++ escaped_after f s rest)
unfolding escaped_after
in_parts first second [] rest = (first, second, refl)
in_parts first second (b ∷ bytes) rest =
    let more = in_parts second b bytes rest in
    let shown = written_byte first second b in
    (more.0, more.1, ap (λ (t : List ℕ). shown ++ t) more.2 ∙ sym (append_assoc shown (escaped_after second b bytes) (escaped_after more.0 more.1 rest)))

-- bytes that begin a character are printed alike after any two bytes
one_byte : (first second a : ℕ) → a ≢ 190 → a ≢ 191 → escaped_after first second (a ∷ []) ≡ escaped_name (a ∷ [])
unfolding escaped_after
one_byte first second a low high = ap (λ (t : List ℕ). t ++ []) (byte_by_itself first second a low high)

more_bytes : (first second a b : ℕ) (bytes : List ℕ) → a ≢ 190 → a ≢ 191 → escaped_after first second (a ∷ b ∷ bytes) ≡ escaped_name (a ∷ b ∷ bytes)
unfolding escaped_after
more_bytes first second a b bytes low high =
    ap₂ (λ (x y : List ℕ). x ++ (y ++ escaped_after a b bytes)) (byte_by_itself first second a low high) (byte_after second a b high ∙ sym (byte_after 0 a b high))

-- the bytes of a character, by whether it has one, two or three of them
abbrev bytes_of : Bool → Bool → Bool → ℕ → List ℕ
bytes_of one two three c =
    cond one (c ∷ []) (cond two ((192 + c / 64) ∷ next c ∷ []) (cond three ((224 + c / 4096) ∷ next (c / 64) ∷ next c ∷ []) ((240 + c / 262144) ∷ next (c / 4096) ∷ next (c / 64) ∷ next c ∷ [])))

by_size : (one two three : Bool) (first second c : ℕ) → ltb c 128 ≡ one
    → escaped_after first second (bytes_of one two three c) ≡ escaped_name (bytes_of one two three c)
by_size true two three first second c short =
    let small : c < 128 = grind (arith, nat_tests, short) in
    one_byte first second c (λ e. omega arith) (λ e. omega arith)
by_size false true three first second c short = more_bytes first second _ _ _ (λ e. omega arith) (λ e. omega arith)
by_size false false true first second c short = more_bytes first second _ _ _ (λ e. omega arith) (λ e. omega arith)
by_size false false false first second c short = more_bytes first second _ _ _ (λ e. omega arith) (λ e. omega arith)

-- a character is printed alike after any two bytes
pub one_more_character : (first second c : ℕ) (rest : List ℕ)
    → (f : ℕ) × (s : ℕ) × (escaped_after first second (encode c ++ rest) ≡ escaped_name (encode c) ++ escaped_after f s rest)
unfolding encode
one_more_character first second c rest =
    let parts = in_parts first second (encode c) rest in
    (parts.0, parts.1, parts.2 ∙ ap (λ (t : List ℕ). t ++ escaped_after parts.0 parts.1 rest) (by_size (ltb c 128) (ltb c 2048) (ltb c 65536) first second c refl))

-- no more characters
pub no_more_characters : (done all : List ℕ) (first second : ℕ) (rest : List ℕ) → length rest ≡ 0 → done ++ escaped_after first second rest ≡ all → done ≡ all
unfolding escaped_after
no_more_characters done all first second rest none was =
    sym (append-nil done) ∙ ap (λ (t : List ℕ). done ++ escaped_after first second t) (sym (nil_from_length rest none)) ∙ was

-- ---- a character that is printed as it stands

not_forbidden : (p q r s : Bool) → (p ≡ true → q ≡ true → r ≡ true → ⊥) → (p ≡ true → q ≡ true → s ≡ true → ⊥) → (p && (q && (r || s))) ≡ false
not_forbidden false q r s low high = refl
not_forbidden true false r s low high = refl
not_forbidden true true true s low high = absurd (low refl refl refl)
not_forbidden true true false true low high = absurd (high refl refl refl)
not_forbidden true true false false low high = refl

number_of_test : (x y : ℕ) → (x == y) ≡ true → x ≡ y
number_of_test x y e = grind (arith, nat_tests, e)

-- the last of three bytes, where the character is not forbidden
last_of_three : (c : ℕ) → c ≢ 65534 → c ≢ 65535 → ltb c 65536 ≡ true → written_byte (224 + c / 4096) (next (c / 64)) (next c) ≡ escaped_byte (next c)
last_of_three c low high short =
    let small : c < 65536 = grind (arith, nat_tests, short) in
    let a : ℕ = 224 + c / 4096 in
    let b : ℕ = next (c / 64) in
    let d : ℕ = next c in
    let never : ends_forbidden a b d ≡ false = not_forbidden (b == 191) (a == 239) (d == 190) (d == 191)
    (λ p q r. let x = number_of_test b 191 p in let y = number_of_test a 239 q in let z = number_of_test d 190 r in let is : c ≡ 65534 = omega arith in low is)
    (λ p q r. let x = number_of_test b 191 p in let y = number_of_test a 239 q in let z = number_of_test d 191 r in let is : c ≡ 65535 = omega arith in high is) in
    rw never refl

plain_by_size : (one two three : Bool) (c : ℕ) → c ≢ 38 → c ≢ 60 → c ≢ 62 → c ≢ 65534 → c ≢ 65535 → ltb c 65536 ≡ three
    → escaped_name (bytes_of one two three c) ≡ bytes_of one two three c
unfolding escaped_after
plain_by_size true two three c and less more low high short = ap (λ (t : List ℕ). t ++ []) (same_byte c and less more)
plain_by_size false true three c and less more low high short =
    let a : ℕ = 192 + c / 64 in
    let b : ℕ = next c in
    ap₂ (λ (x y : List ℕ). x ++ (y ++ [])) (high_byte a (omega arith)) (byte_after 0 a b (λ e. omega arith) ∙ high_byte b (omega arith))
plain_by_size false false true c and less more low high short =
    let a : ℕ = 224 + c / 4096 in
    let b : ℕ = next (c / 64) in
    let d : ℕ = next c in
    ap₂ (λ (x y : List ℕ). x ++ y) (high_byte a (omega arith))
    (ap₂ (λ (x y : List ℕ). x ++ (y ++ [])) (byte_after 0 a b (λ e. omega arith) ∙ high_byte b (omega arith)) (last_of_three c low high short ∙ high_byte d (omega arith)))
plain_by_size false false false c and less more low high short =
    let a : ℕ = 240 + c / 262144 in
    let b : ℕ = next (c / 4096) in
    let d : ℕ = next (c / 64) in
    let e : ℕ = next c in
    ap₂ (λ (x y : List ℕ). x ++ y) (high_byte a (omega arith))
    (ap₂ (λ (x y : List ℕ). x ++ y) (byte_after 0 a b (λ e. omega arith) ∙ high_byte b (omega arith))
    (ap₂ (λ (x y : List ℕ). x ++ (y ++ [])) (byte_after_two a b d (λ e. omega arith) ∙ high_byte d (omega arith)) (byte_after_two b d e (λ e. omega arith) ∙ high_byte e (omega arith))))

pub plain_character : (c : ℕ) → c ≢ 38 → c ≢ 60 → c ≢ 62 → c ≢ 65534 → c ≢ 65535 → escaped_name (encode c) ≡ encode c
unfolding encode
plain_character c and less more low high = plain_by_size (ltb c 128) (ltb c 2048) (ltb c 65536) c and less more low high refl

-- ---- the characters that are not

pub and_character : (c : ℕ) → c ≡ 38 → codes "&amp;" ≡ escaped_name (encode c)
unfolding encode escaped_after
and_character c is = subst (λ (x : ℕ). codes "&amp;" ≡ escaped_name (encode x)) (sym is) refl

pub less_character : (c : ℕ) → c ≡ 60 → codes "&lt;" ≡ escaped_name (encode c)
unfolding encode escaped_after
less_character c is = subst (λ (x : ℕ). codes "&lt;" ≡ escaped_name (encode x)) (sym is) refl

pub more_character : (c : ℕ) → c ≡ 62 → codes "&gt;" ≡ escaped_name (encode c)
unfolding encode escaped_after
more_character c is = subst (λ (x : ℕ). codes "&gt;" ≡ escaped_name (encode x)) (sym is) refl

pub forbidden_character : (c : ℕ) → 65534 ≤ c → c < 65536 → encode 65533 ≡ escaped_name (encode c)
unfolding encode escaped_after
forbidden_character c least most =
    elim (cases_lt c 65535) [
      | inl low ↦ let is : 65534 ≡ c = omega arith in subst (λ (x : ℕ). encode 65533 ≡ escaped_name (encode x)) is refl
      | inr high ↦ let is : 65535 ≡ c = omega arith in subst (λ (x : ℕ). encode 65533 ≡ escaped_name (encode x)) is refl
    ]
