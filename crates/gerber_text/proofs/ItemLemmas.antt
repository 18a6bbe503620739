-- Items by what they hold: the text of a word, and the text of pieces.
use Rattle.gerber_text.proofs.Common.{◌≡◌, ◌≢◌, ℕ, ◌-◌, true, false, cond, eqb, Option, List, [], ◌∷◌, ◌++◌, length, take, refl, sym, ap, subst, ◌∙◌, arith, append_assoc, list_all, list_any, AllByRecursion, length-append, take_at, eqb-false, nat_tests, Profile, end_byte, after_percent, IsItem, word, HasNo, extended_in, repeated_in, without_end, meaning_in, is_not_break, without_breaks, is_text_byte, is_text, or_is_false, list_all_weaker, list_all_append, Action}
use Rattle.gerber_text.proofs.RunLemmas.{kept_whole}

-- ---- bytes of texts

pub text_kept : (b : ℕ) → is_text_byte b ≡ true → is_not_break b ≡ true
text_kept b h = grind (arith, nat_tests)

pub text_no_star : (b : ℕ) → is_text_byte b ≡ true → eqb b 42 ≡ false
text_no_star b h = grind (arith, nat_tests)

pub text_no_percent : (b : ℕ) → is_text_byte b ≡ true → eqb b 37 ≡ false
text_no_percent b h = grind (arith, nat_tests)

-- a byte that stands nowhere
pub all_other : (n : ℕ) (bytes : List ℕ) → HasNo n bytes → AllByRecursion (λ b. b ≢ n) bytes
all_other n [] h = tt
all_other n (b ∷ bytes) h = let k = or_is_false (eqb b n) (list_any (λ c. eqb c n) bytes) h in (eqb-false b n k.0, all_other n bytes k.1)

-- ---- the bytes before the last

before_one : (w : List ℕ) (x : ℕ) → length (w ++ x ∷ []) - 1 ≡ length w
before_one w x = omega (arith, length-append w (x ∷ []))

pub without_end_push : (w : List ℕ) (x : ℕ) → without_end (w ++ x ∷ []) ≡ w
without_end_push w x = ap (λ k. take k (w ++ x ∷ [])) (before_one w x) ∙ take_at w (x ∷ []) (length w) refl

-- ---- words

-- the item of a word
abbrev pub word_item : List ℕ → List ℕ
word_item w = w ++ 42 ∷ []

pub word_means : (profile : Profile) (latest : Option Action) (w : List ℕ) → HasNo 37 w → meaning_in profile latest (word_item w) ≡ word (repeated_in profile latest) w
unfolding meaning_in
word_means profile latest [] h = refl
word_means profile latest (b ∷ bs) h =
    let k = or_is_false (eqb b 37) (list_any (λ c. eqb c 37) bs) h in
    ap (λ t. cond t (extended_in profile (without_end (bs ++ 42 ∷ []))) (word (repeated_in profile latest) (without_end (b ∷ (bs ++ 42 ∷ []))))) k.0 ∙ ap (word (repeated_in profile latest)) (without_end_push (b ∷ bs) 42)

pub word_is_item : (w : List ℕ) → HasNo 37 w → HasNo 42 w → IsItem (word_item w)
word_is_item [] h k = record { prefix = []; unfinished = tt; whole = refl }
word_is_item (b ∷ bs) h k =
    let no = (or_is_false (eqb b 37) (list_any (λ c. eqb c 37) bs) h).0 in
    let end : end_byte (b ∷ bs) ≡ 42 = ap (λ t. cond t 37 42) no in
    let behind : after_percent (b ∷ bs) ≡ b ∷ bs = ap (λ t. cond t bs (b ∷ bs)) no in
    record {
      prefix = b ∷ bs;
      unfinished = subst (λ (n : ℕ). AllByRecursion (λ c. c ≢ n) (after_percent (b ∷ bs))) (sym end) (subst (AllByRecursion (λ c. c ≢ 42)) (sym behind) (all_other 42 (b ∷ bs) k));
      whole = ap (λ (n : ℕ). (b ∷ bs) ++ n ∷ []) (sym end);
    }

pub word_unbroken : (w : List ℕ) → is_text w ≡ true → without_breaks (word_item w) ≡ word_item w
word_unbroken w h = kept_whole is_not_break (word_item w) (list_all_append is_not_break w (42 ∷ []) (list_all_weaker is_text_byte is_not_break text_kept w h) refl)

-- ---- pieces

-- the item of pieces
abbrev pub piece_item : List ℕ → List ℕ
piece_item t = 37 ∷ (t ++ 42 ∷ 37 ∷ [])

pub piece_parts : (t : List ℕ) → t ++ 42 ∷ 37 ∷ [] ≡ (t ++ 42 ∷ []) ++ 37 ∷ []
piece_parts t = sym (append_assoc t (42 ∷ []) (37 ∷ []))

-- what stands between the two `%` says what an item of pieces spells in the profile
pub extended_means : (profile : Profile) (latest : Option Action) (t : List ℕ) → meaning_in profile latest (piece_item t) ≡ extended_in profile (t ++ 42 ∷ [])
unfolding meaning_in
extended_means profile latest t = ap (extended_in profile) (ap without_end (piece_parts t) ∙ without_end_push (t ++ 42 ∷ []) 37)

no_percent_all : (t : List ℕ) → HasNo 37 t → AllByRecursion (λ b. b ≢ 37) (t ++ 42 ∷ [])
no_percent_all [] h = (λ e. absurd (omega (arith, e)), tt)
no_percent_all (b ∷ bs) h = let k = or_is_false (eqb b 37) (list_any (λ c. eqb c 37) bs) h in (eqb-false b 37 k.0, no_percent_all bs k.1)

pub piece_is_item : (t : List ℕ) → HasNo 37 t → IsItem (piece_item t)
piece_is_item t h = record {
  prefix = 37 ∷ (t ++ 42 ∷ []);
  unfinished = no_percent_all t h;
  whole = ap (λ (l : List ℕ). 37 ∷ l) (piece_parts t);
}

pub piece_unbroken : (t : List ℕ) → list_all is_not_break t ≡ true → without_breaks (piece_item t) ≡ piece_item t
piece_unbroken t h = kept_whole is_not_break (piece_item t) (list_all_append is_not_break t (42 ∷ 37 ∷ []) h refl)
