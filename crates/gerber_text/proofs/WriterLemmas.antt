-- What the writer answers.
use Rattle.gerber_text.proofs.Common.{◌≡◌, ℕ, ◌+◌, ◌<◌, ◌≤◌, Bool, true, false, cond, ltb, List, [], ◌∷◌, ◌++◌, length, take, get_or, Result, Ok, Err, refl, sym, ap, subst, ◌∙◌, flat_map, IfOk, Vec, take_more, take_all, append-nil, flat_map-append, ltb-false, fault, Answers, AnswersAlways, Fail, TooLong, Command, canonical, Placed, text_limit, lines, limited_text, canonical_text, without_places, sayable, ReadsAs, vec_bytes}
use Rattle.grid_units.specs.declared.fault.Fail.TheVariants as fails
use Rattle.gerber_text.proofs.RoundTrip.{reads_as}

-- one more element is written after the others
pub written_step : {A : Type 0} (f : A → List ℕ) (xs : List A) (i : ℕ) (x : A) (now next : List ℕ) → i < length xs → x ≡ get_or xs i x → now ≡ flat_map f (take i xs) → next ≡ now ++ f x → next ≡ flat_map f (take (i + 1) xs)
written_step f xs i x now next lt is before after =
    let one : flat_map f (get_or xs i x ∷ []) ≡ f x = append-nil (f (get_or xs i x)) ∙ ap f (sym is) in
    let all : flat_map f (take (i + 1) xs) ≡ flat_map f (take i xs) ++ f x = ap (flat_map f) (take_more xs i x lt) ∙ (flat_map-append f (take i xs) (get_or xs i x ∷ []) ∙ ap (λ (t : List ℕ). flat_map f (take i xs) ++ t) one) in
    after ∙ (ap (λ (t : List ℕ). t ++ f x) before ∙ sym all)

pub written_all : {A : Type 0} (f : A → List ℕ) (xs : List A) (i : ℕ) (now : List ℕ) → length xs ≤ i → now ≡ flat_map f (take i xs) → now ≡ flat_map f xs
written_all f xs i now le is = is ∙ ap (flat_map f) (take_all i xs le)

abbrev pub line : Command → List ℕ
line command = canonical command ++ 10 ∷ []

pub lines_placed : (entries : List (Placed Command)) → flat_map (λ entry. line entry.what) entries ≡ lines (without_places entries)
lines_placed [] = refl
lines_placed (e ∷ entries) = ap (λ (t : List ℕ). line e.what ++ t) (lines_placed entries)

-- ---- the limit

pub exact_of : (cs : List Command) (text : List ℕ) (r : Result (Vec ℕ) Fail) → text ≡ lines cs → AnswersAlways vec_bytes (λ answer. answer ≡ limited_text text) r → Answers vec_bytes (λ answer. answer ≡ canonical_text cs) r
exact_of cs text (Ok v) is h = h ∙ ap limited_text is
exact_of cs text (Err fails.Memory) is h = tt
exact_of cs text (Err (fails.Refused f)) is h = h ∙ ap limited_text is

within : (text other : List ℕ) → Ok other ≡ limited_text text → (other ≡ text) × (length text ≤ text_limit)
within text other h = by (ltb text_limit (length text)) refl h
  where
    by : (t : Bool) → ltb text_limit (length text) ≡ t → Ok other ≡ cond t (Err (fault 0 0 TooLong)) (Ok text) → (other ≡ text) × (length text ≤ text_limit)
    by true e k = absurd cc
    by false e k = (cc, ltb-false _ _ e)

pub reads_back : (cs : List Command) (text : List ℕ) (r : Result (Vec ℕ) Fail) → text ≡ lines cs → AnswersAlways vec_bytes (λ answer. answer ≡ limited_text text) r → sayable cs ≡ true → IfOk r (λ v. ReadsAs v.items cs)
reads_back cs text (Ok v) is h s = let k = within text v.items h in subst (λ (t : List ℕ). ReadsAs t cs) (sym k.0) (reads_as cs text is k.1 s)
reads_back cs text (Err e) is h s = tt
