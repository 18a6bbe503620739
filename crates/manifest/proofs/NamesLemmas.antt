-- Words and numbers of a name.
use Rattle.manifest.proofs.Common.{◌≡◌, ◌∙◌, ◌<◌, ◌≤◌, ◌||◌, ◌-◌, ◌+◌, ℕ, min, codes, List, [], ◌∷◌, Bool, true, false, Option, Some, length, map, take, drop, get_or, reverse, Bor, unwrap_or, arith, refl, ap, sym, if◌then◌else◌, list_any, find, option_map, false≢true, le-leb, drop_more, length-map, take-map, take_all, is_digits, value, nine_digits, bytes_eq, has_non_plated, has_plated, is_number_within, is_plated_word, number_within, stem_of}
use mathlib.Core.List.{reverse_aux}

pub any_map : {X Y : Type 0} (p : Y → Bool) (f : X → Y) (xs : List X) → list_any (λ x. p (f x)) xs ≡ list_any p (map f xs)
any_map p f [] = refl
any_map p f (x ∷ xs) = ap (λ b. p (f x) || b) (any_map p f xs)

pub find_map : {X Y : Type 0} (p : Y → Bool) (f : X → Y) (xs : List X) → option_map f (find (λ x. p (f x)) xs) ≡ find p (map f xs)
find_map p f [] = refl
find_map {X} {Y} p f (x ∷ xs) = by (p (f x)) (find_map p f xs)
  where
    by : (b : Bool) → option_map f (find (λ x. p (f x)) xs) ≡ find p (map f xs)
        → option_map f (if b then Some x else find (λ x. p (f x)) xs) ≡ (if b then Some (f x) else find p (map f xs))
    by true e = refl
    by false e = e

-- the number that so many digits spell
pub number_is : (limit : ℕ) (text : List ℕ) (n : ℕ) → limit ≤ 9 → is_digits text ≡ true → length text ≤ limit → n ≡ min (value text) 999999999 → Some n ≡ number_within limit text
number_is limit text n low digits short e =
    let same : n ≡ value text = omega (arith, nine_digits text digits (omega arith)) in
    let fits : is_number_within limit text ≡ true = rw (digits, le-leb (length text) limit short) refl in
    ap (λ (k : ℕ). Some k) same ∙ sym (rw fits refl)

-- fewer than two words
pub short_none : (xs : List (Bor (List ℕ))) → length xs < 2 → false ≡ has_non_plated (map (λ x. x.now) xs)
short_none [] lt = refl
short_none (x ∷ []) lt = refl
short_none (x ∷ y ∷ ys) lt = absurd (omega arith)

module _ {X Y : Type 0} (f : X → Y) where
  turned : (xs after : List X) → reverse_aux (map f xs) (map f after) ≡ map f (reverse_aux xs after)
  turned [] after = refl
  turned (x ∷ xs) after = turned xs (x ∷ after)

  map_reversed : (xs : List X) → reverse (map f xs) ≡ map f (reverse xs)
  map_reversed xs = turned xs []

-- the first word from the end that passes
pub last_found : (q : List ℕ → Bool) (stem : List (Bor (List ℕ))) (o : Option (Bor (List ℕ))) → o ≡ find (λ (w : Bor (List ℕ)). q w.now) (reverse stem)
    → unwrap_or (option_map (λ w. w.now) o) [] ≡ unwrap_or (find q (reverse (map (λ w. w.now) stem))) []
last_found q stem o e =
    ap (λ (p : Option (Bor (List ℕ))). unwrap_or (option_map (λ w. w.now) p) []) e
    ∙ ap (λ (p : Option (List ℕ)). unwrap_or p []) (find_map q (λ (w : Bor (List ℕ)). w.now) (reverse stem) ∙ ap (find q) (sym (map_reversed (λ (w : Bor (List ℕ)). w.now) stem)))

-- the words but those at the end
pub stem_is : (point : Bool) (ends n : ℕ) (xs : List (Bor (List ℕ))) → ends ≡ (if point then 1 else 0) → n ≡ length xs - ends → map (λ x. x.now) (take n xs) ≡ stem_of point (map (λ x. x.now) xs)
stem_is true ends n xs e k =
    let same : n ≡ length (map (λ (x : Bor (List ℕ)). x.now) xs) - 1 = omega (arith, length-map xs (λ (x : Bor (List ℕ)). x.now)) in
    sym (take-map (λ (x : Bor (List ℕ)). x.now) n xs) ∙ ap (λ k. take k (map (λ (x : Bor (List ℕ)). x.now) xs)) same
stem_is false ends n xs e k = ap (map (λ (x : Bor (List ℕ)). x.now)) (take_all n xs (omega arith))

-- the words that are left, where that at i says nothing
pub plated_more : (words : List (Bor (List ℕ))) (i : ℕ) (after_non : Bool) (d : Bor (List ℕ)) → i < length words → is_plated_word after_non (get_or words i d).now ≡ false
    → has_plated (bytes_eq (get_or words i d).now (codes "non")) (map (λ w. w.now) (drop (i + 1) words)) ≡ has_plated after_non (map (λ w. w.now) (drop i words))
plated_more words i after_non d lt silent =
    sym (ap (λ (ws : List (Bor (List ℕ))). has_plated after_non (map (λ w. w.now) ws)) (drop_more words i d lt)
    ∙ ap (λ b. b || has_plated (bytes_eq (get_or words i d).now (codes "non")) (map (λ w. w.now) (drop (i + 1) words))) silent)

-- and where it says that holes are plated
pub plated_here : (words : List (Bor (List ℕ))) (i : ℕ) (after_non : Bool) (d : Bor (List ℕ)) → i < length words → is_plated_word after_non (get_or words i d).now ≡ true
    → has_plated after_non (map (λ w. w.now) (drop i words)) ≡ true
plated_here words i after_non d lt said =
    ap (λ (ws : List (Bor (List ℕ))). has_plated after_non (map (λ w. w.now) ws)) (drop_more words i d lt)
    ∙ ap (λ b. b || has_plated (bytes_eq (get_or words i d).now (codes "non")) (map (λ w. w.now) (drop (i + 1) words))) said

-- the last of three values
pub third : {A : Type 0} (x y : Bool) (a b c : A) → x ≡ false → y ≡ false → c ≡ (if x then a else if y then b else c)
third true y a b c e k = absurd (false≢true (sym e))
third false true a b c e k = absurd (false≢true (sym k))
third false false a b c e k = refl
