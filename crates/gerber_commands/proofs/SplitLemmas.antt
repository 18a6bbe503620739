-- The parts of a text.
use Rattle.gerber_commands.proofs.Common.{◌≡◌, ℕ, ◌+◌, Bool, true, false, cond, eqb, leb, ◌||◌, ◌&&◌, List, [], ◌∷◌, length, refl, sym, ap, ◌∙◌, list_all, count_by, onto_first, length-slice_split, is_number_char, Standard, split_by, min_sizes, max_sizes, are_sizes}

-- ---- where all parts are runs

onto_all : (q : ℕ → Bool) (b : ℕ) (parts : List (List ℕ)) → list_all (list_all q) (onto_first b parts) ≡ (q b && list_all (list_all q) parts)
onto_all q b [] = by (q b)
  where
    by : (t : Bool) → ((t && true) && true) ≡ (t && true)
    by true = refl
    by false = refl
onto_all q b (part ∷ parts) = by (q b) (list_all q part) (list_all (list_all q) parts)
  where
    by : (t u v : Bool) → ((t && u) && v) ≡ (t && (u && v))
    by true u v = refl
    by false u v = refl

at_division : (u r : Bool) → r ≡ ((u || true) && r)
at_division true r = refl
at_division false r = refl

inside_part : (u r : Bool) → (u && r) ≡ ((u || false) && r)
inside_part true r = refl
inside_part false r = refl

pub parts_all : (q : ℕ → Bool) (at : ℕ) (text : List ℕ) → list_all (list_all q) (split_by at text) ≡ list_all (λ b. q b || eqb b at) text
parts_all q at [] = refl
parts_all q at (b ∷ bs) = by (eqb b at) (parts_all q at bs)
  where
    by : (t : Bool) → list_all (list_all q) (split_by at bs) ≡ list_all (λ b. q b || eqb b at) bs → list_all (list_all q) (cond t ([] ∷ split_by at bs) (onto_first b (split_by at bs))) ≡ ((q b || t) && list_all (λ b. q b || eqb b at) bs)
    by true h = h ∙ at_division (q b) (list_all (λ b. q b || eqb b at) bs)
    by false h = onto_all q b (split_by at bs) ∙ (inside_part (q b) (list_all (list_all q) (split_by at bs)) ∙ ap (λ r. (q b || false) && r) h)

-- the test of parameters, from the test of their bytes and their number
pub sizes_are : (aperture : Standard) (text : List ℕ) (n : ℕ) (a b : Bool) → a ≡ list_all (λ b. is_number_char b || eqb b 88) text → n ≡ count_by (λ b. eqb b 88) text → b ≡ (leb (min_sizes aperture) (n + 1) && leb (n + 1) (max_sizes aperture))
    → are_sizes aperture (split_by 88 text) ≡ (a && b)
sizes_are aperture text n a b p q r =
    let len : length (split_by 88 text) ≡ n + 1 = length-slice_split (λ b. eqb b 88) text ∙ ap (λ k. k + 1) (sym q) in
    (λ i. (parts_all is_number_char 88 text ∙ sym p) i && (leb (min_sizes aperture) (len i) && leb (len i) (max_sizes aperture))) ∙ ap (λ t. a && t) (sym r)

pub sizes_are_not : (aperture : Standard) (text : List ℕ) (a : Bool) → a ≡ list_all (λ b. is_number_char b || eqb b 88) text → a ≡ false → a ≡ are_sizes aperture (split_by 88 text)
sizes_are_not aperture text a p not_so =
    not_so ∙ sym (ap (λ t. t && (leb (min_sizes aperture) (length (split_by 88 text)) && leb (length (split_by 88 text)) (max_sizes aperture))) (parts_all is_number_char 88 text ∙ (sym p ∙ not_so)))
