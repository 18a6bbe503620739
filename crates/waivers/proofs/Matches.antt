-- The first waiver whose fields are those of a finding, found by its key.
use Rattle.waivers.proofs.Common.{◌≡◌, ◌∙◌, ◌≤◌, ◌+◌, ◌++◌, ℕ, List, [], ◌∷◌, Bool, Option, Some, map, length, arith, refl, ap, sym, position_from, bytes_eq, bytes_eq-Decides, slice_eq-Decides, default_writer, read_back, row_text, CsvRecord, Waiver, record_key, compared_fields, waived_by, waives, pointwise, Decides-like, same_from_decides, position_from-zero}
use Rattle.csv.specs.Machine.{Read, next_record}
use Rattle.csv.specs.Reading.{default_config}
use Rattle.csv.specs.declared.parser.State.TheVariants as st
use Rattle.csv.proofs.RoundTrip.{read-write}
use Rattle.waivers.proofs.Quoted.{row_joined}

some_is : (p q : Read) → Some p ≡ Some q → p ≡ q
some_is p q e = cc

abbrev after : CsvRecord → Read
after row = (row, st.StartRecord, [])

-- a record of two fields or more is read back as it is
whole : (row : CsvRecord) → 2 ≤ length row → read_back row ≡ row
whole [] lt = absurd (omega arith)
whole (field ∷ rest) lt = refl

-- records with equal texts are equal
same_row : (a b : CsvRecord) → 2 ≤ length a → 2 ≤ length b → record_key a ≡ record_key b → a ≡ b
same_row a b full_a full_b e =
    let rows : row_text default_writer a ≡ row_text default_writer b = row_joined a full_a ∙ (ap (λ (text : List ℕ). text ++ 10 ∷ []) e ∙ sym (row_joined b full_b)) in
    let read : Some (after (read_back a)) ≡ Some (after (read_back b)) =
    sym (read-write a []) ∙ (ap (λ (text : List ℕ). next_record default_config st.StartRecord [] [] (text ++ [])) rows ∙ read-write b []) in
    sym (whole a full_a) ∙ (ap (λ (p : Read). p.0) (some_is (after (read_back a)) (after (read_back b)) read) ∙ whole b full_b)

-- keys are equal just where all fields are
key_is : (a b : CsvRecord) → 2 ≤ length a → 2 ≤ length b → bytes_eq (record_key a) (record_key b) ≡ pointwise bytes_eq a b
key_is a b full_a full_b =
    same_from_decides {P = a ≡ b} (bytes_eq (record_key a) (record_key b)) (pointwise bytes_eq a b)
    (Decides-like (bytes_eq (record_key a) (record_key b)) (same_row a b full_a full_b) (λ e. ap record_key e) (bytes_eq-Decides (record_key a) (record_key b)))
    (slice_eq-Decides bytes_eq-Decides a b (pointwise bytes_eq a b) refl)

-- the first place in a list of images
from_map : {A B : Type 0} (f : A → B) (p : B → Bool) (n : ℕ) (xs : List A) → position_from p n (map f xs) ≡ position_from (λ x. p (f x)) n xs
from_map f p n [] = refl
from_map f p n (x ∷ xs) = rw (from_map f p (n + 1) xs) refl

-- the first place by tests that agree
from_same : {A : Type 0} (p q : A → Bool) → ((x : A) → p x ≡ q x) → (n : ℕ) (xs : List A) → position_from p n xs ≡ position_from q n xs
from_same p q same n [] = refl
from_same p q same n (x ∷ xs) = rw (same x, from_same p q same (n + 1) xs) refl

map_twice : {A B C : Type 0} (f : A → B) (g : B → C) (xs : List A) → map g (map f xs) ≡ map (λ x. g (f x)) xs
map_twice f g [] = refl
map_twice f g (x ∷ xs) = ap (λ rest. g (f x) ∷ rest) (map_twice f g xs)

map_same : {A B : Type 0} (f g : A → B) → ((x : A) → f x ≡ g x) → (xs : List A) → map f xs ≡ map g xs
map_same f g same [] = refl
map_same f g same (x ∷ xs) = λ i. (same x i ∷ map_same f g same xs i)

module _ {K : Type 0} (bytes : K → List ℕ) (keys : List K) (all : List Waiver) (same : map bytes keys ≡ map (λ waiver. record_key (compared_fields waiver)) all) where
  -- the first key equal to a finding's is at the place of the first waiver that waives it
  first_is : (finding : CsvRecord) → 2 ≤ length finding → position_from (λ key. bytes_eq (bytes key) (record_key finding)) 0 keys ≡ waived_by all finding
  first_is finding full =
      let test = λ (key : List ℕ). bytes_eq key (record_key finding) in
      sym (from_map bytes test 0 keys) ∙ (ap (position_from test 0) same ∙ (from_map (λ (waiver : Waiver). record_key (compared_fields waiver)) test 0 all
      ∙ (from_same (λ (waiver : Waiver). bytes_eq (record_key (compared_fields waiver)) (record_key finding)) (waives finding) (λ waiver. key_is (compared_fields waiver) finding (omega arith) full) 0 all
      ∙ sym (position_from-zero (waives finding) all))))

  -- the places that a table of first keys holds for the keys of findings
  pub all_found : {X : Type 0} (fields : X → CsvRecord) (lacks : List X) (wanted : List K) (places : List (Option ℕ)) (found : List ℕ → Option ℕ) → ((lack : X) → 2 ≤ length (fields lack))
      → ((key : List ℕ) → found key ≡ position_from (λ other. bytes_eq (bytes other) key) 0 keys) → map bytes wanted ≡ map (λ lack. record_key (fields lack)) lacks → places ≡ map (λ key. found (bytes key)) wanted
      → places ≡ map (λ lack. waived_by all (fields lack)) lacks
  all_found fields lacks wanted places found full table are is =
      is ∙ (sym (map_twice bytes found wanted) ∙ (ap (map found) are ∙ (map_twice (λ lack. record_key (fields lack)) found lacks
      ∙ map_same (λ lack. found (record_key (fields lack))) (λ lack. waived_by all (fields lack)) (λ lack. table (record_key (fields lack)) ∙ first_is (fields lack) (full lack)) lacks)))
