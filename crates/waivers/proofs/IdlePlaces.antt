-- The numbers of the waivers that waive nothing, found by the first waiver alike of each.
use Rattle.waivers.proofs.Common.{◌≡◌, ◌∙◌, ◌+◌, ◌++◌, ◌<◌, ◌||◌, ℕ, zero, suc, List, [], ◌∷◌, Bool, true, false, not, cond, Option, Some, None, is_some, length, take, get_or, map, arith, refl, ap, sym, subst, if◌then◌else◌, All, enumerate_from, filter, list_any, position_from, length-take-le, map-append, take_more, bytes_eq-Decides, slice_eq-Decides, CsvRecord, gap_fields, ring_fields, has_first_place, has_place, is_waived_by, is_waived_by_first, is_used, unused_numbers, unused_records, IsWaived, compared_fields, report_fields, idle_numbers, waived_by, waives, waives_nothing, Waiver, Decides-eqb, same_from_decides, position_from-zero, list_any-append, BoardReport}
use Rattle.std.specs.BTreeSet.{BTreeSet}
use Rattle.std.specs.Bool.{Decides}
use Rattle.std.proofs.lemmas.List.Elements.{All-head, All-tail}
use Rattle.std.proofs.lemmas.List.Quantifiers.{position-Some}
use Rattle.waivers.specs.declared.waiving.Waived.{Waived}

module _ {X : Type 0} (p : X → Bool) where
  -- the elements that pass, with their numbers from one on
  abbrev kept_from : ℕ → List X → List (ℕ × X)
  kept_from n xs = filter (λ (one : ℕ × X). p one.1) (enumerate_from n xs)

  -- their numbers
  abbrev pub numbers_from : ℕ → List X → List ℕ
  numbers_from n xs = map (λ (one : ℕ × X). one.0) (kept_from n xs)

  more_from : (n : ℕ) (xs : List X) (x : X) → numbers_from n (xs ++ x ∷ []) ≡ numbers_from n xs ++ (if p x then (n + length xs) ∷ [] else [])
  more_from n [] x = let same : n + 0 ≡ n = omega arith in rw same (by (p x))
    where
      by : (b : Bool) → map (λ (one : ℕ × X). one.0) (cond b ((n, x) ∷ []) []) ≡ (if b then n ∷ [] else [])
      by true = refl
      by false = refl
  more_from n (y ∷ ys) x = let same : n + length (y ∷ ys) ≡ n + 1 + length ys = omega arith in rw same (by (p y) (more_from (n + 1) ys x))
    where
      by : (b : Bool) → numbers_from (n + 1) (ys ++ x ∷ []) ≡ numbers_from (n + 1) ys ++ (if p x then (n + 1 + length ys) ∷ [] else [])
          → map (λ (one : ℕ × X). one.0) (cond b ((n, y) ∷ kept_from (n + 1) (ys ++ x ∷ [])) (kept_from (n + 1) (ys ++ x ∷ [])))
          ≡ map (λ (one : ℕ × X). one.0) (cond b ((n, y) ∷ kept_from (n + 1) ys) (kept_from (n + 1) ys)) ++ (if p x then (n + 1 + length ys) ∷ [] else [])
      by true e = ap (λ (ns : List ℕ). n ∷ ns) e
      by false e = e

  -- the numbers of the elements so far and of one more
  pub numbers_more : (n : ℕ) (xs : List X) (i number : ℕ) (d : X) (before after : List ℕ) → i < length xs → number ≡ n + i → before ≡ numbers_from n (take i xs)
      → after ≡ before ++ (if p (get_or xs i d) then number ∷ [] else []) → after ≡ numbers_from n (take (i + 1) xs)
  numbers_more n xs i number d before after lt place was grown =
      let count : length (take i xs) ≡ i = length-take-le i xs (omega arith) in
      let here : number ≡ n + length (take i xs) = omega (arith, place, count) in
      grown ∙ ((λ j. was j ++ (if p (get_or xs i d) then here j ∷ [] else [])) ∙ sym (ap (numbers_from n) (take_more xs i d lt) ∙ more_from n (take i xs) (get_or xs i d)))

module _ {A B : Type 0} (g : A → B) (p : B → Bool) (q : A → Bool) where
  -- the numbers of images that pass are those of the elements that do
  numbers_same : (n : ℕ) (xs : List A) → All (λ x. p (g x) ≡ q x) xs → numbers_from p n (map g xs) ≡ numbers_from q n xs
  numbers_same n [] same = refl
  numbers_same n (x ∷ xs) same = rw (All-head (λ y. p (g y) ≡ q y) x xs same) (by (q x) (numbers_same (n + 1) xs (All-tail (λ y. p (g y) ≡ q y) x xs same)))
    where
      by : (b : Bool) → numbers_from p (n + 1) (map g xs) ≡ numbers_from q (n + 1) xs
          → map (λ (one : ℕ × B). one.0) (cond b ((n, g x) ∷ kept_from p (n + 1) (map g xs)) (kept_from p (n + 1) (map g xs)))
          ≡ map (λ (one : ℕ × A). one.0) (cond b ((n, x) ∷ kept_from q (n + 1) xs) (kept_from q (n + 1) xs))
      by true e = ap (λ (ns : List ℕ). n ∷ ns) e
      by false e = e

-- there is a first place where some element passes
some_from : {X : Type 0} (p : X → Bool) (n : ℕ) (xs : List X) (k : ℕ) (d : X) → k < length xs → p (get_or xs k d) ≡ true → is_some (position_from p n xs) ≡ true
some_from p n [] k d lt e = absurd (omega arith)
some_from p n (x ∷ xs) zero d lt e = rw e refl
some_from p n (x ∷ xs) (suc k) d lt e = by (p x) (some_from p (n + 1) xs k d (omega arith) e)
  where
    by : (b : Bool) → is_some (position_from p (n + 1) xs) ≡ true → is_some (cond b (Some n) (position_from p (n + 1) xs)) ≡ true
    by true h = refl
    by false h = h

-- a place is among others
unused_exactly : (used : BTreeSet ℕ) (places : List (Option ℕ)) → ((place : ℕ) → has_place used place ≡ list_any (is_waived_by place) places) → (o : Option ℕ) → has_first_place used o ≡ list_any (is_waived_by_first o) places
unused_exactly used places are None = none places
  where
    none : (os : List (Option ℕ)) → false ≡ list_any (is_waived_by_first None) os
    none [] = refl
    none (o ∷ os) = none os
unused_exactly used places are (Some place) = are place

module _ (all : List Waiver) where
  -- a waiver waives a finding just where its fields are those of the finding
  waives_is : (finding : CsvRecord) (waiver : Waiver) → Decides (waives finding waiver) (compared_fields waiver ≡ finding)
  waives_is finding waiver = slice_eq-Decides bytes_eq-Decides (compared_fields waiver) finding (waives finding waiver) refl

  -- the first waiver alike waives a finding just where the waiver does
  first_is_equal : (finding : CsvRecord) (waiver : Waiver) → is_some (waived_by all (compared_fields waiver)) ≡ true → is_waived_by_first (waived_by all (compared_fields waiver)) (waived_by all finding) ≡ waives finding waiver
  first_is_equal finding waiver some =
      same_from_decides {P = compared_fields waiver ≡ finding} (is_waived_by_first (waived_by all (compared_fields waiver)) (waived_by all finding)) (waives finding waiver)
      (to (waived_by all (compared_fields waiver)) (waived_by all finding) refl refl, λ e. subst (λ (fields : CsvRecord). is_waived_by_first (waived_by all (compared_fields waiver)) (waived_by all fields) ≡ true) e (from (waived_by all (compared_fields waiver)) some))
      (waives_is finding waiver)
    where
      from : (o : Option ℕ) → is_some o ≡ true → is_waived_by_first o o ≡ true
      from None e = absurd cc
      from (Some place) e = (Decides-eqb place place).1 refl

      to : (o other : Option ℕ) → o ≡ waived_by all (compared_fields waiver) → other ≡ waived_by all finding → is_waived_by_first o other ≡ true → compared_fields waiver ≡ finding
      to None other e f h = absurd cc
      to (Some place) None e f h = absurd cc
      to (Some place) (Some by) e f h =
          let first = position-Some (waives (compared_fields waiver)) all place waiver (sym e) in
          let second = position-Some (waives finding) all by waiver (sym f) in
          let place_is : by ≡ place = (Decides-eqb by place).0 h in
          let alike = (waives_is (compared_fields waiver) (get_or all place waiver)).0 first.1 in
          let waived = (waives_is finding (get_or all by waiver)).0 second.1 in
          sym alike ∙ (ap (λ (n : ℕ). compared_fields (get_or all n waiver)) (sym place_is) ∙ waived)

  -- the same for all findings
  first_stands_for_all : (waiver : Waiver) → is_some (waived_by all (compared_fields waiver)) ≡ true → (findings : List CsvRecord)
      → list_any (is_waived_by_first (waived_by all (compared_fields waiver))) (map (waived_by all) findings) ≡ list_any (λ finding. waives finding waiver) findings
  first_stands_for_all waiver some [] = refl
  first_stands_for_all waiver some (finding ∷ findings) = λ i. first_is_equal finding waiver some i || first_stands_for_all waiver some findings i

  -- each waiver has a first one alike
  has_alike : All (λ waiver. is_some (waived_by all (compared_fields waiver)) ≡ true) all
  has_alike k d lt =
      let waiver = get_or all k d in
      ap is_some (position_from-zero (waives (compared_fields waiver)) all) ∙ some_from (waives (compared_fields waiver)) 0 all k d lt ((waives_is (compared_fields waiver) waiver).1 refl)

  -- the waivers whose first ones alike are not in a set are those that are not used
  unused_is : (used : BTreeSet ℕ) (waived : Waived) (firsts : List (Option ℕ)) (numbers : List ℕ)
      → ((place : ℕ) → has_place used place ≡ (list_any (is_waived_by place) waived.rings.items || list_any (is_waived_by place) waived.gaps.items))
      → firsts ≡ map (λ waiver. waived_by all (compared_fields waiver)) all → numbers ≡ unused_numbers used firsts → numbers ≡ unused_records all waived
  unused_is used waived firsts numbers are alike is =
      let both = λ (place : ℕ). are place ∙ sym (list_any-append (is_waived_by place) waived.rings.items waived.gaps.items) in
      is ∙ (ap (unused_numbers used) alike
      ∙ numbers_same (λ waiver. waived_by all (compared_fields waiver)) (λ first. not (has_first_place used first)) (λ waiver. not (is_used all waived waiver)) 2 all
      (λ k d lt. ap not (unused_exactly used (waived.rings.items ++ waived.gaps.items) both (waived_by all (compared_fields (get_or all k d))))))

  map_twice : {A B C : Type 0} (f : A → B) (g : B → C) (xs : List A) → map (λ x. g (f x)) xs ≡ map g (map f xs)
  map_twice f g [] = refl
  map_twice f g (x ∷ xs) = ap (λ rest. g (f x) ∷ rest) (map_twice f g xs)

  -- the places of the waivers of rings, then of gaps, are those for all findings
  pub report_places : (names : List (List ℕ)) (report : BoardReport) (waived : Waived) → IsWaived all names report waived → waived.rings.items ++ waived.gaps.items ≡ map (waived_by all) (report_fields names report)
  report_places names report waived is =
      (λ i. is.rings i ++ is.gaps i)
      ∙ ((λ i. map_twice (ring_fields names report.layers.items) (waived_by all) report.rings.items i ++ map_twice (gap_fields names) (waived_by all) report.gaps.items i)
      ∙ sym (map-append (waived_by all) (map (ring_fields names report.layers.items) report.rings.items) (map (gap_fields names) report.gaps.items)))

  -- the waivers that are not used are those whose fields no finding has
  unused_is_none : (names : List (List ℕ)) (report : BoardReport) (waived : Waived) → IsWaived all names report waived → unused_records all waived ≡ idle_numbers all (report_fields names report)
  unused_is_none names report waived is =
      let first = λ (waiver : Waiver). waived_by all (compared_fields waiver) in
      let test = λ (place : Option ℕ). not (list_any (is_waived_by_first place) (waived.rings.items ++ waived.gaps.items)) in
      sym (numbers_same first test (λ waiver. not (is_used all waived waiver)) 2 all (λ k d lt. refl))
      ∙ numbers_same first test (waives_nothing (report_fields names report)) 2 all
      (λ k d lt. ap not (ap (list_any (is_waived_by_first (first (get_or all k d)))) (report_places names report waived is) ∙ first_stands_for_all (get_or all k d) (has_alike k d lt) (report_fields names report)))

  -- so the waivers whose first ones alike are not in a set waive nothing
  pub unused_is_idle : (used : BTreeSet ℕ) (waived : Waived) (firsts : List (Option ℕ)) (numbers : List ℕ)
      → ((place : ℕ) → has_place used place ≡ (list_any (is_waived_by place) waived.rings.items || list_any (is_waived_by place) waived.gaps.items))
      → firsts ≡ map (λ waiver. waived_by all (compared_fields waiver)) all → numbers ≡ unused_numbers used firsts
      → (names : List (List ℕ)) (report : BoardReport) → IsWaived all names report waived → numbers ≡ idle_numbers all (report_fields names report)
  unused_is_idle used waived firsts numbers are alike is names report waives_so =
      unused_is used waived firsts numbers are alike is ∙ unused_is_none names report waived waives_so
