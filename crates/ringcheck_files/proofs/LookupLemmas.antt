-- Each word that has a page is listed, and a search finds a word or a page where there is one.
use Rattle.ringcheck_files.proofs.Common.{arith, inl, inr, map, ◌≡◌, ◌<◌, ◌-◌, ◌∙◌, ◌⊎◌, ℕ, zero, suc, Bool, true, false, List, [], ◌∷◌, length, get_or, sym, refl, ap, subst, cond, Option, Some, None, IfSome, AllByRecursion, Contains, find, option_map, bytes_eq, length-map, get_or-map, reason_name, reason_number, Reason, EachWordIsListed, IsExplained, all_reasons, all_words, topic_words, Contains-append_left, Contains-append_right, Contains-append_cases, bytes_eq-Decides}
use Rattle.grid_units.specs.declared.fault.Reason.TheVariants as reasons

-- each reason stands in their list at its number, the first of which is 1
pub reason_at : (reason : Reason) → (reason_number reason - 1 < length all_reasons) × (get_or all_reasons (reason_number reason - 1) reason ≡ reason)
reason_at reasons.TooLong = (omega arith, refl)
reason_at reasons.AfterEnd = (omega arith, refl)
reason_at reasons.Truncated = (omega arith, refl)
reason_at reasons.SeveralInOne = (omega arith, refl)
reason_at reasons.ClearPolarity = (omega arith, refl)
reason_at reasons.BlockAperture = (omega arith, refl)
reason_at reasons.NegativeImage = (omega arith, refl)
reason_at reasons.TrailingZeros = (omega arith, refl)
reason_at reasons.Incremental = (omega arith, refl)
reason_at reasons.OldParameter = (omega arith, refl)
reason_at reasons.OldFormat = (omega arith, refl)
reason_at reasons.Routed = (omega arith, refl)
reason_at reasons.Repeat = (omega arith, refl)
reason_at reasons.BadWord = (omega arith, refl)
reason_at reasons.BadLine = (omega arith, refl)
reason_at reasons.BadNumber = (omega arith, refl)
reason_at reasons.NoZeros = (omega arith, refl)
reason_at reasons.TooManyDigits = (omega arith, refl)
reason_at reasons.TooFine = (omega arith, refl)
reason_at reasons.TooFar = (omega arith, refl)
reason_at reasons.BareCoordinate = (omega arith, refl)
reason_at reasons.InRegion = (omega arith, refl)
reason_at reasons.NotInRegion = (omega arith, refl)
reason_at reasons.NoFormat = (omega arith, refl)
reason_at reasons.NoUnit = (omega arith, refl)
reason_at reasons.UnitConflict = (omega arith, refl)
reason_at reasons.FormatConflict = (omega arith, refl)
reason_at reasons.Redefined = (omega arith, refl)
reason_at reasons.UnknownMacro = (omega arith, refl)
reason_at reasons.UnknownAperture = (omega arith, refl)
reason_at reasons.UnknownTool = (omega arith, refl)
reason_at reasons.NoAperture = (omega arith, refl)
reason_at reasons.NoTool = (omega arith, refl)
reason_at reasons.BadSize = (omega arith, refl)
reason_at reasons.BadRepeat = (omega arith, refl)
reason_at reasons.TooManyPads = (omega arith, refl)
reason_at reasons.TooManyHoles = (omega arith, refl)
reason_at reasons.BadRule = (omega arith, refl)
reason_at reasons.BadManifest = (omega arith, refl)
reason_at reasons.BadRole = (omega arith, refl)
reason_at reasons.EmptyName = (omega arith, refl)
reason_at reasons.RepeatedName = (omega arith, refl)
reason_at reasons.NoCopper = (omega arith, refl)
reason_at reasons.NoDrill = (omega arith, refl)
reason_at reasons.NotCopper = (omega arith, refl)
reason_at reasons.BadSpan = (omega arith, refl)
reason_at reasons.NoPlating = (omega arith, refl)
reason_at reasons.PlatingConflict = (omega arith, refl)

-- each reason is listed
pub reason_is_listed : (reason : Reason) → Contains all_reasons reason
reason_is_listed reason = (reason_number reason - 1, (reason_at reason).0, (reason_at reason).1)

-- the words of what is listed
contains_map : {A B : Type 0} (f : A → B) (xs : List A) (x : A) → Contains xs x → Contains (map f xs) (f x)
contains_map f xs x h = (h.0, omega (arith, h.1, length-map xs f), get_or-map f xs h.0 x (f x) h.1 ∙ ap f h.2)

-- each word that has a page is listed
pub word_is_listed : EachWordIsListed
word_is_listed word (inl named) = subst (Contains all_words) named.1 (Contains-append_left (map reason_name all_reasons) topic_words (reason_name named.0) (contains_map reason_name all_reasons named.0 (reason_is_listed named.0)))
word_is_listed word (inr listed) = Contains-append_right (map reason_name all_reasons) topic_words word listed

-- each listed word has a page
pub listed_is_explained : (word : List ℕ) → Contains all_words word → IsExplained word
listed_is_explained word listed = by (Contains-append_cases (map reason_name all_reasons) topic_words word listed)
  where
    by : Contains (map reason_name all_reasons) word ⊎ Contains topic_words word → IsExplained word
    by (inl named) =
        let k = named.0 in
        let inside : k < length all_reasons = omega (arith, named.1, length-map all_reasons reason_name) in
        inl (get_or all_reasons k reasons.TooLong, sym (get_or-map reason_name all_reasons k reasons.TooLong word inside) ∙ named.2)
    by (inr other) = inr other

-- what a search finds passes, and what holds of each element holds of it
pub found_holds : {A : Type 0} (P : A → Type 0) (test : A → Bool) (xs : List A) (r : Option A) → AllByRecursion P xs → r ≡ find test xs → IfSome r (λ x. P x × (test x ≡ true))
found_holds P test [] r h e = subst (λ o. IfSome o (λ x. P x × (test x ≡ true))) (sym e) tt
found_holds P test (y ∷ ys) r h e = by (test y) refl e (found_holds P test ys r h.1)
  where
    by : (t : Bool) → test y ≡ t → r ≡ cond t (Some y) (find test ys) → (r ≡ find test ys → IfSome r (λ x. P x × (test x ≡ true))) → IfSome r (λ x. P x × (test x ≡ true))
    by true is k later = subst (λ o. IfSome o (λ x. P x × (test x ≡ true))) (sym k) (h.0, is)
    by false is k later = later k

-- it stands in the list
pub found_is_listed : (test : List ℕ → Bool) (xs : List (List ℕ)) (x : List ℕ) → Some x ≡ find test xs → Contains xs x
found_is_listed test [] x e = absurd cc
found_is_listed test (y ∷ ys) x e = by (test y) e (found_is_listed test ys x)
  where
    by : (t : Bool) → Some x ≡ cond t (Some y) (find test ys) → (Some x ≡ find test ys → Contains ys x) → Contains (y ∷ ys) x
    by true k later = (0, omega arith, let same : x ≡ y = cc in sym same)
    by false k later = let at = later k in (suc at.0, omega (arith, at.1), at.2)

-- a word that is listed is found
pub listed_is_found : {A : Type 0} (f : A → List ℕ) (word : List ℕ) (xs : List A) → None ≡ find (λ x. bytes_eq (f x) word) xs → Contains (map f xs) word → ⊥
listed_is_found f word [] e listed = absurd (omega (arith, listed.1))
listed_is_found f word (x ∷ xs) e listed = by (bytes_eq (f x) word) refl e listed.0 listed.1 listed.2 (listed_is_found f word xs)
  where
    by : (t : Bool) → bytes_eq (f x) word ≡ t → None ≡ cond t (Some x) (find (λ y. bytes_eq (f y) word) xs) → (i : ℕ) → i < length (f x ∷ map f xs) → get_or (f x ∷ map f xs) i word ≡ word
        → (None ≡ find (λ y. bytes_eq (f y) word) xs → Contains (map f xs) word → ⊥) → ⊥
    by true is k i inside at later = absurd cc
    by false is k zero inside here later = let same = (bytes_eq-Decides (f x) word).1 here in absurd cc
    by false is k (suc i) inside there later = later k (i, omega (arith, inside), there)

-- a search of words made of elements is one of the elements
pub find_map : {A B : Type 0} (f : A → B) (test : B → Bool) (xs : List A) → find test (map f xs) ≡ option_map f (find (λ x. test (f x)) xs)
find_map f test [] = refl
find_map f test (x ∷ xs) = by (test (f x)) (find_map f test xs)
  where
    by : (t : Bool) → find test (map f xs) ≡ option_map f (find (λ y. test (f y)) xs) → cond t (Some (f x)) (find test (map f xs)) ≡ option_map f (cond t (Some x) (find (λ y. test (f y)) xs))
    by true later = refl
    by false later = later
