-- Names that two files share, as two sets have them: those that were met, and those that were met again.
use Rattle.manifest.proofs.Common.{◌≡◌, ◌∙◌, ◌<◌, ◌+◌, ℕ, Bool, true, false, cond, not, List, [], ◌∷◌, ◌++◌, length, map, take, get_or, Bor, arith, refl, sym, ap, nat_lt, is_eq, nat_cmp, bytes_eq, slice_cmp, nat_tests, map-append, take_more, is_eq-slice_cmp, bytes_eq-Decides, base_name, Proposal, count_named, not_not}
use Rattle.manifest.proofs.CountLemmas.{count_append, count_cons, one}

-- ---- one more name

met : (b old : Bool) (n m : ℕ) → old ≡ nat_lt 0 n → m ≡ n + one b → cond b true old ≡ nat_lt 0 m
met true old n m e is = let lt : 0 < m = omega (arith, is) in grind (arith, nat_tests)
met false old n m e is = let same : m ≡ n = omega (arith, is) in e ∙ ap (nat_lt 0) (sym same)

kept : (b : Bool) (n m : ℕ) (old : Bool) → (b ≡ true → nat_lt 0 n ≡ false) → old ≡ nat_lt 1 n → m ≡ n + one b → old ≡ nat_lt 1 m
kept true n m old new e is = let none = new refl in grind (arith, nat_tests)
kept false n m old new e is = let same : m ≡ n = omega (arith, is) in e ∙ ap (nat_lt 1) (sym same)

again : (b : Bool) (n m : ℕ) (old : Bool) → (b ≡ true → nat_lt 0 n ≡ true) → old ≡ nat_lt 1 n → m ≡ n + one b → cond b true old ≡ nat_lt 1 m
again true n m old had e is = let some = had refl in grind (arith, nat_tests)
again false n m old had e is = let same : m ≡ n = omega (arith, is) in e ∙ ap (nat_lt 1) (sym same)

-- ---- the files so far

-- the file of a reference
abbrev pub now : Bor Proposal → Proposal
now b = b.now

-- how many of the first files have the name
abbrev pub so_far : List (Bor Proposal) → ℕ → List ℕ → ℕ
so_far entries i name = count_named (map now (take i entries)) name

module _ (entries : List (Bor Proposal)) (i : ℕ) (entry : Bor Proposal) (lt : i < length entries) (here : entry ≡ get_or entries i entry) where
  abbrev key : List ℕ
  key = base_name entry.now.file

  abbrev is_key : List ℕ → Bool
  is_key name = bytes_eq key name

  one_more : (name : List ℕ) → so_far entries (i + 1) name ≡ so_far entries i name + one (is_key name)
  one_more name =
      let test = λ (p : Proposal). bytes_eq (base_name p.file) name in
      let grown : take (i + 1) entries ≡ take i entries ++ entry ∷ [] = take_more entries i entry lt ∙ ap (λ (e : Bor Proposal). take i entries ++ e ∷ []) (sym here) in
      let all : so_far entries (i + 1) name ≡ count_named (map now (take i entries) ++ entry.now ∷ []) name =
      ap (λ (es : List (Bor Proposal)). count_named (map now es) name) grown ∙ ap (λ (ps : List Proposal). count_named ps name) (map-append now (take i entries) (entry ∷ [])) in
      let last : count_named (entry.now ∷ []) name ≡ one (is_key name) + 0 = count_cons test entry.now [] in
      omega (arith, all, count_append test (map now (take i entries)) (entry.now ∷ []), last)

  module _ (name : List ℕ) where
    same_key : (k : List ℕ) → k ≡ key → is_eq (slice_cmp nat_cmp k name) ≡ is_key name
    same_key k e = is_eq-slice_cmp k name ∙ ap (λ (x : List ℕ). bytes_eq x name) e

    -- a name is among those that were met, as a set has it once this one's is in it
    pub met_more : (k : List ℕ) (old new : Bool) → k ≡ key → new ≡ cond (is_eq (slice_cmp nat_cmp k name)) true old → old ≡ nat_lt 0 (so_far entries i name) → new ≡ nat_lt 0 (so_far entries (i + 1) name)
    met_more k old new e is was =
        is ∙ ap (λ b. cond b true old) (same_key k e) ∙ met (is_key name) old (so_far entries i name) (so_far entries (i + 1) name) was (one_more name)

    at_key : {b : Bool} → nat_lt 0 (so_far entries i key) ≡ b → is_key name ≡ true → nat_lt 0 (so_far entries i name) ≡ b
    at_key h e = ap (λ (x : List ℕ). nat_lt 0 (so_far entries i x)) (sym ((bytes_eq-Decides key name).0 e)) ∙ h

    -- a name is shared, where this file's name is new
    pub shared_kept : (old : Bool) → nat_lt 0 (so_far entries i key) ≡ false → old ≡ nat_lt 1 (so_far entries i name) → old ≡ nat_lt 1 (so_far entries (i + 1) name)
    shared_kept old new was = kept (is_key name) (so_far entries i name) (so_far entries (i + 1) name) old (λ e. at_key new e) was (one_more name)

    -- a name is shared, where this file's name was met before
    pub shared_more : (k : List ℕ) (old new : Bool) → k ≡ key → nat_lt 0 (so_far entries i key) ≡ true → new ≡ cond (is_eq (slice_cmp nat_cmp k name)) true old → old ≡ nat_lt 1 (so_far entries i name)
        → new ≡ nat_lt 1 (so_far entries (i + 1) name)
    shared_more k old new e had is was =
        is ∙ ap (λ b. cond b true old) (same_key k e) ∙ again (is_key name) (so_far entries i name) (so_far entries (i + 1) name) old (λ t. at_key had t) was (one_more name)

  -- the name was met, where its insertion says that it is not new
  pub was_met : (k : List ℕ) (had new : Bool) → k ≡ key → new ≡ not had → had ≡ nat_lt 0 (so_far entries i k) → nat_lt 0 (so_far entries i key) ≡ not new
  was_met k had new e is was = ap (λ (x : List ℕ). nat_lt 0 (so_far entries i x)) (sym e) ∙ sym was ∙ sym (not_not had) ∙ sym (ap not is)
