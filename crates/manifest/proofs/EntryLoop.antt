-- One record after another.
use Rattle.manifest.proofs.Common.{◌≡◌, ◌∙◌, ◌<◌, ◌≤◌, ◌+◌, ◌++◌, ℕ, zero, suc, Bool, List, [], ◌∷◌, Option, Some, None, Ok, Err, length, map, take, drop, get_or, slice_get, arith, refl, ap, sym, map-append, Vec, option_or, violations, Answers, with_place, fault, Reason, Fault, Profile, Entry, CsvRecord, broken_after, first_broken_rule, entries_of, entry_of, field, is_repeated, entries_or_fault, joint_fault}
use Rattle.std.specs.declared.alloc.Global.{Global}
use Rattle.grid_units.proofs.LookbackLemmas.{violations-first, violations-more}
use Rattle.grid_units.specs.declared.fault.Fail.{Fail}
use Rattle.grid_units.specs.declared.fault.Fail.TheVariants as fails
use Rattle.manifest.specs.Inner.RecordEntry.{checked_entry, entry_or_reason}

broken : (o : Option Reason) (given : Entry) (place : ℕ) (f : Fault) → Err f ≡ with_place place 0 (entry_or_reason o given) → (why : Reason) × (o ≡ Some why) × (f ≡ fault place 0 why)
broken None given place f e = absurd cc
broken (Some why) given place f e = (why, refl, cc)

-- a record that gives an entry breaks no rule
accepted_is_lawful : (profile : Profile) (width : ℕ) (repeated : Bool) (row : CsvRecord) (entry : Entry) (place : ℕ) → Ok entry ≡ with_place place 0 (checked_entry profile width repeated row) → (first_broken_rule profile width repeated row ≡ None) × (entry ≡ entry_of row)
accepted_is_lawful profile width repeated row entry place e = by (first_broken_rule profile width repeated row) e
  where
    by : (o : Option Reason) → Ok entry ≡ with_place place 0 (entry_or_reason o (entry_of row)) → (o ≡ None) × (entry ≡ entry_of row)
    by None h = (refl, cc)
    by (Some why) h = absurd cc

module _ {A : Type 0} (f : A → CsvRecord) where
  -- the records before, and one more
  pub one_more : (xs : List A) (i : ℕ) (x : A) → i < length xs → x ≡ get_or xs i x → map f (take (i + 1) xs) ≡ map f (take i xs) ++ f x ∷ []
  one_more [] i x lt e = absurd (omega arith)
  one_more (y ∷ ys) zero x lt e = rw (← e) refl
  one_more (y ∷ ys) (suc i) x lt e = let n : suc i + 1 ≡ suc (i + 1) = omega arith in rw n (ap (λ rows. f y ∷ rows) (one_more ys i x (omega arith) e))

  -- all records, around one of them
  pub map_split : (xs : List A) (i : ℕ) (x : A) → i < length xs → x ≡ get_or xs i x → map f xs ≡ map f (take i xs) ++ f x ∷ map f (drop (i + 1) xs)
  map_split [] i x lt e = absurd (omega arith)
  map_split (y ∷ ys) zero x lt e = rw (← e) refl
  map_split (y ∷ ys) (suc i) x lt e = let n : suc i + 1 ≡ suc (i + 1) = omega arith in rw n (ap (λ rows. f y ∷ rows) (map_split ys i x (omega arith) e))

  pub map_take_all : (xs : List A) (i : ℕ) → length xs ≤ i → map f (take i xs) ≡ map f xs
  map_take_all [] zero lt = refl
  map_take_all [] (suc i) lt = refl
  map_take_all (y ∷ ys) zero lt = absurd (omega arith)
  map_take_all (y ∷ ys) (suc i) lt = ap (λ rows. f y ∷ rows) (map_take_all ys i (omega arith))

  pub length_map_take : (xs : List A) (i : ℕ) → i ≤ length xs → length (map f (take i xs)) ≡ i
  length_map_take [] zero lt = refl
  length_map_take [] (suc i) lt = absurd (omega arith)
  length_map_take (y ∷ ys) zero lt = refl
  length_map_take (y ∷ ys) (suc i) lt = ap suc (length_map_take ys i (omega arith))

module _ (profile : Profile) (width : ℕ) where
  -- the first record that breaks a rule is the refusal
  refused_at : (before rest : List CsvRecord) (row : CsvRecord) (why : Reason) → violations (broken_after profile width) before ≡ [] → broken_after profile width before row ≡ Some why
      → entries_of profile width (before ++ row ∷ rest) ≡ Err (fault (length before + 2) 0 why)
  refused_at before rest row why none is =
      ap (λ (o : Option (ℕ × Reason)). entries_or_fault (option_or o (joint_fault (map entry_of (before ++ row ∷ rest)))) (map entry_of (before ++ row ∷ rest)))
      (violations-first (broken_after profile width) before rest row why none is)

  -- a record that is refused after lawful ones, as a failure
  pub refused : (before rest : List CsvRecord) (row : CsvRecord) (all : List CsvRecord) (repeated : Bool) (i : ℕ) (e : Fail) → all ≡ before ++ row ∷ rest → i ≡ length before → repeated ≡ is_repeated (field 1 row) (map entry_of before)
      → violations (broken_after profile width) before ≡ [] → Answers (λ (x : Entry). x) (λ answer. answer ≡ with_place (i + 2) 0 (checked_entry profile width repeated row)) (Err e)
      → Answers {T = Vec Entry Global} (λ entries. entries.items) (λ answer. answer ≡ entries_of profile width all) (Err e)
  refused before rest row all repeated i fails.Memory split place was none h = tt
  refused before rest row all repeated i (fails.Refused f) split place was none h =
      let (why, is, same) = broken (first_broken_rule profile width repeated row) (entry_of row) (i + 2) f h in
      let rule : broken_after profile width before row ≡ Some why = ap (λ (b : Bool). first_broken_rule profile width b row) (sym was) ∙ is in
      ap (λ (g : Fault). Err g) (same ∙ ap (λ (n : ℕ). fault (n + 2) 0 why) place) ∙ sym (refused_at before rest row why none rule) ∙ ap (entries_of profile width) (sym split)

  -- a record that is accepted after lawful ones
  pub accepted_more : (before : List CsvRecord) (row : CsvRecord) (after : List CsvRecord) (repeated : Bool) (earlier items : List Entry) (entry : Entry) (place : ℕ) → after ≡ before ++ row ∷ [] → repeated ≡ is_repeated (field 1 row) (map entry_of before)
      → earlier ≡ map entry_of before → items ≡ earlier ++ entry ∷ [] → violations (broken_after profile width) before ≡ [] → Ok entry ≡ with_place place 0 (checked_entry profile width repeated row)
      → (items ≡ map entry_of after) × (violations (broken_after profile width) after ≡ [])
  accepted_more before row after repeated earlier items entry place grown was are more none e =
      let (lawful, is) = accepted_is_lawful profile width repeated row entry place e in
      let rule : broken_after profile width before row ≡ None = ap (λ (b : Bool). first_broken_rule profile width b row) (sym was) ∙ lawful in
      let all : items ≡ map entry_of (before ++ row ∷ []) = more ∙ (λ k. are k ++ is k ∷ []) ∙ sym (map-append entry_of before (row ∷ [])) in
      (all ∙ ap (map entry_of) (sym grown), ap (violations (broken_after profile width)) grown ∙ violations-more (broken_after profile width) before row none rule)

  -- where no record breaks a rule, the files together decide
  pub at_end : (files : List CsvRecord) (entries : List Entry) (wrong : Option (ℕ × Reason)) → entries ≡ map entry_of files → wrong ≡ joint_fault entries → violations (broken_after profile width) files ≡ []
      → entries_or_fault wrong entries ≡ entries_of profile width files
  at_end files entries wrong are is none =
      sym (ap (λ (l : List (ℕ × Reason)). entries_or_fault (option_or (slice_get l 0) (joint_fault (map entry_of files))) (map entry_of files)) none
      ∙ (λ k. entries_or_fault (sym (is ∙ ap joint_fault are) k) (sym are k)))
