-- Files by name, each once.
use Rattle.manifest.proofs.Common.{◌≡◌, ◌∙◌, ◌++◌, ◌||◌, ◌<◌, ◌+◌, ℕ, List, [], ◌∷◌, Bool, true, false, cond, not, map, take, get_or, Some, None, length, ap, sym, refl, if◌then◌else◌, list_any, filter_map, cons_option, bytes_eq, is_eq, nat_cmp, slice_cmp, append-nil, map-append, take_more, is_eq-slice_cmp, with_prefixes, Profile, InputFile, separate_proposals, is_named, name_of, distinct, proposal, unless_seen, not_not}
use Rattle.std.proofs.lemmas.List.Elements.{filter_map-append}
use Rattle.grid_units.proofs.LookbackLemmas.{with_prefixes-append}
use Rattle.manifest.specs.declared.model.FileContent.TheVariants as content

-- a file that stands for none
abbrev pub nothing : InputFile
nothing = record { name = record { ref_ptr = (0, 0); now = [] }; content = content.Bytes (record { ref_ptr = (0, 0); now = [] }) }

-- the file at a place
abbrev pub file_at : List InputFile → ℕ → InputFile
file_at files i = get_or files i nothing

any_more : (p : InputFile → Bool) (xs : List InputFile) (x : InputFile) → list_any p (xs ++ x ∷ []) ≡ cond (p x) true (list_any p xs)
any_more p [] x = by (p x)
  where
    by : (b : Bool) → (b || false) ≡ cond b true false
    by true = refl
    by false = refl
any_more p (y ∷ ys) x = by (p y) (p x) (list_any p (ys ++ x ∷ [])) (list_any p ys) (any_more p ys x)
  where
    by : (a b c d : Bool) → c ≡ cond b true d → (a || c) ≡ cond b true (a || d)
    by true true c d e = refl
    by true false c d e = refl
    by false b c d e = e

-- a name is one of the files before and of this one's, as a set has it once this one's name is in it
pub had_more : (files : List InputFile) (i : ℕ) (key name : List ℕ) (old new : Bool) → i < length files → key ≡ name_of (file_at files i)
    → new ≡ cond (is_eq (slice_cmp nat_cmp key name)) true old → old ≡ is_named name (take i files) → new ≡ is_named name (take (i + 1) files)
had_more files i key name old new lt is e was =
    let file = file_at files i in
    let grown : take (i + 1) files ≡ take i files ++ file ∷ [] = take_more files i nothing lt in
    let same : is_eq (slice_cmp nat_cmp key name) ≡ bytes_eq (name_of file) name = is_eq-slice_cmp key name ∙ ap (λ (k : List ℕ). bytes_eq k name) is in
    e ∙ rw (same, was) (sym (ap (is_named name) grown ∙ any_more (λ f. bytes_eq (name_of f) name) (take i files) file))

-- a name that is new to the set was not there, and the other way round
pub is_new : (name key : List ℕ) (before : List InputFile) (had new : Bool) → key ≡ name → new ≡ not had → had ≡ is_named key before → is_named name before ≡ not new
is_new name key before had new same e was = sym (ap not e ∙ (not_not had ∙ (was ∙ ap (λ (k : List ℕ). is_named k before) same)))

once_more : (before : List InputFile) (file : InputFile) → distinct (before ++ file ∷ []) ≡ distinct before ++ cons_option (unless_seen (before, file)) []
once_more before file = ap (filter_map unless_seen) (with_prefixes-append before (file ∷ [])) ∙ filter_map-append unless_seen (with_prefixes before) ((before, file) ∷ [])

module _ (profile : Profile) (files : List InputFile) (i : ℕ) (lt : i < length files) where
  abbrev file : InputFile
  file = file_at files i

  grown : take (i + 1) files ≡ take i files ++ file ∷ []
  grown = take_more files i nothing lt

  by : (b : Bool) → is_named (name_of file) (take i files) ≡ b → separate_proposals profile (take (i + 1) files) ≡ separate_proposals profile (take i files) ++ map (proposal profile) (cons_option (if b then None else Some file) [])
  by b e =
      ap (separate_proposals profile) grown ∙ ap (map (proposal profile)) (once_more (take i files) file) ∙ map-append (proposal profile) (distinct (take i files)) (cons_option (unless_seen (take i files, file)) [])
      ∙ ap (λ (k : Bool). separate_proposals profile (take i files) ++ map (proposal profile) (cons_option (if k then None else Some file) [])) e

  -- a file with a new name
  pub one_more : is_named (name_of file) (take i files) ≡ false → separate_proposals profile (take (i + 1) files) ≡ separate_proposals profile (take i files) ++ proposal profile file ∷ []
  one_more e = by false e

  -- a file with a name that was there
  pub no_more : is_named (name_of file) (take i files) ≡ true → separate_proposals profile (take (i + 1) files) ≡ separate_proposals profile (take i files)
  no_more e = by true e ∙ append-nil (separate_proposals profile (take i files))
