-- Each name is proposed once.
use Rattle.manifest.proofs.Common.{◌≡◌, ◌∙◌, ◌≤◌, ◌++◌, ◌||◌, ◌&&◌, ℕ, Bool, true, false, cond, List, [], ◌∷◌, map, Some, None, arith, refl, sym, ap, nat_lt, if◌then◌else◌, list_any, count_by, filter, filter_map, cons_option, IsPermutation, bytes_eq, false≢true, list_any-append, sum_by-IsPermutation, bytes_eq-Decides, with_prefixes_from, Profile, InputFile, Proposal, is_copper, is_listed, layers_of_role, rank, count_ranked, has_known_place, place_checked, placed_proposals, separate_proposals, is_named, name_of, distinct, proposal, proposals, unless_seen, are_clear, is_stack, layers_checked, Undecided}
use Rattle.manifest.specs.declared.model.ProposalReason.TheVariants as because
use Rattle.manifest.proofs.CountLemmas.{count_filter, count_hit, count_miss, count_of_map, or_first}
use Rattle.manifest.proofs.LabelLemmas.{IsOnce, has_name}

-- the files after these, each name once
abbrev after : List InputFile → List InputFile → List InputFile
after first files = filter_map unless_seen (with_prefixes_from first files)

abbrev asks : List ℕ → InputFile → Bool
asks name file = bytes_eq (name_of file) name

last : (a b : Bool) → b ≡ true → (a || (b || false)) ≡ true
last true b e = refl
last false true e = refl
last false false e = e

still : (name : List ℕ) (first : List InputFile) (file : InputFile) → is_named name first ≡ true → is_named name (first ++ file ∷ []) ≡ true
still name first file h = list_any-append (asks name) first (file ∷ []) ∙ or_first (list_any (asks name) first) (list_any (asks name) (file ∷ [])) h

joined : (name : List ℕ) (first : List InputFile) (file : InputFile) → asks name file ≡ true → is_named name (first ++ file ∷ []) ≡ true
joined name first file h = list_any-append (asks name) first (file ∷ []) ∙ last (list_any (asks name) first) (asks name file) h

absent : (name : List ℕ) (first files : List InputFile) → is_named name first ≡ true → count_by (asks name) (after first files) ≡ 0
absent name first [] h = refl
absent name first (file ∷ files) h = by (absent name (first ++ file ∷ []) files (still name first file h)) (is_named (name_of file) first) (asks name file) refl refl
  where
    by : count_by (asks name) (after (first ++ file ∷ []) files) ≡ 0 → (b a : Bool) → is_named (name_of file) first ≡ b → asks name file ≡ a → count_by (asks name) (cons_option (if b then None else Some file) (after (first ++ file ∷ []) files)) ≡ 0
    by more true a e k = more
    by more false true e k =
        let is : name_of file ≡ name = (bytes_eq-Decides (name_of file) name).0 k in
        absurd (false≢true (sym e ∙ ap (λ (n : List ℕ). is_named n first) is ∙ h))
    by more false false e k = count_miss (asks name) file (after (first ++ file ∷ []) files) k ∙ more

at_most : (name : List ℕ) (first files : List InputFile) → count_by (asks name) (after first files) ≤ 1
at_most name first [] = omega arith
at_most name first (file ∷ files) = by (at_most name (first ++ file ∷ []) files) (is_named (name_of file) first) (asks name file) refl
  where
    by : count_by (asks name) (after (first ++ file ∷ []) files) ≤ 1 → (b a : Bool) → asks name file ≡ a → count_by (asks name) (cons_option (if b then None else Some file) (after (first ++ file ∷ []) files)) ≤ 1
    by more true a k = more
    by more false true k = omega (arith, count_hit (asks name) file (after (first ++ file ∷ []) files) k, absent name (first ++ file ∷ []) files (joined name first file k))
    by more false false k = omega (arith, count_miss (asks name) file (after (first ++ file ∷ []) files) k, more)

same_file : (ps : List Proposal) (p : Proposal) → (layers_checked ps p).file ≡ p.file
same_file ps p = by (are_clear (is_stack ps) (count_by is_copper ps) (layers_of_role p.role))
  where
    by : (b : Bool) → (if b then p else record { file = p.file; role = Undecided; because = because.UnclearLayers }).file ≡ p.file
    by true = refl
    by false = refl

same_placed : (ps : List Proposal) (p : Proposal) → (place_checked ps p).file ≡ p.file
same_placed ps p = by (has_known_place p.role && nat_lt 1 (count_ranked ps (rank p.role)))
  where
    by : (b : Bool) → (if b then record { file = p.file; role = Undecided; because = because.RepeatedLayer } else p).file ≡ p.file
    by true = refl
    by false = refl

module _ (check : Proposal → Proposal) (same : (p : Proposal) → (check p).file ≡ p.file) where
  -- a name stands as often in proposals that are checked
  same_names : (name : List ℕ) (ps : List Proposal) → count_by (has_name name) (map check ps) ≡ count_by (has_name name) ps
  same_names name ps = count_of_map check (has_name name) ps ∙ ap (λ (t : Proposal → Bool). count_by t ps) (λ i p. bytes_eq (same p i) name)

-- the files of a manifest in its order
pub names_once : (profile : Profile) (files : List InputFile) (entries : List Proposal) → IsPermutation (filter is_listed (proposals profile files)) entries → IsOnce entries
names_once profile files entries same name =
    let placed = placed_proposals profile files in
    let alone = separate_proposals profile files in
    let as_placed : count_by (has_name name) (proposals profile files) ≡ count_by (has_name name) placed = same_names (layers_checked placed) (same_file placed) name placed in
    let as_alone : count_by (has_name name) placed ≡ count_by (has_name name) alone = same_names (place_checked alone) (same_placed alone) name alone in
    let all : count_by (has_name name) (separate_proposals profile files) ≡ count_by (asks name) (distinct files) = count_of_map (proposal profile) (has_name name) (distinct files) in
    omega (arith, as_placed, as_alone, all, at_most name [] files, count_filter (has_name name) is_listed (proposals profile files), sum_by-IsPermutation (λ (p : Proposal). cond (has_name name p) 1 0) (filter is_listed (proposals profile files)) entries same)
