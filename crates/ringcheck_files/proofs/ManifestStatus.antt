-- Files that were loaded one by one, by their names.
use Rattle.ringcheck_files.proofs.Common.{◌≡◌, ◌∙◌, ◌<◌, ◌≤◌, ◌+◌, ◌++◌, ◌&&◌, inl, inr, ℕ, zero, suc, Bool, true, false, cond, List, [], ◌∷◌, length, map, take, get_or, Bor, Option, Some, arith, refl, ap, sym, subst, Appends, slice_get, list_all, false≢true, HasLoaded, HasAllLoaded, IsHeldStatus, IsManifestStatus, IsProposalText, LoadedView, PrintsProposal, HasRisenBy, bytes, unread, folder, long, is_container, are_containers, is_entry_name, count_unread, first_said, loaded_view, is_unread, loaded_file, loaded_files, said_of, Profile}
use Rattle.std.proofs.lemmas.List.Sums.{sum_by_push}
use Rattle.manifest.specs.ProposalList.{name_of}
use Rattle.manifest.specs.declared.model.InputFile.{InputFile}
use Rattle.ringcheck_files.specs.declared.Status.{Status}
use Rattle.ringcheck_files.specs.declared.Status.TheVariants as status
use Rattle.ringcheck_files.specs.declared.proposed_manifest.LoadedFile.{LoadedFile}
use Rattle.ringcheck_files.specs.Outcomes.{HasRisen}

-- the names
abbrev pub texts : List (Bor (List ℕ)) → List (List ℕ)
texts = map (λ n. n.now)

-- one more file
pub loaded_more : (has : List ℕ → List ℕ → Type 0) (names : List (Bor (List ℕ))) (all : List LoadedFile) (name : Bor (List ℕ)) (one : LoadedFile) → length names ≡ length all
    → HasAllLoaded has (loaded_files names all) → HasLoaded has name.now (loaded_view one) → HasAllLoaded has (loaded_files (names ++ name ∷ []) (all ++ one ∷ []))
loaded_more has [] [] name one n h k = (k, tt)
loaded_more has [] (x ∷ xs) name one n h k = absurd (omega (arith, n))
loaded_more has (y ∷ ys) [] name one n h k = absurd (omega (arith, n))
loaded_more has (y ∷ ys) (x ∷ xs) name one n h k = (h.0, loaded_more has ys xs name one (omega (arith, n)) h.1 k)

-- names with one more
loaded_push : (names : List (Bor (List ℕ))) (all : List LoadedFile) (name : Bor (List ℕ)) (one : LoadedFile) → length names ≡ length all
    → loaded_files (names ++ name ∷ []) (all ++ one ∷ []) ≡ loaded_files names all ++ (name.now, loaded_view one) ∷ []
loaded_push [] [] name one n = refl
loaded_push [] (x ∷ xs) name one n = absurd (omega (arith, n))
loaded_push (y ∷ ys) [] name one n = absurd (omega (arith, n))
loaded_push (y ∷ ys) (x ∷ xs) name one n = ap (λ (t : List (List ℕ × LoadedView)). (y.now, loaded_view x) ∷ t) (loaded_push ys xs name one (omega (arith, n)))

-- a count of failures that rose by so many, and by one more where one more cannot be read
rose_more : (u : Bool) (n before middle after : ℕ) → middle ≤ after → HasRisenBy n before middle → (u ≡ true → HasRisen middle after) → HasRisenBy (n + cond u 1 0) before after
rose_more true n before middle after le (inl rose) k = elim (k refl) [
  | inl more ↦ inl (omega arith)
  | inr last ↦ inr (omega arith)
]
rose_more true n before middle after le (inr last) k = inr (omega arith)
rose_more false n before middle after le (inl rose) k = inl (omega arith)
rose_more false n before middle after le (inr last) k = inr (omega arith)

-- a load has failed for each file that cannot be read, with one more file
pub unread_more : (names : List (Bor (List ℕ))) (all : List LoadedFile) (name : Bor (List ℕ)) (one : LoadedFile) (before middle after : ℕ) → length names ≡ length all → middle ≤ after
    → HasRisenBy (count_unread (loaded_files names all)) before middle → (is_unread (loaded_view one) ≡ true → HasRisen middle after)
    → HasRisenBy (count_unread (loaded_files (names ++ name ∷ []) (all ++ one ∷ []))) before after
unread_more names all name one before middle after n le rose k =
    let one_more = sum_by_push (λ (p : List ℕ × LoadedView). cond (is_unread p.1) 1 0) (loaded_files names all) (name.now, loaded_view one) in
    let same = ap count_unread (loaded_push names all name one n) ∙ one_more in
    subst (λ (many : ℕ). HasRisenBy many before after) (sym same) (rose_more (is_unread (loaded_view one)) (count_unread (loaded_files names all)) before middle after le rose k)

-- no name
abbrev pub nothing : Bor (List ℕ)
nothing = record { ref_ptr = (0, 0); now = [] }

pub next_loaded : (names : List (Bor (List ℕ))) (all : List LoadedFile) (i : ℕ) (one : LoadedFile) → i < length names → i < length all → one ≡ get_or all i one
    → take (i + 1) (loaded_files names all) ≡ take i (loaded_files names all) ++ ((get_or names i nothing).now, loaded_view one) ∷ []
next_loaded [] all i one lt lt2 q = absurd (omega arith)
next_loaded (x ∷ xs) [] i one lt lt2 q = absurd (omega arith)
next_loaded (x ∷ xs) (y ∷ ys) zero one lt lt2 q = rw (← q) refl
next_loaded (x ∷ xs) (y ∷ ys) (suc i) one lt lt2 q =
    let next : suc i + 1 ≡ suc (i + 1) = omega arith in
    rw next (ap (λ (t : List (List ℕ × LoadedView)). (x.now, loaded_view y) ∷ t) (next_loaded xs ys i one (omega arith) (omega arith) q))

pub all_loaded : (names : List (Bor (List ℕ))) (all : List LoadedFile) (i : ℕ) → length names ≤ i → take i (loaded_files names all) ≡ loaded_files names all
all_loaded [] all zero lt = refl
all_loaded [] all (suc i) lt = refl
all_loaded (x ∷ xs) [] zero lt = refl
all_loaded (x ∷ xs) [] (suc i) lt = refl
all_loaded (x ∷ xs) (y ∷ ys) zero lt = absurd (omega arith)
all_loaded (x ∷ xs) (y ∷ ys) (suc i) lt = ap (λ (t : List (List ℕ × LoadedView)). (x.now, loaded_view y) ∷ t) (all_loaded xs ys i (omega arith))

-- the names of the files
names_of_loaded : (names : List (Bor (List ℕ))) (all : List LoadedFile) → length names ≡ length all → map (λ (p : List ℕ × LoadedView). p.0) (loaded_files names all) ≡ texts names
names_of_loaded [] all n = refl
names_of_loaded (x ∷ xs) [] n = absurd (omega (arith, n))
names_of_loaded (x ∷ xs) (y ∷ ys) n = ap (λ (t : List (List ℕ)). x.now ∷ t) (names_of_loaded xs ys (omega (arith, n)))

names_of_files : (files : List InputFile) → map (λ (p : List ℕ × LoadedView). p.0) (map loaded_file files) ≡ map name_of files
names_of_files [] = refl
names_of_files (f ∷ fs) = ap (λ (t : List (List ℕ)). name_of f ∷ t) (names_of_files fs)

pub all_of_map : (names : List (Bor (List ℕ))) → list_all is_entry_name (texts names) ≡ list_all (λ n. is_entry_name n.now) names
all_of_map [] = refl
all_of_map (x ∷ xs) = ap (λ b. is_entry_name x.now && b) (all_of_map xs)

-- a manifest or a table of files that are at hand was printed
pub proposed : (profile : Profile) (why : Bool) (has : List ℕ → List ℕ → Type 0) (failed_before failed_after : ℕ) (names : List (Bor (List ℕ))) (all : List LoadedFile) (before after : Option (List ℕ)) (files : List InputFile) (text : List ℕ)
    → are_containers (loaded_files names all) ≡ false → length names ≡ length all → map loaded_file files ≡ loaded_files names all → HasAllLoaded has (loaded_files names all) → HasRisenBy (count_unread (loaded_files names all)) failed_before failed_after
    → IsProposalText profile why files text → Appends before after text → PrintsProposal profile why has failed_before failed_after (texts names) before after
proposed profile why has failed_before failed_after names all before after files text some many same loaded rose is written = record {
  files = files;
  named = sym (names_of_files files) ∙ ap (map (λ (p : List ℕ × LoadedView). p.0)) same ∙ names_of_loaded names all many;
  loaded = subst (λ ps. HasAllLoaded has ps) (sym same) loaded;
  failed = subst (λ ps. HasRisenBy (count_unread ps) failed_before failed_after) (sym same) rose;
  proposes = ap are_containers same ∙ some;
  text = text;
  is = is;
  written = written;
}

-- what the loader has later it had before
pub loaded_before : (has before : List ℕ → List ℕ → Type 0) → ((n b : List ℕ) → has n b → before n b) → (name : List ℕ) (k : LoadedView) → HasLoaded has name k → HasLoaded before name k
loaded_before has before to name (bytes b) h = (to name b h.0, h.1)
loaded_before has before to name unread h = tt
loaded_before has before to name folder h = tt
loaded_before has before to name long h = (h.0, to name h.0 h.1, h.2)

-- ---- folders and zip archives

-- two that are true
both_true : (a b : Bool) → (a && b) ≡ true → (a ≡ true) × (b ≡ true)
both_true true b is = (refl, is)
both_true false b is = absurd (false≢true is)

-- each of the loaded files is one just where each file by its name is
pub all_hold : (names : List (Bor (List ℕ))) (all : List LoadedFile) → length names ≡ length all → list_all (λ (p : List ℕ × LoadedView). is_container p.1) (loaded_files names all) ≡ list_all (λ one. is_container (loaded_view one)) all
all_hold [] [] n = refl
all_hold [] (x ∷ xs) n = absurd (omega (arith, n))
all_hold (y ∷ ys) [] n = absurd (omega (arith, n))
all_hold (y ∷ ys) (x ∷ xs) n = ap (λ b. is_container (loaded_view x) && b) (all_hold ys xs (omega (arith, n)))

-- where not each of the loaded files is one, there is something to propose
pub not_all : (names : List (Bor (List ℕ))) (all : List LoadedFile) → length names ≡ length all → list_all (λ one. is_container (loaded_view one)) all ≡ false → are_containers (loaded_files names all) ≡ false
not_all [] [] n is = refl
not_all [] (x ∷ xs) n is = absurd (omega (arith, n))
not_all (y ∷ ys) [] n is = absurd (omega (arith, n))
not_all (y ∷ ys) (x ∷ xs) n is = all_hold (y ∷ ys) (x ∷ xs) n ∙ is

-- where each of the loaded files is one, the first is
pub first_is : (all : List LoadedFile) (one : LoadedFile) → slice_get all 0 ≡ Some one → list_all (λ one. is_container (loaded_view one)) all ≡ true → is_container (loaded_view one) ≡ true
first_is [] one at is = absurd cc
first_is (x ∷ xs) one at is =
    let same : x ≡ one = cc in
    rw (← same) (both_true (is_container (loaded_view x)) (list_all (λ one. is_container (loaded_view one)) xs) is).0

-- where there are some, and each of the loaded files is one, each file by its name is
pub all_are : (names : List (Bor (List ℕ))) (all : List LoadedFile) (one : LoadedFile) → length names ≡ length all → slice_get all 0 ≡ Some one → list_all (λ one. is_container (loaded_view one)) all ≡ true → are_containers (loaded_files names all) ≡ true
all_are [] [] one n at is = absurd cc
all_are [] (x ∷ xs) one n at is = absurd (omega (arith, n))
all_are (y ∷ ys) [] one n at is = absurd cc
all_are (y ∷ ys) (x ∷ xs) one n at is = all_hold (y ∷ ys) (x ∷ xs) n ∙ is

-- what is said of the first file
pub said_first : (names : List (Bor (List ℕ))) (all : List LoadedFile) (name : Bor (List ℕ)) (one : LoadedFile) → slice_get names 0 ≡ Some name → slice_get all 0 ≡ Some one
    → first_said (loaded_files names all) ≡ said_of (name.now, loaded_view one)
said_first [] all name one at at2 = absurd cc
said_first (y ∷ ys) [] name one at at2 = absurd cc
said_first (y ∷ ys) (x ∷ xs) name one at at2 =
    let same_name : y ≡ name = cc in
    let same : x ≡ one = cc in
    rw (same_name, same) refl

-- what a status says of files that are at hand it says of files that were loaded
module _ (profile : Profile) (why : Bool) (has : List ℕ → List ℕ → Type 0) (failed_before failed_after : ℕ) (names : List (Bor (List ℕ))) (all : List LoadedFile) (before after : Option (List ℕ)) where
  pub held_status : length names ≡ length all → list_all is_entry_name (texts names) ≡ true → HasAllLoaded has (loaded_files names all) → HasRisenBy (count_unread (loaded_files names all)) failed_before failed_after
      → (s : Status) → IsHeldStatus profile why (loaded_files names all) before after s → IsManifestStatus profile why has failed_before failed_after (texts names) before after s
  held_status many entries loaded rose status.Pass (some, (held, same, text, is, written)) = (entries, proposed profile why has failed_before failed_after names all before after held text some many same loaded rose is written)
  held_status many entries loaded rose status.Findings h = absurd h
  held_status many entries loaded rose status.Refused h = absurd h
  held_status many entries loaded rose status.Usage (hold, written) = inr (record {
    all = loaded_files names all;
    named = names_of_loaded names all many;
    loaded = loaded;
    failed = rose;
    hold = hold;
    written = written;
  })
  held_status many entries loaded rose status.Device h = tt
