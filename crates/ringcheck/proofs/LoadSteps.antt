-- The files of a package, loaded one by one.
use Rattle.std.specs.declared.alloc.AllocError.{AllocError}
use Rattle.ringcheck.specs.declared.digests.FileHasher.{FileHasher}
use Rattle.ringcheck.proofs.Common.{◌≡◌, ◌++◌, Bool, append-nil, append_assoc, subst, sym, Hashes, HashesOn, Err, Ok, OnOk, Result, ℕ, suc, List, [], ◌∷◌, length, map, arith, refl, ap, Entry, AllByRecursion, FileView, Setting, HasFiles, file_views_among}

pub same_length : (has : List ℕ → List ℕ → Type 0) (entries : List Entry) (files : List (List ℕ)) → HasFiles has entries files → length entries ≡ length files
same_length has [] [] h = refl
same_length has [] (b ∷ bs) h = absurd h
same_length has (e ∷ es) [] h = absurd h
same_length has (e ∷ es) (b ∷ bs) h = ap suc (same_length has es bs h.1)

pub has_files_along : (has before : List ℕ → List ℕ → Type 0) → ((n b : List ℕ) → has n b → before n b) → (entries : List Entry) (files : List (List ℕ))
    → HasFiles has entries files → HasFiles before entries files
has_files_along has before to [] [] h = tt
has_files_along has before to [] (b ∷ bs) h = absurd h
has_files_along has before to (e ∷ es) [] h = absurd h
has_files_along has before to (e ∷ es) (b ∷ bs) h = (to e.file b h.0, has_files_along has before to es bs h.1)

-- the names of the files are those of the entries
pub names_among : (n : Setting) (es : List Entry) (fs : List (List ℕ)) → length es ≡ length fs → map (λ (s : FileView). s.name) (file_views_among n es fs) ≡ map (λ (e : Entry). e.name) es
names_among n [] fs same = refl
names_among n (e ∷ es) [] same = absurd (omega (arith, same))
names_among n (e ∷ es) (f ∷ fs) same = ap (λ (t : List (List ℕ)). e.name ∷ t) (names_among n es fs (omega (arith, same)))

-- the files are read in the setting in which they were loaded
pub read_in : (n : Setting) (es : List Entry) (fs : List (List ℕ)) → AllByRecursion (λ (s : FileView). s.setting.profile ≡ n.profile) (file_views_among n es fs)
read_in n [] fs = tt
read_in n (e ∷ es) [] = tt
read_in n (e ∷ es) (f ∷ fs) = (refl, read_in n es fs)

-- what holds anyway holds of a success
pub on_ok : (r : Result (Unit {0}) AllocError) (P : Type 0) → P → OnOk r P
on_ok (Ok u) P p = p
on_ok (Err e) P p = tt

-- a hasher has taken one more piece
pub hashes_more : (start was now : FileHasher) (text piece : List ℕ) → HashesOn start was text → ((on : Bool) (held : List ℕ) → Hashes on was held → Hashes on now (held ++ piece)) → HashesOn start now (text ++ piece)
hashes_more start was now text piece so_far more on before h = subst (Hashes on now) (append_assoc before text piece) (more on (before ++ text) (so_far on before h))

-- a hasher that has taken nothing since its start has taken the empty text
pub hashes_none : (start : FileHasher) → HashesOn start start []
hashes_none start on before h = subst (Hashes on start) (sym (append-nil before)) h
