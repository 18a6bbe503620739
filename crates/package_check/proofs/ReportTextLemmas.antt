-- The lines of a report, one after another.
use Rattle.package_check.proofs.Common.{◌≡◌, ◌<◌, ◌≤◌, ◌+◌, ◌++◌, ℕ, zero, suc, List, [], ◌∷◌, Bor, length, map, drop, get_or, arith, refl, ap, sym, ◌∙◌, append_assoc, append-nil, FileSum, Profile, Setting, file_view, file_line, file_lines, length-map, drop_all}
use Rattle.package_check.specs.declared.File.{File}

abbrev pub texts_of : List (Bor (List ℕ)) → List (List ℕ)
texts_of names = map (λ name. name.now) names

-- the line of the file at a place, and those after it
next_line : (p : Profile) (names : List (Bor (List ℕ))) (sums : List FileSum) (i n : ℕ) (d : Bor (List ℕ)) (e : FileSum) → i < length names → i < length sums
    → file_lines p n (drop i (texts_of names)) (drop i sums) ≡ file_line p n (get_or names i d).now (get_or sums i e) ++ file_lines p (n + 1) (drop (i + 1) (texts_of names)) (drop (i + 1) sums)
unfolding file_lines
next_line p (f ∷ names) (s ∷ sums) zero n d e lt more = refl
next_line p (f ∷ names) (s ∷ sums) (suc i) n d e lt more = let k : suc i + 1 ≡ suc (i + 1) = omega arith in rw k (next_line p names sums i n d e (omega arith) (omega arith))
next_line p names sums i n d e lt more = absurd (omega arith)

none_without : (p : Profile) (n : ℕ) (xs : List (List ℕ)) → file_lines p n xs [] ≡ []
unfolding file_lines
none_without p n [] = refl
none_without p n xs = refl

no_line : (p : Profile) (names : List (Bor (List ℕ))) (sums : List FileSum) (i n : ℕ) → length names ≤ i → file_lines p n (drop i (texts_of names)) (drop i sums) ≡ []
unfolding file_lines
no_line p names sums i n lt = ap (λ (xs : List (List ℕ)). file_lines p n xs (drop i sums)) (drop_all i (texts_of names) (omega (arith, lt, length-map names (λ (name : Bor (List ℕ)). name.now))))

no_sum : (p : Profile) (names : List (Bor (List ℕ))) (sums : List FileSum) (i n : ℕ) → length sums ≤ i → file_lines p n (drop i (texts_of names)) (drop i sums) ≡ []
no_sum p names sums i n lt = ap (file_lines p n (drop i (texts_of names))) (drop_all i sums lt) ∙ none_without p n (drop i (texts_of names))

-- one more line
pub line_more : (p : Profile) (names : List (Bor (List ℕ))) (sums : List FileSum) (i n : ℕ) (d : Bor (List ℕ)) (e : FileSum) (all before after : List ℕ) → i < length names → i < length sums
    → all ≡ before ++ file_lines p n (drop i (texts_of names)) (drop i sums) → after ≡ before ++ file_line p n (get_or names i d).now (get_or sums i e)
    → all ≡ after ++ file_lines p (n + 1) (drop (i + 1) (texts_of names)) (drop (i + 1) sums)
line_more p names sums i n d e all before after lt more was is =
    was ∙ ap (λ t. before ++ t) (next_line p names sums i n d e lt more)
    ∙ sym (append_assoc before (file_line p n (get_or names i d).now (get_or sums i e)) (file_lines p (n + 1) (drop (i + 1) (texts_of names)) (drop (i + 1) sums)))
    ∙ ap (λ t. t ++ file_lines p (n + 1) (drop (i + 1) (texts_of names)) (drop (i + 1) sums)) (sym is)

pub lines_end : (p : Profile) (names : List (Bor (List ℕ))) (sums : List FileSum) (i n : ℕ) (all before : List ℕ) → length names ≤ i → all ≡ before ++ file_lines p n (drop i (texts_of names)) (drop i sums) → before ≡ all
lines_end p names sums i n all before lt was = sym (was ∙ ap (λ t. before ++ t) (no_line p names sums i n lt) ∙ append-nil before)

pub sums_end : (p : Profile) (names : List (Bor (List ℕ))) (sums : List FileSum) (i n : ℕ) (all before : List ℕ) → length sums ≤ i → all ≡ before ++ file_lines p n (drop i (texts_of names)) (drop i sums) → before ≡ all
sums_end p names sums i n all before lt was = sym (was ∙ ap (λ t. before ++ t) (no_sum p names sums i n lt) ∙ append-nil before)

-- the names of the files, as the sources have them
pub same_names : (n : Setting) (files : List File) → map (λ source. source.name) (map (file_view n) files) ≡ map (λ file. file.name.now) files
same_names n [] = refl
same_names n (f ∷ files) = ap (λ (t : List (List ℕ)). f.name.now ∷ t) (same_names n files)
