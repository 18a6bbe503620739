-- The word with a page that the user means (docs/FORMATS.md, Explanations).
use Rattle.std.specs.Prelude.{◌&&◌, ◌||◌, ℕ, Bool, List, Option, Some, None, length, nat_le, take}
use Rattle.std.specs.List.{find}
use Rattle.std.specs.Option.{option_or}
use Rattle.std.specs.Str.{bytes_eq, str_eq_ignore_ascii_case}
use Rattle.ringcheck_files.specs.PageWords.{FitsScreen, HasHeading, all_words}

-- whether a text begins with another, whatever the case of their letters: `Truncated` begins with `trunc`
abbrev pub begins_with : List ℕ → List ℕ → Bool
begins_with text start = nat_le (length start) (length text) && str_eq_ignore_ascii_case (take (length start) text) start

-- whether a word of three letters or more begins a known one, or begins with it: `smal` and `smalls` are near `small`
abbrev pub is_near : List ℕ → List ℕ → Bool
is_near known word = nat_le 3 (length word) && (begins_with known word || begins_with word known)

-- the listed word that is just this one
abbrev pub listed_word : List ℕ → Option (List ℕ)
listed_word word = find (λ known. bytes_eq known word) all_words

-- the first listed word that is equal to this one but for the case of its letters: `small` for `SMALL`
abbrev pub listed_in_any_case : List ℕ → Option (List ℕ)
listed_in_any_case word = find (λ known. str_eq_ignore_ascii_case known word) all_words

-- the word with a page that a word is: itself where it is listed, else the first that is equal to it but for case
abbrev pub known_word : List ℕ → Option (List ℕ)
known_word word = option_or (listed_word word) (listed_in_any_case word)

-- the first listed word that is near this one
abbrev pub near_word : List ℕ → Option (List ℕ)
near_word word = find (λ known. is_near known word) all_words

-- a page of a known word begins with that word and fits a screen
abbrev pub IsPageOf : Option (List ℕ) → List ℕ → Type 0
IsPageOf None page = ⊥
IsPageOf (Some known) page = HasHeading known page × FitsScreen page
