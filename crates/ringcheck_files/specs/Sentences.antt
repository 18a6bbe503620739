-- What is said of a word that `manifest` or `explain` refuses, and of a single file that cannot be read (docs/FORMATS.md, Sentences).
use Rattle.std.specs.Prelude.{◌++◌, ℕ, List, Option, Some, None, codes}
use Rattle.ringcheck_files.specs.KnownWords.{near_word}

-- what is said of a name that may not stand in a manifest
abbrev pub name_sentence : List ℕ
name_sentence = codes "a file name must not be empty, or contain a line end, a tab or another control character"

-- which word may be meant, or where the words are listed
abbrev pub guess : Option (List ℕ) → List ℕ
guess (Some near) = codes "; did you mean " ++ (near ++ codes "?")
guess None = codes "; ringcheck explain lists the words that have one"

-- what is said of a word without a page: `no page for smal; did you mean small?`
abbrev pub no_page_sentence : List ℕ → List ℕ
no_page_sentence word = codes "no page for " ++ (word ++ guess (near_word word))

-- where file names are taken from: the folder that was entered, if there is one
abbrev pub place_of_names : Option (List ℕ) → List ℕ
place_of_names None = codes "the working directory"
place_of_names (Some folder) = folder

-- what is said of a single file that cannot be read: `cannot read top.gbr: file names are taken from the working directory`
abbrev pub unread_sentence : List ℕ → Option (List ℕ) → List ℕ
unread_sentence path folder = codes "cannot read " ++ (path ++ (codes ": file names are taken from " ++ place_of_names folder))
