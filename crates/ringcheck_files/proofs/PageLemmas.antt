-- The page that a search of the pages finds.
use Rattle.ringcheck_files.proofs.Common.{◌≡◌, ◌≤◌, ◌+◌, ◌++◌, ◌&&◌, ◌↔◌, ◌∙◌, ℕ, codes, leb, leb-true, length, list_all, take, Bool, Bor, true, false≢true, List, IfSome, IsSome, MatchOption, Option, Some, None, [], ◌∷◌, map, refl, sym, ap, subst, find, AllByRecursion, before_first, Contains, option_map, option_or, bytes_eq, str_eq_ignore_ascii_case, IsPageOf, known_word, listed_word, listed_in_any_case, FitsScreen, HasHeading, IsExplained, all_words, is_colon, bytes_eq-Decides, both_true}
use Rattle.std.specs.Str.Lines.{lines}
use Rattle.ringcheck_files.specs.declared.pages.TheConstants.{PAGES}
use Rattle.ringcheck_files.proofs.LookupLemmas.{find_map, found_holds, found_is_listed, listed_is_explained, listed_is_found, word_is_listed}

-- the texts of the pages
abbrev pub texts : List (List ℕ)
texts = map (λ page. page.now) PAGES

-- the word of a page
abbrev pub heading : List ℕ → List ℕ
heading = before_first is_colon

-- the word of a borrowed page
abbrev pub word_of : Bor (List ℕ) → List ℕ
word_of page = heading page.now

-- a page begins with its word, and fits a screen
abbrev IsPage : List ℕ → Type 0
IsPage page = HasHeading (heading page) page × FitsScreen page

-- whether no line is wider than a screen
abbrev pub are_narrow : List (List ℕ) → Bool
are_narrow = list_all (λ line. leb (length line) 78)

-- whether a page begins with its word, and fits a screen
abbrev pub is_page : List ℕ → Bool
is_page page = bytes_eq (take (length (heading page) + 2) page) (heading page ++ codes ": ") && (leb (length (lines page)) 12 && are_narrow (lines page))

narrow : (ls : List (List ℕ)) → are_narrow ls ≡ true → AllByRecursion (λ line. length line ≤ 78) ls
narrow [] e = tt
narrow (line ∷ ls) e = let both = both_true (leb (length line) 78) (are_narrow ls) e in (leb-true (length line) 78 both.0, narrow ls both.1)

one_is_page : (page : List ℕ) → is_page page ≡ true → IsPage page
one_is_page page e =
    let both = both_true (bytes_eq (take (length (heading page) + 2) page) (heading page ++ codes ": ")) (leb (length (lines page)) 12 && are_narrow (lines page)) e in
    let fits = both_true (leb (length (lines page)) 12) (are_narrow (lines page)) both.1 in
    ((bytes_eq-Decides (take (length (heading page) + 2) page) (heading page ++ codes ": ")).0 both.0, (leb-true (length (lines page)) 12 fits.0, narrow (lines page) fits.1))

all_are_pages : (pages : List (List ℕ)) → list_all is_page pages ≡ true → AllByRecursion IsPage pages
all_are_pages [] e = tt
all_are_pages (page ∷ pages) e = let both = both_true (is_page page) (list_all is_page pages) e in (one_is_page page both.0, all_are_pages pages both.1)

all_shown : (P : List ℕ → Type 0) (pages : List (Bor (List ℕ))) → AllByRecursion P (map (λ page. page.now) pages) → AllByRecursion (λ page. P page.now) pages
all_shown P [] h = tt
all_shown P (page ∷ pages) h = (h.0, all_shown P pages h.1)

words_shown : (pages : List (Bor (List ℕ))) → map word_of pages ≡ map heading (map (λ page. page.now) pages)
words_shown [] = refl
words_shown (page ∷ pages) = ap (λ ws. word_of page ∷ ws) (words_shown pages)

-- a word that is found is the one that was sought
found_itself : (word x : List ℕ) → Some x ≡ listed_word word → (x ≡ word) × Contains all_words x
found_itself word x e =
    let found = found_holds (λ (k : List ℕ). k ≡ k) (λ k. bytes_eq k word) all_words (Some x) (each all_words) e in
    ((bytes_eq-Decides x word).0 found.1, found_is_listed (λ k. bytes_eq k word) all_words x e)
  where
    each : (ws : List (List ℕ)) → AllByRecursion (λ (k : List ℕ). k ≡ k) ws
    each [] = tt
    each (w ∷ ws) = (refl, each ws)

-- the page of a word that has one
pub page_of_itself : (word page : List ℕ) → IsExplained word → HasHeading word page → FitsScreen page → IsPageOf (known_word word) page
page_of_itself word page explained headed fits = by (listed_word word) refl
  where
    by : (o : Option (List ℕ)) → o ≡ listed_word word → IsPageOf (option_or o (listed_in_any_case word)) page
    by None e = absurd (listed_is_found (λ k. k) word all_words e (word_is_listed word explained))
    by (Some x) e = subst (λ w. IsPageOf (Some w) page) (sym (found_itself word x e).0) (headed, fits)

-- pages that begin with their words and fit a screen, and that have all words in order
module _ (pages : List (Bor (List ℕ))) (are : map (λ page. page.now) pages ≡ texts) (are_pages : list_all is_page texts ≡ true) (in_order : map heading texts ≡ all_words) where
  all_pages : AllByRecursion (λ (page : Bor (List ℕ)). IsPage page.now) pages
  all_pages = all_shown IsPage pages (subst (AllByRecursion IsPage) (sym are) (all_are_pages texts are_pages))

  -- they have all words in order
  pub same_words : map word_of pages ≡ all_words
  same_words = words_shown pages ∙ ap (map heading) are ∙ in_order

  -- a search of the pages by their words is one of the listed words
  pub word_found : (test : List ℕ → Bool) (r : Option (Bor (List ℕ))) → option_map (λ page. page) r ≡ find (λ page. test (word_of page)) pages → option_map word_of r ≡ find test all_words
  word_found test r e = same r ∙ ap (option_map word_of) e ∙ sym (find_map word_of test pages) ∙ ap (find test) same_words
    where
      same : (o : Option (Bor (List ℕ))) → option_map word_of o ≡ option_map word_of (option_map (λ page. page) o)
      same None = refl
      same (Some page) = refl

  -- the page that a search by a word finds
  pub page_is : (word : List ℕ) (r : Option (Bor (List ℕ))) → option_map (λ page. page) r ≡ find (λ page. bytes_eq (word_of page) word) pages → IfSome r (λ page. HasHeading word page.now × FitsScreen page.now)
  page_is word None e = tt
  page_is word (Some page) e =
      let found = found_holds (λ (p : Bor (List ℕ)). IsPage p.now) (λ p. bytes_eq (word_of p) word) pages (Some page) all_pages e in
      subst (λ w. HasHeading w page.now × FitsScreen page.now) ((bytes_eq-Decides (word_of page) word).0 found.1) found.0

  -- it finds one just where the word has one
  pub has_page : (word : List ℕ) (r : Option (Bor (List ℕ))) → option_map (λ page. page) r ≡ find (λ page. bytes_eq (word_of page) word) pages → IsSome r ↔ IsExplained word
  has_page word None e = ((λ no. absurd (false≢true no)), (λ explained. absurd (listed_is_found word_of word pages e (subst (λ ws. Contains ws word) (sym same_words) (word_is_listed word explained)))))
  has_page word (Some page) e =
      let found = found_holds (λ (p : Bor (List ℕ)). IsPage p.now) (λ p. bytes_eq (word_of p) word) pages (Some page) all_pages e in
      let listed = found_is_listed (λ k. bytes_eq k word) all_words (word_of page) (word_found (λ k. bytes_eq k word) (Some page) e) in
      ((λ _. listed_is_explained word (subst (Contains all_words) ((bytes_eq-Decides (word_of page) word).0 found.1) listed)), (λ _. refl))

  -- the page of a word that has none itself
  pub page_in_any_case : (word : List ℕ) (r : Option (Bor (List ℕ))) → (IsExplained word → ⊥) → option_map (λ page. page) r ≡ find (λ page. str_eq_ignore_ascii_case (word_of page) word) pages
      → MatchOption r (known_word word ≡ None) (λ page. IsPageOf (known_word word) page.now)
  page_in_any_case word r unexplained e = last r e (by (listed_word word) refl ∙ sym (word_found (λ k. str_eq_ignore_ascii_case k word) r e))
    where
      by : (o : Option (List ℕ)) → o ≡ listed_word word → option_or o (listed_in_any_case word) ≡ listed_in_any_case word
      by None e = refl
      by (Some x) e = let found = found_itself word x e in absurd (unexplained (listed_is_explained word (subst (Contains all_words) found.0 found.1)))

      last : (o : Option (Bor (List ℕ))) → option_map (λ page. page) o ≡ find (λ page. str_eq_ignore_ascii_case (word_of page) word) pages → known_word word ≡ option_map word_of o
          → MatchOption o (known_word word ≡ None) (λ page. IsPageOf (known_word word) page.now)
      last None e is = is
      last (Some page) e is = subst (λ k. IsPageOf k page.now) (sym is) (found_holds (λ (p : Bor (List ℕ)). IsPage p.now) (λ p. str_eq_ignore_ascii_case (word_of p) word) pages (Some page) all_pages e).0
