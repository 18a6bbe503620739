use Rattle.ringcheck_files.proofs.Common.{◌≡◌, all_words, false≢true, list_all, map, reason_name, refl, rules, str_eq_ignore_ascii_case, tests, true, iter_rest, YieldsList-from_slice, YieldsList-at, YieldsList-from_copied, find_from_yields_List}
use Rattle.ringcheck_files.proofs.PageLemmas.{heading, is_page, page_in_any_case, page_of_itself, texts, word_of}
use Rattle.ringcheck_files.proofs.word_list.explanation_in_any_case.Goals as goal

pub returns-in-Some : goal.returns-in-Some
returns-in-Some c = page_of_itself c.args.word.now c.in-Some.page.now (c.in-Some.ensures.known.0 refl) c.in-Some.ensures.headed c.in-Some.ensures.fits

pub returns-in-None : goal.returns-in-None
unfolding reason_name
returns-in-None c =
    let pages = iter_rest c.iter.result in
    let are : map (λ page. page.now) pages ≡ texts = rw c.iter.ensures.rest (search rules) in
    let are_pages : list_all is_page texts ≡ true = refl in
    let in_order : map heading texts ≡ all_words = refl in
    let word = c.args.word.now in
    let found = find_from_yields_List (λ page. str_eq_ignore_ascii_case (word_of page) word) _ _ c.find.result c.find.ensures.ran (YieldsList-from_copied (YieldsList-at c.copied.ensures.source (YieldsList-from_slice pages refl))) (λ x b q k. search (rules, tests)) in
    page_in_any_case pages are are_pages in_order word c.find.result (λ explained. false≢true (c.in-None.ensures.known.1 explained)) found
