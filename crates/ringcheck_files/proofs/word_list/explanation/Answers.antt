use Rattle.ringcheck_files.proofs.Common.{◌≡◌, all_words, bytes_eq, list_all, map, reason_name, refl, rules, tests, true, iter_rest, YieldsList-from_slice, YieldsList-at, YieldsList-from_copied, find_from_yields_List, IfSome_then}
use Rattle.ringcheck_files.proofs.PageLemmas.{has_page, heading, is_page, page_is, texts, word_of}
use Rattle.ringcheck_files.proofs.word_list.explanation.Goals as goal

pub returns : goal.returns
unfolding reason_name
returns c =
    let pages = iter_rest c.iter.result in
    let are : map (λ page. page.now) pages ≡ texts = rw c.iter.ensures.rest (search rules) in
    let are_pages : list_all is_page texts ≡ true = refl in
    let in_order : map heading texts ≡ all_words = refl in
    let word = c.args.word.now in
    let found = find_from_yields_List (λ page. bytes_eq (word_of page) word) _ _ c.find.result c.find.ensures.ran (YieldsList-from_copied (YieldsList-at c.copied.ensures.source (YieldsList-from_slice pages refl))) (λ x b q k. search (rules, tests)) in
    let is = page_is pages are are_pages in_order word c.find.result found in
    record {
      known = has_page pages are are_pages in_order word c.find.result found;
      headed = IfSome_then c.find.result is (λ page h. h.0);
      fits = IfSome_then c.find.result is (λ page h. h.1);
    }
