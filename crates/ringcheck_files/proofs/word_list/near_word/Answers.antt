use Rattle.ringcheck_files.proofs.Common.{◌≡◌, ◌∙◌, all_words, ap, find, is_near, list_all, map, reason_name, refl, rules, tests, true, iter_rest, YieldsList-from_slice, YieldsList-from_map_by, YieldsList-at, find_from_yields_List}
use Rattle.ringcheck_files.proofs.PageLemmas.{heading, is_page, same_words, texts, word_of}
use Rattle.ringcheck_files.proofs.word_list.near_word.Goals as goal

pub returns : goal.returns
unfolding reason_name
returns c =
    let pages = iter_rest c.iter.result in
    let are : map (λ page. page.now) pages ≡ texts = rw c.iter.ensures.rest (search rules) in
    let are_pages : list_all is_page texts ≡ true = refl in
    let in_order : map heading texts ≡ all_words = refl in
    find_from_yields_List (λ known. is_near known c.args.word.now) _ _ c.find.result c.find.ensures.ran
    (YieldsList-from_map_by _ (λ known. known.now) word_of (YieldsList-at c.map.ensures.source (YieldsList-from_slice pages refl)) c.map.ensures.closure (λ x r q k. search (rules, tests)))
    (λ x b q k. search (rules, tests))
    ∙ ap (find (λ known. is_near known c.args.word.now)) (same_words pages are are_pages in_order)
