use Rattle.manifest.proofs.Common.{◌≡◌, ◌∙◌, ◌&&◌, rules, tests, ap, sym, drop, length, list_all, YieldsList-from_slice, all_from_yields_List, is_blank}
use Rattle.manifest.proofs.contents.is_line_of.Goals as goal

pub returns-in-Some : goal.returns-in-Some
returns-in-Some c =
    let after = drop (length c.args.word.now) c.args.line.now in
    let cases = c.in-Some.ensures.cases in
    let blank : c.all.result ≡ list_all is_blank c.in-Some.after.now =
    all_from_yields_List is_blank _ _ c.all.result c.all.ensures.ran (YieldsList-from_slice c.in-Some.after.now c.iter.ensures.rest) (λ x b q k. search (rules, tests)) in
    blank ∙ ap (list_all is_blank) cases.1 ∙ ap (λ b. b && list_all is_blank after) (sym cases.0)
