use Rattle.manifest.proofs.Common.{◌≡◌, ◌∙◌, ◌+◌, ◌-◌, ℕ, List, Option, Some, None, ap, take, drop, length, arith, option_map, before_first, take_all, length-drop, ends_function, function_prefix}
use Rattle.memchr.proofs.lemmas.ValueLemmas.{FindsLastNeedle-value}
use Rattle.manifest.proofs.contents.function_of.Goals as goal

pub returns-in-Some : goal.returns-in-Some
returns-in-Some c =
    let text = c.args.text.now in
    let at = c.in-Some.at in
    let all : take (length text - (at + 14)) (drop (at + 14) text) ≡ drop (at + 14) text = take_all _ (drop (at + 14) text) (omega (arith, length-drop (at + 14) text)) in
    ap (λ (fields : List ℕ). Some fields) (c.before_function_end.ensures ∙ ap (before_first ends_function) all)
    ∙ ap (λ (o : Option ℕ). option_map (λ n. before_first ends_function (drop (n + 14) text)) o) (FindsLastNeedle-value text function_prefix (Some at) c.in-Some.ensures)

pub returns-in-None : goal.returns-in-None
returns-in-None c = ap (λ (o : Option ℕ). option_map (λ n. before_first ends_function (drop (n + 14) c.args.text.now)) o) (FindsLastNeedle-value c.args.text.now function_prefix None c.in-None.ensures)
