use Rattle.drill_text.proofs.Common.{◌≡◌, ℕ, ◌+◌, ◌<◌, ◌≤◌, List, [], ◌∷◌, ◌++◌, Err, length, take, get_or, sym, ap, subst, ◌∙◌, arith, take_more, take_all, DrillCommand, canonical, text_limit, SpellsText, canonical_lines, rewritten_text, vec_bytes, Fail, Answers}
use Rattle.drill_text.proofs.RoundTrip.{AreTyped, typed_none, typed_more, text_more, text_prefix, written_long, written_short, round_trip}
use Rattle.drill_text.proofs.writer.write_drill.Goals as goal

-- the commands so far and one more
one_more : (cs : List DrillCommand) (n : ℕ) (c : DrillCommand) → n < length cs → c ≡ get_or cs n c → take (n + 1) cs ≡ take n cs ++ c ∷ []
one_more cs n c h e = take_more cs n c h ∙ ap (λ (d : DrillCommand). take n cs ++ d ∷ []) (sym e)

-- the text so far and one more line
text_so_far : (cs : List DrillCommand) (n : ℕ) (c : DrillCommand) (old new : List ℕ) → n < length cs → c ≡ get_or cs n c → old ≡ canonical_lines (take n cs) → new ≡ old ++ (canonical c ++ 10 ∷ []) → new ≡ canonical_lines (take (n + 1) cs)
text_so_far cs n c old new h e is more = more ∙ (ap (λ (x : List ℕ). x ++ (canonical c ++ 10 ∷ [])) is ∙ (sym (text_more (take n cs) c) ∙ ap canonical_lines (sym (one_more cs n c h e))))

pub loop-command-init : goal.loop-command-init
loop-command-init c = record { text = c.new-text.ensures.items; typed = typed_none; within = omega (arith, c.new-text.ensures.len) }

pub loop-command-preserved : goal.loop-command-preserved
loop-command-preserved c =
    let cs = c.args.commands.now in
    let n = c.loop-command.command-index in
    let d = c.command-item.result in
    record {
      text = text_so_far cs n d c.loop-command.text.items c.put_line.new.text.items c.loop-command-test.true c.command-item.is c.loop-command.invariant.text c.in_ok-put_line.ensures.items;
      typed = subst AreTyped (sym (one_more cs n d c.loop-command-test.true c.command-item.is)) (typed_more (take n cs) d c.loop-command.invariant.typed c.in_ok-put_line.ensures.typed);
      within = omega arith;
    }

pub returns-then-len-gt-TEXT_LIMIT-clause-exact : goal.returns-then-len-gt-TEXT_LIMIT-clause-exact
returns-then-len-gt-TEXT_LIMIT-clause-exact c =
    let cs = c.args.commands.now in
    let n = c.loop-command.command-index in
    let new = c.put_line.new.text in
    let text = text_so_far cs n c.command-item.result c.loop-command.text.items new.items c.loop-command-test.true c.command-item.is c.loop-command.invariant.text c.in_ok-put_line.ensures.items in
    let long : text_limit < length (canonical_lines cs) = omega (arith, new.ok.0, ap length text, text_prefix cs (n + 1)) in
    subst (λ (e : Fail). Answers vec_bytes (λ answer. answer ≡ rewritten_text cs) (Err e)) (sym c.too_long.ensures) (written_long cs long)

pub returns : goal.returns
returns c =
    let cs = c.args.commands.now in
    let whole : take c.loop-command.command-index cs ≡ cs = take_all c.loop-command.command-index cs c.loop-command-test.false in
    let text = c.loop-command.invariant.text ∙ ap canonical_lines whole in
    let short : length c.loop-command.text.items ≤ text_limit = omega (arith, c.loop-command.text.ok.0, c.loop-command.invariant.within) in
    record {
      exact = written_short cs c.loop-command.text.items text short;
      reads_back = subst (λ (x : List ℕ). SpellsText x cs) (sym text) (round_trip cs c.requires (subst AreTyped whole c.loop-command.invariant.typed) (subst (λ (x : List ℕ). length x ≤ text_limit) text short));
    }
