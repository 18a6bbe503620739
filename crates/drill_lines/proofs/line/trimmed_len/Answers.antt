use Rattle.drill_lines.proofs.Common.{◌≡◌, ℕ, ◌<◌, ◌≤◌, ◌+◌, List, [], ◌∷◌, ◌++◌, length, take, sym, ap, ◌∙◌, arith, without_end_blanks}
use Rattle.std.proofs.Common.{◌-◌, get_or}
use Rattle.std.proofs.lemmas.List.{take_more}
use Rattle.drill_lines.proofs.TrimmedLemmas.{trim_blank, trim_kept}
use Rattle.drill_lines.proofs.line.trimmed_len.Goals as goal

last : (line : List ℕ) (len : ℕ) → 0 < len → len ≤ length line → take len line ≡ take (len - 1) line ++ get_or line (len - 1) 0 ∷ []
last line len some within = let whole : len ≡ (len - 1) + 1 = omega (arith, some) in ap (λ n. take n line) whole ∙ take_more line (len - 1) 0 (omega (arith, some, within))

pub loop-len-preserved : goal.loop-len-preserved
loop-len-preserved c =
    let line = c.args.line.now in
    let len = c.loop-len.len in
    let some = c.loop-len-test.true in
    record {
      within = omega (arith, c.loop-len.invariant.within);
      same = sym (trim_blank (take (len - 1) line) (get_or line (len - 1) 0) (sym c.is_blank.ensures ∙ c.if-is_blank.true)) ∙ (ap without_end_blanks (sym (last line len some c.loop-len.invariant.within)) ∙ c.loop-len.invariant.same);
    }

pub returns-else-is_blank-clause-exact : goal.returns-else-is_blank-clause-exact
returns-else-is_blank-clause-exact c =
    let line = c.args.line.now in
    let len = c.loop-len.len in
    let some = c.loop-len-test.true in
    last line len some c.loop-len.invariant.within ∙ (sym (trim_kept (take (len - 1) line) (get_or line (len - 1) 0) (sym c.is_blank.ensures ∙ c.if-is_blank.false)) ∙ (ap without_end_blanks (sym (last line len some c.loop-len.invariant.within)) ∙ c.loop-len.invariant.same))
