use Rattle.gerber_text.proofs.Common.{◌≡◌, ◌<◌, ◌∙◌, ℕ, zero, suc, List, true, false, get_or, sym, arith, false≢true, All-more, is_line_break}
use Rattle.gerber_text.proofs.reader.breaks_len.Goals as goal

after_first : (bytes : List ℕ) (i : ℕ) → is_line_break (get_or bytes i 0) ≡ false → is_line_break (get_or bytes 0 0) ≡ true → 0 < i
after_first bytes zero h k = absurd (false≢true (sym h ∙ k))
after_first bytes (suc i) h k = omega arith

pub loop-i-preserved : goal.loop-i-preserved
loop-i-preserved c = All-more (λ b. is_line_break b ≡ true) c.args.bytes.now c.loop-i.i 0 c.loop-i-test.true c.loop-i.invariant (sym c.is_break.ensures ∙ c.if-not-is_break.false)

pub returns-then-not-is_break-clause-some : goal.returns-then-not-is_break-clause-some
returns-then-not-is_break-clause-some c some is = after_first c.args.bytes.now c.loop-i.i (sym c.is_break.ensures ∙ c.if-not-is_break.true) is
