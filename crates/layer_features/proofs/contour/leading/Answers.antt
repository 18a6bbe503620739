use Rattle.layer_features.proofs.Common.{◌≡◌, ◌<◌, ℕ, List, Bool, true, false, not, get_or, length, refl, ap, sym, ◌∙◌, arith, below_more, get_or_default, prefix_len_is, is_move, is_move_or_none, Part}
use mathlib.Core.Bool.{beq}
use Rattle.layer_features.specs.declared.part.Part.TheVariants as part
use Rattle.layer_features.proofs.contour.leading.Goals as goal

fits : (m : Bool) (p : Part) → is_move_or_none m p ≡ not (not (beq (is_move p) m))
fits true p = by (is_move p)
  where
    by : (b : Bool) → b ≡ not (not (beq b true))
    by true = refl
    by false = refl
fits false p = by (is_move p)
  where
    by : (b : Bool) → not b ≡ not (not (beq b false))
    by true = refl
    by false = refl

at : (m : Bool) (parts : List Part) (i : ℕ) (p : Part) (r : Bool) → i < length parts → p ≡ get_or parts i p → r ≡ is_move p → is_move_or_none m (get_or parts i part.Other) ≡ not (not (beq r m))
at m parts i p r lt is e = ap (is_move_or_none m) (get_or_default parts i part.Other p lt ∙ sym is) ∙ fits m p ∙ ap (λ b. not (not (beq b m))) (sym e)

pub loop-i-preserved : goal.loop-i-preserved
loop-i-preserved c =
    below_more (λ k. is_move_or_none c.args.moves (get_or c.args.parts.now k part.Other) ≡ true) c.loop-i.i c.loop-i.invariant
    (at c.args.moves c.args.parts.now c.loop-i.i c.index-parts-i.result c.is_move.result (omega arith) c.index-parts-i.is c.is_move.ensures ∙ ap not c.if-is_move-moves.false)

pub returns-then-is_move-moves-clause-len : goal.returns-then-is_move-moves-clause-len
returns-then-is_move-moves-clause-len c =
    sym (prefix_len_is (is_move_or_none c.args.moves) c.args.parts.now c.loop-i.i part.Other (omega arith) c.loop-i.invariant
    (λ _. at c.args.moves c.args.parts.now c.loop-i.i c.index-parts-i.result c.is_move.result (omega arith) c.index-parts-i.is c.is_move.ensures ∙ ap not c.if-is_move-moves.true))

pub returns-clause-len : goal.returns-clause-len
returns-clause-len c = sym (prefix_len_is (is_move_or_none c.args.moves) c.args.parts.now _ part.Other (omega arith) (λ k lt. c.loop-i.invariant k (omega arith)) (λ lt. absurd (omega arith)))
