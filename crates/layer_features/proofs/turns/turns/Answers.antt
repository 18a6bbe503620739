-- A run turns at its second point, or where the others turn.
use Rattle.layer_features.proofs.Common.{◌≡◌, ◌∙◌, ◌||◌, ◌-◌, Bool, ap, sym, arith, drop, length, take_all, to_z, of_z, to_z-of_z, w128}
use Rattle.std.proofs.Common.{rules, length-drop}
use Rattle.layer_features.specs.Inner.Turns.{turns}
use Rattle.layer_features.proofs.ShortRuns.{first_turn, no_turn}
use Rattle.layer_features.proofs.turns.turns.Goals as goal

pub returns-then-is_turn : goal.returns-then-is_turn
returns-then-is_turn c =
    let rest = c.loop-rest.rest.now in
    let back : to_z w128 (of_z w128 c.cross.result) ≡ c.cross.result = search (rules, to_z-of_z) in
    sym (first_turn c.args.left rest _ _ _ _ _ c.in-len3-up.len_at_least c.a-item.is c.b-item.is c.c-item.is (back ∙ c.cross.ensures) c.is_turn.ensures ∙ ap (λ b. b || turns c.args.left (drop 1 rest)) c.if-is_turn.true) ∙ c.loop-rest.invariant

pub loop-rest-preserved : goal.loop-rest-preserved
loop-rest-preserved c =
    let rest = c.loop-rest.rest.now in
    let back : to_z w128 (of_z w128 c.cross.result) ≡ c.cross.result = search (rules, to_z-of_z) in
    ap (turns c.args.left) (take_all (length rest - 1) (drop 1 rest) (omega (arith, length-drop 1 rest)))
    ∙ sym (first_turn c.args.left rest _ _ _ _ _ c.in-len3-up.len_at_least c.a-item.is c.b-item.is c.c-item.is (back ∙ c.cross.ensures) c.is_turn.ensures ∙ ap (λ b. b || turns c.args.left (drop 1 rest)) c.if-is_turn.false) ∙ c.loop-rest.invariant

pub returns : goal.returns
returns c = sym (no_turn c.args.left c.loop-rest.rest.now c.in_default.len_below) ∙ c.loop-rest.invariant
