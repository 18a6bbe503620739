-- The first part stands before the sides.
use Rattle.layer_features.proofs.Common.{◌≡◌, ◌-◌, ◌∙◌, Bool, List, [], ◌∷◌, true, false, ap, arith, sym, drop, take, take_all, get_or, length, if◌then◌else◌, option_map, option_map_or, Part, are_sides_of_none, is_move, starts_no_pad, starts_no_polygon}
use Rattle.layer_features.proofs.forget.starts_no_pad.Goals as goal

after : (parts : List Part) (first : Part) (b : Bool) → get_or parts 0 first ≡ first → is_move first ≡ true → b ≡ are_sides_of_none (take (length parts - 1) (drop 1 parts)) → b ≡ starts_no_pad parts
after [] first b is moves e = e
after (p ∷ ps) first b is moves e = e ∙ (λ i. if sym (ap is_move is ∙ moves) i then are_sides_of_none (take_all (length (p ∷ ps) - 1) ps (omega arith) i) else false)

pub returns-in-Some : goal.returns-in-Some
returns-in-Some c =
    after c.args.parts.now c.first-item.result _ (sym c.first-item.is) (sym c.is_move.ensures ∙ c.if-is_move.true)
    (c.starts_no_polygon.ensures ∙ ap starts_no_polygon c.deref.ensures.value ∙ (λ i. option_map_or starts_no_polygon (((λ j. option_map (λ ps. ps.items) (sym c.in-Some.is j)) ∙ c.in_ok-points-in-len1-up.ensures) i) false))

pub returns-in-None : goal.returns-in-None
returns-in-None c = after c.args.parts.now c.first-item.result _ (sym c.first-item.is) (sym c.is_move.ensures ∙ c.if-is_move.true) (λ i. option_map_or starts_no_polygon (((λ j. option_map (λ ps. ps.items) (sym c.in-None.is j)) ∙ c.in_ok-points-in-len1-up.ensures) i) false)
