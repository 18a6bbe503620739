-- The flashes and contours of all commands, cut where the last ones were taken away; and the flashes of one command more.
use Rattle.layer_state.proofs.Common.{◌≡◌, ◌∙◌, List, [], ◌∷◌, ◌++◌, drop, length, refl, ap, append-nil, flat_map, with_prefixes, with_prefixes-append, Command, Flash, added_flashes, flashes_of, state_after}
use Rattle.std.proofs.lemmas.Grind.{flat_map-append}

pub drop_first : {A : Type 0} (xs ys : List A) → drop (length xs) (xs ++ ys) ≡ ys
drop_first [] ys = refl
drop_first (x ∷ xs) ys = drop_first xs ys

-- the flashes that a position adds
abbrev added_at : List Command × Command → List Flash
added_at p = added_flashes (state_after p.0) p.1

-- the flashes with those of one command more
pub flashes_of-more : (before : List Command) (c : Command) → flashes_of (before ++ c ∷ []) ≡ flashes_of before ++ added_flashes (state_after before) c
flashes_of-more before c =
    ap (flat_map added_at) (with_prefixes-append before (c ∷ [])) ∙ flat_map-append added_at (with_prefixes before) ((before, c) ∷ []) ∙ ap (λ (l : List Flash). flashes_of before ++ l) (append-nil (added_at (before, c)))
