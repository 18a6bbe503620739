-- The border that is found size by size is the least of the whole list.
use Rattle.macro_shapes.proofs.Common.{◌≡◌, ℕ, max, min, Bool, true, false, cond, eqb, List, [], ◌∷◌, ◌++◌, length, map, Option, None, Some, refl, sym, ap, ◌∙◌, cons_option, filter_map, fold, reduce, GridPoint, GridRounded, Edge, corners, edges, diameter_at, width_along, disc_at, line_along, least_of, border, cross_border, rounded_of, rectangle_along, segment, line_shape, chosen, least, disc_in_turn, line_in_turn, discs_in_turn, border_in_turn, Primitive}
use Rattle.macro_shapes.specs.Inner.Borders.{shape_in_turn}
use Rattle.macro_shapes.specs.Shapes.{shape_from, shape_of, wider}
use Rattle.std.specs.Option.{option_map_or}
use Rattle.std.proofs.lemmas.List.Sums.{fold-append}
use Rattle.std.proofs.lemmas.List.Folds.{fold-map}

-- ---- what is chosen

chosen_from : {X V : Type 0} (choose : V → V → V) (f : X → Option V) (xs : List X) (a : V) → fold (λ found x. chosen choose found (f x)) (Some a) xs ≡ Some (fold choose a (filter_map f xs))
chosen_from choose f [] a = refl
chosen_from {V = V} choose f (x ∷ xs) a = by (f x) (chosen_from choose f xs)
  where
    by : (o : Option V) → ((k : V) → fold (λ found x. chosen choose found (f x)) (Some k) xs ≡ Some (fold choose k (filter_map f xs)))
        → fold (λ found x. chosen choose found (f x)) (chosen choose (Some a) o) xs ≡ Some (fold choose a (cons_option o (filter_map f xs)))
    by None rest = rest a
    by (Some b) rest = rest (choose a b)

chosen_of : {X V : Type 0} (choose : V → V → V) (f : X → Option V) (xs : List X) → fold (λ found x. chosen choose found (f x)) None xs ≡ reduce choose (filter_map f xs)
chosen_of choose f [] = refl
chosen_of {V = V} choose f (x ∷ xs) = by (f x) (chosen_of choose f xs)
  where
    by : (o : Option V) → fold (λ found x. chosen choose found (f x)) None xs ≡ reduce choose (filter_map f xs) → fold (λ found x. chosen choose found (f x)) (chosen choose None o) xs ≡ reduce choose (cons_option o (filter_map f xs))
    by None rest = rest
    by (Some b) rest = chosen_from choose f xs b

pub shape_is : (qs : List Primitive) → shape_in_turn qs qs ≡ shape_of qs
shape_is qs = chosen_of wider (shape_from qs) qs

pub disc_is : (qs : List Primitive) (v : GridPoint) → disc_in_turn qs v ≡ disc_at qs v
unfolding disc_at
disc_is qs v = chosen_of max (diameter_at v) qs

pub line_is : (qs : List Primitive) (e : Edge) → line_in_turn qs e ≡ line_along qs e
unfolding line_along
line_is qs e = chosen_of max (width_along e) qs

-- ---- the least

nothing_left : (sizes : List (Option ℕ)) → fold least None sizes ≡ None
nothing_left [] = refl
nothing_left (o ∷ sizes) = nothing_left sizes

least_from : (start : Option ℕ) (sizes : List (Option ℕ)) → fold least start sizes ≡ least_of (start ∷ sizes)
least_from None sizes = nothing_left sizes
least_from (Some a) [] = refl
least_from (Some a) (None ∷ sizes) = nothing_left sizes
least_from (Some a) (Some b ∷ sizes) = least_from (Some (min a b)) sizes

pub border_is : (qs : List Primitive) (r : GridRounded) → border_in_turn qs r ≡ border qs r
unfolding border
border_is qs r = by (eqb (length r.others) 0)
  where
    few : discs_in_turn qs r ≡ fold least (disc_at qs r.first) (map (disc_at qs) r.others)
    few = sym (fold-map least (disc_at qs) (disc_at qs r.first) r.others)

    all : (es : List Edge) → fold (λ found e. least found (line_along qs e)) (discs_in_turn qs r) es ≡ least_of (map (disc_at qs) (corners r) ++ map (line_along qs) es)
    all es =
        sym (fold-map least (line_along qs) (discs_in_turn qs r) es)
        ∙ (ap (λ a. fold least a (map (line_along qs) es)) few
        ∙ (sym (fold-append least (disc_at qs r.first) (map (disc_at qs) r.others) (map (line_along qs) es)) ∙ least_from (disc_at qs r.first) (map (disc_at qs) r.others ++ map (line_along qs) es)))

    by : (t : Bool) → cond t (discs_in_turn qs r) (fold (λ found e. least found (line_along qs e)) (discs_in_turn qs r) (edges r)) ≡ least_of (map (disc_at qs) (corners r) ++ map (line_along qs) (cond t [] (edges r)))
    by true = all []
    by false = all (edges r)

pub cross_border_is : (qs : List Primitive) (common : GridRounded) (widths heights : ℕ) → least (least (discs_in_turn qs common) (Some widths)) (Some heights) ≡ cross_border qs common widths heights
unfolding cross_border
cross_border_is qs common widths heights =
    ap (λ a. least (least a (Some widths)) (Some heights)) (sym (fold-map least (disc_at qs) (disc_at qs common.first) common.others))
    ∙ (sym (fold-append least (disc_at qs common.first) (map (disc_at qs) common.others) (Some widths ∷ Some heights ∷ []))
    ∙ least_from (disc_at qs common.first) (map (disc_at qs) common.others ++ Some widths ∷ Some heights ∷ []))

-- the shape of a line by its border
pub line_shape_is : (qs : List Primitive) (a b : GridPoint) (width : ℕ) (others : List GridPoint) (size : Option ℕ) → others ≡ (segment a b).others
    → size ≡ border_in_turn qs (record { first = a; others = others; radius = 0 }) → option_map_or (rounded_of a (segment a b).others) size (rectangle_along a b width) ≡ line_shape qs a b width
line_shape_is qs a b width others size ends found =
    ap (λ o. option_map_or (rounded_of a (segment a b).others) o (rectangle_along a b width))
    (found ∙ (ap (λ (l : List GridPoint). border_in_turn qs (record { first = a; others = l; radius = 0 })) ends ∙ border_is qs (segment a b)))
