-- Parts that make no contour, whatever parts follow them.
use Rattle.layer_features.proofs.Common.{◌≡◌, ◌∙◌, ℕ, suc, ◌+◌, Bool, true, false, ◌&&◌, inl, inr, List, [], ◌∷◌, ◌++◌, drop, length, reverse, take, Option, None, Some, refl, sym, ap, arith, append-nil, append_assoc, if◌then◌else◌, nat_lt, option_and_then, option_map, option_map_or, option_or, cons_option, list_all, list_any, or_cases, none-some, GridPoint, GridRounded, polygon_round, stops, Command, DrawState, Part, plot_state, contour_of, ends_of, is_clockwise, is_counterclockwise, is_move, leading_sides, part_by, points_of, polygon_by, polygon_of_sides, starts_region, is_over, starts_no_pad, starts_no_polygon, MakeSameContour, parts_after, turns_both_ways}
use Rattle.macro_shapes.proofs.RunsOfPoints.{many_stops_back, many_stops_longer, none_round_many}
use Rattle.layer_features.specs.declared.part.Part.TheVariants as part
use Rattle.layer_features.proofs.PointsLemmas.{some_is}
use Rattle.layer_features.proofs.TurnsLemmas.{none_round, none_round_both}

-- parts of which the first is no move make no contour
over : (parts more : List Part) → is_over parts ≡ true → contour_of (parts ++ more) ≡ None
over [] more h = absurd cc
over (part.Move ∷ ps) more h = absurd cc
over (part.Side from to bent ∷ ps) more h = refl
over (part.Other ∷ ps) more h = refl

-- so further parts change nothing
pub over_stays : (parts further : List Part) → is_over parts ≡ true → MakeSameContour parts (parts ++ further)
over_stays parts further h = λ more. over parts more h ∙ sym (ap contour_of (append_assoc parts further more) ∙ over parts (further ++ more) h)

-- ---- the sides of a contour that is none

mapped_some : {X Y : Type 0} (f : X → Y) (o : Option X) (y : Y) → option_map f o ≡ Some y → (x : X) × (o ≡ Some x) × (f x ≡ y)
mapped_some f None y e = absurd (none-some y e)
mapped_some f (Some x) y e = (x, refl, some_is (f x) y e)

map_same : (o : Option (List GridPoint)) → o ≡ option_map (λ l. [] ++ l) o
map_same None = refl
map_same (Some l) = refl

map_twice : (p : GridPoint) (ps : List GridPoint) (o : Option (List GridPoint)) → option_map (λ l. p ∷ l) (option_map (λ l. ps ++ l) o) ≡ option_map (λ l. (p ∷ ps) ++ l) o
map_twice p ps None = refl
map_twice p ps (Some l) = refl

one_more : (n : ℕ) → 1 + n ≡ suc n
one_more n = omega arith

-- where each part is a side, the sides at the start go on with those of what follows
first_sides : (ps more : List Part) (ends : List GridPoint) → ends_of ps ≡ Some ends → take (leading_sides (ps ++ more)) (ps ++ more) ≡ ps ++ take (leading_sides more) more
first_sides [] more ends h = refl
first_sides (part.Move ∷ ps) more ends h = absurd (none-some ends h)
first_sides (part.Other ∷ ps) more ends h = absurd (none-some ends h)
first_sides (part.Side from to bent ∷ ps) more ends h =
    let rest = mapped_some (λ (l : List GridPoint). to ∷ l) (ends_of ps) ends h in
    ap (λ (n : ℕ). take n (part.Side from to bent ∷ (ps ++ more))) (one_more (leading_sides (ps ++ more)))
    ∙ ap (λ (l : List Part). part.Side from to bent ∷ l) (first_sides ps more rest.0 rest.1)

-- so do their ends
ends_with : (ps more : List Part) (ends : List GridPoint) → ends_of ps ≡ Some ends → ends_of (ps ++ more) ≡ option_map (λ l. ends ++ l) (ends_of more)
ends_with [] more ends h = map_same (ends_of more) ∙ ap (λ (e : List GridPoint). option_map (λ l. e ++ l) (ends_of more)) (some_is [] ends h)
ends_with (part.Move ∷ ps) more ends h = absurd (none-some ends h)
ends_with (part.Other ∷ ps) more ends h = absurd (none-some ends h)
ends_with (part.Side from to bent ∷ ps) more ends h =
    let rest = mapped_some (λ (l : List GridPoint). to ∷ l) (ends_of ps) ends h in
    ap (option_map (λ (l : List GridPoint). to ∷ l)) (ends_with ps more rest.0 rest.1) ∙ map_twice to rest.0 (ends_of more) ∙ ap (λ (e : List GridPoint). option_map (λ l. e ++ l) (ends_of more)) rest.2

-- no polygon goes round a run that goes on from one that starts none, either way
neither_there : (run rest : List GridPoint) → starts_no_polygon run ≡ true → (polygon_round (run ++ rest) ≡ None) × (polygon_round (reverse (run ++ rest)) ≡ None)
neither_there run rest h = elim (or_cases (nat_lt 256 (length (stops run))) (turns_both_ways run) h) [
  | inl many ↦
      let long = many_stops_longer run rest many in
      (none_round_many (run ++ rest) long, none_round_many (reverse (run ++ rest)) (many_stops_back (run ++ rest) long))
  | inr both ↦ none_round_both run rest both
]

neither_way : (sides : List Part) (run rest : List GridPoint) → starts_no_polygon run ≡ true → polygon_by sides (run ++ rest) ≡ None
neither_way sides run rest h =
    let none = neither_there run rest h in
    (λ i. option_or (if list_any is_clockwise sides then None else none.0 i) (if list_any is_counterclockwise sides then None else none.1 i)) ∙ by (list_any is_clockwise sides) (list_any is_counterclockwise sides)
  where
    by : (b d : Bool) → option_or (if b then none_round else none_round) (if d then none_round else none_round) ≡ none_round
    by true true = refl
    by true false = refl
    by false true = refl
    by false false = refl

-- such sides that go on
no_polygon : (sides further : List Part) (run : List GridPoint) → points_of sides ≡ Some run → starts_no_polygon run ≡ true → polygon_of_sides (sides ++ further) ≡ None
no_polygon [] further run e h = absurd (none-some run e)
no_polygon (part.Move ∷ ps) further run e h = absurd (none-some run e)
no_polygon (part.Other ∷ ps) further run e h = absurd (none-some run e)
no_polygon (part.Side from to bent ∷ ps) further run e h =
    let sides : List Part = part.Side from to bent ∷ ps in
    let found = mapped_some (λ (l : List GridPoint). from ∷ l) (ends_of sides) run e in
    let points : points_of (sides ++ further) ≡ option_map (λ l. run ++ l) (ends_of further) =
    ap (option_map (λ (l : List GridPoint). from ∷ l)) (ends_with sides further found.0 found.1) ∙ map_twice from found.0 (ends_of further) ∙ ap (λ (r : List GridPoint). option_map (λ l. r ++ l) (ends_of further)) found.2 in
    ap (option_and_then (polygon_by (sides ++ further))) points ∙ by (sides ++ further) (ends_of further)
  where
    by : (all : List Part) (o : Option (List GridPoint)) → option_and_then (polygon_by all) (option_map (λ l. run ++ l) o) ≡ None
    by all None = refl
    by all (Some rest) = neither_way all run rest h

-- a move and such sides make no contour, whatever follows
no_contour : (sides more : List Part) (run : List GridPoint) → points_of sides ≡ Some run → starts_no_polygon run ≡ true → contour_of (part.Move ∷ (sides ++ more)) ≡ None
no_contour [] more run e h = absurd (none-some run e)
no_contour (part.Move ∷ ps) more run e h = absurd (none-some run e)
no_contour (part.Other ∷ ps) more run e h = absurd (none-some run e)
no_contour (part.Side from to bent ∷ ps) more run e h =
    let found = mapped_some (λ (l : List GridPoint). from ∷ l) (ends_of (part.Side from to bent ∷ ps)) run e in
    by (list_all is_move (drop (leading_sides ((part.Side from to bent ∷ ps) ++ more)) ((part.Side from to bent ∷ ps) ++ more))) (first_sides (part.Side from to bent ∷ ps) more found.0 found.1)
  where
    by : (b : Bool) → take (leading_sides ((part.Side from to bent ∷ ps) ++ more)) ((part.Side from to bent ∷ ps) ++ more) ≡ (part.Side from to bent ∷ ps) ++ take (leading_sides more) more
        → option_and_then polygon_of_sides (if true && b then Some (take (leading_sides ((part.Side from to bent ∷ ps) ++ more)) ((part.Side from to bent ∷ ps) ++ more)) else None) ≡ None
    by true firsts = ap polygon_of_sides firsts ∙ no_polygon (part.Side from to bent ∷ ps) (take (leading_sides more) more) run e h
    by false firsts = refl

none_starts : (parts more : List Part) → starts_no_pad parts ≡ true → contour_of (parts ++ more) ≡ None
none_starts [] more h = absurd cc
none_starts (part.Side from to bent ∷ ps) more h = absurd cc
none_starts (part.Other ∷ ps) more h = absurd cc
none_starts (part.Move ∷ ps) more h = by (points_of ps) refl h
  where
    by : (o : Option (List GridPoint)) → points_of ps ≡ o → option_map_or starts_no_polygon o false ≡ true → contour_of (part.Move ∷ (ps ++ more)) ≡ None
    by None e k = absurd cc
    by (Some run) e k = no_contour ps more run e k

-- so one part that makes no contour stands for them
pub forgotten : (parts : List Part) → starts_no_pad parts ≡ true → MakeSameContour (part.Other ∷ []) parts
forgotten parts h = λ more. sym (none_starts parts more h)

pub kept_all : (parts : List Part) → MakeSameContour parts parts
kept_all parts = λ more. refl

-- ---- one command more

-- a region starts with no parts
pub started : (c : Command) (s : DrawState) (parts : List Part) → starts_region c ≡ true → MakeSameContour [] (parts_after c s parts)
started c s parts h = λ more. ap (λ (b : Bool). contour_of ((if b then [] else parts ++ cons_option (part_by (plot_state s) c) []) ++ more)) (sym h)

-- else it goes on with the part of the command
pub went_on : (c : Command) (s : DrawState) (kept parts : List Part) → starts_region c ≡ false → MakeSameContour kept (parts ++ cons_option (part_by (plot_state s) c) []) → MakeSameContour kept (parts_after c s parts)
went_on c s kept parts h same = λ more. same more ∙ ap (λ (b : Bool). contour_of ((if b then [] else parts ++ cons_option (part_by (plot_state s) c) []) ++ more)) (sym h)

pub none_added : (parts : List Part) → MakeSameContour parts (parts ++ [])
none_added parts = λ more. ap (λ (l : List Part). contour_of (l ++ more)) (sym (append-nil parts))
