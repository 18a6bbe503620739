-- The points of a run at which it moves on.
use Rattle.macro_shapes.proofs.Common.{◌≡◌, ◌∙◌, ◌≤◌, ◌<◌, ◌+◌, ℕ, ℤ, Bool, true, false, cond, List, [], ◌∷◌, ◌++◌, get_or, length, reverse, append_assoc, Option, None, Some, refl, sym, ap, arith, ◌==◌, zip, nat_le, nat_lt, if◌then◌else◌, cons_option, filter_map, int_eq, and_from, Decides-int_eq, nat_tests, same_from_decides, reverse-append, GridPoint, GridRounded, are_different, is_closed, is_same, point_at, other_point, moves, polygon_of, polygon_round, stops}
use Rattle.std.proofs.Common.{◌&&◌}

same_as_itself : (p : GridPoint) → is_same p p ≡ true
same_as_itself p = and_from (int_eq p.x p.x) (int_eq p.y p.y) ((Decides-int_eq p.x p.x).1 refl) ((Decides-int_eq p.y p.y).1 refl)

-- a run moves on from its first point
pub moves_from_first : (run : List GridPoint) → filter_map other_point (zip (point_at run 0 ∷ run) run) ≡ moves run
moves_from_first [] = refl
moves_from_first (p ∷ ps) = ap (λ t. cons_option (cond t None (Some p)) (filter_map other_point (zip (p ∷ ps) ps))) (same_as_itself p)

-- whatever names its first point
pub moves_from_own_first : (run : List GridPoint) (first : GridPoint) → first ≡ get_or run 0 first → filter_map other_point (zip (first ∷ run) run) ≡ moves run
moves_from_own_first [] first e = refl
moves_from_own_first (p ∷ ps) first e = ap (λ (q : GridPoint). filter_map other_point (zip (q ∷ p ∷ ps) (p ∷ ps))) e ∙ moves_from_first (p ∷ ps)

-- ---- runs with more stops than a polygon has corners

few_not_many : (n : ℕ) → nat_lt 256 n ≡ true → nat_le n 256 ≡ false
few_not_many n h = grind (arith, nat_tests, h)

no_polygon : (a b d : Bool) (o : Option GridRounded) → (if a && (b && (false && d)) then o else None) ≡ None
no_polygon true true d o = refl
no_polygon true false d o = refl
no_polygon false b d o = refl

-- no polygon goes round so many stops
pub none_round_many : (run : List GridPoint) → nat_lt 256 (length (stops run)) ≡ true → polygon_round run ≡ None
none_round_many run h =
    ap (λ (few : Bool). if is_closed run && (nat_le 3 (length (stops run)) && (few && are_different (stops run))) then polygon_of (stops run) else None) (few_not_many (length (stops run)) h)
    ∙ no_polygon (is_closed run) (nat_le 3 (length (stops run))) (are_different (stops run)) (polygon_of (stops run))

-- how many points an optional one is
abbrev many_of : Option GridPoint → ℕ
many_of None = 0
many_of (Some p) = 1

length_with : (o : Option GridPoint) (l : List GridPoint) → length (cons_option o l) ≡ many_of o + length l
length_with None l = omega arith
length_with (Some p) l = omega arith

next_move : (p q : GridPoint) (rest : List GridPoint) → length (moves (p ∷ q ∷ rest)) ≡ many_of (other_point (p, q)) + length (moves (q ∷ rest))
next_move p q rest = length_with (other_point (p, q)) (moves (q ∷ rest))

-- a longer run moves on as often
moves_grow : (run more : List GridPoint) → length (moves run) ≤ length (moves (run ++ more))
moves_grow [] more = omega arith
moves_grow (p ∷ []) more = omega arith
moves_grow (p ∷ q ∷ rest) more =
    let few : length (moves (q ∷ rest)) ≤ length (moves ((q ∷ rest) ++ more)) = moves_grow (q ∷ rest) more in
    let here : length (moves (p ∷ q ∷ rest)) ≡ many_of (other_point (p, q)) + length (moves (q ∷ rest)) = next_move p q rest in
    let there : length (moves ((p ∷ q ∷ rest) ++ more)) ≡ many_of (other_point (p, q)) + length (moves ((q ∷ rest) ++ more)) = next_move p q (rest ++ more) in
    omega (arith, few, here, there)

-- a run with one more point
last_move : (run : List GridPoint) (p q : GridPoint) → length (moves (run ++ p ∷ q ∷ [])) ≡ length (moves (run ++ p ∷ [])) + many_of (other_point (p, q))
last_move [] p q =
    let one : length (moves ([] ++ p ∷ q ∷ [])) ≡ many_of (other_point (p, q)) + 0 = next_move p q [] in
    let none : length (moves ([] ++ p ∷ [])) ≡ 0 = refl in
    omega (arith, one, none)
last_move (a ∷ []) p q =
    let one : length (moves (p ∷ q ∷ [])) ≡ many_of (other_point (p, q)) + 0 = next_move p q [] in
    let long : length (moves ((a ∷ []) ++ p ∷ q ∷ [])) ≡ many_of (other_point (a, p)) + length (moves (p ∷ q ∷ [])) = next_move a p (q ∷ []) in
    let short : length (moves ((a ∷ []) ++ p ∷ [])) ≡ many_of (other_point (a, p)) + 0 = next_move a p [] in
    omega (arith, one, long, short)
last_move (a ∷ b ∷ run) p q =
    let rest : length (moves ((b ∷ run) ++ p ∷ q ∷ [])) ≡ length (moves ((b ∷ run) ++ p ∷ [])) + many_of (other_point (p, q)) = last_move (b ∷ run) p q in
    let long : length (moves ((a ∷ b ∷ run) ++ p ∷ q ∷ [])) ≡ many_of (other_point (a, b)) + length (moves ((b ∷ run) ++ p ∷ q ∷ [])) = next_move a b (run ++ p ∷ q ∷ []) in
    let short : length (moves ((a ∷ b ∷ run) ++ p ∷ [])) ≡ many_of (other_point (a, b)) + length (moves ((b ∷ run) ++ p ∷ [])) = next_move a b (run ++ p ∷ []) in
    omega (arith, rest, long, short)

same_numbers : (a b : ℤ) → int_eq a b ≡ int_eq b a
same_numbers a b = same_from_decides (int_eq a b) (int_eq b a) (Decides-int_eq a b) (λ e. sym ((Decides-int_eq b a).0 e), λ e. (Decides-int_eq b a).1 (sym e))

same_either_way : (p q : GridPoint) → is_same p q ≡ is_same q p
same_either_way p q = λ i. same_numbers p.x q.x i && same_numbers p.y q.y i

-- there and back are moves alike
moved_back : (p q : GridPoint) → many_of (other_point (q, p)) ≡ many_of (other_point (p, q))
moved_back p q = ap (λ (b : Bool). many_of (if b then None else Some p)) (same_either_way p q) ∙ by (is_same q p)
  where
    by : (b : Bool) → many_of (if b then None else Some p) ≡ many_of (if b then None else Some q)
    by true = refl
    by false = refl

-- a run moves on as often from its last point back
moves_back : (run : List GridPoint) → length (moves (reverse run)) ≡ length (moves run)
moves_back [] = refl
moves_back (p ∷ []) = refl
moves_back (p ∷ q ∷ rest) =
    let back : reverse (p ∷ q ∷ rest) ≡ reverse (q ∷ rest) ++ p ∷ [] = reverse-append (p ∷ []) (q ∷ rest) in
    let before : reverse (q ∷ rest) ≡ reverse rest ++ q ∷ [] = reverse-append (q ∷ []) rest in
    let long : length (moves (reverse (p ∷ q ∷ rest))) ≡ length (moves (reverse rest ++ q ∷ p ∷ [])) = ap (λ (l : List GridPoint). length (moves l)) (back ∙ ap (λ (l : List GridPoint). l ++ p ∷ []) before ∙ append_assoc (reverse rest) (q ∷ []) (p ∷ [])) in
    let split : length (moves (reverse rest ++ q ∷ p ∷ [])) ≡ length (moves (reverse rest ++ q ∷ [])) + many_of (other_point (q, p)) = last_move (reverse rest) q p in
    let short : length (moves (reverse rest ++ q ∷ [])) ≡ length (moves (q ∷ rest)) = ap (λ (l : List GridPoint). length (moves l)) (sym before) ∙ moves_back (q ∷ rest) in
    let first : length (moves (p ∷ q ∷ rest)) ≡ many_of (other_point (p, q)) + length (moves (q ∷ rest)) = next_move p q rest in
    let alike : many_of (other_point (q, p)) ≡ many_of (other_point (p, q)) = moved_back p q in
    omega (arith, long, split, short, first, alike)

-- many stops are as many moves
many_moves : (run : List GridPoint) → nat_lt 256 (length (stops run)) ≡ true → 256 < length (moves run)
many_moves run h = by (length (moves run) == 0) h
  where
    by : (b : Bool) → nat_lt 256 (length (if b then point_at run 0 ∷ [] else moves run)) ≡ true → 256 < length (moves run)
    by true e = absurd cc
    by false e = grind (arith, nat_tests, e)

many_stops : (run : List GridPoint) → 256 < length (moves run) → nat_lt 256 (length (stops run)) ≡ true
many_stops run h = by (length (moves run) == 0) refl
  where
    by : (b : Bool) → (length (moves run) == 0) ≡ b → nat_lt 256 (length (if b then point_at run 0 ∷ [] else moves run)) ≡ true
    by true e = absurd (grind (arith, nat_tests, e, h))
    by false e = grind (arith, nat_tests, h)

-- a longer run has as many stops
pub many_stops_longer : (run more : List GridPoint) → nat_lt 256 (length (stops run)) ≡ true → nat_lt 256 (length (stops (run ++ more))) ≡ true
many_stops_longer run more h = let few = many_moves run h in let grows = moves_grow run more in many_stops (run ++ more) (omega (arith, few, grows))

-- a run has as many stops from its last point back
pub many_stops_back : (run : List GridPoint) → nat_lt 256 (length (stops run)) ≡ true → nat_lt 256 (length (stops (reverse run))) ≡ true
many_stops_back run h = let few = many_moves run h in let back = moves_back run in many_stops (reverse run) (omega (arith, few, back))

-- a run has as many stops as moves, where these are many
pub many_either_way : (run : List GridPoint) → nat_lt 256 (length (moves run)) ≡ nat_lt 256 (length (stops run))
many_either_way run = by (length (moves run) == 0) refl
  where
    by : (b : Bool) → (length (moves run) == 0) ≡ b → nat_lt 256 (length (moves run)) ≡ nat_lt 256 (length (if b then point_at run 0 ∷ [] else moves run))
    by true e = grind (arith, nat_tests, e)
    by false e = refl
