-- No convex polygon goes round a run of points that turns both ways, nor round a run that starts with it.
use Rattle.layer_features.proofs.Common.{◌≡◌, ◌∙◌, ℕ, ℤ, pos, negsuc, ◌-◌, ◌+ℤ◌, ◌-ℤ◌, ◌*ℤ◌, Bool, true, false, ◌&&◌, ◌||◌, ◌⊎◌, inl, inr, List, [], ◌∷◌, ◌++◌, length, reverse, Option, None, Some, refl, sym, ap, subst, arith, int_le, int_lt, nat_le, nat_lt, if◌then◌else◌, cons_option, list_all, int_eq, and_from, and_parts, or_cases, or_from, or_left, or_right, ints, reverse-append, GridPoint, GridRounded, Edge, cross, edges_back, has_area, is_convex, is_deep_inside, is_deep_left, is_deep_left_of_all, max_corners, are_different, is_closed, is_same, moves, polygon_of, polygon_round, stops, turns_left, turns_right, turns_both_ways}
use Rattle.std.specs.Prelude.{◌==◌, not}
use Rattle.std.proofs.lemmas.Bool.Decides.{Decides-int_eq, nat_tests}
use Rattle.pad_shapes.specs.Shapes.{max_half_side}
use Rattle.pad_shapes.specs.Inner.Identities.{is_z, is_n, is_add, is_sub, is_mul, same}
use Rattle.macro_shapes.specs.Primitives.{point_at}

abbrev edge : GridPoint → GridPoint → Edge
edge p q = record { from = p; to = q }

-- ---- turns of longer runs

-- a run that goes on turns as before
right_stays : (run rest : List GridPoint) → turns_right run ≡ true → turns_right (run ++ rest) ≡ true
right_stays [] rest h = absurd cc
right_stays (a ∷ []) rest h = absurd cc
right_stays (a ∷ b ∷ []) rest h = absurd cc
right_stays (a ∷ b ∷ c ∷ run) rest h = by (int_lt (cross (edge a b) c) (pos 0)) h (right_stays (b ∷ c ∷ run) rest)
  where
    by : (t : Bool) → (t || turns_right (b ∷ c ∷ run)) ≡ true → (turns_right (b ∷ c ∷ run) ≡ true → turns_right (b ∷ c ∷ (run ++ rest)) ≡ true) → (t || turns_right (b ∷ c ∷ (run ++ rest))) ≡ true
    by true e k = refl
    by false e k = k e

one_before : (a : GridPoint) (run : List GridPoint) → turns_right run ≡ true → turns_right (a ∷ run) ≡ true
one_before a [] h = absurd cc
one_before a (b ∷ []) h = absurd cc
one_before a (b ∷ c ∷ run) h = or_right (int_lt (cross (edge a b) c) (pos 0)) (turns_right (b ∷ c ∷ run)) h

-- so does one with points before it
right_after : (before run : List GridPoint) → turns_right run ≡ true → turns_right (before ++ run) ≡ true
right_after [] run h = h
right_after (a ∷ before) run h = one_before a (before ++ run) (right_after before run h)

-- the way back turns the other way
back_and_there : (ax ay bx by cx cy : ℤ) → ((bx -ℤ cx) *ℤ (ay -ℤ cy) -ℤ (by -ℤ cy) *ℤ (ax -ℤ cx)) +ℤ ((bx -ℤ ax) *ℤ (cy -ℤ ay) -ℤ (by -ℤ ay) *ℤ (cx -ℤ ax)) ≡ pos 0
back_and_there ax ay bx by cx cy =
    same (is_add (is_sub (is_mul (is_sub (is_z bx) (is_z cx)) (is_sub (is_z ay) (is_z cy))) (is_mul (is_sub (is_z by) (is_z cy)) (is_sub (is_z ax) (is_z cx))))
    (is_sub (is_mul (is_sub (is_z bx) (is_z ax)) (is_sub (is_z cy) (is_z ay))) (is_mul (is_sub (is_z by) (is_z ay)) (is_sub (is_z cx) (is_z ax))))) (is_n 0) (omega arith)

opposite : (z w : ℤ) → z +ℤ w ≡ pos 0 → int_lt (pos 0) w ≡ true → int_lt z (pos 0) ≡ true
opposite (pos n) w e h = absurd (omega (arith, ints, e, h))
opposite (negsuc n) w e h = refl

turn_back : (a b c : GridPoint) → int_lt (pos 0) (cross (edge a b) c) ≡ true → int_lt (cross (edge c b) a) (pos 0) ≡ true
turn_back a b c h = opposite (cross (edge c b) a) (cross (edge a b) c) (back_and_there a.x a.y b.x b.y c.x c.y) h

-- a run that turns to the left turns to the right on the way back
left_back : (run : List GridPoint) → turns_left run ≡ true → turns_right (reverse run) ≡ true
left_back [] h = absurd cc
left_back (a ∷ []) h = absurd cc
left_back (a ∷ b ∷ []) h = absurd cc
left_back (a ∷ b ∷ c ∷ run) h = by (or_cases (int_lt (pos 0) (cross (edge a b) c)) (turns_left (b ∷ c ∷ run)) h) (left_back (b ∷ c ∷ run))
  where
    by : ((int_lt (pos 0) (cross (edge a b) c) ≡ true) ⊎ (turns_left (b ∷ c ∷ run) ≡ true)) → (turns_left (b ∷ c ∷ run) ≡ true → turns_right (reverse (b ∷ c ∷ run)) ≡ true) → turns_right (reverse (a ∷ b ∷ c ∷ run)) ≡ true
    by (inl e) k =
        subst (λ (l : List GridPoint). turns_right l ≡ true) (sym (reverse-append (a ∷ b ∷ c ∷ []) run))
        (right_after (reverse run) (c ∷ b ∷ a ∷ []) (or_left (int_lt (cross (edge c b) a) (pos 0)) false (turn_back a b c e)))
    by (inr e) k =
        subst (λ (l : List GridPoint). turns_right l ≡ true) (sym (reverse-append (a ∷ []) (b ∷ c ∷ run)))
        (right_stays (reverse (b ∷ c ∷ run)) (a ∷ []) (k e))

-- ---- steps of a run

same_point : (p q : GridPoint) → is_same p q ≡ true → p ≡ q
same_point p q h = by (and_parts (int_eq p.x q.x) (int_eq p.y q.y) h)
  where
    by : (int_eq p.x q.x ≡ true) × (int_eq p.y q.y ≡ true) → p ≡ q
    by parts = λ i. record { x = (Decides-int_eq p.x q.x).0 parts.0 i; y = (Decides-int_eq p.y q.y).0 parts.1 i }

-- a test holds at each step of a run from a point to another one
abbrev steps : (GridPoint → GridPoint → Bool) → GridPoint → List GridPoint → Bool
steps test p [] = true
steps test p (q ∷ ps) = (is_same q p || test p q) && steps test q ps

-- a run moves on along edges
edges_steps : (test : Edge → Bool) (first p : GridPoint) (ps : List GridPoint) → list_all test (edges_back first p (moves (p ∷ ps))) ≡ true → steps (λ x y. test (edge x y)) p ps ≡ true
edges_steps test first p [] h = refl
edges_steps test first p (q ∷ ps) h = by (is_same q p) refl h (edges_steps test first q ps)
  where
    by : (b : Bool) → is_same q p ≡ b → list_all test (edges_back first p (cons_option (if b then None else Some q) (moves (q ∷ ps)))) ≡ true
        → (list_all test (edges_back first q (moves (q ∷ ps))) ≡ true → steps (λ x y. test (edge x y)) q ps ≡ true) → ((b || test (edge p q)) && steps (λ x y. test (edge x y)) q ps) ≡ true
    by true e all k = k (subst (λ (z : GridPoint). list_all test (edges_back first z (moves (q ∷ ps))) ≡ true) (sym (same_point q p e)) all)
    by false e all k =
        let parts = and_parts (test (edge p q)) (list_all test (edges_back first q (moves (q ∷ ps)))) all in
        and_from (test (edge p q)) (steps (λ x y. test (edge x y)) q ps) parts.0 (k parts.1)

-- and each of its steps ends at a move
moves_steps : (test : GridPoint → Bool) (p : GridPoint) (ps : List GridPoint) → list_all test (moves (p ∷ ps)) ≡ true → steps (λ x y. test y) p ps ≡ true
moves_steps test p [] h = refl
moves_steps test p (q ∷ ps) h = by (is_same q p) h (moves_steps test q ps)
  where
    by : (b : Bool) → list_all test (cons_option (if b then None else Some q) (moves (q ∷ ps))) ≡ true
        → (list_all test (moves (q ∷ ps)) ≡ true → steps (λ x y. test y) q ps ≡ true) → ((b || test q) && steps (λ x y. test y) q ps) ≡ true
    by true all k = k all
    by false all k =
        let parts = and_parts (test q) (list_all test (moves (q ∷ ps))) all in
        and_from (test q) (steps (λ x y. test y) q ps) parts.0 (k parts.1)

-- the last point of a run
abbrev last_of : GridPoint → List GridPoint → GridPoint
last_of p [] = p
last_of p (q ∷ ps) = last_of q ps

-- the last edge goes back to the first corner
closing : (test : Edge → Bool) (first p : GridPoint) (l : List GridPoint) → list_all test (edges_back first p l) ≡ true → test (edge (last_of p l) first) ≡ true
closing test first p [] h = (and_parts (test (edge p first)) true h).0
closing test first p (q ∷ l) h = closing test first q l (and_parts (test (edge p q)) (list_all test (edges_back first q l)) h).1

-- a run ends with its last move
last_moves : (p : GridPoint) (ps : List GridPoint) → last_of p (moves (p ∷ ps)) ≡ last_of p ps
last_moves p [] = refl
last_moves p (q ∷ ps) = by (is_same q p) refl (last_moves q ps)
  where
    by : (b : Bool) → is_same q p ≡ b → last_of q (moves (q ∷ ps)) ≡ last_of q ps → last_of p (cons_option (if b then None else Some q) (moves (q ∷ ps))) ≡ last_of q ps
    by true e k = ap (λ (z : GridPoint). last_of z (moves (q ∷ ps))) (sym (same_point q p e)) ∙ k
    by false e k = k

last_is : (p : GridPoint) (ps : List GridPoint) (n : ℕ) → n ≡ length ps → point_at (p ∷ ps) n ≡ last_of p ps
last_is p [] n e = ap (point_at (p ∷ [])) e
last_is p (q ∷ ps) n e = ap (point_at (p ∷ q ∷ ps)) e ∙ last_is q ps (length ps) refl

-- a closed run starts with its last point
ends_at_start : (p : GridPoint) (ps : List GridPoint) → is_closed (p ∷ ps) ≡ true → p ≡ last_of p ps
ends_at_start p ps h =
    let last : point_at (p ∷ ps) (length (p ∷ ps) - 1) ≡ last_of p ps = last_is p ps (length (p ∷ ps) - 1) (omega arith) in
    same_point p (point_at (p ∷ ps) (length (p ∷ ps) - 1)) (and_parts (not (length (p ∷ ps) == 0)) (is_same p (point_at (p ∷ ps) (length (p ∷ ps) - 1))) h).1 ∙ last

-- ---- turns of convex polygons

at_end : (ax ay bx by : ℤ) → (bx -ℤ ax) *ℤ (by -ℤ ay) -ℤ (by -ℤ ay) *ℤ (bx -ℤ ax) ≡ pos 0
at_end ax ay bx by = same (is_sub (is_mul (is_sub (is_z bx) (is_z ax)) (is_sub (is_z by) (is_z ay))) (is_mul (is_sub (is_z by) (is_z ay)) (is_sub (is_z bx) (is_z ax)))) (is_n 0) (omega arith)

of_no_length : (ax ay cx cy : ℤ) → (ax -ℤ ax) *ℤ (cy -ℤ ay) -ℤ (ay -ℤ ay) *ℤ (cx -ℤ ax) ≡ pos 0
of_no_length ax ay cx cy = same (is_sub (is_mul (is_sub (is_z ax) (is_z ax)) (is_sub (is_z cy) (is_z ay))) (is_mul (is_sub (is_z ay) (is_z ay)) (is_sub (is_z cx) (is_z ax)))) (is_n 0) (omega arith)

-- no turn where the run stays at a point
stays_at_end : (a b c : GridPoint) → is_same c b ≡ true → int_lt (cross (edge a b) c) (pos 0) ≡ false
stays_at_end a b c h =
    subst (λ (z : GridPoint). int_lt (cross (edge a b) z) (pos 0) ≡ false) (sym (same_point c b h)) (ap (λ (z : ℤ). int_lt z (pos 0)) (at_end a.x a.y b.x b.y))

stays_at_start : (a b c : GridPoint) → is_same b a ≡ true → int_lt (cross (edge a b) c) (pos 0) ≡ false
stays_at_start a b c h =
    subst (λ (z : GridPoint). int_lt (cross (edge a z) c) (pos 0) ≡ false) (sym (same_point b a h)) (ap (λ (z : ℤ). int_lt z (pos 0)) (of_no_length a.x a.y c.x c.y))

none_below : (n : ℕ) → nat_lt n 0 ≡ false
none_below n = grind (arith, nat_tests)

not_below : (z : ℤ) (t : Bool) → (int_le (pos 0) z && t) ≡ true → int_lt z (pos 0) ≡ false
not_below (pos n) t h = none_below n
not_below (negsuc n) t h = absurd cc

-- a run with no kept point to the right of a step, and whose steps end at kept points, does not turn to the right
no_right : (keep : GridPoint → Bool) (p : GridPoint) (ps : List GridPoint)
    → ((v : GridPoint) → keep v ≡ true → steps (λ x y. is_deep_left (edge x y) 0 v) p ps ≡ true) → steps (λ x y. keep y) p ps ≡ true → turns_right (p ∷ ps) ≡ false
no_right keep p [] left ends = refl
no_right keep p (b ∷ []) left ends = refl
no_right keep p (b ∷ c ∷ ps) left ends =
    let after = and_parts (is_same b p || keep b) (steps (λ x y. keep y) b (c ∷ ps)) ends in
    let next = and_parts (is_same c b || keep c) (steps (λ x y. keep y) c ps) after.1 in
    or_from (int_lt (cross (edge p b) c) (pos 0)) (turns_right (b ∷ c ∷ ps)) (here (or_cases (is_same c b) (keep c) next.0))
    (no_right keep b (c ∷ ps) (λ v k. (and_parts (is_same b p || is_deep_left (edge p b) 0 v) (steps (λ x y. is_deep_left (edge x y) 0 v) b (c ∷ ps)) (left v k)).1) after.1)
  where
    on_left : ((is_same b p ≡ true) ⊎ (is_deep_left (edge p b) 0 c ≡ true)) → int_lt (cross (edge p b) c) (pos 0) ≡ false
    on_left (inl e) = stays_at_start p b c e
    on_left (inr e) = not_below (cross (edge p b) c) _ e

    here : ((is_same c b ≡ true) ⊎ (keep c ≡ true)) → int_lt (cross (edge p b) c) (pos 0) ≡ false
    here (inl e) = stays_at_end p b c e
    here (inr k) =
        on_left (or_cases (is_same b p) (is_deep_left (edge p b) 0 c) (and_parts (is_same b p || is_deep_left (edge p b) 0 c) (steps (λ x y. is_deep_left (edge x y) 0 c) b (c ∷ ps)) (left c k)).0)

abbrev polygon : GridPoint → List GridPoint → GridRounded
polygon first others = record { first = first; others = others; radius = 0 }

-- a run round a convex polygon does not turn to the right
convex_no_right : (p : GridPoint) (ps : List GridPoint) (a : GridPoint) (l : List GridPoint) → p ≡ last_of p ps → moves (p ∷ ps) ≡ a ∷ l → is_convex (polygon a l) ≡ true → turns_right (p ∷ ps) ≡ false
convex_no_right p ps a l closed e convex =
    no_right (is_deep_inside (polygon a l) 0) p ps (λ v k. edges_steps (λ d. is_deep_left d 0 v) a p ps (all v (and_parts (has_area (polygon a l)) (is_deep_left_of_all (polygon a l) 0 v) k).1))
    (moves_steps (is_deep_inside (polygon a l) 0) p ps (ap (list_all (is_deep_inside (polygon a l) 0)) e ∙ convex))
  where
    last : last_of a l ≡ p
    last = sym (ap (last_of p) e) ∙ last_moves p ps ∙ sym closed

    all : (v : GridPoint) → list_all (λ d. is_deep_left d 0 v) (edges_back a a l) ≡ true → list_all (λ d. is_deep_left d 0 v) (edges_back a p (moves (p ∷ ps))) ≡ true
    all v k =
        ap (λ (m : List GridPoint). list_all (λ d. is_deep_left d 0 v) (edges_back a p m)) e
        ∙ and_from (is_deep_left (edge p a) 0 v) (list_all (λ d. is_deep_left d 0 v) (edges_back a a l))
        (subst (λ (z : GridPoint). is_deep_left (edge z a) 0 v ≡ true) last (closing (λ d. is_deep_left d 0 v) a a l k)) k

-- two stops or more are moves
several_moves : (run : List GridPoint) (a b : GridPoint) (l : List GridPoint) → stops run ≡ a ∷ b ∷ l → moves run ≡ a ∷ b ∷ l
several_moves run a b l e = by (length (moves run) == 0) e
  where
    by : (t : Bool) → (if t then point_at run 0 ∷ [] else moves run) ≡ a ∷ b ∷ l → moves run ≡ a ∷ b ∷ l
    by true k = absurd cc
    by false k = k

-- the stops of a closed run that turns to the right make no convex polygon
not_convex : (p : GridPoint) (ps : List GridPoint) (a b : GridPoint) (l : List GridPoint) → turns_right (p ∷ ps) ≡ true → is_closed (p ∷ ps) ≡ true → stops (p ∷ ps) ≡ a ∷ b ∷ l → is_convex (polygon a (b ∷ l)) ≡ false
not_convex p ps a b l right closed e = by (is_convex (polygon a (b ∷ l))) refl
  where
    by : (t : Bool) → is_convex (polygon a (b ∷ l)) ≡ t → t ≡ false
    by true k =
        let straight : turns_right (p ∷ ps) ≡ false = convex_no_right p ps a (b ∷ l) (ends_at_start p ps closed) (several_moves (p ∷ ps) a b l e) k in
        sym right ∙ straight
    by false k = refl

-- no polygon
abbrev pub none_round : Option GridRounded
none_round = None

no_polygon : (s t u v : Bool) (r : GridRounded) → v ≡ false → (if s then (if t && (u && v) then Some r else none_round) else none_round) ≡ none_round
no_polygon s t u v r e = ap (λ (w : Bool). if s then (if t && (u && w) then Some r else none_round) else none_round) e ∙ by s t u
  where
    by : (s t u : Bool) → (if s then (if t && (u && false) then Some r else none_round) else none_round) ≡ none_round
    by false t u = refl
    by true false u = refl
    by true true false = refl
    by true true true = refl

-- no polygon goes round a run that turns to the right
none_round_right : (run : List GridPoint) → turns_right run ≡ true → polygon_round run ≡ None
none_round_right [] h = absurd cc
none_round_right (p ∷ ps) h = by (is_closed (p ∷ ps)) (stops (p ∷ ps)) refl refl
  where
    by : (b : Bool) (s : List GridPoint) → is_closed (p ∷ ps) ≡ b → stops (p ∷ ps) ≡ s
        → (if b && (nat_le 3 (length s) && (nat_le (length s) max_corners && are_different s)) then polygon_of s else None) ≡ None
    by false s closed e = refl
    by true [] closed e = refl
    by true (a ∷ []) closed e = refl
    by true (a ∷ b ∷ []) closed e = refl
    by true (a ∷ b ∷ c ∷ l) closed e =
        no_polygon (nat_le 3 (length (a ∷ b ∷ c ∷ l)) && (nat_le (length (a ∷ b ∷ c ∷ l)) max_corners && are_different (a ∷ b ∷ c ∷ l)))
        (nat_lt (length (b ∷ c ∷ l)) max_corners) (nat_le 0 max_half_side) (is_convex (polygon a (b ∷ c ∷ l))) (polygon a (b ∷ c ∷ l))
        (not_convex p ps a b (c ∷ l) h closed e)

-- no polygon goes round a run that turns both ways and goes on, in neither order
pub none_round_both : (run rest : List GridPoint) → turns_both_ways run ≡ true → (polygon_round (run ++ rest) ≡ None) × (polygon_round (reverse (run ++ rest)) ≡ None)
none_round_both run rest h =
    let both = and_parts (turns_left run) (turns_right run) h in (
      none_round_right (run ++ rest) (right_stays run rest both.1),
      none_round_right (reverse (run ++ rest))
          (subst (λ (l : List GridPoint). turns_right l ≡ true) (sym (reverse-append run rest)) (right_after (reverse rest) (reverse run) (left_back run both.0))),
    )
