-- The border of a polygon: no circle at a corner and no vector line along an edge is smaller.
use Rattle.macro_shapes.proofs.Common.{◌≡◌, ℕ, suc, ℤ, pos, ◌*◌, ◌/◌, ◌≤◌, ◌<◌, ◌≤ℤ◌, ◌+ℤ◌, ◌-ℤ◌, ◌*ℤ◌, unsigned_abs, max, min, true, List, [], ◌∷◌, Option, None, Some, refl, sym, ap, subst, ◌∙◌, ◌⊎◌, inl, inr, arith, le_trans, ◌&&◌, ◌||◌, nat_le, int_lt, All, Contains, fold, int_eq, and_parts, or_cases, leb-true, Decides-int_eq, ints, All-nil, All-cons, mul-le, same_Some, cond_some, GridPoint, square, square_distance, square-le, square_distance_comm, GridRounded, Edge, edges, corners, cross, along, square_edge, is_beside, is_z, is_n, is_add, is_sub, is_mul, same, length_is, edge, IsInPrimitive, IsInLine, is_same, diameter_at, width_along, disc_at, line_along, chosen, least, discs_in_turn, Primitive}
use Rattle.macro_shapes.proofs.BordersInTurn.{disc_is, line_is}
use Rattle.pad_shapes.proofs.PartsLemmas.{along_back_z}
use Rattle.macro_shapes.specs.declared.primitive.Primitive.TheVariants as primitive

-- ---- sizes

none_some : {A : Type 0} {B : Type 0} (x : A) → None ≡ Some x → B
none_some x h = absurd cc

-- a size that is found is there, and no less
pub record IsAtLeast (o : Option ℕ) (d : ℕ) : Type 0 where
  pub size : ℕ
  pub found : o ≡ Some size
  pub enough : d ≤ size

pub least_parts : (a b : Option ℕ) (d : ℕ) → least a b ≡ Some d → IsAtLeast a d × IsAtLeast b d
least_parts (Some a) (Some b) d h =
    let e : min a b ≡ d = same_Some (min a b) d h in
    (record { size = a; found = refl; enough = omega (arith, e) }, record { size = b; found = refl; enough = omega (arith, e) })
least_parts _ _ d h = none_some d h

pub weaker : (o : Option ℕ) (d e : ℕ) → e ≤ d → IsAtLeast o d → IsAtLeast o e
weaker o d e less h = record { size = h.size; found = h.found; enough = le_trans less h.enough }

fold_least : {X : Type 0} (f : X → Option ℕ) (start : Option ℕ) (xs : List X) (d : ℕ) → fold (λ found x. least found (f x)) start xs ≡ Some d → IsAtLeast start d × All (λ x. IsAtLeast (f x) d) xs
fold_least f start [] d h = (record { size = d; found = h; enough = omega arith }, All-nil (λ x. IsAtLeast (f x) d))
fold_least f start (x ∷ xs) d h =
    let rest = fold_least f (least start (f x)) xs d h in
    let both = least_parts start (f x) rest.0.size rest.0.found in
    (weaker start rest.0.size d rest.0.enough both.0, All-cons (λ y. IsAtLeast (f y) d) x xs (weaker (f x) rest.0.size d rest.0.enough both.1) rest.1)

larger : (m n : ℕ) → (max m n ≡ m) ⊎ (max m n ≡ n)
larger m n = grind arith

chosen_cases : {V : Type 0} (choose : V → V → V) → ((a b : V) → (choose a b ≡ a) ⊎ (choose a b ≡ b)) → (a b : Option V) (d : V) → chosen choose a b ≡ Some d → (a ≡ Some d) ⊎ (b ≡ Some d)
chosen_cases choose one None b d h = inr h
chosen_cases choose one (Some a) None d h = inl h
chosen_cases choose one (Some a) (Some b) d h =
    let e : choose a b ≡ d = same_Some (choose a b) d h in
    elim (one a b) [ inl first ↦ inl (ap Some (sym first ∙ e)) | inr second ↦ inr (ap Some (sym second ∙ e)) ]

-- a primitive that gives a value
pub record IsGiven {V : Type 0} (f : Primitive → Option V) (qs : List Primitive) (d : V) : Type 0 where
  pub q : Primitive
  pub among : Contains qs q
  pub gives : f q ≡ Some d

fold_chosen : {V : Type 0} (choose : V → V → V) → ((a b : V) → (choose a b ≡ a) ⊎ (choose a b ≡ b)) → (f : Primitive → Option V) (start : Option V) (qs : List Primitive) (d : V) → fold (λ found q. chosen choose found (f q)) start qs ≡ Some d → (start ≡ Some d) ⊎ IsGiven f qs d
fold_chosen choose one f start [] d h = inl h
fold_chosen choose one f start (q ∷ qs) d h = elim (fold_chosen choose one f (chosen choose start (f q)) qs d h) [
  | inl first ↦ elim (chosen_cases choose one start (f q) d first) [ inl before ↦ inl before | inr here ↦ inr (record { q = q; among = (0, omega arith, refl); gives = here }) ]
  | inr later ↦ inr (record { q = later.q; among = (suc later.among.0, omega (arith, later.among.1), later.among.2); gives = later.gives })
]

pub given : {V : Type 0} (choose : V → V → V) → ((a b : V) → (choose a b ≡ a) ⊎ (choose a b ≡ b)) → (f : Primitive → Option V) (qs : List Primitive) (d : V) → fold (λ found q. chosen choose found (f q)) None qs ≡ Some d → IsGiven f qs d
given choose one f qs d h = elim (fold_chosen choose one f None qs d h) [ inl none ↦ none_some d none | inr some ↦ some ]

-- ---- circles and lines

pub same_point : (p q : GridPoint) → is_same p q ≡ true → p ≡ q
same_point p q h =
    let both = and_parts (int_eq p.x q.x) (int_eq p.y q.y) h in
    let x = (Decides-int_eq p.x q.x).0 both.0 in
    let y = (Decides-int_eq p.y q.y).0 both.1 in
    λ i. record { x = x i; y = y i }

-- half of a size, rounded down, times two
half-le : (size d : ℕ) → size ≤ d → 2 * (size / 2) ≤ d
half-le size d h = omega (arith, h)

-- no further than half of a lesser size
pub in_circle : (n size d : ℕ) → size ≤ d → n ≤ square (size / 2) → 4 * n ≤ square d
in_circle n size d h near =
    let t : (2 * (size / 2)) * (2 * (size / 2)) ≤ d * d = square-le (2 * (size / 2)) d (half-le size d h) in
    doubled (size / 2) t near
  where
    doubled : (m : ℕ) → (2 * m) * (2 * m) ≤ d * d → n ≤ m * m → 4 * n ≤ d * d
    doubled m t near = omega (arith, t, near)

circle_at : (v p : GridPoint) (size d : ℕ) (q : Primitive) → diameter_at v q ≡ Some d → size ≤ d → square_distance p v ≤ square (size / 2) → IsInPrimitive q p
circle_at v p size d (primitive.Circle c n) h less near =
    let both = cond_some (is_same c v) n d h in
    subst (λ m. 4 * square_distance p c ≤ square m) (sym both.1) (subst (λ u. 4 * square_distance p u ≤ square d) (sym (same_point c v both.0)) (in_circle (square_distance p v) size d less near))
circle_at v p size d _ h less near = none_some d h

-- p lies beside an edge, no further from its line than half of a lesser size
pub in_line : (e : Edge) (p : GridPoint) (size w : ℕ) → size ≤ w → is_beside e (size / 2) p ≡ true → IsInLine e w p
in_line e p size w less h =
    let parts = and_parts (int_lt (pos 0) (along e p) && int_lt (along e p) (pos (square_edge e))) (nat_le (square (unsigned_abs (cross e p))) (square (size / 2) * square_edge e)) h in
    let ends = and_parts (int_lt (pos 0) (along e p)) (int_lt (along e p) (pos (square_edge e))) parts.0 in
    record {
      some = long (along e p) (square_edge e) ends.0 ends.1;
      after = above (along e p) ends.0;
      before = below (along e p) (square_edge e) ends.1;
      near = wide (square (unsigned_abs (cross e p))) (square_edge e) (leb-true (square (unsigned_abs (cross e p))) (square (size / 2) * square_edge e) parts.1);
    }
  where
    long : (z : ℤ) (n : ℕ) → int_lt (pos 0) z ≡ true → int_lt z (pos n) ≡ true → 0 < n
    long z n t u = omega (arith, ints)

    above : (z : ℤ) → int_lt (pos 0) z ≡ true → pos 0 ≤ℤ z
    above z t = omega (arith, ints)

    below : (z : ℤ) (n : ℕ) → int_lt z (pos n) ≡ true → z ≤ℤ pos n
    below z n t = omega (arith, ints)

    times_four : (m c s : ℕ) → ((2 * m) * (2 * m)) * s ≤ (w * w) * s → c ≤ (m * m) * s → 4 * c ≤ (w * w) * s
    times_four m c s u near = omega (arith, u, near)

    wide : (c s : ℕ) → c ≤ square (size / 2) * s → 4 * c ≤ square w * s
    wide c s near =
        let t : (2 * (size / 2)) * (2 * (size / 2)) ≤ w * w = square-le (2 * (size / 2)) w (half-le size w less) in
        let u : ((2 * (size / 2)) * (2 * (size / 2))) * s ≤ (w * w) * s = mul-le ((2 * (size / 2)) * (2 * (size / 2))) s (w * w) s t (omega arith) in
        times_four (size / 2) c s u near

cross_back_z : (ax ay bx by x y : ℤ) → ((bx -ℤ ax) *ℤ (y -ℤ ay) -ℤ (by -ℤ ay) *ℤ (x -ℤ ax)) +ℤ ((ax -ℤ bx) *ℤ (y -ℤ by) -ℤ (ay -ℤ by) *ℤ (x -ℤ bx)) ≡ pos 0
cross_back_z ax ay bx by x y =
    same
    (is_add
    (is_sub (is_mul (is_sub (is_z bx) (is_z ax)) (is_sub (is_z y) (is_z ay))) (is_mul (is_sub (is_z by) (is_z ay)) (is_sub (is_z x) (is_z ax))))
    (is_sub (is_mul (is_sub (is_z ax) (is_z bx)) (is_sub (is_z y) (is_z by))) (is_mul (is_sub (is_z ay) (is_z by)) (is_sub (is_z x) (is_z bx)))))
    (is_n 0) (omega arith)

-- a line and its way back have the same points
pub line_back : (a b : GridPoint) (w : ℕ) (p : GridPoint) → IsInLine (edge a b) w p → IsInLine (edge b a) w p
line_back a b w p h =
    let s = square_distance_comm b a in
    let whole : along (edge a b) p +ℤ along (edge b a) p ≡ pos (square_edge (edge a b)) = along_back_z a.x a.y b.x b.y p.x p.y ∙ length_is (b.x -ℤ a.x) (b.y -ℤ a.y) in
    let area : unsigned_abs (cross (edge a b) p) ≡ unsigned_abs (cross (edge b a) p) = opposite (cross (edge a b) p) (cross (edge b a) p) (cross_back_z a.x a.y b.x b.y p.x p.y) in
    record {
      some = subst (λ n. 0 < n) s h.some;
      after = rest_above (along (edge a b) p) (along (edge b a) p) (square_edge (edge a b)) whole h.before;
      before = subst (λ n. along (edge b a) p ≤ℤ pos n) s (rest_below (along (edge a b) p) (along (edge b a) p) (square_edge (edge a b)) whole h.after);
      near = subst (λ c. 4 * square c ≤ square w * square_edge (edge b a)) area (subst (λ n. 4 * square (unsigned_abs (cross (edge a b) p)) ≤ square w * n) s h.near);
    }
  where
    opposite : (u t : ℤ) → u +ℤ t ≡ pos 0 → unsigned_abs u ≡ unsigned_abs t
    opposite u t e = omega (arith, ints)

    rest_above : (u t : ℤ) (n : ℕ) → u +ℤ t ≡ pos n → u ≤ℤ pos n → pos 0 ≤ℤ t
    rest_above u t n e h = omega (arith, ints)

    rest_below : (u t : ℤ) (n : ℕ) → u +ℤ t ≡ pos n → pos 0 ≤ℤ u → t ≤ℤ pos n
    rest_below u t n e h = omega (arith, ints)

line_at : (e : Edge) (p : GridPoint) (size w : ℕ) (q : Primitive) → width_along e q ≡ Some w → size ≤ w → is_beside e (size / 2) p ≡ true → IsInPrimitive q p
line_at e p size w (primitive.VectorLine a b n) h less near =
    let both = cond_some ((is_same a e.from && is_same b e.to) || (is_same a e.to && is_same b e.from)) n w h in
    subst (λ m. IsInLine (edge a b) m p) (sym both.1) (elim (or_cases (is_same a e.from && is_same b e.to) (is_same a e.to && is_same b e.from) both.0) [
      | inl same_way ↦
          let ends = and_parts (is_same a e.from) (is_same b e.to) same_way in
          moved e.from e.to (sym (same_point a e.from ends.0)) (sym (same_point b e.to ends.1)) (in_line e p size w less near)
      | inr other_way ↦
          let ends = and_parts (is_same a e.to) (is_same b e.from) other_way in
          moved e.to e.from (sym (same_point a e.to ends.0)) (sym (same_point b e.from ends.1)) (line_back e.from e.to w p (in_line e p size w less near))
    ])
  where
    moved : (u v : GridPoint) → u ≡ a → v ≡ b → IsInLine (edge u v) w p → IsInLine (edge a b) w p
    moved u v f g l = subst (λ z. IsInLine (edge a z) w p) g (subst (λ z. IsInLine (edge z v) w p) f l)
line_at e p size w _ h less near = none_some w h

-- ---- what a border says

-- a point of some primitive
abbrev pub IsInSome : List Primitive → GridPoint → Type 0
IsInSome qs p = (q : Primitive) × Contains qs q × IsInPrimitive q p

pub near_corner : (qs : List Primitive) (v p : GridPoint) (size : ℕ) → IsAtLeast (disc_at qs v) size → square_distance p v ≤ square (size / 2) → IsInSome qs p
near_corner qs v p size h near =
    let g = given max larger (diameter_at v) qs h.size (disc_is qs v ∙ h.found) in
    (g.q, g.among, circle_at v p size h.size g.q g.gives h.enough near)

pub near_edge : (qs : List Primitive) (e : Edge) (p : GridPoint) (size : ℕ) → IsAtLeast (line_along qs e) size → is_beside e (size / 2) p ≡ true → IsInSome qs p
near_edge qs e p size h near =
    let g = given max larger (width_along e) qs h.size (line_is qs e ∙ h.found) in
    (g.q, g.among, line_at e p size h.size g.q g.gives h.enough near)

pub corners_given : (qs : List Primitive) (r : GridRounded) (size : ℕ) → discs_in_turn qs r ≡ Some size → All (λ v. IsAtLeast (disc_at qs v) size) (corners r)
corners_given qs r size h =
    let f = fold_least (disc_at qs) (disc_at qs r.first) r.others size h in
    All-cons (λ v. IsAtLeast (disc_at qs v) size) r.first r.others f.0 f.1

pub edges_given : (qs : List Primitive) (r : GridRounded) (size : ℕ) → fold (λ found e. least found (line_along qs e)) (discs_in_turn qs r) (edges r) ≡ Some size
    → All (λ v. IsAtLeast (disc_at qs v) size) (corners r) × All (λ e. IsAtLeast (line_along qs e) size) (edges r)
edges_given qs r size h =
    let f = fold_least (line_along qs) (discs_in_turn qs r) (edges r) size h in
    let c = corners_given qs r f.0.size f.0.found in
    (λ k d l. weaker (disc_at qs _) f.0.size size f.0.enough (c k d l), f.1)
