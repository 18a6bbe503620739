-- The fan of triangles from the first corner: a point that lies to the right of no edge of an area is a mean of corners.
use Rattle.std.proofs.Common.{◌≡◌, ℕ, ℤ, pos, ◌+◌, ◌≤◌, ◌+ℤ◌, ◌-ℤ◌, ◌*ℤ◌, ◌≤ℤ◌, ◌<ℤ◌, unsigned_abs, Bool, true, false, List, [], ◌∷◌, sym, ap, ◌∙◌, ◌⊎◌, inl, inr, arith}
use Rattle.std.proofs.lemmas.Bool.{and_parts, or_cases, false≢true}
use Rattle.std.proofs.lemmas.Int.{ints, by_lt_z}
use Rattle.std.proofs.lemmas.List.Elements.{All-nil, All-cons, All-head, All-tail}
use Rattle.std.specs.List.{All, list_all, list_any}
use Rattle.grid_units.specs.Points.{GridPoint}
use Rattle.pad_shapes.specs.Rounded.{Edge, edges_back, cross}
use Rattle.pad_shapes.specs.Inner.Identities.{is_z, is_n, is_add, is_sub, is_mul, same, of_natural, times-le}
use Rattle.pad_shapes.specs.Inner.Means.{IsMean}

-- the edge from one point to another
abbrev pub edge : GridPoint → GridPoint → Edge
edge a b = record { from = a; to = b }

-- the area of an edge and a point, of which k times it is (x, y), times k
abbrev pub turn : Edge → ℕ → ℤ → ℤ → ℤ
turn e k x y = (e.to.x -ℤ e.from.x) *ℤ (y -ℤ pos k *ℤ e.from.y) -ℤ (e.to.y -ℤ e.from.y) *ℤ (x -ℤ pos k *ℤ e.from.x)

-- what holds of each edge
abbrev pub EachEdge : (Edge → Type 0) → GridPoint → GridPoint → List GridPoint → Type 0
EachEdge P first from [] = P (edge from first)
EachEdge P first from (to ∷ rest) = P (edge from to) × EachEdge P first to rest

-- what holds of some edge
abbrev pub SomeEdge : (Edge → Type 0) → GridPoint → GridPoint → List GridPoint → Type 0
SomeEdge P first from [] = P (edge from first)
SomeEdge P first from (to ∷ rest) = P (edge from to) ⊎ SomeEdge P first to rest

pub each_edge : (t : Edge → Bool) (first from : GridPoint) (rest : List GridPoint) → list_all t (edges_back first from rest) ≡ true → EachEdge (λ e. t e ≡ true) first from rest
each_edge t first from [] h = (and_parts (t (edge from first)) true h).0
each_edge t first from (to ∷ rest) h =
    let both = and_parts (t (edge from to)) (list_all t (edges_back first to rest)) h in
    (both.0, each_edge t first to rest both.1)

pub some_edge : (t : Edge → Bool) (first from : GridPoint) (rest : List GridPoint) → list_any t (edges_back first from rest) ≡ true → SomeEdge (λ e. t e ≡ true) first from rest
some_edge t first from [] h = elim (or_cases (t (edge from first)) false h) [ inl here ↦ here | inr none ↦ absurd (false≢true none) ]
some_edge t first from (to ∷ rest) h = elim (or_cases (t (edge from to)) (list_any t (edges_back first to rest)) h) [
  | inl here ↦ inl here
  | inr later ↦ inr (some_edge t first to rest later)
]

pub map_each : (P Q : Edge → Type 0) → ((e : Edge) → P e → Q e) → (first from : GridPoint) (rest : List GridPoint) → EachEdge P first from rest → EachEdge Q first from rest
map_each P Q f first from [] h = f (edge from first) h
map_each P Q f first from (to ∷ rest) h = (f (edge from to) h.0, map_each P Q f first to rest h.1)

pub map_some : (P Q : Edge → Type 0) → ((e : Edge) → P e → Q e) → (first from : GridPoint) (rest : List GridPoint) → SomeEdge P first from rest → SomeEdge Q first from rest
map_some P Q f first from [] h = f (edge from first) h
map_some P Q f first from (to ∷ rest) (inl here) = inl (f (edge from to) here)
map_some P Q f first from (to ∷ rest) (inr later) = inr (map_some P Q f first to rest later)

-- an edge that passes a test, and its two ends
pub edge_and_ends : (C : GridPoint → Type 0) (t : Edge → Bool) (first : GridPoint) → C first → (from : GridPoint) (rest : List GridPoint) → C from → All C rest → list_any t (edges_back first from rest) ≡ true
    → (e : Edge) × (t e ≡ true) × C e.from × C e.to
edge_and_ends C t first c from [] a all h = elim (or_cases (t (edge from first)) false h) [ inl here ↦ (edge from first, here, a, c) | inr none ↦ absurd (false≢true none) ]
edge_and_ends C t first c from (to ∷ rest) a all h = elim (or_cases (t (edge from to)) (list_any t (edges_back first to rest)) h) [
  | inl here ↦ (edge from to, here, a, All-head C to rest all)
  | inr later ↦ edge_and_ends C t first c to rest (All-head C to rest all) (All-tail C to rest all) later
]

turned_back_z : (ax ay bx by x y : ℤ) (k : ℕ)
    → ((bx -ℤ ax) *ℤ (y -ℤ pos k *ℤ ay) -ℤ (by -ℤ ay) *ℤ (x -ℤ pos k *ℤ ax)) +ℤ ((ax -ℤ bx) *ℤ (y -ℤ pos k *ℤ by) -ℤ (ay -ℤ by) *ℤ (x -ℤ pos k *ℤ bx)) ≡ pos 0
turned_back_z ax ay bx by x y k =
    same
    (is_add
    (is_sub (is_mul (is_sub (is_z bx) (is_z ax)) (is_sub (is_z y) (is_mul (is_n k) (is_z ay)))) (is_mul (is_sub (is_z by) (is_z ay)) (is_sub (is_z x) (is_mul (is_n k) (is_z ax)))))
    (is_sub (is_mul (is_sub (is_z ax) (is_z bx)) (is_sub (is_z y) (is_mul (is_n k) (is_z by)))) (is_mul (is_sub (is_z ay) (is_z by)) (is_sub (is_z x) (is_mul (is_n k) (is_z bx))))))
    (is_n 0) (omega arith)

-- an edge and its way back have opposite areas
pub turned_back : (a b : GridPoint) (k : ℕ) (x y : ℤ) → turn (edge a b) k x y +ℤ turn (edge b a) k x y ≡ pos 0
turned_back a b k x y = turned_back_z a.x a.y b.x b.y x y k

no_area_z : (ax ay bx by : ℤ) → (bx -ℤ ax) *ℤ (by -ℤ ay) -ℤ (by -ℤ ay) *ℤ (bx -ℤ ax) ≡ pos 0
no_area_z ax ay bx by =
    same (is_sub (is_mul (is_sub (is_z bx) (is_z ax)) (is_sub (is_z by) (is_z ay))) (is_mul (is_sub (is_z by) (is_z ay)) (is_sub (is_z bx) (is_z ax)))) (is_n 0) (omega arith)

pub no_area : (a b : GridPoint) → cross (edge a b) b ≡ pos 0
no_area a b = no_area_z a.x a.y b.x b.y

-- the three areas of a point in a triangle make up that of the triangle
three_areas_z : (fx fy ax ay bx by x y : ℤ) (k : ℕ)
    → (((bx -ℤ ax) *ℤ (y -ℤ pos k *ℤ ay) -ℤ (by -ℤ ay) *ℤ (x -ℤ pos k *ℤ ax)) +ℤ ((fx -ℤ bx) *ℤ (y -ℤ pos k *ℤ by) -ℤ (fy -ℤ by) *ℤ (x -ℤ pos k *ℤ bx))) +ℤ ((ax -ℤ fx) *ℤ (y -ℤ pos k *ℤ fy) -ℤ (ay -ℤ fy) *ℤ (x -ℤ pos k *ℤ fx))
    ≡ pos k *ℤ ((bx -ℤ ax) *ℤ (fy -ℤ ay) -ℤ (by -ℤ ay) *ℤ (fx -ℤ ax))
three_areas_z fx fy ax ay bx by x y k =
    same
    (is_add
    (is_add
    (is_sub (is_mul (is_sub (is_z bx) (is_z ax)) (is_sub (is_z y) (is_mul (is_n k) (is_z ay)))) (is_mul (is_sub (is_z by) (is_z ay)) (is_sub (is_z x) (is_mul (is_n k) (is_z ax)))))
    (is_sub (is_mul (is_sub (is_z fx) (is_z bx)) (is_sub (is_z y) (is_mul (is_n k) (is_z by)))) (is_mul (is_sub (is_z fy) (is_z by)) (is_sub (is_z x) (is_mul (is_n k) (is_z bx))))))
    (is_sub (is_mul (is_sub (is_z ax) (is_z fx)) (is_sub (is_z y) (is_mul (is_n k) (is_z fy)))) (is_mul (is_sub (is_z ay) (is_z fy)) (is_sub (is_z x) (is_mul (is_n k) (is_z fx))))))
    (is_mul (is_n k) (is_sub (is_mul (is_sub (is_z bx) (is_z ax)) (is_sub (is_z fy) (is_z ay))) (is_mul (is_sub (is_z by) (is_z ay)) (is_sub (is_z fx) (is_z ax)))))
    (omega arith)

three_areas : (f a b : GridPoint) (k : ℕ) (x y : ℤ) → (turn (edge a b) k x y +ℤ turn (edge b f) k x y) +ℤ turn (edge f a) k x y ≡ pos k *ℤ cross (edge a b) f
three_areas f a b k x y = three_areas_z f.x f.y a.x a.y b.x b.y x y k

-- Cramer's rule: of two steps and a third one, the areas weigh the first two into the third
cramer : (ax ay bx by qx qy : ℤ) → (ax *ℤ by -ℤ ay *ℤ bx) *ℤ qx ≡ (qx *ℤ by -ℤ qy *ℤ bx) *ℤ ax +ℤ (ax *ℤ qy -ℤ ay *ℤ qx) *ℤ bx
cramer ax ay bx by qx qy =
    same (is_mul (is_sub (is_mul (is_z ax) (is_z by)) (is_mul (is_z ay) (is_z bx))) (is_z qx))
    (is_add (is_mul (is_sub (is_mul (is_z qx) (is_z by)) (is_mul (is_z qy) (is_z bx))) (is_z ax)) (is_mul (is_sub (is_mul (is_z ax) (is_z qy)) (is_mul (is_z ay) (is_z qx))) (is_z bx))) (omega arith)

-- the same for the y
cramer_y : (ax ay bx by qx qy : ℤ) → (ax *ℤ by -ℤ ay *ℤ bx) *ℤ qy ≡ (qx *ℤ by -ℤ qy *ℤ bx) *ℤ ay +ℤ (ax *ℤ qy -ℤ ay *ℤ qx) *ℤ by
cramer_y ax ay bx by qx qy =
    same (is_mul (is_sub (is_mul (is_z ax) (is_z by)) (is_mul (is_z ay) (is_z bx))) (is_z qy))
    (is_add (is_mul (is_sub (is_mul (is_z qx) (is_z by)) (is_mul (is_z qy) (is_z bx))) (is_z ay)) (is_mul (is_sub (is_mul (is_z ax) (is_z qy)) (is_mul (is_z ay) (is_z qx))) (is_z by))) (omega arith)

-- the areas in steps from f
step_area : (fx fy ax ay bx by : ℤ) → (bx -ℤ ax) *ℤ (fy -ℤ ay) -ℤ (by -ℤ ay) *ℤ (fx -ℤ ax) ≡ (ax -ℤ fx) *ℤ (by -ℤ fy) -ℤ (ay -ℤ fy) *ℤ (bx -ℤ fx)
step_area fx fy ax ay bx by =
    same (is_sub (is_mul (is_sub (is_z bx) (is_z ax)) (is_sub (is_z fy) (is_z ay))) (is_mul (is_sub (is_z by) (is_z ay)) (is_sub (is_z fx) (is_z ax))))
    (is_sub (is_mul (is_sub (is_z ax) (is_z fx)) (is_sub (is_z by) (is_z fy))) (is_mul (is_sub (is_z ay) (is_z fy)) (is_sub (is_z bx) (is_z fx)))) (omega arith)

step_back : (fx fy bx by x y : ℤ) (k : ℕ) → (fx -ℤ bx) *ℤ (y -ℤ pos k *ℤ by) -ℤ (fy -ℤ by) *ℤ (x -ℤ pos k *ℤ bx) ≡ (x -ℤ pos k *ℤ fx) *ℤ (by -ℤ fy) -ℤ (y -ℤ pos k *ℤ fy) *ℤ (bx -ℤ fx)
step_back fx fy bx by x y k =
    same (is_sub (is_mul (is_sub (is_z fx) (is_z bx)) (is_sub (is_z y) (is_mul (is_n k) (is_z by)))) (is_mul (is_sub (is_z fy) (is_z by)) (is_sub (is_z x) (is_mul (is_n k) (is_z bx)))))
    (is_sub (is_mul (is_sub (is_z x) (is_mul (is_n k) (is_z fx))) (is_sub (is_z by) (is_z fy))) (is_mul (is_sub (is_z y) (is_mul (is_n k) (is_z fy))) (is_sub (is_z bx) (is_z fx)))) (omega arith)

-- one coordinate of the mean, from that of the steps
weigh : (k : ℕ) (u v w t f a b x : ℤ) → (u +ℤ v) +ℤ w ≡ pos k *ℤ t → t *ℤ (x -ℤ pos k *ℤ f) ≡ v *ℤ (a -ℤ f) +ℤ w *ℤ (b -ℤ f) → (u *ℤ f +ℤ v *ℤ a) +ℤ w *ℤ b ≡ t *ℤ x
weigh k u v w t f a b x total steps =
    let apart : (u *ℤ f +ℤ v *ℤ a) +ℤ w *ℤ b ≡ ((u +ℤ v) +ℤ w) *ℤ f +ℤ (v *ℤ (a -ℤ f) +ℤ w *ℤ (b -ℤ f)) =
    same (is_add (is_add (is_mul (is_z u) (is_z f)) (is_mul (is_z v) (is_z a))) (is_mul (is_z w) (is_z b)))
    (is_add (is_mul (is_add (is_add (is_z u) (is_z v)) (is_z w)) (is_z f)) (is_add (is_mul (is_z v) (is_sub (is_z a) (is_z f))) (is_mul (is_z w) (is_sub (is_z b) (is_z f))))) (omega arith) in
    let back : (pos k *ℤ t) *ℤ f +ℤ t *ℤ (x -ℤ pos k *ℤ f) ≡ t *ℤ x =
    same (is_add (is_mul (is_mul (is_n k) (is_z t)) (is_z f)) (is_mul (is_z t) (is_sub (is_z x) (is_mul (is_n k) (is_z f))))) (is_mul (is_z t) (is_z x)) (omega arith) in
    apart ∙ (λ i. total i *ℤ f +ℤ sym steps i) ∙ back

weighed_x : (f a b : GridPoint) (k : ℕ) (x y : ℤ) → (turn (edge a b) k x y *ℤ f.x +ℤ turn (edge b f) k x y *ℤ a.x) +ℤ turn (edge f a) k x y *ℤ b.x ≡ cross (edge a b) f *ℤ x
weighed_x f a b k x y =
    weigh k (turn (edge a b) k x y) (turn (edge b f) k x y) (turn (edge f a) k x y) (cross (edge a b) f) f.x a.x b.x x (three_areas f a b k x y)
    (ap (λ z. z *ℤ (x -ℤ pos k *ℤ f.x)) (step_area f.x f.y a.x a.y b.x b.y) ∙ cramer (a.x -ℤ f.x) (a.y -ℤ f.y) (b.x -ℤ f.x) (b.y -ℤ f.y) (x -ℤ pos k *ℤ f.x) (y -ℤ pos k *ℤ f.y)
    ∙ ap (λ z. z *ℤ (a.x -ℤ f.x) +ℤ turn (edge f a) k x y *ℤ (b.x -ℤ f.x)) (sym (step_back f.x f.y b.x b.y x y k)))

weighed_y : (f a b : GridPoint) (k : ℕ) (x y : ℤ) → (turn (edge a b) k x y *ℤ f.y +ℤ turn (edge b f) k x y *ℤ a.y) +ℤ turn (edge f a) k x y *ℤ b.y ≡ cross (edge a b) f *ℤ y
weighed_y f a b k x y =
    weigh k (turn (edge a b) k x y) (turn (edge b f) k x y) (turn (edge f a) k x y) (cross (edge a b) f) f.y a.y b.y y (three_areas f a b k x y)
    (ap (λ z. z *ℤ (y -ℤ pos k *ℤ f.y)) (step_area f.x f.y a.x a.y b.x b.y) ∙ cramer_y (a.x -ℤ f.x) (a.y -ℤ f.y) (b.x -ℤ f.x) (b.y -ℤ f.y) (x -ℤ pos k *ℤ f.x) (y -ℤ pos k *ℤ f.y)
    ∙ ap (λ z. z *ℤ (a.y -ℤ f.y) +ℤ turn (edge f a) k x y *ℤ (b.y -ℤ f.y)) (sym (step_back f.x f.y b.x b.y x y k)))

regrouped : (u v w : ℤ) → u +ℤ (v +ℤ (w +ℤ pos 0)) ≡ (u +ℤ v) +ℤ w
regrouped u v w = omega (arith, ints)

-- one coordinate of a mean of three points
mean_of_three : (k l m n : ℕ) (u v w t f a b x : ℤ) → pos l ≡ u → pos m ≡ v → pos n ≡ w → (u +ℤ v) +ℤ w ≡ pos k *ℤ t → (u *ℤ f +ℤ v *ℤ a) +ℤ w *ℤ b ≡ t *ℤ x
    → pos k *ℤ (pos l *ℤ f +ℤ (pos m *ℤ a +ℤ (pos n *ℤ b +ℤ pos 0))) ≡ pos (l + (m + (n + 0))) *ℤ x
mean_of_three k l m n u v w t f a b x d e g total weighed =
    let sum : pos l *ℤ f +ℤ (pos m *ℤ a +ℤ (pos n *ℤ b +ℤ pos 0)) ≡ t *ℤ x =
    regrouped (pos l *ℤ f) (pos m *ℤ a) (pos n *ℤ b) ∙ (λ i. (d i *ℤ f +ℤ e i *ℤ a) +ℤ g i *ℤ b) ∙ weighed in
    let moved : pos k *ℤ (t *ℤ x) ≡ (pos k *ℤ t) *ℤ x =
    same (is_mul (is_n k) (is_mul (is_z t) (is_z x))) (is_mul (is_mul (is_n k) (is_z t)) (is_z x)) (omega arith) in
    let whole : (u +ℤ v) +ℤ w ≡ pos (l + (m + (n + 0))) = (λ i. (sym d i +ℤ sym e i) +ℤ sym g i) ∙ ap pos (omega arith) in
    ap (λ z. pos k *ℤ z) sum ∙ moved ∙ ap (λ z. z *ℤ x) (sym total ∙ whole)

some_weight : (k l m n : ℕ) (u v w t : ℤ) → 1 ≤ k → pos 0 <ℤ t → pos l ≡ u → pos m ≡ v → pos n ≡ w → (u +ℤ v) +ℤ w ≡ pos k *ℤ t → 1 ≤ l + (m + (n + 0))
some_weight k l m n u v w t one more d e g total =
    let h : (pos k *ℤ pos 1) ≤ℤ (pos k *ℤ t) = times-le k (pos 1) t (omega (arith, ints)) in
    omega (arith, ints, h)

-- a point of a triangle that has an area is a mean of its corners
in_triangle : (C : GridPoint → Type 0) (f a b : GridPoint) (k : ℕ) (x y : ℤ) → 1 ≤ k → C f → C a → C b → pos 0 ≤ℤ turn (edge a b) k x y → pos 0 ≤ℤ turn (edge b f) k x y → pos 0 ≤ℤ turn (edge f a) k x y → pos 0 <ℤ cross (edge a b) f → IsMean C k x y
in_triangle C f a b k x y one cf ca cb u v w area =
    let d = of_natural (turn (edge a b) k x y) u in
    let e = of_natural (turn (edge b f) k x y) v in
    let g = of_natural (turn (edge f a) k x y) w in
    let l = unsigned_abs (turn (edge a b) k x y) in
    let m = unsigned_abs (turn (edge b f) k x y) in
    let n = unsigned_abs (turn (edge f a) k x y) in
    record {
      parts = record { weight = l; point = f } ∷ record { weight = m; point = a } ∷ record { weight = n; point = b } ∷ [];
      each = All-cons (λ w. C w.point) (record { weight = l; point = f }) (record { weight = m; point = a } ∷ record { weight = n; point = b } ∷ []) cf (All-cons (λ w. C w.point) (record { weight = m; point = a }) (record { weight = n; point = b } ∷ []) ca (All-cons (λ w. C w.point) (record { weight = n; point = b }) [] cb (All-nil (λ w. C w.point))));
      some = some_weight k l m n (turn (edge a b) k x y) (turn (edge b f) k x y) (turn (edge f a) k x y) (cross (edge a b) f) one area d e g (three_areas f a b k x y);
      x_is = mean_of_three k l m n (turn (edge a b) k x y) (turn (edge b f) k x y) (turn (edge f a) k x y) (cross (edge a b) f) f.x a.x b.x x d e g (three_areas f a b k x y) (weighed_x f a b k x y);
      y_is = mean_of_three k l m n (turn (edge a b) k x y) (turn (edge b f) k x y) (turn (edge f a) k x y) (cross (edge a b) f) f.y a.y b.y y d e g (three_areas f a b k x y) (weighed_y f a b k x y);
    }

above_0 : (s t : ℤ) → s +ℤ t ≡ pos 0 → t <ℤ pos 0 → pos 0 <ℤ s
above_0 s t e h = omega (arith, ints)

at_least_0 : (s : ℤ) → pos 0 <ℤ s → pos 0 ≤ℤ s
at_least_0 s h = omega (arith, ints)

-- three areas of which none is below 0 are 0 where the triangle has none
all_0 : (k : ℕ) (u v w t : ℤ) → pos 0 ≤ℤ u → pos 0 ≤ℤ v → pos 0 ≤ℤ w → t ≤ℤ pos 0 → (u +ℤ v) +ℤ w ≡ pos k *ℤ t → (v ≡ pos 0) × (w ≡ pos 0)
all_0 k u v w t a b c none total =
    let h : (pos k *ℤ t) ≤ℤ (pos k *ℤ pos 0) = times-le k t (pos 0) none in
    (omega (arith, ints, h), omega (arith, ints, h))

opposite_0 : (s t : ℤ) → s +ℤ t ≡ pos 0 → t ≡ pos 0 → pos 0 ≤ℤ s
opposite_0 s t e h = omega (arith, ints)

never_above : (s : ℤ) → s ≡ pos 0 → pos 0 <ℤ s → ⊥
never_above s e h = omega (arith, ints)

never_both : (t : ℤ) → t ≤ℤ pos 0 → pos 0 <ℤ t → ⊥
never_both t h k = omega (arith, ints)

never_opposite : (s t : ℤ) → s +ℤ t ≡ pos 0 → pos 0 ≤ℤ t → pos 0 <ℤ s → ⊥
never_opposite s t e h k = omega (arith, ints)

-- a point that lies to the right of no edge of an area is a mean of corners: it lies in one of the triangles from the first corner
pub fan : (C : GridPoint → Type 0) (first : GridPoint) (k : ℕ) (x y : ℤ) → 1 ≤ k → C first → (from : GridPoint) (rest : List GridPoint) → C from → All C rest
    → pos 0 ≤ℤ turn (edge first from) k x y → EachEdge (λ e. pos 0 ≤ℤ turn e k x y) first from rest
    → (pos 0 <ℤ turn (edge first from) k x y) ⊎ SomeEdge (λ e. pos 0 <ℤ cross e first) first from rest → IsMean C k x y
fan C first k x y one cf from [] ca cs start each (inl more) = absurd (never_opposite (turn (edge first from) k x y) (turn (edge from first) k x y) (turned_back first from k x y) each more)
fan C first k x y one cf from [] ca cs start each (inr some) = absurd (never_above (cross (edge from first) first) (no_area from first) some)
fan C first k x y one cf from (to ∷ rest) ca cs start each some =
    by_lt_z (turn (edge to first) k x y) (pos 0)
    (λ right.
    let more = above_0 (turn (edge first to) k x y) (turn (edge to first) k x y) (turned_back first to k x y) right in
    fan C first k x y one cf to rest (All-head C to rest cs) (All-tail C to rest cs) (at_least_0 (turn (edge first to) k x y) more) each.1 (inl more))
    (λ left. by_lt_z (pos 0) (cross (edge from to) first)
    (λ area. in_triangle C first from to k x y one cf ca (All-head C to rest cs) each.0 left start area)
    (λ none.
    let flat = all_0 k (turn (edge from to) k x y) (turn (edge to first) k x y) (turn (edge first from) k x y) (cross (edge from to) first) each.0 left start none (three_areas first from to k x y) in
    fan C first k x y one cf to rest (All-head C to rest cs) (All-tail C to rest cs) (opposite_0 (turn (edge first to) k x y) (turn (edge to first) k x y) (turned_back first to k x y) flat.0) each.1
    (elim some [
      | inl more ↦ absurd (never_above (turn (edge first from) k x y) flat.1 more)
      | inr edge_some ↦ elim edge_some [
        | inl area ↦ absurd (never_both (cross (edge from to) first) none area)
        | inr later ↦ inr later
      ]
    ])))
