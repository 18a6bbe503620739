-- Pads in order of kind and size.
use Rattle.picture.proofs.Common.{◌≡◌, ◌≤◌, ◌<◌, ◌+◌, ◌==◌, ◌&&◌, ◌∙◌, ℕ, List, Bool, true, false, length, get_or, refl, sym, subst, ap, ap₂, arith, are_alike, AreSortedBySize, IsOnePathPerSize, kind_of, kind_order}
use Rattle.std.specs.Cmp.{IsTotalOrder}
use Rattle.std.specs.Ordering.{is_lt, nat_cmp, ordering_reverse, ordering_then}
use Rattle.std.specs.declared.cmp.Ordering.{Ordering}
use Rattle.std.specs.declared.cmp.Ordering.TheVariants.{Less, Equal, Greater}
use Rattle.std.proofs.lemmas.Bool.Decides.{nat_tests}
use Rattle.std.proofs.lemmas.Cmp.{nat_cmp_total, on_total, ranked, then_total}
use Rattle.std.proofs.lemmas.List.Sorted.{ranks_by, sorted_far}
use Rattle.pad_shapes.specs.declared.pad.Pad.{Pad}
use Rattle.pad_shapes.specs.declared.pad.Pad.TheVariants as pads

abbrev Kind : Type 0
Kind = ℕ × ℕ × ℕ

abbrev AreSame : Kind → Kind → Type 0
AreSame a b = (a.0 ≡ b.0) × (a.1 ≡ b.1) × (a.2 ≡ b.2)

-- ---- the order of kinds

kinds_total : IsTotalOrder kind_order
kinds_total =
    then_total (then_total (on_total (λ (k : Kind). k.0) nat_cmp_total) (on_total (λ (k : Kind). k.1) nat_cmp_total)) (on_total (λ (k : Kind). k.2) nat_cmp_total)

neither_less : (o p : Ordering) → p ≡ ordering_reverse o → is_lt o ≡ false → is_lt p ≡ false → o ≡ Equal
neither_less Less p back left right = cc
neither_less Equal p back left right = refl
neither_less Greater p back left right = let h : is_lt Less ≡ false = subst (λ (q : Ordering). is_lt q ≡ false) back right in cc

both_equal : (p q : Ordering) → ordering_then p q ≡ Equal → (p ≡ Equal) × (q ≡ Equal)
both_equal Less q e = cc
both_equal Equal q e = (refl, e)
both_equal Greater q e = cc

same_number : (x y : ℕ) → nat_cmp x y ≡ Equal → x ≡ y
same_number x y e = ranked x y Equal (sym e)

-- two kinds and sizes are equal where neither comes before the other
same_kind : (a b : Kind) → is_lt (kind_order a b) ≡ false → is_lt (kind_order b a) ≡ false → AreSame a b
same_kind a b left right =
    let tied = both_equal (ordering_then (nat_cmp a.0 b.0) (nat_cmp a.1 b.1)) (nat_cmp a.2 b.2) (neither_less (kind_order a b) (kind_order b a) (kinds_total.antisymm b a) left right) in
    let first = both_equal (nat_cmp a.0 b.0) (nat_cmp a.1 b.1) tied.0 in
    (same_number a.0 b.0 first.0, same_number a.1 b.1 first.1, same_number a.2 b.2 tied.1)

-- ---- pads of one kind and size

both_true : (s t : Bool) → (s && t) ≡ true → (s ≡ true) × (t ≡ true)
both_true true true e = (refl, refl)
both_true true false e = cc
both_true false t e = cc

equal_numbers : (x y : ℕ) → (x == y) ≡ true → x ≡ y
equal_numbers x y e = grind (arith, nat_tests, e)

tested_equal : (x y : ℕ) → x ≡ y → (x == y) ≡ true
tested_equal x y e = grind (arith, nat_tests, e)

of_both : (x y u v : ℕ) → x ≡ y → u ≡ v → ((x == y) && (u == v)) ≡ true
of_both x y u v e f = rw (tested_equal x y e, tested_equal u v f) refl

kind_from_alike : (p q : Pad) → are_alike p q ≡ true → kind_of p ≡ kind_of q
kind_from_alike (pads.Disc a) (pads.Disc b) h =
    let kind : ℕ → Kind = λ r. (0, r, r) in
    ap kind (equal_numbers a.radius b.radius h)
kind_from_alike (pads.Disc a) (pads.Rect b) h = cc
kind_from_alike (pads.Disc a) (pads.Obround b) h = cc
kind_from_alike (pads.Rect a) (pads.Disc b) h = cc
kind_from_alike (pads.Rect a) (pads.Rect b) h =
    let kind : ℕ → ℕ → Kind = λ x y. (1, x, y) in
    let sides = both_true (a.half_x == b.half_x) (a.half_y == b.half_y) h in
    ap₂ kind (equal_numbers a.half_x b.half_x sides.0) (equal_numbers a.half_y b.half_y sides.1)
kind_from_alike (pads.Rect a) (pads.Obround b) h = cc
kind_from_alike (pads.Obround a) (pads.Disc b) h = cc
kind_from_alike (pads.Obround a) (pads.Rect b) h = cc
kind_from_alike (pads.Obround a) (pads.Obround b) h =
    let kind : ℕ → ℕ → Kind = λ x y. (2, x, y) in
    let sides = both_true (a.half_x == b.half_x) (a.half_y == b.half_y) h in
    ap₂ kind (equal_numbers a.half_x b.half_x sides.0) (equal_numbers a.half_y b.half_y sides.1)

alike_from_kind : (p q : Pad) → AreSame (kind_of p) (kind_of q) → are_alike p q ≡ true
alike_from_kind (pads.Disc a) (pads.Disc b) h = tested_equal a.radius b.radius h.1
alike_from_kind (pads.Disc a) (pads.Rect b) h = absurd (let e : 0 ≡ 1 = h.0 in omega arith)
alike_from_kind (pads.Disc a) (pads.Obround b) h = absurd (let e : 0 ≡ 2 = h.0 in omega arith)
alike_from_kind (pads.Rect a) (pads.Disc b) h = absurd (let e : 1 ≡ 0 = h.0 in omega arith)
alike_from_kind (pads.Rect a) (pads.Rect b) h = of_both a.half_x b.half_x a.half_y b.half_y h.1 h.2
alike_from_kind (pads.Rect a) (pads.Obround b) h = absurd (let e : 1 ≡ 2 = h.0 in omega arith)
alike_from_kind (pads.Obround a) (pads.Disc b) h = absurd (let e : 2 ≡ 0 = h.0 in omega arith)
alike_from_kind (pads.Obround a) (pads.Rect b) h = absurd (let e : 2 ≡ 1 = h.0 in omega arith)
alike_from_kind (pads.Obround a) (pads.Obround b) h = of_both a.half_x b.half_x a.half_y b.half_y h.1 h.2

-- ---- paths

-- a pad between two pads alike is like them
between : (all : List Pad) → AreSortedBySize all → (i m k : ℕ) (d : Pad) → i ≤ m → m ≤ k → k < length all
    → are_alike (get_or all i d) (get_or all k d) ≡ true → AreSame (kind_of (get_or all i d)) (kind_of (get_or all m d))
between all up i m k d im mk kn alike =
    let far = sorted_far (λ x y. is_lt (kind_order (kind_of x) (kind_of y))) (ranks_by kinds_total kind_of) all up in
    let ends : kind_of (get_or all i d) ≡ kind_of (get_or all k d) = kind_from_alike (get_or all i d) (get_or all k d) alike in
    same_kind (kind_of (get_or all i d)) (kind_of (get_or all m d))
    (subst (λ (kind : Kind). is_lt (kind_order kind (kind_of (get_or all m d))) ≡ false) (sym ends) (far m k d mk kn))
    (far i m d im (omega arith))

pub one_path_per_size_proof : (all : List Pad) → AreSortedBySize all → IsOnePathPerSize all
one_path_per_size_proof all up i j k d ij jk kn alike =
    let here = between all up i j k d ij (omega arith) kn alike in
    let next = between all up i (j + 1) k d (omega arith) (omega arith) kn alike in
    alike_from_kind (get_or all j d) (get_or all (j + 1) d) (sym here.0 ∙ next.0, sym here.1 ∙ next.1, sym here.2 ∙ next.2)
