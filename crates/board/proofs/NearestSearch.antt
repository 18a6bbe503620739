-- Holes that ask for nearer pairs.
use Rattle.board.proofs.Common.{◌≡◌, ℕ, ℤ, pos, ◌+◌, ◌<◌, ◌≤◌, ◌+ℤ◌, ◌-ℤ◌, ◌<ℤ◌, ◌≤ℤ◌, ◌⊎◌, inl, inr, min, max, Bool, true, false, List, length, get_or, take, refl, sym, subst, ◌∙◌, arith, unsigned_abs, int_lt, Contains, int_min, int_max, ints, cases_lt, get_or_default, get_or-take, length-take-le, square, GridHole, IsInZone, Zone, positive_part, range_distance, square_of_cores, default_hole, hole_at, entry_at, Drilled, IsGap, IsPair, IsNoFurther, IsNearest, IsPairInRange, IsNearerPair, IsGapOf, IsNearestAmong, IsNearestForHole, IsNearestForAll, IsNearestForLater, Nearest}
use Rattle.ring_rules.specs.Near.{size_of, IsWithinLimits, AreLimits, AreNearer}
use Rattle.ring_rules.specs.declared.limits.Limits.{Limits}
use Rattle.ring_rules.proofs.NearLemmas.{below_square}
use Rattle.board.proofs.NearLemmas.{no_further_trans, no_further_self}

order_at : (a b : ℤ) (t : Bool) → int_lt a b ≡ t → (a <ℤ b) ⊎ (b ≤ℤ a)
order_at a b true e = inl (omega (arith, ints))
order_at a b false e = inr (omega (arith, ints))

-- one number is less than another, or no less
pub order : (a b : ℤ) → (a <ℤ b) ⊎ (b ≤ℤ a)
order a b = order_at a b (int_lt a b) refl

max_flips : (m n : ℕ) → max m n ≡ max n m
max_flips m n = omega arith

range_flips : (a b c d : ℤ) → range_distance a b c d ≡ range_distance c d a b
range_flips a b c d = max_flips (positive_part (int_min c d -ℤ int_max a b)) (positive_part (int_min a b -ℤ int_max c d))

cores_flip : (a b : GridHole) → square_of_cores a b ≡ square_of_cores b a
cores_flip a b = λ i. square (range_flips a.from.x a.to.x b.from.x b.to.x i) + square (range_flips a.from.y a.to.y b.from.y b.to.y i)

-- the gap of two holes is that of the second and the first
pub gap_flips : (a b : GridHole) (g : ℤ) → IsGap a b g → IsGap b a g
gap_flips a b g gap n =
    let both : b.radius + a.radius ≡ a.radius + b.radius = omega arith in (
      λ far. subst (λ (r : ℕ). pos n ≤ℤ (g +ℤ pos r)) (sym both) ((gap n).0 (subst (λ (s : ℕ). square n ≤ s) (cores_flip b a) far)),
      λ upto. subst (λ (s : ℕ). square n ≤ s) (cores_flip a b) ((gap n).1 (subst (λ (r : ℕ). pos n ≤ℤ (g +ℤ pos r)) both upto)),
    )

-- the cores of two holes with less than a gap are nearer than both radii and that gap
pub near_of_gap : (a b : GridHole) (g below : ℤ) → IsGap a b g → g <ℤ below → AreNearer below a b
near_of_gap a b g below gap less =
    let none : pos 0 ≤ℤ (g +ℤ pos (a.radius + b.radius)) = (gap 0).0 (omega arith) in
    let is : pos (unsigned_abs (below +ℤ pos (a.radius + b.radius))) ≡ below +ℤ pos (a.radius + b.radius) = omega (arith, ints, none, less) in
    let short : square_of_cores a b < square (unsigned_abs (below +ℤ pos (a.radius + b.radius))) = elim (cases_lt (square_of_cores a b) (square (unsigned_abs (below +ℤ pos (a.radius + b.radius))))) [
      | inl under ↦ under
      | inr over ↦ absurd (let most : pos (unsigned_abs (below +ℤ pos (a.radius + b.radius))) ≤ℤ (g +ℤ pos (a.radius + b.radius)) = (gap (unsigned_abs (below +ℤ pos (a.radius + b.radius)))).0 over in omega (arith, ints, is, most, less))
    ] in
    let x = below_square (range_distance a.from.x a.to.x b.from.x b.to.x) (range_distance a.from.y a.to.y b.from.y b.to.y) (unsigned_abs (below +ℤ pos (a.radius + b.radius))) short in
    let y = below_square (range_distance a.from.y a.to.y b.from.y b.to.y) (range_distance a.from.x a.to.x b.from.x b.to.x) (unsigned_abs (below +ℤ pos (a.radius + b.radius))) (omega (arith, short)) in
    record { x = omega (arith, ints, x, is); y = omega (arith, ints, y, is) }

-- the gap of the holes at two places
pub gap_at : (holes : List Drilled) (a b : ℕ) (g : ℤ) → IsGapOf holes a b g → IsGap (hole_at holes b) (hole_at holes a) g
gap_at holes a b g of = elim (cases_lt a b) [
  | inl less ↦
      let low : min a b ≡ a = omega (arith, less) in
      let high : max a b ≡ b = omega (arith, less) in
      gap_flips (hole_at holes a) (hole_at holes b) g (subst (λ (n : ℕ). IsGap (hole_at holes a) (hole_at holes n) g) high (subst (λ (n : ℕ). IsGap (hole_at holes n) (hole_at holes (max a b)) g) low of.gap))
  | inr more ↦
      let low : min a b ≡ b = omega (arith, more) in
      let high : max a b ≡ a = omega (arith, more) in
      subst (λ (n : ℕ). IsGap (hole_at holes b) (hole_at holes n) g) high (subst (λ (n : ℕ). IsGap (hole_at holes n) (hole_at holes (max a b)) g) low of.gap)
]

-- a pair with a lesser gap
pub strictly : (pair : Nearest) (i j : ℕ) (g : ℤ) → pair.gap <ℤ g → IsNoFurther pair i j g
strictly pair i j g less = record { by_gap = omega (arith, ints); by_first = λ e. absurd (omega (arith, ints, less, e)); by_second = λ e f. absurd (omega (arith, ints, less, e)) }

-- nothing was tried yet
pub none_tried : (holes : List Drilled) (place : ℕ) (near : List ℕ) (best : Nearest) → IsPairInRange holes best → IsNearestAmong holes place near 0 best best
none_tried holes place near best held = record { held = held; back = no_further_self best; seen = λ i g less. absurd (omega (arith, less)) }

-- one place more
pub one_tried : (holes : List Drilled) (place : ℕ) (near : List ℕ) (count : ℕ) (before mid after : Nearest) → IsNearestAmong holes place near count before mid
    → IsNearerPair holes (min place (get_or near count 0)) (max place (get_or near count 0)) mid after → IsNearestAmong holes place near (count + 1) before after
one_tried holes place near count before mid after so step = record {
  held = step.held;
  back = no_further_trans after mid before.first before.second before.gap step.back so.back;
  seen = λ i g less of. elim (cases_lt i count) [
    | inl early ↦ no_further_trans after mid (min place (get_or near i 0)) (max place (get_or near i 0)) g step.back (so.seen i g early of)
    | inr last ↦
        let same : count ≡ i = omega (arith, less, last) in
        subst (λ (n : ℕ). IsNoFurther after (min place (get_or near n 0)) (max place (get_or near n 0)) g) same
        (let of_last = subst (λ (n : ℕ). IsGapOf holes place (get_or near n 0) g) (sym same) of in step.new g of_last.listed of_last.gap)
  ];
}

-- the holes that an index finds in the zone of a hole are all that may be nearer
module _ (holes : List Drilled) (count place : ℕ) (below : ℤ) (zone : Zone) (limits : Limits) (near : List ℕ) (before after : Nearest) where
  pub nearest_of_prefix : count ≤ length holes → AreLimits (take count holes) limits
      → ((o : GridHole) → IsWithinLimits limits o → size_of o ≤ size_of (hole_at holes place) → AreNearer below o (hole_at holes place) → IsInZone zone o.from)
      → ((k : ℕ) → k < length (take count holes) → IsInZone zone (entry_at (take count holes) k) → Contains near k)
      → IsNearestAmong holes place near (length near) before after → IsNearestForHole holes count place below before after
  nearest_of_prefix fits limited zoned found tried = record {
    held = tried.held;
    back = tried.back;
    seen = λ o g less size of under.
        let inside : o < length (take count holes) = (let e = length-take-le count holes fits in omega (arith, less, e)) in
        let same : get_or (take count holes) o default_hole ≡ get_or holes o default_hole = get_or-take count holes o default_hole less in
        let z : IsInZone zone (hole_at holes o).from = zoned (hole_at holes o) (subst (λ (d : Drilled). IsWithinLimits limits d.hole) same (limited o inside)) size
        (near_of_gap (hole_at holes o) (hole_at holes place) g below (gap_at holes place o g of) under) in
        let among = found o inside (subst (λ (d : Drilled). IsInZone zone d.hole.from) (sym same) z) in
        let is : get_or near among.0 0 ≡ o = get_or_default near among.0 0 o among.1 ∙ among.2 in
        subst (λ (n : ℕ). IsNoFurther after (min place n) (max place n) g) is (tried.seen among.0 g among.1 (subst (λ (n : ℕ). IsGapOf holes place n g) (sym is) of));
  }

-- a pair stays no further than one that a hole need not ask about
pub still : (before after : Nearest) (p i j : ℕ) (g : ℤ) → IsNoFurther after before.first before.second before.gap → before.gap ≤ℤ g → before.first < p → IsNoFurther after i j g ⊎ ((after.gap ≤ℤ g) × (after.first < p))
still before after p i j g back low less = elim (order after.gap g) [
  | inl nearer ↦ inl (strictly after i j g nearer)
  | inr no_nearer ↦
      let down : after.gap ≤ℤ before.gap = back.by_gap in
      let same : after.gap ≡ before.gap = omega (arith, ints, down, low, no_nearer) in
      inr (omega (arith, ints, down, low), (let f = back.by_first same in omega (arith, f, less)))
]

-- one hole more has asked
pub nearest_for_one_more : (holes : List Drilled) (count p : ℕ) (below : ℤ) (mid after : Nearest) → count ≡ length holes → IsNearestForAll holes p mid
    → ((g : ℤ) → below ≤ℤ g → (mid.gap <ℤ g) ⊎ ((mid.gap ≤ℤ g) × (mid.first < p))) → IsNearestForHole holes count p below mid after → IsNearestForAll holes (p + 1) after
nearest_for_one_more holes count p below mid after all so rest step = record {
  held = step.held;
  seen = λ q o g less inside size of. elim (cases_lt q p) [
    | inl early ↦ elim (so.seen q o g early inside size of) [
      | inl settled ↦ inl (no_further_trans after mid (min q o) (max q o) g step.back settled)
      | inr late ↦ still mid after q (min q o) (max q o) g step.back late.0 late.1
    ]
    | inr last ↦
        let same : p ≡ q = omega (arith, less, last) in
        subst (λ (n : ℕ). IsNoFurther after (min n o) (max n o) g ⊎ ((after.gap ≤ℤ g) × (after.first < n))) same
        (here o g (omega (arith, inside, all)) (subst (λ (n : ℕ). size_of (hole_at holes o) ≤ size_of (hole_at holes n)) (sym same) size) (subst (λ (n : ℕ). IsGapOf holes n o g) (sym same) of))
  ];
} where
  here : (o : ℕ) (g : ℤ) → o < count → size_of (hole_at holes o) ≤ size_of (hole_at holes p) → IsGapOf holes p o g → IsNoFurther after (min p o) (max p o) g ⊎ ((after.gap ≤ℤ g) × (after.first < p))
  here o g inside size of = elim (order g below) [
    | inl under ↦ inl (step.seen o g inside size of under)
    | inr over ↦ elim (rest g over) [
      | inl nearer ↦ inl (no_further_trans after mid (min p o) (max p o) g step.back (strictly mid (min p o) (max p o) g nearer))
      | inr late ↦ still mid after p (min p o) (max p o) g step.back late.0 late.1
    ]
  ]

-- one later hole more
pub one_later : (holes : List Drilled) (from p : ℕ) (below : ℤ) (before mid after : Nearest) → below ≡ before.gap +ℤ pos 1 → IsNearestForLater holes from p before mid → IsNearestForHole holes from p below mid after → IsNearestForLater holes from (p + 1) before after
one_later holes from p below before mid after is so step = record {
  held = step.held;
  back = no_further_trans after mid before.first before.second before.gap step.back so.back;
  seen = λ q o g least less inside size of upto. elim (cases_lt q p) [
    | inl early ↦ no_further_trans after mid (min q o) (max q o) g step.back (so.seen q o g least early inside size of upto)
    | inr last ↦
        let same : p ≡ q = omega (arith, less, last) in
        subst (λ (n : ℕ). IsNoFurther after (min n o) (max n o) g) same
        (step.seen o g inside (subst (λ (n : ℕ). size_of (hole_at holes o) ≤ size_of (hole_at holes n)) (sym same) size) (subst (λ (n : ℕ). IsGapOf holes n o g) (sym same) of) (omega (arith, ints, upto, is)))
  ];
}

-- the gap of a pair is that of its holes at places in whatever order
flipped : (holes : List Drilled) (i j : ℕ) (g : ℤ) → IsPair holes i j → IsGap (hole_at holes i) (hole_at holes j) g → IsGapOf holes i j g × IsGapOf holes j i g
flipped holes i j g pair gap =
    let o : i < j = pair.ordered in
    let low : i ≡ min i j = omega (arith, o) in
    let high : j ≡ max i j = omega (arith, o) in
    let low' : i ≡ min j i = omega (arith, o) in
    let high' : j ≡ max j i = omega (arith, o) in (
      record {
        listed = subst (λ (n : ℕ). IsPair holes n (max i j)) low (subst (λ (n : ℕ). IsPair holes i n) high pair);
        gap = subst (λ (n : ℕ). IsGap (hole_at holes n) (hole_at holes (max i j)) g) low (subst (λ (n : ℕ). IsGap (hole_at holes i) (hole_at holes n) g) high gap);
      },
      record {
        listed = subst (λ (n : ℕ). IsPair holes n (max j i)) low' (subst (λ (n : ℕ). IsPair holes i n) high' pair);
        gap = subst (λ (n : ℕ). IsGap (hole_at holes n) (hole_at holes (max j i)) g) low' (subst (λ (n : ℕ). IsGap (hole_at holes i) (hole_at holes n) g) high' gap);
      },
    )

-- when each hole has asked, and the later ones among those up to the first of the nearest pair
module _ (holes : List Drilled) (mid best : Nearest) (so : IsNearestForAll holes (length holes) mid) (from : ℕ) (is : from ≡ mid.first + 1) (later : IsNearestForLater holes from (length holes) mid best) where
  -- the larger of two holes asked for the other one
  by_larger : (p o i j : ℕ) (g : ℤ) → p < length holes → o < length holes → i < j → min p o ≡ i → max p o ≡ j → size_of (hole_at holes o) ≤ size_of (hole_at holes p) → IsGapOf holes p o g → IsNoFurther best i j g
  by_larger p o i j g inside there ordered low high size of = elim (so.seen p o g inside there size of) [
    | inl settled ↦ no_further_trans best mid i j g later.back (subst (λ (n : ℕ). IsNoFurther mid i n g) high (subst (λ (n : ℕ). IsNoFurther mid n (max p o) g) low settled))
    | inr late ↦ elim (order mid.gap g) [
      | inl nearer ↦ no_further_trans best mid i j g later.back (strictly mid i j g nearer)
      | inr upto ↦ elim (cases_lt o from) [
        | inl early ↦ subst (λ (n : ℕ). IsNoFurther best i n g) high (subst (λ (n : ℕ). IsNoFurther best n (max p o) g) low (later.seen p o g (let l = late.1 in omega (arith, l, is)) inside early size of upto))
        | inr behind ↦
            let first : mid.first < i = (let l = late.1 in omega (arith, l, is, behind, low)) in
            no_further_trans best mid i j g later.back (record { by_gap = late.0; by_first = λ e. omega (arith, first); by_second = λ e f. absurd (omega (arith, first, f)) })
      ]
    ]
  ]

  pub nearest_of_all : IsNearest holes (IsPair holes) best
  nearest_of_all = record {
    there = later.held.listed;
    gap = later.held.gap;
    least = λ i j g pair gap.
        let o : i < j = pair.ordered in
        let inside : j < length holes = pair.inside in
        let of = flipped holes i j g pair gap in
        elim (cases_lt (size_of (hole_at holes i)) (size_of (hole_at holes j))) [
          | inl less ↦ by_larger j i i j g inside (omega (arith, o, inside)) o (omega (arith, o)) (omega (arith, o)) (omega (arith, less)) of.1
          | inr more ↦ by_larger i j i j g (omega (arith, o, inside)) inside o (omega (arith, o)) (omega (arith, o)) more of.0
        ];
  }
