-- The first flash in a hole, among flashes that stand in groups.
use Rattle.report.proofs.Common.{◌≡◌, ◌<◌, ◌≤◌, ◌+◌, ◌≤ℤ◌, ◌++◌, ◌∷◌, ℕ, ℤ, Bool, true, false, cond, List, [], Option, Some, None, length, get_or, take, drop, refl, ap, subst, sym, ◌∙◌, ◌⊎◌, inl, inr, arith, nat_lt, if◌then◌else◌, All, AllPairs, Contains, cons_option, enumerate_from, filter_map, find, slice_range, and_from, cases_lt, false≢true, nat_tests, clamps, ints, get_or-drop, get_or-take, get_or_append_left, length-append, length-drop, length-take-le, take_more, All-append, All-cons, All-contains, All-head, All-nil, All-tail, All-weaker, Contains-append_cases, Contains-append_left, Contains-append_right, get_or-append_seam, take-add, IsBetween, GridPoint, GridRounded, is_outline, rounded_covers, IsAxisAligned, IsInBox, covers_both_ends, is_pad_row, FeatureRow, IsGroup, IsWithin, is_in_shape, other_row, others, HasPassed, IsFirstIn, Other}
use Rattle.std.specs.Prelude.{◌-◌}
use Rattle.std.specs.Int.{int_max, int_min}
use Rattle.std.specs.List.Sorted.{IsPermutation}
use Rattle.std.specs.Option.{option_map_or, IfSome}
use Rattle.std.proofs.lemmas.List.Kept.{AllPairs-cons}
use Rattle.std.proofs.lemmas.List.Sorted.{All-permutation, Contains-permutation, IsPermutation-sym}
use Rattle.pad_shapes.specs.Inner.RoundedLaws.{no_distance, rounded_contains_slots}
use Rattle.pad_shapes.proofs.PartsLemmas.{points_are_covered}
use Rattle.ring_rules.proofs.SortedPairs.{contains_cases, contains_first, pairs_head, pairs_tail}
use Rattle.report.proofs.PlacesLemmas.{at_head, if_other}
use Rattle.report.specs.declared.bounds.Bounds.{Bounds}
use Rattle.report.specs.declared.groups.Group.{Group}
use Rattle.report.specs.declared.groups.Search.{Search}

-- ---- boxes in a hole, and beside it

-- where both ends of a side lie in a hole, so does each point of it
side_in : (h : GridRounded) → is_outline h.first h.others ≡ true → (from to p : GridPoint) → IsAxisAligned from to → covers_both_ends rounded_covers h from to 0 ≡ true → IsInBox from to p → is_in_shape h p ≡ true
side_in h outline from to p aligned ends inside = (points_are_covered h outline p).0 (rounded_contains_slots h from to 0 aligned ends p p inside (no_distance p 0))

between : (low z high : ℤ) → low ≤ℤ z → z ≤ℤ high → IsBetween low high z
between low z high h k = (omega (arith, ints, clamps), omega (arith, ints, clamps))

at_itself : (z : ℤ) → IsBetween z z z
at_itself z = (omega (arith, ints, clamps), omega (arith, ints, clamps))

-- where all corners of a box lie in a hole, so does each point of it
pub inside_in : (h : GridRounded) → is_outline h.first h.others ≡ true → (b : Bounds) (o : Other) → covers_both_ends rounded_covers h b.least (record { x = b.greatest.x; y = b.least.y }) 0 ≡ true
    → covers_both_ends rounded_covers h (record { x = b.least.x; y = b.greatest.y }) b.greatest 0 ≡ true → IsWithin b o → is_in_shape h o.at ≡ true
inside_in h outline b o below above w =
    let across = between b.least.x o.at.x b.greatest.x w.left w.right in
    let low = side_in h outline b.least (record { x = b.greatest.x; y = b.least.y }) (record { x = o.at.x; y = b.least.y }) (inr refl) below (across, at_itself b.least.y) in
    let high = side_in h outline (record { x = b.least.x; y = b.greatest.y }) b.greatest (record { x = o.at.x; y = b.greatest.y }) (inr refl) above (across, at_itself b.greatest.y) in
    side_in h outline (record { x = o.at.x; y = b.least.y }) (record { x = o.at.x; y = b.greatest.y }) o.at (inl refl) (and_from (is_in_shape h (record { x = o.at.x; y = b.least.y })) (is_in_shape h (record { x = o.at.x; y = b.greatest.y })) low high)
    (at_itself o.at.x, between b.least.y o.at.y b.greatest.y w.low w.high)

-- a box lies in the wider one
pub widened : (b wide : Bounds) (o held : Other) → wide.least.x ≡ int_min b.least.x o.at.x → wide.least.y ≡ int_min b.least.y o.at.y → wide.greatest.x ≡ int_max b.greatest.x o.at.x → wide.greatest.y ≡ int_max b.greatest.y o.at.y
    → wide.first.place ≤ b.first.place → IsWithin b held → IsWithin wide held
widened b wide o held lx ly gx gy first w = record {
  left = (let low = w.left in omega (arith, ints, clamps, lx, low));
  right = (let high = w.right in omega (arith, ints, clamps, gx, high));
  low = (let low = w.low in omega (arith, ints, clamps, ly, low));
  high = (let high = w.high in omega (arith, ints, clamps, gy, high));
  later = (let later = w.later in omega (arith, first, later));
}

-- the point for which a box is widened lies in it
pub holds_new : (b wide : Bounds) (o : Other) → wide.least.x ≡ int_min b.least.x o.at.x → wide.least.y ≡ int_min b.least.y o.at.y → wide.greatest.x ≡ int_max b.greatest.x o.at.x → wide.greatest.y ≡ int_max b.greatest.y o.at.y
    → wide.first.place ≤ o.place → IsWithin wide o
holds_new b wide o lx ly gx gy first = record {
  left = omega (arith, ints, clamps, lx);
  right = omega (arith, ints, clamps, gx);
  low = omega (arith, ints, clamps, ly);
  high = omega (arith, ints, clamps, gy);
  later = first;
}

-- ---- the earliest so far

pushed : (P : Other → Type 0) (xs : List Other) (x : Other) → All P xs → P x → All P (xs ++ x ∷ [])
pushed P xs x all p = All-append P xs (x ∷ []) all (All-cons P x [] p (All-nil P))

out_of : (h : GridRounded) (P : Other → Type 0) (xs : List Other) → All (λ other. is_in_shape h other.at ≡ false) xs → All (λ other. is_in_shape h other.at ≡ true → P other) xs
out_of h P xs out = All-weaker (λ other. is_in_shape h other.at ≡ false) (λ other. is_in_shape h other.at ≡ true → P other) (λ other out inside. absurd (false≢true (sym out ∙ inside))) xs out

not_before : (h : GridRounded) (seen : List Other) (first other : Other) → nat_lt other.place first.place ≡ false → IsFirstIn seen h (Some first) → IsFirstIn (seen ++ other ∷ []) h (Some first)
not_before h seen first other e is = (Contains-append_left seen (other ∷ []) first is.0, is.1, pushed (λ o. is_in_shape h o.at ≡ true → first.place ≤ o.place) seen other is.2 (λ inside. later first.place other.place e))
  where
    later : (m n : ℕ) → nat_lt n m ≡ false → m ≤ n
    later m n e = grind (arith, nat_tests)

-- a flash outside the hole changes nothing
pub passed_by : (h : GridRounded) (seen : List Other) (first : Option Other) (other : Other) → is_in_shape h other.at ≡ false → IsFirstIn seen h first → IsFirstIn (seen ++ other ∷ []) h first
passed_by h seen None other out all = pushed (λ o. is_in_shape h o.at ≡ false) seen other all out
passed_by h seen (Some first) other out is =
    (Contains-append_left seen (other ∷ []) first is.0, is.1, pushed (λ o. is_in_shape h o.at ≡ true → first.place ≤ o.place) seen other is.2 (λ inside. absurd (false≢true (sym out ∙ inside))))

comes_first : (h : GridRounded) (seen : List Other) (first other : Other) → is_in_shape h other.at ≡ true → nat_lt other.place first.place ≡ true → IsFirstIn seen h (Some first) → IsFirstIn (seen ++ other ∷ []) h (Some other)
comes_first h seen first other inside e is = (
  Contains-append_right seen (other ∷ []) other (contains_first other []),
  inside,
  pushed (λ o. is_in_shape h o.at ≡ true → other.place ≤ o.place) seen other
      (All-weaker (λ o. is_in_shape h o.at ≡ true → first.place ≤ o.place) (λ o. is_in_shape h o.at ≡ true → other.place ≤ o.place) (λ o f here. (let before = earlier_in_hole other.place first.place e in let least = f here in omega (arith, before, least))) seen is.2)
      (λ here. omega arith),
)
  where
    earlier_in_hole : (m n : ℕ) → nat_lt m n ≡ true → m < n
    earlier_in_hole m n e = grind (arith, nat_tests)

-- a flash in the hole, and the first so far: the earlier one of them
pub lesser_is : (h : GridRounded) (seen : List Other) (first : Option Other) (other : Other) → is_in_shape h other.at ≡ true → IsFirstIn seen h first → IsFirstIn (seen ++ other ∷ []) h (Some (option_map_or (λ held. if nat_lt other.place held.place then other else held) first other))
lesser_is h seen None other inside all =
    (Contains-append_right seen (other ∷ []) other (contains_first other []), inside, pushed (λ o. is_in_shape h o.at ≡ true → other.place ≤ o.place) seen other (out_of h (λ o. other.place ≤ o.place) seen all) (λ here. omega arith))
lesser_is h seen (Some first) other inside is = by (nat_lt other.place first.place) refl
  where
    by : (t : Bool) → nat_lt other.place first.place ≡ t → IsFirstIn (seen ++ other ∷ []) h (Some (if t then other else first))
    by true e = comes_first h seen first other inside e is
    by false e = not_before h seen first other e is

-- the earlier of two flashes is one of them, and no later than either
pub earlier_is : (a b first : Other) → first ≡ (if nat_lt b.place a.place then b else a) → ((first ≡ a) ⊎ (first ≡ b)) × (first.place ≤ a.place) × (first.place ≤ b.place)
earlier_is a b first is = by (nat_lt b.place a.place) refl is
  where
    before : (m n : ℕ) → nat_lt m n ≡ true → m ≤ n
    before m n e = grind (arith, nat_tests)

    after : (m n : ℕ) → nat_lt m n ≡ false → n ≤ m
    after m n e = grind (arith, nat_tests)

    by : (t : Bool) → nat_lt b.place a.place ≡ t → first ≡ (if t then b else a) → ((first ≡ a) ⊎ (first ≡ b)) × (first.place ≤ a.place) × (first.place ≤ b.place)
    by true e same =
        let place : first.place ≡ b.place = ap (λ (o : Other). o.place) same in
        let low = before b.place a.place e in
        (inr same, omega (arith, place, low), omega (arith, place))
    by false e same =
        let place : first.place ≡ a.place = ap (λ (o : Other). o.place) same in
        let low = after b.place a.place e in
        (inl same, omega (arith, place), omega (arith, place, low))

-- a box that is widened for the next flash holds all flashes so far
pub one_more : (all : List Other) (i : ℕ) (item : Other) (b wide : Bounds) → i < length all → item ≡ get_or all i item → IsWithin wide item → ((held : Other) → IsWithin b held → IsWithin wide held) → All (IsWithin b) (take i all)
    → All (IsWithin wide) (take (i + 1) all)
one_more all i item b wide there is new keeps was =
    subst (All (IsWithin wide)) (sym (take_more all i item there ∙ ap (λ (o : Other). take i all ++ o ∷ []) (sym is)))
    (pushed (IsWithin wide) (take i all) item (All-weaker (IsWithin b) (IsWithin wide) keeps (take i all) was) new)

-- and its first one is among them
pub one_first : (all : List Other) (i : ℕ) (item : Other) (b wide : Bounds) → i < length all → item ≡ get_or all i item → (wide.first ≡ b.first) ⊎ (wide.first ≡ item) → Contains all b.first → Contains all wide.first
one_first all i item b wide there is (inl same) among = subst (Contains all) (sym same) among
one_first all i item b wide there is (inr same) among = subst (Contains all) (sym same) (i, there, sym is)

-- ---- from the flashes passed to those up to the end of a group

module _ (xs : List Other) (s p e : ℕ) (starts : s ≤ p) (ends : p ≤ e) (inside : e ≤ length xs) where
  all_to : (P : Other → Type 0) → All P (take p xs) → All P (slice_range xs s e) → All P (take e xs)
  all_to P front group = λ k d lt. by k d (omega (arith, lt, length-take-le e xs inside)) (cases_lt k p)
    where
      by : (k : ℕ) (d : Other) → k < e → (k < p) ⊎ (p ≤ k) → P (get_or (take e xs) k d)
      by k d lt (inl low) =
          let here = front k d (omega (arith, low, length-take-le p xs (omega (arith, ends, inside)))) in
          subst P (get_or-take p xs k d low ∙ sym (get_or-take e xs k d lt)) here
      by k d lt (inr high) =
          let size = length-take-le (e - s) (drop s xs) (omega (arith, length-drop s xs, inside)) in
          let here = group (k - s) d (omega (arith, size, starts, high, lt)) in
          let same : s + (k - s) ≡ k = omega (arith, starts, high) in
          subst P (get_or-take (e - s) (drop s xs) (k - s) d (omega (arith, starts, high, lt)) ∙ (get_or-drop s xs (k - s) d ∙ (ap (λ (n : ℕ). get_or xs n d) same ∙ sym (get_or-take e xs k d lt)))) here

  prefix_to : (x : Other) → Contains (take p xs) x → Contains (take e xs) x
  prefix_to x there =
      let low : there.0 < p = omega (arith, there.1, length-take-le p xs (omega (arith, ends, inside))) in
      let lt : there.0 < e = omega (arith, low, ends) in
      (there.0, omega (arith, lt, length-take-le e xs inside), get_or-take e xs there.0 x lt ∙ (sym (get_or-take p xs there.0 x low) ∙ there.2))

  group_to : (x : Other) → Contains (slice_range xs s e) x → Contains (take e xs) x
  group_to x there =
      let size = length-take-le (e - s) (drop s xs) (omega (arith, length-drop s xs, inside)) in
      let low : there.0 < e - s = omega (arith, there.1, size) in
      let lt : s + there.0 < e = omega (arith, low) in
      (s + there.0, omega (arith, lt, length-take-le e xs inside), get_or-take e xs (s + there.0) x lt ∙ (sym (get_or-drop s xs there.0 x) ∙ (sym (get_or-take (e - s) (drop s xs) there.0 x low) ∙ there.2)))

all_left : (P : Other → Type 0) (xs ys : List Other) → All P (xs ++ ys) → All P xs
all_left P xs ys both = λ k d lt. subst P (get_or_append_left xs ys d k lt) (both k d (let size = length-append xs ys in omega (arith, size, lt)))

one : (x y : Other) → Contains (x ∷ []) y → x ≡ y
one x y among = elim (contains_cases x [] y among) [
  | inl same ↦ same
  | inr none ↦ absurd (let some = none.1 in omega (arith, some))
]

module _ (all : List Other) (h : GridRounded) (g : Group) (is : IsGroup all g) (p : ℕ) (starts : g.start ≤ p) (ends : p ≤ g.end) where
  abbrev pub own : List Other
  own = slice_range all g.start g.end

  -- no flash of a group lies in the hole
  pub passed_out : (first : Option Other) → All (λ other. is_in_shape h other.at ≡ false) own → IsFirstIn (take p all) h first → IsFirstIn (take g.end all) h first
  passed_out None out was = all_to all g.start p g.end starts ends is.inside (λ other. is_in_shape h other.at ≡ false) was out
  passed_out (Some first) out was = (
    prefix_to all g.start p g.end starts ends is.inside first was.0,
    was.1,
    all_to all g.start p g.end starts ends is.inside (λ other. is_in_shape h other.at ≡ true → first.place ≤ other.place) was.2 (out_of h (λ other. first.place ≤ other.place) own out),
  )

  -- all flashes of a group come after the first so far
  pub passed_later : (first : Other) → first.place ≤ g.bounds.first.place → IsFirstIn (take p all) h (Some first) → IsFirstIn (take g.end all) h (Some first)
  passed_later first before was = (
    prefix_to all g.start p g.end starts ends is.inside first was.0,
    was.1,
    all_to all g.start p g.end starts ends is.inside (λ other. is_in_shape h other.at ≡ true → first.place ≤ other.place) was.2
        (All-weaker (IsWithin g.bounds) (λ other. is_in_shape h other.at ≡ true → first.place ≤ other.place) (λ other w here. (let later = w.later in omega (arith, before, later))) own is.bounds.within),
  )

  -- all flashes of a group lie in the hole
  pub passed_inside : (first : Option Other) → ((other : Other) → IsWithin g.bounds other → is_in_shape h other.at ≡ true) → IsFirstIn (take p all) h first
      → IsFirstIn (take g.end all) h (Some (option_map_or (λ held. if nat_lt g.bounds.first.place held.place then g.bounds.first else held) first g.bounds.first))
  passed_inside first all_in was =
      with_least (option_map_or (λ held. if nat_lt g.bounds.first.place held.place then g.bounds.first else held) first g.bounds.first) (lesser_is h (take p all) first g.bounds.first here was)
    where
      here : is_in_shape h g.bounds.first.at ≡ true
      here = all_in g.bounds.first (All-contains (IsWithin g.bounds) own g.bounds.first is.bounds.within is.bounds.first)

      there : (x : Other) → Contains (take p all ++ g.bounds.first ∷ []) x → Contains (take g.end all) x
      there x among = elim (Contains-append_cases (take p all) (g.bounds.first ∷ []) x among) [
        | inl front ↦ prefix_to all g.start p g.end starts ends is.inside x front
        | inr last ↦ subst (Contains (take g.end all)) (one g.bounds.first x last) (group_to all g.start p g.end starts ends is.inside g.bounds.first is.bounds.first)
      ]

      with_least : (least : Other) → IsFirstIn (take p all ++ g.bounds.first ∷ []) h (Some least) → IsFirstIn (take g.end all) h (Some least)
      with_least least found =
          let P = λ (other : Other). is_in_shape h other.at ≡ true → least.place ≤ other.place in
          let last = found.2 (length (take p all)) g.bounds.first (let size = length-append (take p all) (g.bounds.first ∷ []) in omega (arith, size)) in
          let bound = subst P (get_or-append_seam (take p all) g.bounds.first [] g.bounds.first) last here in (
            there least found.0,
            found.1,
            all_to all g.start p g.end starts ends is.inside P (all_left P (take p all) (g.bounds.first ∷ []) found.2)
                (All-weaker (IsWithin g.bounds) P (λ other w inside. (let later = w.later in omega (arith, bound, later))) own is.bounds.within),
          )

-- the flashes passed and those up to the end of a group
pub joined_to : (xs : List Other) (p e : ℕ) → p ≤ e → take p xs ++ slice_range xs p e ≡ take e xs
joined_to xs p e h = sym (take-add p (e - p) xs) ∙ ap (λ (n : ℕ). take n xs) (let same : p + (e - p) ≡ e = omega (arith, h) in same)

-- a search that has passed a group
pub has_passed : (all : List Other) (h : GridRounded) (e : ℕ) (first : Option Other) (s : Search) → s.passed ≡ e → s.first ≡ first → e ≤ length all → IsFirstIn (take e all) h first → HasPassed all h s
has_passed all h e first s ends is inside found = record {
  inside = omega (arith, ends, inside);
  first = subst (λ (n : ℕ). IsFirstIn (take n all) h s.first) (sym ends) (subst (IsFirstIn (take e all) h) (sym is) found);
}

-- ---- the rows of a layer are in order of their places

low_from : (k : ℕ) (rows : List FeatureRow) → All (λ other. k ≤ other.place) (filter_map other_row (enumerate_from k rows))
low_from k [] = λ i d lt. absurd (omega (arith, lt))
low_from k (r ∷ rs) =
    at_head (λ other. k ≤ other.place) (other_row (k, r)) _ (if_other (λ other. k ≤ other.place) k r (is_pad_row r.what) refl (λ not_pad. omega arith))
    (All-weaker (λ other. k + 1 ≤ other.place) (λ other. k ≤ other.place) (λ other l. omega (arith, l)) _ (low_from (k + 1) rs))

pairs_prefix : (k : ℕ) (x : Option Other) (xs : List Other) → IfSome x (λ other. other.place ≡ k) → All (λ other. k + 1 ≤ other.place) xs → AllPairs (λ a b. a.place < b.place) xs → AllPairs (λ a b. a.place < b.place) (cons_option x xs)
pairs_prefix k None xs is low up = up
pairs_prefix k (Some x) xs is low up = AllPairs-cons (λ a b. a.place < b.place) x xs (All-weaker (λ other. k + 1 ≤ other.place) (λ other. x.place < other.place) (λ other l. omega (arith, l, is)) xs low) up

places_rise_from : (k : ℕ) (rows : List FeatureRow) → AllPairs (λ a b. a.place < b.place) (filter_map other_row (enumerate_from k rows))
places_rise_from k [] = λ i j d l m. absurd (omega (arith, m))
places_rise_from k (r ∷ rs) =
    pairs_prefix k (other_row (k, r)) _ (if_other (λ other. other.place ≡ k) k r (is_pad_row r.what) refl (λ not_pad. refl)) (low_from (k + 1) rs) (places_rise_from (k + 1) rs)

-- ---- the flash that is found

find_none : (p : Other → Bool) (xs : List Other) → All (λ other. p other ≡ false) xs → find p xs ≡ None
find_none p [] out = refl
find_none p (x ∷ xs) out = by (p x) (All-head (λ other. p other ≡ false) x xs out) (find_none p xs (All-tail (λ other. p other ≡ false) x xs out))
  where
    by : (t : Bool) → t ≡ false → find p xs ≡ None → cond t (Some x) (find p xs) ≡ None
    by true e rest = absurd (false≢true (sym e))
    by false e rest = rest

find_least : (p : Other → Bool) (xs : List Other) (first : Other) → AllPairs (λ a b. a.place < b.place) xs → Contains xs first → p first ≡ true → All (λ other. p other ≡ true → first.place ≤ other.place) xs → find p xs ≡ Some first
find_least p [] first up among inside least = absurd (let some = among.1 in omega (arith, some))
find_least p (x ∷ xs) first up among inside least =
    by (p x) refl (contains_cases x xs first among) (λ later. find_least p xs first (pairs_tail (λ a b. a.place < b.place) x xs up) later inside (All-tail (λ other. p other ≡ true → first.place ≤ other.place) x xs least))
  where
    by : (t : Bool) → p x ≡ t → (x ≡ first) ⊎ Contains xs first → (Contains xs first → find p xs ≡ Some first) → cond t (Some x) (find p xs) ≡ Some first
    by true e (inl same) rest = ap Some same
    by true e (inr later) rest = absurd (
        let before = All-contains (λ other. x.place < other.place) xs first (pairs_head (λ a b. a.place < b.place) x xs up) later in
        let bound = All-head (λ other. p other ≡ true → first.place ≤ other.place) x xs least e in
        omega (arith, before, bound))
    by false e (inl same) rest = absurd (false≢true (sym e ∙ ap p same ∙ inside))
    by false e (inr later) rest = rest later

-- the earliest of all, in whatever order they are listed, is the first of the layer
pub first_is_found : (rows : List FeatureRow) (all : List Other) (h : GridRounded) (first : Option Other) → IsPermutation (others rows) all → IsFirstIn all h first → first ≡ find (λ other. is_in_shape h other.at) (others rows)
first_is_found rows all h None moved out = sym (find_none (λ other. is_in_shape h other.at) (others rows) (All-permutation (λ other. is_in_shape h other.at ≡ false) all (others rows) (IsPermutation-sym (others rows) all moved) out))
first_is_found rows all h (Some first) moved is =
    (let back = IsPermutation-sym (others rows) all moved in
    sym (find_least (λ other. is_in_shape h other.at) (others rows) first (places_rise_from 0 rows) (Contains-permutation all (others rows) first back is.0) is.1
    (All-permutation (λ other. is_in_shape h other.at ≡ true → first.place ≤ other.place) all (others rows) back is.2)))
