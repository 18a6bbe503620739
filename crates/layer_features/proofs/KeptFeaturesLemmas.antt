-- What is kept of flashes and contours with one more, and where all are taken away.
use Rattle.layer_features.proofs.Common.{◌≡◌, ◌∙◌, ◌≤◌, ◌+◌, ℕ, zero, suc, Bool, true, false, cond, List, [], ◌∷◌, ◌++◌, drop, length, take, refl, sym, ap, subst, arith, append-nil, append_assoc, length-append, take-append-drop, count_by, option_map, if◌then◌else◌, cons_option, filter_map, filter_map-append, sum_by-append, sum_by-cons, GridPoint, WidePad, Feature, contour_count, counts_of, flashed_count, is_contour, is_flashed_pad, is_other, other_count, pad_in, pads_of, taken_away, taken_kind, KeepsFeatures, first_taken_away, left_pads}
use Rattle.std.specs.Global.{Vec}
use Rattle.layer_features.specs.declared.counts.FeatureCounts.{FeatureCounts}
use Rattle.layer_features.specs.declared.feature.FeatureKind.{FeatureKind}
use Rattle.layer_features.specs.declared.feature.FeatureKind.TheVariants as kind
use Rattle.layer_features.specs.declared.kept_features.KeptFeatures.{KeptFeatures}
use Rattle.layer_features.proofs.StandingLemmas.{left_before, left_first, left_of}

-- ---- cuts

take_within : (n : ℕ) (xs ys : List Feature) → n ≤ length xs → take n (xs ++ ys) ≡ take n xs
take_within zero xs ys few = refl
take_within (suc n) [] ys few = absurd (omega (arith, few))
take_within (suc n) (x ∷ xs) ys few = ap (λ (l : List Feature). x ∷ l) (take_within n xs ys (omega (arith, few)))

drop_within : (n : ℕ) (xs ys : List Feature) → n ≤ length xs → drop n (xs ++ ys) ≡ drop n xs ++ ys
drop_within zero xs ys few = refl
drop_within (suc n) [] ys few = absurd (omega (arith, few))
drop_within (suc n) (x ∷ xs) ys few = drop_within n xs ys (omega (arith, few))

take_whole : (xs : List Feature) → take (length xs) xs ≡ xs
take_whole [] = refl
take_whole (x ∷ xs) = ap (λ (l : List Feature). x ∷ l) (take_whole xs)

drop_whole : (xs : List Feature) → drop (length xs) xs ≡ []
drop_whole [] = refl
drop_whole (x ∷ xs) = drop_whole xs

-- ---- one more

-- one more is not taken away
first_and_one : (n : ℕ) (held : List Feature) (f : Feature) → n ≤ length held → first_taken_away n (held ++ f ∷ []) ≡ first_taken_away n held ++ f ∷ []
first_and_one n held f few = (λ i. left_of (take_within n held (f ∷ []) few i) ++ drop_within n held (f ∷ []) few i) ∙ sym (append_assoc (left_of (take n held)) (drop n held) (f ∷ []))

features_and_one : (b : Bool) (n : ℕ) (held features : List Feature) (f : Feature) → n ≤ length held → first_taken_away n held ≡ (if b then features else [])
    → first_taken_away n (if b then held ++ f ∷ [] else held) ≡ (if b then features ++ f ∷ [] else [])
features_and_one true n held features f few h = first_and_one n held f few ∙ ap (λ (l : List Feature). l ++ f ∷ []) h
features_and_one false n held features f few h = h

few_and_one : (b : Bool) (n : ℕ) (held : List Feature) (f : Feature) → n ≤ length held → n ≤ length (if b then held ++ f ∷ [] else held)
few_and_one true n held f few = omega (arith, few, length-append held (f ∷ []))
few_and_one false n held f few = few

pads_and_one : (b : Bool) (left pads : List WidePad) (features : List Feature) (f : Feature) → left ++ pads ≡ (if b then [] else pads_of features)
    → left ++ (if b then pads else pads ++ cons_option (pad_in f.what) []) ≡ (if b then [] else pads_of (features ++ f ∷ []))
pads_and_one true left pads features f h = h
pads_and_one false left pads features f h =
    sym (append_assoc left pads (cons_option (pad_in f.what) [])) ∙ ap (λ (l : List WidePad). l ++ cons_option (pad_in f.what) []) h
    ∙ sym (filter_map-append (λ (g : Feature). pad_in g.what) features (f ∷ []))

-- a flash or a contour was held, and the counts are these
pub record IsHeld (old : KeptFeatures) (f : Feature) (new : KeptFeatures) : Type 0 where
  pub features : new.features.items ≡ (if old.rows then old.features.items ++ f ∷ [] else old.features.items)
  pub pads : new.pads.items ≡ (if old.rows then old.pads.items else old.pads.items ++ cons_option (pad_in f.what) [])
  pub rows : new.rows ≡ old.rows
  pub cleared : new.cleared ≡ old.cleared
  pub forgets : new.forgets ≡ old.forgets

pub kept_more : (old new : KeptFeatures) (taken : List WidePad) (features : List Feature) (f : Feature) → KeepsFeatures old taken features → IsHeld old f new → new.counts ≡ counts_of (features ++ f ∷ []) → KeepsFeatures new taken (features ++ f ∷ [])
kept_more old new taken features f h held counts = record {
  counts = counts;
  few = subst (λ (n : ℕ). n ≤ length new.features.items) (sym held.cleared) (subst (λ (l : List Feature). old.cleared ≤ length l) (sym held.features) (few_and_one old.rows old.cleared old.features.items f h.few));
  features = (λ i. first_taken_away (held.cleared i) (held.features i)) ∙ features_and_one old.rows old.cleared old.features.items features f h.few h.features
      ∙ ap (λ (b : Bool). if b then features ++ f ∷ [] else []) (sym held.rows);
  pads = (λ i. (if held.forgets i then [] else taken) ++ held.pads i) ∙ pads_and_one old.rows (left_pads old taken) old.pads.items features f h.pads
      ∙ ap (λ (b : Bool). if b then [] else pads_of (features ++ f ∷ [])) (sym held.rows);
}

-- ---- all are taken away

-- what is left of all, where the first ones were taken away before
first_then_all : (n : ℕ) (held : List Feature) → left_of (first_taken_away n held) ≡ left_of held
first_then_all n held = left_first (take n held) (drop n held) ∙ ap left_of (take-append-drop n held)

all_of_held : (held : List Feature) → first_taken_away (length held) held ≡ left_of held
all_of_held held = (λ i. left_of (take_whole held i) ++ drop_whole held i) ∙ append-nil (left_of held)

features_gone : (b : Bool) (n : ℕ) (held features : List Feature) → first_taken_away n held ≡ (if b then features else []) → first_taken_away (length held) held ≡ (if b then left_of features else [])
features_gone b n held features h = all_of_held held ∙ sym (first_then_all n held) ∙ ap left_of h ∙ by b
  where
    by : (c : Bool) → left_of (if c then features else []) ≡ (if c then left_of features else [])
    by true = refl
    by false = refl

-- no pad is left
no_pad_before : (at : GridPoint) (k : FeatureKind) (rest : List Feature) → pads_of (cons_option (option_map (λ (j : FeatureKind). record { at = at; what = j }) (taken_kind k)) rest) ≡ pads_of rest
no_pad_before at (kind.Pad pad) rest = refl
no_pad_before at (kind.Shape pad why) rest = refl
no_pad_before at (kind.Contour pad) rest = refl
no_pad_before at (kind.Other why) rest = refl
no_pad_before at (kind.Macro why) rest = refl
no_pad_before at kind.Clear rest = refl
no_pad_before at kind.Cleared rest = refl

pub no_pads_left : (features : List Feature) → pads_of (left_of features) ≡ []
no_pads_left [] = refl
no_pads_left (f ∷ fs) = no_pad_before f.at f.what (left_of fs) ∙ no_pads_left fs

pads_gone : (b : Bool) (features : List Feature) → [] ≡ (if b then [] else pads_of (left_of features))
pads_gone true features = refl
pads_gone false features = sym (no_pads_left features)

pub kept_gone : (old new : KeptFeatures) (taken : List WidePad) (features : List Feature) → KeepsFeatures old taken features → new.counts ≡ counts_of (left_of features) → new.features ≡ old.features → new.cleared ≡ length old.features.items → new.pads.items ≡ [] → new.forgets ≡ true
    → new.rows ≡ old.rows → KeepsFeatures new taken (left_of features)
kept_gone old new taken features h counts same cleared none forgets rows = record {
  counts = counts;
  few = omega (arith, cleared, ap (λ (v : Vec Feature). length v.items) same);
  features = (λ i. first_taken_away (cleared i) (same i).items) ∙ features_gone old.rows old.cleared old.features.items features h.features ∙ ap (λ (b : Bool). if b then left_of features else []) (sym rows);
  pads = (λ i. (if forgets i then [] else taken) ++ none i) ∙ pads_gone new.rows features;
}

-- ---- counts

-- one more
pub of_one : (test : FeatureKind → Bool) (f : Feature) (fs : List Feature) → count_by (λ (g : Feature). test g.what) (f ∷ fs) ≡ cond (test f.what) 1 0 + count_by (λ (g : Feature). test g.what) fs
of_one test f fs = sum_by-cons (λ (g : Feature). cond (test g.what) 1 0) f fs

-- one more at the end
of_last : (test : FeatureKind → Bool) (fs : List Feature) (f : Feature) → count_by (λ (g : Feature). test g.what) (fs ++ f ∷ []) ≡ count_by (λ (g : Feature). test g.what) fs + cond (test f.what) 1 0
of_last test fs f = sum_by-append (λ (g : Feature). cond (test g.what) 1 0) fs (f ∷ []) ∙ ap (λ (n : ℕ). count_by (λ (g : Feature). test g.what) fs + n) (of_one test f [] ∙ omega arith)

of_left : (test : FeatureKind → Bool) (at : GridPoint) (k : FeatureKind) (rest : List Feature) → count_by (λ (g : Feature). test g.what) (record { at = at; what = k } ∷ rest) ≡ cond (test k) 1 0 + count_by (λ (g : Feature). test g.what) rest
of_left test at k rest = of_one test (record { at = at; what = k }) rest

one_other : (at : GridPoint) (k : FeatureKind) (rest : List Feature) → other_count (left_before at k rest) ≡ (cond (is_flashed_pad k) 1 0 + cond (is_other k) 1 0) + other_count rest
one_other at (kind.Pad pad) rest = omega (arith, of_left is_other at kind.Cleared rest)
one_other at (kind.Shape pad why) rest = omega (arith, of_left is_other at kind.Cleared rest)
one_other at (kind.Contour pad) rest = omega arith
one_other at (kind.Other why) rest = omega (arith, of_left is_other at kind.Cleared rest)
one_other at (kind.Macro why) rest = omega (arith, of_left is_other at kind.Cleared rest)
one_other at kind.Clear rest = omega (arith, of_left is_other at kind.Clear rest)
one_other at kind.Cleared rest = omega (arith, of_left is_other at kind.Cleared rest)

one_flashed : (at : GridPoint) (k : FeatureKind) (rest : List Feature) → flashed_count (left_before at k rest) ≡ flashed_count rest
one_flashed at (kind.Pad pad) rest = omega (arith, of_left is_flashed_pad at kind.Cleared rest)
one_flashed at (kind.Shape pad why) rest = omega (arith, of_left is_flashed_pad at kind.Cleared rest)
one_flashed at (kind.Contour pad) rest = refl
one_flashed at (kind.Other why) rest = omega (arith, of_left is_flashed_pad at kind.Cleared rest)
one_flashed at (kind.Macro why) rest = omega (arith, of_left is_flashed_pad at kind.Cleared rest)
one_flashed at kind.Clear rest = omega (arith, of_left is_flashed_pad at kind.Clear rest)
one_flashed at kind.Cleared rest = omega (arith, of_left is_flashed_pad at kind.Cleared rest)

one_contour : (at : GridPoint) (k : FeatureKind) (rest : List Feature) → contour_count (left_before at k rest) ≡ contour_count rest
one_contour at (kind.Pad pad) rest = omega (arith, of_left is_contour at kind.Cleared rest)
one_contour at (kind.Shape pad why) rest = omega (arith, of_left is_contour at kind.Cleared rest)
one_contour at (kind.Contour pad) rest = refl
one_contour at (kind.Other why) rest = omega (arith, of_left is_contour at kind.Cleared rest)
one_contour at (kind.Macro why) rest = omega (arith, of_left is_contour at kind.Cleared rest)
one_contour at kind.Clear rest = omega (arith, of_left is_contour at kind.Clear rest)
one_contour at kind.Cleared rest = omega (arith, of_left is_contour at kind.Cleared rest)

none_flashed : (fs : List Feature) → flashed_count (filter_map taken_away fs) ≡ 0
none_flashed [] = refl
none_flashed (f ∷ fs) =
    let one : flashed_count (filter_map taken_away (f ∷ fs)) ≡ flashed_count (filter_map taken_away fs) = one_flashed f.at f.what (filter_map taken_away fs) in
    omega (arith, one, none_flashed fs)

no_contours : (fs : List Feature) → contour_count (filter_map taken_away fs) ≡ 0
no_contours [] = refl
no_contours (f ∷ fs) =
    let one : contour_count (filter_map taken_away (f ∷ fs)) ≡ contour_count (filter_map taken_away fs) = one_contour f.at f.what (filter_map taken_away fs) in
    omega (arith, one, no_contours fs)

all_others : (fs : List Feature) → other_count (filter_map taken_away fs) ≡ flashed_count fs + other_count fs
all_others [] = refl
all_others (f ∷ fs) =
    let one : other_count (filter_map taken_away (f ∷ fs)) ≡ (cond (is_flashed_pad f.what) 1 0 + cond (is_other f.what) 1 0) + other_count (filter_map taken_away fs) = one_other f.at f.what (filter_map taken_away fs) in
    let flashed : flashed_count (f ∷ fs) ≡ cond (is_flashed_pad f.what) 1 0 + flashed_count fs = of_one is_flashed_pad f fs in
    let other : other_count (f ∷ fs) ≡ cond (is_other f.what) 1 0 + other_count fs = of_one is_other f fs in
    omega (arith, one, flashed, other, all_others fs)

pub counts_gone : (a left : FeatureCounts) (fs : List Feature) → a ≡ counts_of fs → left.flashed ≡ 0 → left.contours ≡ 0 → left.other ≡ a.flashed + a.other → left ≡ counts_of (filter_map taken_away fs)
counts_gone a left fs is flashed contours other =
    let by_flashed : left.flashed ≡ flashed_count (filter_map taken_away fs) = omega (arith, flashed, none_flashed fs) in
    let by_contours : left.contours ≡ contour_count (filter_map taken_away fs) = omega (arith, contours, no_contours fs) in
    let by_other : left.other ≡ other_count (filter_map taken_away fs) = omega (arith, other, ap (λ (c : FeatureCounts). c.flashed) is, ap (λ (c : FeatureCounts). c.other) is, all_others fs) in
    λ i. record { flashed = by_flashed i; contours = by_contours i; other = by_other i }
