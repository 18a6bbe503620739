-- Flashes and contours that are taken away, and those of one more command.
use Rattle.layer_features.proofs.Common.{◌≡◌, ◌∙◌, Bool, true, false, List, [], ◌∷◌, ◌++◌, refl, sym, ap, append-nil, append_assoc, option_map, if◌then◌else◌, cons_option, filter_map, flat_map, filter_map-append, with_prefixes, GridPoint, with_prefixes-append, Command, Feature, after_last, positions_up_to_clearing, clears_all, positions_after_clearing, features_at, taken_away, taken_kind, wide_features_of}
use Rattle.std.proofs.lemmas.Grind.{flat_map-append}
use Rattle.layer_features.specs.declared.feature.FeatureKind.{FeatureKind}
use Rattle.layer_features.specs.declared.feature.FeatureKind.TheVariants as kind
use Rattle.layer_features.proofs.ClearingLemmas.{after_last-more, all_positions, cleared-more}

-- what is left of some flashes and contours
abbrev pub left_of : List Feature → List Feature
left_of features = filter_map taken_away features

-- ---- taken away twice

-- what is left of one of this kind, at this point, before others
abbrev pub left_before : GridPoint → FeatureKind → List Feature → List Feature
left_before at k rest = cons_option (option_map (λ (j : FeatureKind). record { at = at; what = j }) (taken_kind k)) rest

one_again : (at : GridPoint) (k : FeatureKind) (rest : List Feature) → left_of (left_before at k rest) ≡ left_before at k (left_of rest)
one_again at (kind.Pad pad) rest = refl
one_again at (kind.Shape pad why) rest = refl
one_again at (kind.Contour pad) rest = refl
one_again at (kind.Other why) rest = refl
one_again at (kind.Macro why) rest = refl
one_again at kind.Clear rest = refl
one_again at kind.Cleared rest = refl

pub left_again : (features : List Feature) → left_of (left_of features) ≡ left_of features
left_again [] = refl
left_again (f ∷ fs) = one_again f.at f.what (left_of fs) ∙ ap (left_before f.at f.what) (left_again fs)

pub left_append : (xs ys : List Feature) → left_of (xs ++ ys) ≡ left_of xs ++ left_of ys
left_append xs ys = filter_map-append taken_away xs ys

-- what is left of what is left, and of more
pub left_first : (xs ys : List Feature) → left_of (left_of xs ++ ys) ≡ left_of (xs ++ ys)
left_first xs ys = left_append (left_of xs) ys ∙ ap (λ (l : List Feature). l ++ left_of ys) (left_again xs) ∙ sym (left_append xs ys)

-- ---- one more command

-- the positions that count, with one more command
pub uncleared-more : (before : List Command) (c : Command) → positions_after_clearing (before ++ c ∷ []) ≡ (if clears_all (before, c) then [] else positions_after_clearing before ++ (before, c) ∷ [])
uncleared-more before c = ap (after_last clears_all) (with_prefixes-append before (c ∷ [])) ∙ after_last-more clears_all (with_prefixes before) (before, c)

-- the flashes and contours with one more command: what is left of all, where it takes all away
pub wide_features_of-more : (before : List Command) (c : Command)
    → wide_features_of (before ++ c ∷ []) ≡ (if clears_all (before, c) then left_of (wide_features_of before ++ features_at (before, c)) else wide_features_of before ++ features_at (before, c))
wide_features_of-more before c =
    (λ i. left_of (flat_map features_at (cleared-more before c i)) ++ flat_map features_at (uncleared-more before c i)) ∙ by (clears_all (before, c))
  where
    own : List Feature
    own = features_at (before, c)

    gone : List Feature
    gone = flat_map features_at (positions_up_to_clearing before)

    left : List Feature
    left = flat_map features_at (positions_after_clearing before)

    one_more : (positions : List (List Command × Command)) → flat_map features_at (positions ++ (before, c) ∷ []) ≡ flat_map features_at positions ++ own
    one_more positions = flat_map-append features_at positions ((before, c) ∷ []) ∙ ap (λ (l : List Feature). flat_map features_at positions ++ l) (append-nil own)

    all : flat_map features_at (with_prefixes before) ≡ gone ++ left
    all = ap (flat_map features_at) (all_positions before) ∙ flat_map-append features_at (positions_up_to_clearing before) (positions_after_clearing before)

    by : (b : Bool) → left_of (flat_map features_at (if b then with_prefixes before ++ (before, c) ∷ [] else positions_up_to_clearing before)) ++ flat_map features_at (if b then [] else positions_after_clearing before ++ (before, c) ∷ [])
        ≡ (if b then left_of (wide_features_of before ++ own) else wide_features_of before ++ own)
    by true =
        append-nil (left_of (flat_map features_at (with_prefixes before ++ (before, c) ∷ [])))
        ∙ ap left_of (one_more (with_prefixes before) ∙ ap (λ (l : List Feature). l ++ own) all ∙ append_assoc gone left own)
        ∙ sym (ap left_of (append_assoc (left_of gone) left own) ∙ left_first gone (left ++ own))
    by false = ap (λ (l : List Feature). left_of gone ++ l) (one_more (positions_after_clearing before)) ∙ sym (append_assoc (left_of gone) left own)
