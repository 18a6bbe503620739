-- The pads among the flashes and contours of a legal list are the pads that its commands make.
use Rattle.layer_features.proofs.Common.{◌≡◌, ◌∙◌, List, [], ◌∷◌, ◌++◌, length, sym, refl, ap, subst, AllByRecursion, filter_map, flat_map, filter_map-append, violation_at, with_prefixes, with_prefixes_from, WidePad, Command, flashes_of, state_after, broken_rule_in, Feature, Profile, positions_up_to_clearing, positions_after_clearing, LegalWidePads, features_at, pad_in, pads_of, AreWidePads, AreWidePadsAt, AreWidePadsOf}
use Rattle.std.proofs.lemmas.List.Concat.{flat_map-cons}
use Rattle.grid_units.specs.declared.fault.Reason.{Reason}
use Rattle.layer_state.proofs.StateLemmas.{state_after-more}
use Rattle.layer_features.proofs.ClearingLemmas.{all_positions}
use Rattle.layer_features.proofs.KeptFeaturesLemmas.{no_pads_left}
use Rattle.layer_features.proofs.LegalFlashes.{IsDefined, again_after, defined_after, none_broken}
use Rattle.layer_features.proofs.PlotLemmas.{PartsAgree, parts_agree, parts_at_start}
use Rattle.layer_features.proofs.StandingLemmas.{left_of}
use Rattle.layer_features.proofs.WidePadLemmas.{pads_at}

-- the pads among the flashes and contours at a position are those that are made there
abbrev HasPads : List Command × Command → Type 0
HasPads p = AreWidePadsOf p.0 p.1 (pads_of (features_at p))

legal_from : (profile : Profile) (before cs : List Command) → IsDefined (state_after before) → PartsAgree before → filter_map (violation_at (broken_rule_in profile)) (with_prefixes_from before cs) ≡ [] → AllByRecursion HasPads (with_prefixes_from before cs)
legal_from profile before [] defined agree h = tt
legal_from profile before (c ∷ cs) defined agree h =
    let both = none_broken (λ (r : Reason). (length before, r)) (broken_rule_in profile before c) _ h in
    let defined_next : IsDefined (state_after (before ++ c ∷ [])) =
    subst IsDefined (sym (state_after-more before c)) (defined_after (again_after profile before c) (state_after before) (length (flashes_of before)) c defined both.0) in
    (pads_at profile before c defined agree both.0, legal_from profile (before ++ c ∷ []) cs defined_next (parts_agree profile before c both.0 agree) both.1)

-- what holds of all holds of the later ones
of_later : (ps qs : List (List Command × Command)) → AllByRecursion HasPads (ps ++ qs) → AllByRecursion HasPads qs
of_later [] qs all = all
of_later (p ∷ ps) qs all = of_later ps qs all.1

in_order : (ps : List (List Command × Command)) → AllByRecursion HasPads ps → AreWidePadsAt ps (pads_of (flat_map features_at ps))
in_order [] all = refl
in_order (p ∷ ps) all = (
  pads_of (features_at p),
  pads_of (flat_map features_at ps),
  ap pads_of (flat_map-cons features_at p ps) ∙ filter_map-append (λ (f : Feature). pad_in f.what) (features_at p) (flat_map features_at ps),
  all.0,
  in_order ps all.1,
)

pub legal_wide_pads : LegalWidePads
legal_wide_pads profile commands legal =
    let all : AllByRecursion HasPads (with_prefixes commands) = legal_from profile [] commands (λ number e. absurd cc) parts_at_start legal in
    let counted : AllByRecursion HasPads (positions_after_clearing commands) = of_later (positions_up_to_clearing commands) (positions_after_clearing commands) (subst (AllByRecursion HasPads) (all_positions commands) all) in
    let gone : List Feature = flat_map features_at (positions_up_to_clearing commands) in
    let own : List Feature = flat_map features_at (positions_after_clearing commands) in
    let same : pads_of (left_of gone ++ own) ≡ pads_of own =
    filter_map-append (λ (f : Feature). pad_in f.what) (left_of gone) own ∙ ap (λ (l : List WidePad). l ++ pads_of own) (no_pads_left gone) in
    subst (AreWidePads commands) (sym same) (in_order (positions_after_clearing commands) counted)
