-- A text of the strict profile has no clear polarity, so its flashes and contours are those of the strict profile, and all that it draws stands.
use Rattle.layer_image.proofs.Common.{◌≡◌, ◌∙◌, ◌&&◌, ◌||◌, Bool, true, false, not, List, [], ◌∷◌, ◌++◌, map, Option, None, Some, refl, sym, ap, append-nil, if◌then◌else◌, option_map_or, cons_option, filter_map, flat_map, list_any, map-append, flat_map-cons, filter_map-append, with_prefixes_from, GridPoint, Pad, Command, sayable, without_places, Flash, contour_feature, dark_kind, features_at, flash_feature, strict_feature, strict_feature_of, strict_kind, strict_kind_of, strict_view, wide_features_of, added_flashes, flashes_of, state_after, plain, LayerImage, StrictLayers, What, drawn_at, uncleared_drawn, other_kind}
use Rattle.std.specs.Prelude.{option_map}
use Rattle.grid_units.proofs.BoolLemmas.{both_true, or_is_false}
use Rattle.pad_shapes.specs.Rounded.{GridRounded}
use Rattle.pad_shapes.specs.declared.row.Why.{Why}
use Rattle.gerber_commands.specs.declared.command.Command.TheVariants as command
use Rattle.gerber_text.specs.Sayable.{has_valid_fields, is_finish, is_sayable}
use Rattle.gerber_text.proofs.ProfileLemmas.{spells_more}
use Rattle.gerber_text.proofs.TextIsSayable.{text_sayable}
use Rattle.pad_shapes.specs.declared.drawn.Drawn.{Drawn}
use Rattle.layer_features.specs.declared.feature.FeatureKind.{FeatureKind}
use Rattle.layer_features.specs.declared.feature.FeatureKind.TheVariants as kind
use Rattle.layer_state.specs.declared.flash.What.TheVariants as what
use Rattle.pad_shapes.specs.declared.row.Why.TheVariants as why
use Rattle.layer_features.specs.Clearing.{is_clear_after}
use Rattle.layer_features.specs.Drawn.{draw_state_after, drawn_by, drawn_of}
use Rattle.layer_features.specs.FurtherPads.{CopperState, contours_in, copper_state_after, flashed_pad}
use Rattle.layer_features.proofs.ClearingLemmas.{all_uncleared, is_clear, stays_dark_after}
use Rattle.layer_features.proofs.DarkLayers.{all_features}
use Rattle.layer_image.proofs.KeptLemmas.{plain_of_flashes}
use Rattle.layer_image.proofs.WiderRules.{wider_legal}

-- a sayable command is not `%LPC*%`
not_clear : (c : Command) → is_sayable c ≡ true → is_clear c ≡ false
unfolding has_valid_fields
not_clear command.Clear h = absurd cc
not_clear c h = refl

none_clear : (cs : List Command) → sayable cs ≡ true → list_any is_clear cs ≡ false
none_clear [] h = refl
none_clear (c ∷ []) h = ap (λ (b : Bool). b || false) (not_clear c (both_true (is_sayable c) (is_finish c) h).0)
none_clear (c ∷ d ∷ cs) h =
    let first = both_true (is_sayable c) (not (is_finish c) && sayable (d ∷ cs)) h in
    let rest = both_true (not (is_finish c)) (sayable (d ∷ cs)) first.1 in
    λ i. not_clear c first.0 i || none_clear (d ∷ cs) rest.1 i

-- ---- flashes and contours

no_contours : (pads : List GridRounded) → strict_view (map contour_feature pads) ≡ []
no_contours [] = refl
no_contours (p ∷ ps) = no_contours ps

-- what the strict profile says of a flash in dark polarity
strict_flash : (s : CopperState) (at : GridPoint) (w : What) → strict_kind_of (dark_kind s at w) ≡ Some (strict_kind w)
strict_flash s at (what.Pad pad) = refl
strict_flash s at (what.Other reason) = by (flashed_pad s at) reason
  where
    by : (o : Option GridRounded) (r : Why) → strict_kind_of (option_map_or (λ pad. kind.Shape pad r) o (other_kind s r)) ≡ Some (kind.Other r)
    by (Some pad) r = refl
    by None why.Macro = refl
    by None why.Polygon = refl
    by None why.Holed = refl
    by None why.Scaled = refl
    by None why.Turned = refl

strict_flashes : (s : CopperState) (flashes : List Flash) → s.clearing.clear ≡ false → strict_view (map (flash_feature s) flashes) ≡ map strict_feature flashes
strict_flashes s [] dark = refl
strict_flashes s (f ∷ fs) dark = λ i. cons_option (option_map (λ (k : FeatureKind). record { at = f.at; what = k }) ((ap (λ (b : Bool). strict_kind_of (if b then kind.Clear else dark_kind s f.at f.what)) dark ∙ strict_flash s f.at f.what) i)) (strict_flashes s fs dark i)

strict_added : (p : List Command × Command) → is_clear_after p.0 ≡ false → strict_view (features_at p) ≡ map strict_feature (added_flashes (state_after p.0) p.1)
strict_added p dark =
    let s = copper_state_after p.0 in
    let flashes = added_flashes (state_after p.0) p.1 in
    filter_map-append strict_feature_of (map (flash_feature s) flashes) (map contour_feature (contours_in s p.1))
    ∙ (λ i. strict_flashes s flashes dark i ++ no_contours (contours_in s p.1) i) ∙ append-nil (map strict_feature flashes)

-- the flashes that a position adds
abbrev added_at : List Command × Command → List Flash
added_at p = added_flashes (state_after p.0) p.1

strict_from : (before cs : List Command) → is_clear_after before ≡ false → list_any is_clear cs ≡ false → strict_view (flat_map features_at (with_prefixes_from before cs)) ≡ map strict_feature (flat_map added_at (with_prefixes_from before cs))
strict_from before [] dark h = refl
strict_from before (c ∷ cs) dark h =
    let both = or_is_false (is_clear c) (list_any is_clear cs) h in
    let rest = with_prefixes_from (before ++ c ∷ []) cs in
    let still : is_clear_after (before ++ c ∷ []) ≡ false = stays_dark_after before c dark both.0 in
    ap strict_view (flat_map-cons features_at (before, c) rest)
    ∙ filter_map-append strict_feature_of (features_at (before, c)) (flat_map features_at rest)
    ∙ (λ i. strict_added (before, c) dark i ++ strict_from (before ++ c ∷ []) cs still both.1 i)
    ∙ sym (map-append strict_feature (added_flashes (state_after before) c) (flat_map added_at rest))
    ∙ sym (ap (map strict_feature) (flat_map-cons added_at (before, c) rest))

strict_of_dark : (commands : List Command) → list_any is_clear commands ≡ false → strict_view (wide_features_of commands) ≡ map strict_feature (flashes_of commands)
strict_of_dark commands h = ap strict_view (all_features commands h) ∙ strict_from [] commands refl h

-- ---- what is drawn

-- nothing is drawn
abbrev no_part : Option Drawn
no_part = None

drawn_from : (before cs : List Command) → is_clear_after before ≡ false → list_any is_clear cs ≡ false → filter_map drawn_at (with_prefixes_from before cs) ≡ filter_map (λ p. drawn_by (draw_state_after p.0) p.1) (with_prefixes_from before cs)
drawn_from before [] dark h = refl
drawn_from before (c ∷ cs) dark h =
    let both = or_is_false (is_clear c) (list_any is_clear cs) h in
    let still : is_clear_after (before ++ c ∷ []) ≡ false = stays_dark_after before c dark both.0 in
    λ i. cons_option (if dark i then no_part else drawn_by (draw_state_after before) c) (drawn_from (before ++ c ∷ []) cs still both.1 i)

drawn_of_dark : (commands : List Command) → list_any is_clear commands ≡ false → uncleared_drawn commands ≡ drawn_of commands
drawn_of_dark commands h = ap (filter_map drawn_at) (all_uncleared commands h) ∙ drawn_from [] commands refl h

pub strict_read : StrictLayers
strict_read text layer h =
    let commands = without_places layer.commands in
    let none = none_clear commands (text_sayable text layer.commands h.0.spells) in
    record {
      wide = (record { spells = spells_more text layer.commands h.0.spells; legal = wider_legal commands h.0.legal }, h.1);
      features = strict_of_dark commands none;
      pads = plain_of_flashes (flashes_of commands) ∙ ap (λ (l : List Pad). map plain l) (sym (ap (λ (l : LayerImage). l.pads) h.1));
      drawn = drawn_of_dark commands none;
    }
