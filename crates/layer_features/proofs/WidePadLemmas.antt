-- The pads among the flashes and contours of one command are those that it makes.
use Rattle.layer_features.proofs.Common.{◌≡◌, ◌∙◌, ◌&&◌, not, ℤ, Bool, true, false, List, [], ◌∷◌, ◌++◌, map, length, Option, None, Some, unwrap_or, refl, ap, arith, append-nil, if◌then◌else◌, option_map, option_map_or, option_or, cons_option, filter_map, GridPoint, Millimetre, GridRounded, WidePad, Command, Format, Flash, added_flashes, aperture_flashes, copies_at, current_of, current_unit, flash_at, flashes_of, what_at, state_after, MayFlash, copies_in, shapes_at, broken_rule_in, Profile, Part, is_clear_after, contour_of, region_parts, contour_feature, dark_kind, features_at, flash_feature, other_kind, pad_in, pads_of, CopperState, contours_in, copper_state_after, ended_regions, flashed_pad, has_room, is_room, selected_shape, draw_state_after, AreDarkPads, AreWidePadsOf, contour_after, contours_at, plot_state_after, wide_pad_at}
use Rattle.std.specs.Bool.{MatchBool}
use Rattle.grid_units.specs.declared.lengths.Unit.{Unit as Units}
use Rattle.pad_shapes.specs.declared.pad.Pad.{Pad}
use Rattle.pad_shapes.specs.declared.row.Why.{Why}
use Rattle.pad_shapes.specs.declared.row.Why.TheVariants as why
use Rattle.pad_shapes.specs.declared.wide_pad.WidePad.TheVariants.{Plain, Rounded}
use Rattle.gerber_commands.specs.declared.command.Action.TheVariants as action
use Rattle.gerber_commands.specs.declared.command.Command.TheVariants as command
use Rattle.gerber_commands.specs.declared.command.StepRepeat.{StepRepeat}
use Rattle.layer_state.specs.declared.aperture.Aperture.{Aperture}
use Rattle.layer_state.specs.Flashes as flash_lists
use Rattle.layer_state.specs.declared.flash.What.{What}
use Rattle.layer_state.specs.declared.flash.What.TheVariants as what
use Rattle.layer_features.specs.declared.feature.FeatureKind.TheVariants as kind
use Rattle.layer_features.proofs.LegalFlashes.{IsDefined, again_after, copies_are, keeps_rule, may_flash, pad_is as plain_pad_is, some_of, unit_is}
use Rattle.layer_features.proofs.PlotLemmas.{PartsAgree}
use Rattle.layer_features.proofs.SelectedShapes.{shape_is_selected}

-- ---- one flash

-- what is no pad by its aperture nor by its shape is none
no_pad : (s : CopperState) (reason : Why) → pad_in (other_kind s reason) ≡ None
no_pad s why.Macro = refl
no_pad s why.Polygon = refl
no_pad s why.Holed = refl
no_pad s why.Scaled = refl
no_pad s why.Turned = refl

-- a flash leaves the pad of its aperture, and where it has none that of its shape
pad_of : (s : CopperState) (p : GridPoint) (w : What) → pad_in (dark_kind s p w) ≡ option_or (option_map Plain (flash_lists.pad_in w)) (option_map Rounded (flashed_pad s p))
pad_of s p (what.Pad pad) = refl
pad_of s p (what.Other reason) = by (flashed_pad s p)
  where
    by : (o : Option GridRounded) → pad_in (option_map_or (λ pad. kind.Shape pad reason) o (other_kind s reason)) ≡ option_map Rounded o
    by None = no_pad s reason
    by (Some pad) = refl

-- the flash of an aperture leaves the pad of the relation
pad_is : (before : List Command) (unit : Units) (selected : Aperture) (p : GridPoint)
    → pad_in (dark_kind (copper_state_after before) p (what_at p unit (state_after before).scale (state_after before).turn selected)) ≡ wide_pad_at unit before selected (selected_shape (draw_state_after before)) p
pad_is before unit selected p =
    let s = copper_state_after before in
    pad_of s p (what_at p unit (state_after before).scale (state_after before).turn selected)
    ∙ ap (λ (o : Option Pad). option_or (option_map Plain o) (option_map Rounded (flashed_pad s p))) (plain_pad_is p unit (state_after before).scale (state_after before).turn selected)

-- ---- the flashes of a command

none_in_clear : (s : CopperState) → s.clearing.clear ≡ true → (flashes : List Flash) → pads_of (map (flash_feature s) flashes) ≡ []
none_in_clear s clear [] = refl
none_in_clear s clear (f ∷ fs) = λ i. cons_option (pad_in (if clear i then kind.Clear else dark_kind s f.at f.what)) (none_in_clear s clear fs i)

in_dark : (before : List Command) (selected : Aperture) → is_clear_after before ≡ false → (ps : List GridPoint)
    → pads_of (map (flash_feature (copper_state_after before)) (map (flash_at (state_after before) selected) ps)) ≡ filter_map (wide_pad_at (current_unit (current_of (state_after before))) before selected (selected_shape (draw_state_after before))) ps
in_dark before selected dark [] = refl
in_dark before selected dark (p ∷ ps) =
    let w = what_at p (current_unit (current_of (state_after before))) (state_after before).scale (state_after before).turn selected in
    let one = ap (λ (b : Bool). pad_in (if b then kind.Clear else dark_kind (copper_state_after before) p w)) dark ∙ pad_is before (current_unit (current_of (state_after before))) selected p in
    λ i. cons_option (one i) (in_dark before selected dark ps i)

flash_pads : (before : List Command) (x y i j : Option ℤ) (unit : Units) (format : Format) (selected : Aperture) → is_clear_after before ≡ false → MayFlash (state_after before) unit format selected
    → pads_of (features_at (before, command.Operate action.Flash x y i j)) ≡ filter_map (wide_pad_at unit before selected (selected_shape (draw_state_after before))) (copies_in unit format (state_after before) x y)
flash_pads before x y i j unit format selected dark may =
    let s = state_after before in
    ap pads_of (append-nil (map (flash_feature (copper_state_after before)) (added_flashes s (command.Operate action.Flash x y i j))))
    ∙ ap (λ (o : Option Aperture). pads_of (map (flash_feature (copper_state_after before)) (option_map_or (aperture_flashes s x y) o []))) may.selected
    ∙ in_dark before selected dark (copies_at s x y)
    ∙ (λ k. filter_map (wide_pad_at (unit_is s unit format selected may k) before selected (selected_shape (draw_state_after before))) (copies_are s x y unit format selected may k))

-- ---- the contours of a command

contour_pads : (shapes : List GridRounded) → pads_of (map contour_feature shapes) ≡ map Rounded shapes
contour_pads [] = refl
contour_pads (shape ∷ shapes) = ap (λ (l : List WidePad). Rounded shape ∷ l) (contour_pads shapes)

no_contours : (s : CopperState) (c : Command) → s.clearing.clear ≡ true → contours_in s c ≡ []
no_contours s command.RegionEnd clear = (λ i. contours_where s (s.draw.now.in_region && (not (clear i) && has_room s))) ∙ by s.draw.now.in_region
  where
    contours_where : CopperState → Bool → List GridRounded
    contours_where t b = option_map_or (shapes_at (unwrap_or t.draw.now.unit Millimetre) t.draw.now.block) (if b then contour_of t.parts else None) []

    by : (b : Bool) → contours_where s (b && false) ≡ []
    by true = refl
    by false = refl
no_contours s c clear = refl

-- before a unit a region has no parts, and so no contour
copied : (unit : Option Units) (block : StepRepeat) (b : Bool) (parts : List Part) → (unit ≡ None → parts ≡ [])
    → option_map_or (shapes_at (unwrap_or unit Millimetre) block) (if b then contour_of parts else None) [] ≡ contours_at unit block (if b then contour_of parts else None)
copied (Some unit) block b parts none = by (if b then contour_of parts else None)
  where
    by : (o : Option GridRounded) → option_map_or (shapes_at unit block) o [] ≡ contours_at (Some unit) block o
    by None = refl
    by (Some contour) = refl
copied None block true parts none = ap (λ (l : List Part). option_map_or (shapes_at Millimetre block) (contour_of l) []) (none refl)
copied None block false parts none = refl

region_pads : (before : List Command) → is_clear_after before ≡ false → PartsAgree before → contours_in (copper_state_after before) command.RegionEnd ≡ contours_at (state_after before).unit (state_after before).block (contour_after before)
region_pads before dark agree =
    let s = state_after before in
    let room = is_room (ended_regions before) (state_after before).block in
    (λ i. option_map_or (shapes_at (unwrap_or s.unit Millimetre) (state_after before).block) (if s.in_region && (not (dark i) && room) then contour_of (agree.same i) else None) [])
    ∙ copied s.unit (state_after before).block (s.in_region && room) (region_parts plot_state_after before) agree.none

-- ---- all pads of a command

dark_pads : (profile : Profile) (before : List Command) (c : Command) → IsDefined (state_after before) → PartsAgree before → broken_rule_in profile before c ≡ None → is_clear_after before ≡ false → AreDarkPads before c (pads_of (features_at (before, c)))
dark_pads profile before (command.Operate action.Flash x y i j) defined agree legal dark =
    let s = state_after before in
    let c : Command = command.Operate action.Flash x y i j in
    let count = length (flashes_of before) in
    let may = may_flash (again_after profile before c) s count x y i j defined legal in
    let number = some_of s.selected (keeps_rule (again_after profile before c) s count c 9 legal (omega arith)) in
    (may.0, may.1, may.2, selected_shape (draw_state_after before), may.3, shape_is_selected before number.0 number.1, flash_pads before x y i j may.0 may.1 may.2 dark may.3)
dark_pads profile before command.RegionEnd defined agree legal dark = contour_pads (contours_in (copper_state_after before) command.RegionEnd) ∙ ap (map Rounded) (region_pads before dark agree)
dark_pads profile before c defined agree legal dark = refl

clear_pads : (before : List Command) (c : Command) → is_clear_after before ≡ true → pads_of (features_at (before, c)) ≡ []
clear_pads before c clear =
    let s = copper_state_after before in
    ap (λ (l : List GridRounded). pads_of (map (flash_feature s) (added_flashes (state_after before) c) ++ map contour_feature l)) (no_contours s c clear)
    ∙ ap pads_of (append-nil (map (flash_feature s) (added_flashes (state_after before) c)))
    ∙ none_in_clear s clear (added_flashes (state_after before) c)

-- a command that breaks no rule makes the pads among its flashes and contours
pub pads_at : (profile : Profile) (before : List Command) (c : Command) → IsDefined (state_after before) → PartsAgree before → broken_rule_in profile before c ≡ None → AreWidePadsOf before c (pads_of (features_at (before, c)))
pads_at profile before c defined agree legal = by (is_clear_after before) refl
  where
    by : (b : Bool) → is_clear_after before ≡ b → MatchBool b (pads_of (features_at (before, c)) ≡ []) (AreDarkPads before c (pads_of (features_at (before, c))))
    by true clear = clear_pads before c clear
    by false dark = dark_pads profile before c defined agree legal dark
