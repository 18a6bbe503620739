-- What one more command changes of further copper.
use Rattle.layer_features.proofs.Common.{last_or-more, last_set-more, mirroring_set, mode_set, no_mirroring, option_and_then, quadrant_set, ◌≡◌, ◌∙◌, ℕ, ℤ, suc, ◌+◌, ◌&&◌, ◌||◌, ◌≤◌, length, length-append, take_all, inl, inr, Bool, true, false, not, map, None, OnOk, Result, Ok, Err, List, [], ◌∷◌, ◌++◌, Option, Some, refl, sym, ap, subst, arith, append-nil, append_assoc, min, if◌then◌else◌, cons_option, filter_map, sum_by, filter_map-append, sum_by_push, with_prefixes, with_prefixes-append, Command, cases_order, option_map_or, GridRounded, Flash, added_flashes, current_unit, current_of, state_after, DrawState, draw_state_after, current_unit, drawn_by, Current, Selection, after_command, draw_state, selection, selection_after, selected_after, Part, copy_count, is_repeated, clears_all, is_drawing, positions_after_clearing, shapes_at, PlotState, contour_of, in_last_region, part_by, region_parts, starts_region, CopperState, clears_in, contours_in, copper_state_after, ended_copies, ended_regions, has_room, max_regions, plot_state, Feature, added_features, contour_feature, features_at, flash_feature, taken_away, wide_features_of, KeepsFeatures, keeps_drawn, keeps_rows, WidePad, IsLike, MakeSameContour, after, with_capped_regions, copper_state, takes_part, with_parts}
use Rattle.std.proofs.Common.{nat_le}
use Rattle.std.proofs.lemmas.List.{length-take, take-append-le}
use Rattle.gerber_commands.specs.declared.command.Action.{Action}
use Rattle.gerber_commands.specs.declared.command.Interpolation.{Interpolation}
use Rattle.gerber_commands.specs.declared.command.Interpolation.TheVariants.{Linear}
use Rattle.gerber_commands.specs.Rows.{modes_of}
use Rattle.gerber_commands.specs.declared.command.Command.TheVariants as command
use Rattle.gerber_text.specs.FastPath.{text_command}
use Rattle.gerber_text.specs.declared.fast_path.LeadingOperation.{LeadingOperation}
use Rattle.gerber_text.specs.declared.text_items.TextKind.{TextKind}
use Rattle.gerber_text.specs.declared.text_items.TextKind.TheVariants as kinds
use Rattle.pad_shapes.specs.declared.drawn.Drawn.{Drawn}
use Rattle.layer_state.proofs.DigitLemmas.{test_no, test_yes}
use Rattle.layer_state.proofs.StateLemmas.{defined_numbered-more, state_after-more}
use Rattle.layer_features.specs.Contours.{part_of}
use Rattle.layer_features.specs.Inner.States.{command_of}
use Rattle.layer_features.specs.DrawnCopper.{dark_part, drawn_at, first_parts, uncleared_drawn}
use Rattle.layer_state.specs.Inner.IsStateAfter.{current_after}
use Rattle.layer_state.specs.declared.tables.Defined.{Defined}
use Rattle.layer_features.specs.declared.copper.Copper.{Copper}
use Rattle.layer_features.specs.declared.drawing.Drawing.{Drawing}
use Rattle.layer_features.specs.declared.plotter.Setting.{Setting}
use Rattle.layer_features.specs.CopperHolding.{HasMet, IsPassed, IsSettingOf}
use Rattle.layer_features.specs.declared.keep.Keep.{Keep}
use Rattle.layer_features.specs.declared.kept_features.KeptFeatures.{KeptFeatures}
use Rattle.layer_features.proofs.ClearingLemmas.{after_last-more, clearing_after-more}
use Rattle.layer_features.proofs.ForgettingLemmas.{none_added}
use Rattle.layer_features.proofs.StandingLemmas.{uncleared-more, wide_features_of-more}

-- the state after one more command
draw_state_after-more : (before : List Command) (c : Command) → draw_state_after (before ++ c ∷ []) ≡ after_command (selection_after (before ++ c ∷ [])) c (draw_state_after before)
draw_state_after-more before c = λ i. record {
  now = current_of (state_after (before ++ c ∷ []));
  aperture = selected_after (before ++ c ∷ []);
  mode = last_or-more mode_set Linear before c i;
  quadrant = last_set-more quadrant_set before c i;
  mirroring = last_or-more mirroring_set no_mirroring before c i;
}

-- the parts of the last region with one more command
pub region_parts-more : (meets : List Command → PlotState) (before : List Command) (c : Command)
    → region_parts meets (before ++ c ∷ []) ≡ (if starts_region c then [] else region_parts meets before ++ cons_option (part_by (meets before) c) [])
region_parts-more meets before c =
    let part_at : List Command × Command → Option Part = λ q. part_by (meets q.0) q.1 in
    ap (λ (l : List (List Command × Command)). filter_map part_at (in_last_region l)) (with_prefixes-append before (c ∷ []))
    ∙ ap (filter_map part_at) (after_last-more (λ (p : List Command × Command). starts_region p.1) (with_prefixes before) (before, c)) ∙ by part_at (starts_region c)
  where
    by : (part_at : List Command × Command → Option Part) (b : Bool) → filter_map part_at (if b then [] else in_last_region (with_prefixes before) ++ (before, c) ∷ []) ≡ (if b then [] else filter_map part_at (in_last_region (with_prefixes before)) ++ cons_option (part_at (before, c)) [])
    by part_at true = refl
    by part_at false = filter_map-append part_at (in_last_region (with_prefixes before)) ((before, c) ∷ [])

capped_sum : (s k most : ℕ) → min (s + k) most ≡ min (min s most + k) most
capped_sum s k most = omega arith

ended_regions-more : (before : List Command) (c : Command) → ended_regions (before ++ c ∷ []) ≡ ended_regions before + ended_copies (state_after before).block c
ended_regions-more before c =
    let gives : List Command × Command → ℕ = λ q. ended_copies (state_after q.0).block q.1 in
    ap (sum_by gives) (with_prefixes-append before (c ∷ [])) ∙ sum_by_push gives (with_prefixes before) (before, c)

-- the state after one more command
copper_state_after-more : (before : List Command) (c : Command) → with_capped_regions (copper_state_after (before ++ c ∷ [])) ≡ after (selection_after (before ++ c ∷ [])) c (with_capped_regions (copper_state_after before))
copper_state_after-more before c = λ i. record {
  draw = draw_state_after-more before c i;
  parts = region_parts-more (λ p. plot_state (draw_state_after p)) before c i;
  regions = (ap (λ (n : ℕ). min n (suc max_regions)) (ended_regions-more before c) ∙ capped_sum (ended_regions before) (ended_copies (state_after before).block c) (suc max_regions)) i;
  clearing = clearing_after-more before c i;
}

-- ---- the flashes and contours with one more command

-- the most is not passed by a count that goes no further than one more
room_capped : (r k : ℕ) → nat_le (min r (suc max_regions) + k) max_regions ≡ nat_le (r + k) max_regions
room_capped r k = elim (cases_order (min (r + k) (suc max_regions)) (suc max_regions)) [
  | inl most ↦ test_no (min r (suc max_regions) + k) max_regions (omega (arith, most)) ∙ sym (test_no (r + k) max_regions (omega (arith, most)))
  | inr (inl less) ↦ test_yes (min r (suc max_regions) + k) max_regions (omega (arith, less)) ∙ sym (test_yes (r + k) max_regions (omega (arith, less)))
  | inr (inr more) ↦ absurd (omega (arith, more))
]

contours_capped : (s : CopperState) (c : Command) → contours_in (with_capped_regions s) c ≡ contours_in s c
contours_capped s command.RegionEnd =
    ap (λ (room : Bool). option_map_or (shapes_at (current_unit s.draw.now) s.draw.now.block) (if s.draw.now.in_region && (not s.clearing.clear && room) then contour_of s.parts else None) []) (room_capped s.regions (copy_count s.draw.now.block))
contours_capped s c = refl

-- ---- a state that stands for another

pub like_itself : (s : CopperState) → IsLike s s
like_itself s = record { rest = refl; parts = λ more. refl }

like_like : (s t u : CopperState) → IsLike s t → IsLike t u → IsLike s u
like_like s t u h k = record { rest = ap (with_parts u.parts) h.rest ∙ k.rest; parts = λ more. h.parts more ∙ k.parts more }

-- so it does after one more command
after_like : (next : Selection) (c : Command) (s t : CopperState) → IsLike s t → IsLike (after next c s) (after next c t)
after_like next c s t h = record {
  rest = ap (λ (u : CopperState). with_parts (after next c t).parts (after next c u)) h.rest;
  parts = λ more. by more (starts_region c);
}
  where
    draws : s.draw ≡ t.draw
    draws = ap (λ (u : CopperState). u.draw) h.rest

    by : (more : List Part) (b : Bool) → contour_of ((if b then [] else s.parts ++ cons_option (part_by (plot_state s.draw) c) []) ++ more) ≡ contour_of ((if b then [] else t.parts ++ cons_option (part_by (plot_state t.draw) c) []) ++ more)
    by more true = refl
    by more false =
        ap contour_of (append_assoc s.parts (cons_option (part_by (plot_state s.draw) c) []) more) ∙ h.parts (cons_option (part_by (plot_state s.draw) c) [] ++ more)
        ∙ ap contour_of (sym (append_assoc t.parts (cons_option (part_by (plot_state s.draw) c) []) more))
        ∙ ap (λ (d : DrawState). contour_of ((t.parts ++ cons_option (part_by (plot_state d) c) []) ++ more)) draws

same_contour : (kept parts : List Part) → MakeSameContour kept parts → contour_of kept ≡ contour_of parts
same_contour kept parts same = ap contour_of (sym (append-nil kept)) ∙ same [] ∙ ap contour_of (append-nil parts)

-- the contours of a command are the same
contours_like : (s t : CopperState) (c : Command) → IsLike s t → contours_in s c ≡ contours_in t c
contours_like s t c h = by c ∙ ap (λ (u : CopperState). contours_in u c) h.rest
  where
    by : (d : Command) → contours_in s d ≡ contours_in (with_parts t.parts s) d
    by command.RegionEnd = ap (λ (o : Option GridRounded). option_map_or (shapes_at (current_unit s.draw.now) s.draw.now.block) (if s.draw.now.in_region && (not s.clearing.clear && has_room s) then o else None) []) (same_contour s.parts t.parts h.parts)
    by d = refl

-- and so is what it adds
added_like : (s t : CopperState) (flashes : List Flash) (c : Command) → IsLike s t → added_features s flashes c ≡ added_features t flashes c
added_like s t flashes c h = λ i. map (flash_feature (h.rest i)) flashes ++ map contour_feature (contours_like s t c h i)

clears_like : (s t : CopperState) (c : Command) → IsLike s t → clears_in s c ≡ clears_in t c
clears_like s t c h = ap (λ (u : CopperState). clears_in u c) h.rest

-- ---- one command more

-- what a command draws was added, where that is asked for, or all that was drawn was taken away
pub record IsDrawn (now : Selection) (old : Copper) (c : Command) (drawn : Copper) : Type 0 where
  pub parts : drawn.drawing.parts.items ≡ (if clears_in (copper_state now old) c then [] else old.drawing.parts.items ++ (if takes_part old.drawing then cons_option (dark_part (copper_state now old) c) [] else []))
  pub asked : drawn.drawing.asked ≡ old.drawing.asked
  pub state : copper_state now drawn ≡ copper_state now old
  pub kept : drawn.kept ≡ old.kept

-- the flashes and contours of a command were added
pub record IsAdded (now : Selection) (old : Copper) (c : Command) (own : List Flash) (added : Copper) : Type 0 where
  pub kept : (taken : List WidePad) (features : List Feature) → KeepsFeatures old.kept taken features → KeepsFeatures added.kept taken (features ++ added_features (copper_state now old) own c)
  pub rows : added.kept.rows ≡ old.kept.rows
  pub state : copper_state now added ≡ copper_state now old
  pub drawing : added.drawing ≡ old.drawing

-- all of them were taken away where the command does
pub record IsMarked (now : Selection) (old : Copper) (c : Command) (marked : Copper) : Type 0 where
  pub kept : (taken : List WidePad) (features : List Feature) → KeepsFeatures old.kept taken features → KeepsFeatures marked.kept taken (if clears_in (copper_state now old) c then filter_map taken_away features else features)
  pub rows : marked.kept.rows ≡ old.kept.rows
  pub state : copper_state now marked ≡ copper_state now old
  pub drawing : marked.drawing ≡ old.drawing

-- the state stands for that after the command
pub record IsAdvanced (now : Selection) (old : Copper) (c : Command) (new : Copper) : Type 0 where
  pub state : (next : Selection) → IsLike (copper_state next new) (after next c (copper_state now old))
  pub kept : new.kept ≡ old.kept
  pub drawing : new.drawing ≡ old.drawing

-- what is drawn and not taken away, with one more command
uncleared_drawn-more : (before : List Command) (c : Command) → uncleared_drawn (before ++ c ∷ []) ≡ (if clears_all (before, c) then [] else uncleared_drawn before ++ cons_option (drawn_at (before, c)) [])
uncleared_drawn-more before c = ap (filter_map drawn_at) (uncleared-more before c) ∙ by (clears_all (before, c))
  where
    by : (b : Bool) → filter_map drawn_at (if b then [] else positions_after_clearing before ++ (before, c) ∷ []) ≡ (if b then [] else filter_map drawn_at (positions_after_clearing before) ++ cons_option (drawn_at (before, c)) [])
    by true = refl
    by false = filter_map-append drawn_at (positions_after_clearing before) ((before, c) ∷ [])

-- a part more is kept where there are no more than a picture shows
abbrev taken : List Drawn → Option Drawn → List Drawn
taken parts part = parts ++ (if nat_le (length parts) 100000 then cons_option part [] else [])

one_part : (o : Option Drawn) → length (cons_option o []) ≤ 1
one_part None = omega arith
one_part (Some d) = omega arith

first_more : (parts : List Drawn) (o : Option Drawn) → taken (first_parts parts) o ≡ first_parts (parts ++ cons_option o [])
first_more parts o = elim (cases_order (length parts) 100001) [
  | inl same ↦ full (omega (arith, same))
  | inr (inl less) ↦
      let all : first_parts parts ≡ parts = take_all 100001 parts (omega (arith, less)) in
      (λ i. taken (all i) o) ∙ ap (λ (b : Bool). parts ++ (if b then cons_option o [] else [])) (test_yes (length parts) 100000 (omega (arith, less)))
      ∙ sym (take_all 100001 (parts ++ cons_option o []) (omega (arith, less, one_part o, length-append parts (cons_option o []))))
  | inr (inr more) ↦ full (omega (arith, more))
]
  where
    full : 100001 ≤ length parts → taken (first_parts parts) o ≡ first_parts (parts ++ cons_option o [])
    full most =
        ap (λ (b : Bool). first_parts parts ++ (if b then cons_option o [] else [])) (test_no (length (first_parts parts)) 100000 (omega (arith, most, length-take 100001 parts)))
        ∙ append-nil (first_parts parts) ∙ sym (take-append-le 100001 parts (cons_option o []) most)

-- and where it is asked for
drawn-more : (draws asked clears : Bool) (commands : List Command) (c : Command) (part : Option Drawn) (parts : List Drawn) → asked ≡ draws → clears ≡ clears_all (commands, c) → part ≡ drawn_at (commands, c) → parts ≡ (if draws then first_parts (uncleared_drawn commands) else [])
    → (if clears then [] else parts ++ (if asked && nat_le (length parts) 100000 then cons_option part [] else [])) ≡ (if draws then first_parts (uncleared_drawn (commands ++ c ∷ [])) else [])
drawn-more draws asked clears commands c part parts same clears_is part_is are =
    (λ i. if clears_is i then [] else are i ++ (if same i && nat_le (length (are i)) 100000 then cons_option (part_is i) [] else [])) ∙ by draws (clears_all (commands, c)) refl
  where
    kept : Bool → List Drawn
    kept b = if b then first_parts (uncleared_drawn commands) else []

    by : (b t : Bool) → clears_all (commands, c) ≡ t → (if t then [] else kept b ++ (if b && nat_le (length (kept b)) 100000 then cons_option (drawn_at (commands, c)) [] else [])) ≡ (if b then first_parts (uncleared_drawn (commands ++ c ∷ [])) else [])
    by true true e = ap first_parts (ap (λ (u : Bool). if u then [] else uncleared_drawn commands ++ cons_option (drawn_at (commands, c)) []) (sym e) ∙ sym (uncleared_drawn-more commands c))
    by true false e = first_more (uncleared_drawn commands) (drawn_at (commands, c))
        ∙ ap first_parts (ap (λ (u : Bool). if u then [] else uncleared_drawn commands ++ cons_option (drawn_at (commands, c)) []) (sym e) ∙ sym (uncleared_drawn-more commands c))
    by false true e = refl
    by false false e = refl

-- ---- the aperture that is selected

-- the state with this aperture selected
abbrev with_aperture : Option Defined → CopperState → CopperState
with_aperture a s = record { draw = record { now = s.draw.now; aperture = a; mode = s.draw.mode; quadrant = s.draw.quadrant; mirroring = s.draw.mirroring }; parts = s.parts; regions = s.regions; clearing = s.clearing }

-- with this aperture selected, a command draws what it does after these, and flashes it
pub record IsAsSelected (a : Option Defined) (commands : List Command) (c : Command) (own : List Flash) : Type 0 where
  pub part : dark_part (with_aperture a (copper_state_after commands)) c ≡ drawn_at (commands, c)
  pub flashes : map (flash_feature (with_aperture a (copper_state_after commands))) own ≡ map (flash_feature (copper_state_after commands)) (added_flashes (state_after commands) c)

as_itself : (commands : List Command) (c : Command) (own : List Flash) → own ≡ added_flashes (state_after commands) c → IsAsSelected (selected_after commands) commands c own
as_itself commands c own own_is = record { part = refl; flashes = ap (map (flash_feature (copper_state_after commands))) own_is }

-- an operation defines no aperture, and no other command uses the one that is selected
pub as_selected : (setting : Setting) (commands : List Command) (c : Command) (own : List Flash) → IsSettingOf setting commands c → own ≡ added_flashes (state_after commands) c → IsAsSelected (selection setting).aperture commands c own
as_selected setting commands (command.Operate a x y i j) own is own_is =
    let same = is.apertures ∙ (λ k number. defined_numbered-more commands (command.Operate a x y i j) number k) in
    subst (λ (d : Option Defined). IsAsSelected d commands (command.Operate a x y i j) own) (sym (λ k. option_and_then (same k) (is.current k).selected)) (as_itself commands (command.Operate a x y i j) own own_is)
as_selected setting commands c own is own_is = record { part = refl; flashes = ap (map (flash_feature (with_aperture (selection setting).aperture (copper_state_after commands)))) own_is }

-- these commands and one more were met
met_next : (a : Option Defined) (keep : Keep) (taken : List WidePad) (old drawn added marked new : Copper) (own : List Flash) (commands : List Command) (c : Command)
    → HasMet keep taken old commands → IsAsSelected a commands c own → (let now : Selection = record { now = current_of (state_after commands); aperture = a } in IsDrawn now old c drawn → IsAdded now drawn c own added → IsMarked now added c marked → IsAdvanced now marked c new → HasMet keep taken new (commands ++ c ∷ []))
met_next a keep taken old drawn added marked new own commands c met alike is_drawn is_added is_marked advanced =
    let now : Selection = record { now = current_of (state_after commands); aperture = a } in
    let then_state : CopperState = copper_state_after commands in
    let right : CopperState = with_aperture a (with_capped_regions then_state) in
    let next : Selection = selection_after (commands ++ c ∷ []) in
    let here : IsLike (copper_state now old) right = record { rest = ap (with_aperture a) met.state.rest; parts = met.state.parts } in
    let features : List Feature = wide_features_of commands in
    let more : List Feature = features_at (commands, c) in
    let added_state : copper_state now added ≡ copper_state now old = is_added.state ∙ is_drawn.state in
    let more_is : added_features (copper_state now drawn) own c ≡ more =
    (λ i. added_features (is_drawn.state i) own c) ∙ added_like (copper_state now old) right own c here ∙ (λ i. alike.flashes i ++ map contour_feature (contours_capped then_state c i)) in
    let clears : clears_in (copper_state now added) c ≡ clears_all (commands, c) = ap (λ (s : CopperState). clears_in s c) added_state ∙ clears_like (copper_state now old) right c here in
    let state : IsLike (after next c (copper_state now marked)) (with_capped_regions (copper_state_after (commands ++ c ∷ []))) =
    subst (λ (s : CopperState). IsLike (after next c s) (with_capped_regions (copper_state_after (commands ++ c ∷ [])))) (sym (is_marked.state ∙ added_state))
    (subst (IsLike (after next c (copper_state now old))) (sym (copper_state_after-more commands c)) (after_like next c (copper_state now old) right here)) in
    let kept_drawn : KeepsFeatures drawn.kept taken features = subst (λ (k : KeptFeatures). KeepsFeatures k taken features) (sym is_drawn.kept) met.kept in
    let kept_added : KeepsFeatures added.kept taken (features ++ more) = subst (λ (l : List Feature). KeepsFeatures added.kept taken (features ++ l)) more_is (is_added.kept taken features kept_drawn) in
    let left : (if clears_in (copper_state now added) c then filter_map taken_away (features ++ more) else features ++ more) ≡ wide_features_of (commands ++ c ∷ []) =
    ap (λ (b : Bool). if b then filter_map taken_away (features ++ more) else features ++ more) clears ∙ sym (wide_features_of-more commands c) in
    let kept_marked : KeepsFeatures marked.kept taken (wide_features_of (commands ++ c ∷ [])) = subst (KeepsFeatures marked.kept taken) left (is_marked.kept taken (features ++ more) kept_added) in
    record {
      state = like_like (copper_state next new) (after next c (copper_state now marked)) (with_capped_regions (copper_state_after (commands ++ c ∷ []))) (advanced.state next) state;
      rows = ap (λ (k : KeptFeatures). k.rows) advanced.kept ∙ is_marked.rows ∙ is_added.rows ∙ ap (λ (k : KeptFeatures). k.rows) is_drawn.kept ∙ met.rows;
      kept = subst (λ (k : KeptFeatures). KeepsFeatures k taken (wide_features_of (commands ++ c ∷ []))) (sym advanced.kept) kept_marked;
      asked = ap (λ (d : Drawing). d.asked) (advanced.drawing ∙ is_marked.drawing ∙ is_added.drawing) ∙ is_drawn.asked ∙ met.asked;
      drawn = ap (λ (d : Drawing). d.parts.items) (advanced.drawing ∙ is_marked.drawing ∙ is_added.drawing) ∙ is_drawn.parts
          ∙ drawn-more (keeps_drawn keep) old.drawing.asked (clears_in (copper_state now old) c) commands c (dark_part (copper_state now old) c) old.drawing.parts.items met.asked (clears_like (copper_state now old) right c here)
          (ap (λ (s : CopperState). dark_part s c) here.rest ∙ alike.part) met.drawn;
    }

pub met_more : (now : Selection) (keep : Keep) (taken : List WidePad) (old drawn added marked new : Copper) (own : List Flash) (commands : List Command) (c : Command) → HasMet keep taken old commands → now.now ≡ current_of (state_after commands) → IsAsSelected now.aperture commands c own
    → IsDrawn now old c drawn → IsAdded now drawn c own added → IsMarked now added c marked → IsAdvanced now marked c new → HasMet keep taken new (commands ++ c ∷ [])
met_more now keep taken old drawn added marked new own commands c met now_is alike =
    subst (λ (n : Current). let s : Selection = record { now = n; aperture = now.aperture } in IsDrawn s old c drawn → IsAdded s drawn c own added → IsMarked s added c marked → IsAdvanced s marked c new → HasMet keep taken new (commands ++ c ∷ [])) (sym now_is)
    (met_next now.aperture keep taken old drawn added marked new own commands c met alike)

-- ---- an operation that draws nothing and takes nothing away

-- the flashes of an operation were added
pub record IsFlashed (now : Selection) (old : Copper) (own : List Flash) (added : Copper) : Type 0 where
  pub kept : (taken : List WidePad) (features : List Feature) → KeepsFeatures old.kept taken features → KeepsFeatures added.kept taken (features ++ map (flash_feature (copper_state now old)) own)
  pub rows : added.kept.rows ≡ old.kept.rows
  pub state : copper_state now added ≡ copper_state now old
  pub drawing : added.drawing ≡ old.drawing

-- the region has gone on with an operation
pub record IsMovedOn (now : Selection) (added : Copper) (c : Command) (new : Copper) : Type 0 where
  pub plotter : new.plotter ≡ added.plotter
  pub parts : MakeSameContour new.parts.items (added.parts.items ++ cons_option (part_by (plot_state (draw_state now added.plotter)) c) [])
  pub regions : new.regions ≡ added.regions
  pub clearing : new.clearing ≡ added.clearing
  pub kept : new.kept ≡ added.kept
  pub drawing : new.drawing ≡ added.drawing

regions_stay : (r s : ℕ) → r ≡ min s (suc max_regions) → r ≡ min (r + 0) (suc max_regions)
regions_stay r s h = omega (arith, h)

no_clearing : (b d : Bool) → ((b && false) || (d && false)) ≡ false
no_clearing true true = refl
no_clearing true false = refl
no_clearing false true = refl
no_clearing false false = refl

still_dark : (b : Bool) → false ≡ ((b && false) || false)
still_dark true = refl
still_dark false = refl

-- an operation is no start of a region, so its part is added
operation_stays : (now next : Selection) (added new : Copper) (a : Action) (x y i j : Option ℤ) → added.clearing.clear ≡ false → added.clearing.in_block ≡ false → added.regions ≡ min (added.regions + 0) (suc max_regions)
    → IsMovedOn now added (command.Operate a x y i j) new → IsLike (copper_state next new) (after next (command.Operate a x y i j) (copper_state now added))
operation_stays now next added new a x y i j dark fresh regions moved = record {
  rest = λ k. record {
    draw = draw_state next (moved.plotter k);
    parts = added.parts.items ++ cons_option (part_by (plot_state (draw_state now added.plotter)) (command.Operate a x y i j)) [];
    regions = (moved.regions ∙ regions) k;
    clearing = (moved.clearing ∙ (λ l. record { clear = added.clearing.clear; in_block = (fresh ∙ still_dark (is_drawing a) ∙ (λ m. (is_drawing a && sym dark m) || sym fresh m)) l })) k;
  };
  parts = moved.parts;
}

-- these commands and an operation were met
pub operation_more : (now : Selection) (keep : Keep) (taken : List WidePad) (old added new : Copper) (own : List Flash) (commands : List Command) (a : Action) (x y i j : Option ℤ)
    → old.drawing.asked ≡ false → old.clearing.clear ≡ false → old.clearing.in_block ≡ false
    → HasMet keep taken old commands → now.now ≡ current_of (state_after commands) → IsAsSelected now.aperture commands (command.Operate a x y i j) own
    → IsFlashed now old own added → IsMovedOn now added (command.Operate a x y i j) new → HasMet keep taken new (commands ++ command.Operate a x y i j ∷ [])
operation_more now keep taken old added new own commands a x y i j idle dark fresh met now_is alike flashed moved =
    let c = command.Operate a x y i j in
    let takes_nothing : clears_in (copper_state now old) c ≡ false = (λ k. (is_drawing a && dark k) || (is_repeated now.now.block && fresh k)) ∙ no_clearing (is_drawing a) (is_repeated now.now.block) in
    let now_dark : added.clearing.clear ≡ false = ap (λ (s : CopperState). s.clearing.clear) flashed.state ∙ dark in
    let now_fresh : added.clearing.in_block ≡ false = ap (λ (s : CopperState). s.clearing.in_block) flashed.state ∙ fresh in
    let regions : added.regions ≡ min (ended_regions commands) (suc max_regions) = ap (λ (s : CopperState). s.regions) flashed.state ∙ ap (λ (s : CopperState). s.regions) met.state.rest in
    met_more now keep taken old old added added new own commands c met now_is alike (record {
      parts = sym (append-nil old.drawing.parts.items) ∙ (λ k. if sym takes_nothing k then [] else old.drawing.parts.items ++ (if sym idle k && nat_le (length old.drawing.parts.items) 100000 then cons_option (dark_part (copper_state now old) c) [] else []));
      asked = refl;
      state = refl;
      kept = refl;
    }) (record {
      kept = λ gone features h. subst (λ (l : List Feature). KeepsFeatures added.kept gone (features ++ l)) (sym (append-nil (map (flash_feature (copper_state now old)) own))) (flashed.kept gone features h);
      rows = flashed.rows;
      state = flashed.state;
      drawing = flashed.drawing;
    }) (record {
      kept = λ gone features h. subst (λ (b : Bool). KeepsFeatures added.kept gone (if b then filter_map taken_away features else features)) (sym ((λ k. (is_drawing a && now_dark k) || (is_repeated now.now.block && now_fresh k)) ∙ no_clearing (is_drawing a) (is_repeated now.now.block))) h;
      rows = refl;
      state = refl;
      drawing = refl;
    }) (record {
      state = λ next. operation_stays now next added new a x y i j now_dark now_fresh (regions_stay added.regions (ended_regions commands) regions) moved;
      kept = moved.kept;
      drawing = moved.drawing;
    })

-- outside of regions an operation adds no part
closed_part : (s : PlotState) (a : Action) (x y i j : Option ℤ) → s.in_region ≡ false → None ≡ part_by s (command.Operate a x y i j)
closed_part s a x y i j closed = λ k. if sym closed k then Some (part_of s a x y i j) else None

-- what an operation leaves selected is what was selected before it, but for the current point
pub selection_after-operation : (commands : List Command) (a : Action) (x y i j : Option ℤ)
    → selection_after (commands ++ command.Operate a x y i j ∷ []) ≡ record { now = current_after (command.Operate a x y i j) (current_of (state_after commands)); aperture = selected_after commands }
selection_after-operation commands a x y i j =
    let c = command.Operate a x y i j in
    λ k. record { now = current_of (state_after-more commands c k); aperture = option_and_then (λ number. defined_numbered-more commands c number k) (state_after-more commands c k).selected }

-- the current point changes nothing of a flash
flashed_before : (now : Selection) (old added : Copper) (own : List Flash) (a : Action) (x y i j : Option ℤ)
    → IsFlashed (record { now = current_after (command.Operate a x y i j) now.now; aperture = now.aperture }) old own added → IsFlashed now old own added
flashed_before now old added own a x y i j h = record {
  kept = h.kept;
  rows = h.rows;
  state = λ k. record { draw = record { now = now.now; aperture = now.aperture; mode = (h.state k).draw.mode; quadrant = (h.state k).draw.quadrant; mirroring = (h.state k).draw.mirroring }; parts = (h.state k).parts; regions = (h.state k).regions; clearing = (h.state k).clearing };
  drawing = h.drawing;
}

-- an operation that passes was met once its flashes are added, as they are after it
pub operation_passed : (next : Selection) (keep : Keep) (taken : List WidePad) (old added : Copper) (own : List Flash) (commands : List Command) (o : LeadingOperation) → HasMet keep taken old commands → IsPassed old (current_of (state_after commands)) o
    → next ≡ selection_after (commands ++ command_of o ∷ []) → own ≡ added_flashes (state_after commands) (command_of o) → IsFlashed next old own added → HasMet keep taken added (commands ++ command_of o ∷ [])
operation_passed next keep taken old added own commands o met passed is own_is flashed =
    let now = selection_after commands in
    let before = flashed_before now old added own o.action o.x o.y o.i o.j (subst (λ (s : Selection). IsFlashed s old own added) (is ∙ selection_after-operation commands o.action o.x o.y o.i o.j) flashed) in
    operation_more now keep taken old added added own commands o.action o.x o.y o.i o.j passed.asked passed.clear passed.in_block met refl (as_itself commands (command_of o) own own_is) before
    (record {
      plotter = refl;
      parts = subst (λ (p : Option Part). MakeSameContour added.parts.items (added.parts.items ++ cons_option p [])) (closed_part (plot_state (draw_state now added.plotter)) o.action o.x o.y o.i o.j passed.closed) (none_added added.parts.items);
      regions = refl;
      clearing = refl;
      kept = refl;
      drawing = refl;
    })

-- ---- a comment, an attribute or an interpolation

-- a command that makes no flash, draws nothing and adds no contour
pub record IsIdle (c : Command) : Type 0 where
  pub flashes : (commands : List Command) → [] ≡ added_flashes (state_after commands) c
  pub draws : (s : DrawState) → drawn_by s c ≡ None
  pub contours : (s : CopperState) → contours_in s c ≡ []
  pub clears : (s : CopperState) → clears_in s c ≡ (is_repeated s.draw.now.block && s.clearing.in_block)
  pub stays : (next : Selection) (s : CopperState) → after next c s ≡ record { draw = after_command next c s.draw; parts = s.parts ++ []; regions = min (s.regions + 0) (suc max_regions); clearing = s.clearing }

-- a comment or an attribute is one
pub text_idle : (kind : TextKind) (text : List ℕ) → IsIdle (text_command kind text)
text_idle kinds.Comment text = record { flashes = λ commands. refl; draws = λ s. refl; contours = λ s. refl; clears = λ s. refl; stays = λ next s. refl }
text_idle (kinds.Attribute which) text = record { flashes = λ commands. refl; draws = λ s. refl; contours = λ s. refl; clears = λ s. refl; stays = λ next s. refl }
text_idle kinds.Remove text = record { flashes = λ commands. refl; draws = λ s. refl; contours = λ s. refl; clears = λ s. refl; stays = λ next s. refl }

-- and changes nothing
pub text_state : (next : Selection) (copper : Copper) (kind : TextKind) (text : List ℕ)
    → copper_state next copper ≡ record { draw = after_command next (text_command kind text) (draw_state next copper.plotter); parts = copper.parts.items; regions = copper.regions; clearing = copper.clearing }
text_state next copper kinds.Comment text = refl
text_state next copper (kinds.Attribute which) text = refl
text_state next copper kinds.Remove text = refl

-- so is an interpolation
pub mode_idle : (mode : Interpolation) → IsIdle (command.Mode mode)
mode_idle mode = record { flashes = λ commands. refl; draws = λ s. refl; contours = λ s. refl; clears = λ s. refl; stays = λ next s. refl }

-- and changes nothing of what is said last
pub same_with_mode : (before : List Command) (mode : Option Interpolation) → current_of (state_after (before ++ modes_of mode)) ≡ current_of (state_after before)
same_with_mode before None = ap (λ (l : List Command). current_of (state_after l)) (append-nil before)
same_with_mode before (Some mode) = ap current_of (state_after-more before (command.Mode mode))

-- nothing is drawn
abbrev no_part : Option Drawn
no_part = None

nothing_drawn : (asked : Bool) (parts : List Drawn) (o : Option Drawn) → o ≡ None → parts ≡ parts ++ (if asked then cons_option o [] else [])
nothing_drawn asked parts o h = sym (append-nil parts) ∙ ap (λ (l : List Drawn). parts ++ l) (by asked) ∙ ap (λ (d : Option Drawn). parts ++ (if asked then cons_option d [] else [])) (sym h)
  where
    by : (b : Bool) → [] ≡ (if b then cons_option no_part [] else [])
    by true = refl
    by false = refl

-- nor in dark polarity
no_dark : (clear : Bool) (o : Option Drawn) → o ≡ None → (if clear then no_part else o) ≡ None
no_dark true o h = refl
no_dark false o h = h

-- these commands and one more that is idle were met, which may change the plotter; what another copy of the open block takes away was taken away
pub idle_met : {E : Type 0} (now : Current) (keep : Keep) (taken : List WidePad) (old marked : Copper) (commands : List Command) (c : Command) (r : Result (Unit {0}) E) → IsIdle c → HasMet keep taken old commands → now ≡ current_of (state_after commands)
    → ((gone : List WidePad) (features : List Feature) → KeepsFeatures old.kept gone features → OnOk r (KeepsFeatures marked.kept gone (if is_repeated now.block && old.clearing.in_block then filter_map taken_away features else features)))
    → marked.kept.rows ≡ old.kept.rows
    → ((next : Selection) → copper_state next marked ≡ record { draw = after_command next c (draw_state next old.plotter); parts = old.parts.items; regions = old.regions; clearing = old.clearing })
    → OnOk r (marked.drawing.parts.items ≡ (if is_repeated now.block && old.clearing.in_block then [] else old.drawing.parts.items)) → marked.drawing.asked ≡ old.drawing.asked
    → OnOk r (HasMet keep taken marked (commands ++ c ∷ []))
idle_met now keep taken old marked commands c (Ok x) idle met now_is kept rows state parts asked =
    let here : Selection = record { now = now; aperture = selected_after commands } in
    let s = copper_state here old in
    let drawn : Copper = record { alloc = old.alloc; plotter = old.plotter; parts = old.parts; regions = old.regions; clearing = old.clearing; kept = old.kept; drawing = marked.drawing } in
    let still : Copper = record { alloc = marked.alloc; plotter = old.plotter; parts = marked.parts; regions = marked.regions; clearing = marked.clearing; kept = marked.kept; drawing = marked.drawing } in
    let regions : marked.regions ≡ min (marked.regions + 0) (suc max_regions) = regions_stay marked.regions (ended_regions commands) (ap (λ (t : CopperState). t.regions) (state here) ∙ ap (λ (t : CopperState). t.regions) met.state.rest) in
    met_more here keep taken old drawn drawn still marked [] commands c met now_is (as_itself commands c [] (idle.flashes commands)) (record {
      parts = parts ∙ (λ k. if sym (idle.clears s) k then [] else nothing_drawn (takes_part old.drawing) old.drawing.parts.items (dark_part s c) (no_dark s.clearing.clear (drawn_by s.draw c) (idle.draws s.draw)) k);
      asked = asked;
      state = refl;
      kept = refl;
    }) (record {
      kept = λ gone features h. subst (KeepsFeatures old.kept gone) (sym (append-nil features) ∙ ap (λ (l : List GridRounded). features ++ map contour_feature l) (sym (idle.contours s))) h;
      rows = refl;
      state = refl;
      drawing = refl;
    }) (record {
      kept = λ gone features h. subst (λ (b : Bool). KeepsFeatures marked.kept gone (if b then filter_map taken_away features else features)) (sym (idle.clears s)) (kept gone features h);
      rows = rows;
      state = ap (λ (t : CopperState). record { draw = s.draw; parts = t.parts; regions = t.regions; clearing = t.clearing }) (state here);
      drawing = refl;
    }) (record {
      state = λ next.
          subst (IsLike (copper_state next marked)) (sym (idle.stays next (copper_state here still)))
          (record { rest = λ i. record { draw = (state next i).draw; parts = marked.parts.items ++ []; regions = regions i; clearing = marked.clearing }; parts = none_added marked.parts.items });
      kept = refl;
      drawing = refl;
    })
idle_met now keep taken old marked commands c (Err e) idle met now_is kept rows state parts asked = tt

-- no command was met
pub none_met : (keep : Keep) (copper : Copper) → copper_state (selection_after []) copper ≡ with_capped_regions (copper_state_after []) → copper.kept.rows ≡ keeps_rows keep → KeepsFeatures copper.kept [] [] → copper.drawing.asked ≡ keeps_drawn keep → copper.drawing.parts.items ≡ [] → HasMet keep [] copper []
none_met keep copper state rows kept asked parts = record {
  state = subst (λ (s : CopperState). IsLike s (with_capped_regions (copper_state_after []))) (sym state) (like_itself (with_capped_regions (copper_state_after [])));
  rows = rows;
  kept = kept;
  asked = asked;
  drawn = parts ∙ by (keeps_drawn keep);
}
  where
    by : (b : Bool) → [] ≡ (if b then first_parts (uncleared_drawn []) else [])
    by true = refl
    by false = refl
