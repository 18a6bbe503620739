-- The pads among the flashes of a legal list are the pads that its commands make.
use Rattle.layer_image.proofs.Common.{◌≡◌, ℕ, ℤ, List, [], ◌∷◌, ◌++◌, map, length, Option, None, refl, sym, ap, subst, ◌∙◌, option_map_or, AllByRecursion, filter_map, flat_map, cons_option, length-map, flat_map-cons, filter_map-append, violation_at, with_prefixes_from, GridPoint, Reason, Command, Flash, without_places, LayerImage, GraphicsState, state_after, current_aperture, added_flashes, aperture_flashes, copies_at, current_of, current_unit, flash_at, flash_copies, flashes_of, grid_at, pads_of, FlashesAreCopies, LayerPads, LegalPads, ArePads, ArePadsFrom, ArePadsOf, MayFlash, copies_in, flashed_at, broken_rule_in, first_broken, Profile, Strict, Bool}
use Rattle.grid_units.specs.declared.lengths.Unit.{Unit as Units}
use Rattle.gerber_commands.specs.declared.command.Action.TheVariants as action
use Rattle.gerber_commands.specs.declared.command.Command.TheVariants as command
use Rattle.gerber_commands.specs.declared.command.Format.{Format}
use Rattle.layer_state.specs.declared.aperture.Aperture.{Aperture}
use Rattle.layer_state.specs.Flashes.{pad_in}
use Rattle.layer_features.proofs.LegalFlashes.{IsDefined, again_after, copies_are, defined_after, may_flash, none_broken, pad_is, unit_is}
use Rattle.layer_state.proofs.CopyGrids.{count_copies}
use Rattle.layer_state.proofs.StateLemmas.{state_after-more}

-- ---- what a flash leaves

pads_at : (s : GraphicsState) (shape : Aperture) (ps : List GridPoint) → pads_of (map (flash_at s shape) ps) ≡ filter_map (flashed_at (current_unit (current_of s)) s shape) ps
pads_at s shape [] = refl
pads_at s shape (p ∷ ps) = λ i. cons_option (pad_is p (current_unit (current_of s)) s.scale s.turn shape i) (pads_at s shape ps i)

leaves : (s : GraphicsState) (x y : Option ℤ) (unit : Units) (format : Format) (shape : Aperture) → MayFlash s unit format shape
    → pads_of (option_map_or (aperture_flashes s x y) (current_aperture s) []) ≡ filter_map (flashed_at unit s shape) (copies_in unit format s x y)
leaves s x y unit format shape may =
    ap (λ (o : Option Aperture). pads_of (option_map_or (aperture_flashes s x y) o [])) may.selected
    ∙ pads_at s shape (copies_at s x y)
    ∙ (λ i. filter_map (flashed_at (unit_is s unit format shape may i) s shape) (copies_are s x y unit format shape may i))

-- ---- a whole list

of_command : (profile : Profile) (before : List Command) (c : Command) → IsDefined (state_after before) → broken_rule_in profile before c ≡ None → ArePadsOf before c (pads_of (added_flashes (state_after before) c))
of_command profile before (command.Operate action.Flash x y i j) defined h =
    let may = may_flash (again_after profile before (command.Operate action.Flash x y i j)) (state_after before) (length (flashes_of before)) x y i j defined h in
    (may.0, may.1, may.2, may.3, leaves (state_after before) x y may.0 may.1 may.2 may.3)
of_command profile before c defined h = refl

legal_from : (profile : Profile) (before cs : List Command) → IsDefined (state_after before) → filter_map (violation_at (broken_rule_in profile)) (with_prefixes_from before cs) ≡ []
    → ArePadsFrom before cs (pads_of (flat_map (λ p. added_flashes (state_after p.0) p.1) (with_prefixes_from before cs)))
legal_from profile before [] defined h = refl
legal_from profile before (c ∷ cs) defined h =
    let both = none_broken (λ (r : Reason). (length before, r)) (broken_rule_in profile before c) _ h in
    let first : List Flash = added_flashes (state_after before) c in
    let more : List Flash = flat_map (λ p. added_flashes (state_after p.0) p.1) (with_prefixes_from (before ++ c ∷ []) cs) in
    let defined_next : IsDefined (state_after (before ++ c ∷ [])) =
    subst IsDefined (sym (state_after-more before c)) (defined_after (again_after profile before c) (state_after before) (length (flashes_of before)) c defined both.0) in (
      pads_of first,
      pads_of more,
      ap pads_of (flat_map-cons (λ p. added_flashes (state_after p.0) p.1) (before, c) (with_prefixes_from (before ++ c ∷ []) cs)) ∙ filter_map-append (λ (flash : Flash). pad_in flash.what) first more,
      of_command profile before c defined both.0,
      legal_from profile (before ++ c ∷ []) cs defined_next both.1,
    )

pub legal_pads : LegalPads
legal_pads profile commands legal = legal_from profile [] commands (λ number e. absurd cc) legal

pub layer_pads : LayerPads
layer_pads text image layer = subst (ArePads (without_places image.commands)) (sym (ap (λ (l : LayerImage). l.pads) layer.1)) (legal_pads Strict (without_places image.commands) layer.0.legal)

-- ---- how many flashes

count_added : (again : Bool) (s : GraphicsState) (count : ℕ) (c : Command) → IsDefined s → first_broken again s count c ≡ None → length (added_flashes s c) ≡ flash_copies s.block c
count_added again s count (command.Operate action.Flash x y i j) defined h =
    let may = may_flash again s count x y i j defined h in
    ap (λ (o : Option Aperture). length (option_map_or (aperture_flashes s x y) o [])) may.3.selected ∙ length-map (copies_at s x y) (flash_at s may.2) ∙ count_copies (grid_at s x y)
count_added again s count c defined h = refl

counts_from : (profile : Profile) (before cs : List Command) → IsDefined (state_after before) → filter_map (violation_at (broken_rule_in profile)) (with_prefixes_from before cs) ≡ []
    → AllByRecursion (λ p. length (added_flashes (state_after p.0) p.1) ≡ flash_copies (state_after p.0).block p.1) (with_prefixes_from before cs)
counts_from profile before [] defined h = tt
counts_from profile before (c ∷ cs) defined h =
    let both = none_broken (λ (r : Reason). (length before, r)) (broken_rule_in profile before c) _ h in
    let defined_next : IsDefined (state_after (before ++ c ∷ [])) =
    subst IsDefined (sym (state_after-more before c)) (defined_after (again_after profile before c) (state_after before) (length (flashes_of before)) c defined both.0) in (
      count_added (again_after profile before c) (state_after before) (length (flashes_of before)) c defined both.0,
      counts_from profile (before ++ c ∷ []) cs defined_next both.1,
    )

pub flashes_are_copies : FlashesAreCopies
flashes_are_copies profile commands legal = counts_from profile [] commands (λ number e. absurd cc) legal
