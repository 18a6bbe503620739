-- What a plot in a region meets where no rule is broken, and the parts of the region.
use Rattle.layer_features.proofs.Common.{◌≡◌, ◌∙◌, ℕ, ℤ, unsigned_abs, Bool, true, false, not, ◌&&◌, nat_le, nat_lt, List, [], ◌∷◌, ◌++◌, length, Option, None, Some, unwrap_or, refl, sym, ap, arith, if◌then◌else◌, is_none, option_map_or, option_or, cons_option, last_set, picometres, GridPoint, Millimetre, last_set-more, Command, Format, current_of, state_after, unit_set, flashes_of, broken_rule_in, Part, Profile, PlotState, part_by, region_parts, starts_region, draw_state_after, near, operation_point, point_at, plot_state, plot_state_after, point_in}
use Rattle.std.proofs.lemmas.Bool.Decides.{nat_tests}
use Rattle.grid_units.specs.Points.{max_coordinate}
use Rattle.grid_units.specs.declared.lengths.Unit.{Unit as Units}
use Rattle.macro_shapes.specs.Primitives.{grid_point}
use Rattle.gerber_commands.specs.declared.command.Command.TheVariants as command
use Rattle.layer_features.proofs.CopperLemmas.{region_parts-more}
use Rattle.layer_features.proofs.LegalFlashes.{again_after, keeps_rule, some_of}

-- what a plotter has for a plot after some commands
abbrev pub drawn_plot : List Command → PlotState
drawn_plot before = plot_state (draw_state_after before)

-- ---- points

-- the point of these coordinates in steps of the format
abbrev point_by : Units → ℕ → ℤ → ℤ → Option GridPoint
point_by unit decimals x y = point_at (near (picometres unit decimals x)) (near (picometres unit decimals y))

above : (n m : ℕ) → nat_lt m n ≡ not (nat_le n m)
above n m = grind (arith, nat_tests)

-- lengths up to 10 m are those of a point
near_is : (a b : ℤ) → point_at (near a) (near b) ≡ grid_point a b
near_is a b =
    (λ i. point_at (if above (unsigned_abs a) max_coordinate i then None else Some a) (if above (unsigned_abs b) max_coordinate i then None else Some b))
    ∙ by (nat_le (unsigned_abs a) max_coordinate) (nat_le (unsigned_abs b) max_coordinate)
  where
    by : (s t : Bool) → point_at (if not s then None else Some a) (if not t then None else Some b) ≡ (if s && t then Some (record { x = a; y = b }) else None)
    by true true = refl
    by true false = refl
    by false t = refl

point_is : (before : List Command) (unit : Units) (format : Format) → (state_after before).unit ≡ Some unit → (state_after before).format ≡ Some format → (x y : Option ℤ)
    → operation_point (current_of (state_after before)) x y ≡ point_in (state_after before).unit (state_after before).format (state_after before) x y
point_is before unit format in_unit in_format x y =
    let s = state_after before in
    (λ i. point_by (unwrap_or (in_unit i) Millimetre) (option_map_or (λ (f : Format). f.decimals) (in_format i) 0) (unwrap_or x s.x) (unwrap_or y s.y))
    ∙ near_is (picometres unit format.decimals (unwrap_or x s.x)) (picometres unit format.decimals (unwrap_or y s.y))
    ∙ sym (λ i. point_in (in_unit i) (in_format i) s x y)

plot_is : (before : List Command) (unit : Units) (format : Format) → (state_after before).unit ≡ Some unit → (state_after before).format ≡ Some format → drawn_plot before ≡ plot_state_after before
plot_is before unit format in_unit in_format = λ i. record {
  in_region = (state_after before).in_region;
  mode = (plot_state_after before).mode;
  quadrant = (plot_state_after before).quadrant;
  point = λ x y. point_is before unit format in_unit in_format x y i;
}

-- ---- parts

-- a command that breaks no rule adds the same part
same_part : (profile : Profile) (before : List Command) (c : Command) → broken_rule_in profile before c ≡ None → part_by (drawn_plot before) c ≡ part_by (plot_state_after before) c
same_part profile before (command.Operate a x y i j) h =
    let c : Command = command.Operate a x y i j in
    let count = length (flashes_of before) in
    let unit = some_of (state_after before).unit (keeps_rule (again_after profile before c) (state_after before) count c 3 h (omega arith)) in
    let format = some_of (state_after before).format (keeps_rule (again_after profile before c) (state_after before) count c 2 h (omega arith)) in
    ap (λ (s : PlotState). part_by s c) (plot_is before unit.0 format.0 unit.1 format.1)
same_part profile before c h = refl

-- and none before a unit
no_part : (profile : Profile) (before : List Command) (c : Command) → broken_rule_in profile before c ≡ None → (state_after before).unit ≡ None → part_by (plot_state_after before) c ≡ None
no_part profile before (command.Operate a x y i j) h none = absurd (by (keeps_rule (again_after profile before (command.Operate a x y i j)) (state_after before) (length (flashes_of before)) (command.Operate a x y i j) 3 h (omega arith)))
  where
    by : is_none (state_after before).unit ≡ false → ⊥
    by named = let both : true ≡ false = sym (ap is_none none) ∙ named in cc
no_part profile before c h none = refl

-- the parts of the last region are the same, and before a unit there are none
pub record PartsAgree (before : List Command) : Type 0 where
  pub same : region_parts drawn_plot before ≡ region_parts plot_state_after before
  pub none : (state_after before).unit ≡ None → region_parts plot_state_after before ≡ []

pub parts_at_start : PartsAgree []
parts_at_start = record { same = refl; none = λ e. refl }

-- what was not named before, and is not named now
none_of_both : {A : Type 0} (new old : Option A) → option_or new old ≡ None → old ≡ None
none_of_both None old h = h
none_of_both (Some x) old h = absurd cc

none_more : (b : Bool) (parts : List Part) (part : Option Part) → parts ≡ [] → part ≡ None → (if b then [] else parts ++ cons_option part []) ≡ []
none_more true parts part h k = refl
none_more false parts part h k = λ i. h i ++ cons_option (k i) []

pub parts_agree : (profile : Profile) (before : List Command) (c : Command) → broken_rule_in profile before c ≡ None → PartsAgree before → PartsAgree (before ++ c ∷ [])
parts_agree profile before c legal agree = record {
  same = region_parts-more drawn_plot before c ∙ (λ i. if starts_region c then [] else agree.same i ++ cons_option (same_part profile before c legal i) []) ∙ sym (region_parts-more plot_state_after before c);
  none = λ e.
      let old : (state_after before).unit ≡ None = none_of_both (unit_set c) (last_set unit_set before) (sym (last_set-more unit_set before c) ∙ e) in
      region_parts-more plot_state_after before c ∙ none_more (starts_region c) (region_parts plot_state_after before) (part_by (plot_state_after before) c) (agree.none old) (no_part profile before c legal old);
}
