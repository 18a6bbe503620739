-- What the rules of a legal list say of a flash, and which pad it leaves.
use Rattle.layer_features.proofs.Common.{◌≡◌, ℕ, zero, suc, ◌<◌, get_or, arith, ◌%◌, ◌&&◌, ◌==◌, not, ℤ, unsigned_abs, Bool, true, false, cond, List, [], ◌∷◌, length, Option, None, Some, unwrap_or, refl, sym, ap, subst, ◌∙◌, is_none, option_map_or, option_or, int_eq, find, cons_option, picometres, GridPoint, Millimetre, Command, Format, unit_scale, GraphicsState, definition_set, copies, copies_at, current_of, current_unit, disc_at, obround_at, quarter, rect_at, swaps_sides, what_at, MayFlash, copies_in, pad_at, all_rules, breaks_rule, first_broken, may_define_again, Profile}
use Rattle.std.specs.Option.{option_map, option_and_then}
use Rattle.grid_units.specs.declared.fault.Reason.TheVariants as reason
use Rattle.grid_units.specs.declared.lengths.Unit.{Unit as Units}
use Rattle.pad_shapes.specs.declared.pad.Pad.{Pad}
use Rattle.pad_shapes.specs.declared.pad.Pad.TheVariants as pads
use Rattle.gerber_commands.specs.declared.command.Action.TheVariants as action
use Rattle.gerber_commands.specs.declared.command.Command.TheVariants as command
use Rattle.layer_state.specs.declared.aperture.Aperture.{Aperture}
use Rattle.layer_state.specs.declared.aperture.Aperture.TheVariants as aperture
use Rattle.layer_state.specs.declared.flash.What.{What}
use Rattle.layer_state.specs.declared.flash.What.TheVariants as what
use Rattle.pad_shapes.specs.declared.row.Why.TheVariants as why
use Rattle.layer_state.specs.Inner.IsStateAfter.{after}
use Rattle.layer_state.specs.Numbers.{dec_length}
use Rattle.layer_state.specs.Flashes.{pad_in}
use Rattle.layer_state.specs.Lookback.{template_numbered}

-- ---- what a flash leaves

-- an aperture that makes a pad: scale and turn decide
by_scale_and_turn : (scaled turned : Bool) (w : What)
    → pad_in (option_map_or what.Other (cond (not scaled) (Some why.Scaled) (cond (not turned) (Some why.Turned) None)) w) ≡ cond (scaled && turned) (pad_in w) None
by_scale_and_turn true true w = refl
by_scale_and_turn true false w = refl
by_scale_and_turn false turned w = refl

no_pad : (b : Bool) (o : Option Pad) → o ≡ None → None ≡ cond b o None
no_pad true o e = sym e
no_pad false o e = refl

pub pad_is : (p : GridPoint) (unit : Units) (scale turn : ℤ) (shape : Aperture)
    → pad_in (what_at p unit scale turn shape) ≡ cond (int_eq scale unit_scale && (unsigned_abs turn % quarter == 0)) (pad_at unit turn shape p) None
pad_is p unit scale turn (aperture.Circle diameter false) = by_scale_and_turn (int_eq scale unit_scale) (unsigned_abs turn % quarter == 0) (what.Pad (pads.Disc (disc_at p unit diameter)))
pad_is p unit scale turn (aperture.Rectangle width height false) =
    by_scale_and_turn (int_eq scale unit_scale) (unsigned_abs turn % quarter == 0) (what.Pad (pads.Rect (cond (swaps_sides turn) (rect_at p unit height width) (rect_at p unit width height))))
pad_is p unit scale turn (aperture.Obround width height false) =
    by_scale_and_turn (int_eq scale unit_scale) (unsigned_abs turn % quarter == 0) (what.Pad (pads.Obround (cond (swaps_sides turn) (obround_at p unit height width) (obround_at p unit width height))))
pad_is p unit scale turn shape = no_pad (int_eq scale unit_scale && (unsigned_abs turn % quarter == 0)) None refl

-- ---- the state of a flash

-- the unit is the one that was named
pub unit_is : (s : GraphicsState) (unit : Units) (format : Format) (shape : Aperture) → MayFlash s unit format shape → current_unit (current_of s) ≡ unit
unit_is s unit format shape may = λ i. unwrap_or (may.in_unit i) Millimetre

-- the copies are those in the unit and the format that were named
pub copies_are : (s : GraphicsState) (x y : Option ℤ) (unit : Units) (format : Format) (shape : Aperture) → MayFlash s unit format shape → copies_at s x y ≡ copies_in unit format s x y
copies_are s x y unit format shape may = λ i. copies (record {
  x = picometres (unwrap_or (may.in_unit i) Millimetre) (option_map_or (λ (f : Format). f.decimals) (may.in_format i) 0) (unwrap_or x s.x);
  y = picometres (unwrap_or (may.in_unit i) Millimetre) (option_map_or (λ (f : Format). f.decimals) (may.in_format i) 0) (unwrap_or y s.y);
  columns = s.block.columns;
  rows = s.block.rows;
  step_x = dec_length (unwrap_or (may.in_unit i) Millimetre) s.block.step_x;
  step_y = dec_length (unwrap_or (may.in_unit i) Millimetre) s.block.step_y;
})

-- ---- what the rules say of a flash

not_found : {A : Type 0} (b : Bool) (x : A) (o : Option A) → cond b (Some x) o ≡ None → (b ≡ false) × (o ≡ None)
not_found true x o h = absurd cc
not_found false x o h = (refl, h)

-- where a search finds nothing, no element passes
none_at : {A : Type 0} (p : A → Bool) (xs : List A) (k : ℕ) (d : A) → find p xs ≡ None → k < length xs → p (get_or xs k d) ≡ false
none_at p [] k d h lt = absurd (omega arith)
none_at p (x ∷ xs) zero d h lt = (not_found (p x) x (find p xs) h).0
none_at p (x ∷ xs) (suc k) d h lt = none_at p xs k d (not_found (p x) x (find p xs) h).1 (omega arith)

-- a command that breaks no rule does not break the one at this place
pub keeps_rule : (again : Bool) (s : GraphicsState) (count : ℕ) (c : Command) (k : ℕ) → first_broken again s count c ≡ None → k < 15 → breaks_rule again s count c (get_or all_rules k reason.InRegion) ≡ false
unfolding first_broken
keeps_rule again s count c k h lt = none_at (breaks_rule again s count c) all_rules k reason.InRegion h lt

-- whether a command may define again what these define
abbrev pub again_after : Profile → List Command → Command → Bool
again_after profile before c = may_define_again profile (template_numbered before) c

-- the aperture that is selected is defined
abbrev pub IsDefined : GraphicsState → Type 0
IsDefined s = (number : ℕ) → s.selected ≡ Some number → is_none (s.definition number) ≡ false

some_same : {A : Type 0} (a b : A) → Some a ≡ Some b → a ≡ b
some_same a b e = cc

stays_defined : (new old : Option Aperture) → is_none old ≡ false → is_none (option_or new old) ≡ false
stays_defined None old h = h
stays_defined (Some shape) old h = refl

pub defined_after : (again : Bool) (s : GraphicsState) (count : ℕ) (c : Command) → IsDefined s → first_broken again s count c ≡ None → IsDefined (after c s)
defined_after again s count (command.Select other) defined h number e =
    subst (λ (n : ℕ). is_none (s.definition n) ≡ false) (some_same other number e) (keeps_rule again s count (command.Select other) 8 h (omega arith))
defined_after again s count c defined h number e = stays_defined (definition_set number c) (s.definition number) (defined number e)

pub some_of : {A : Type 0} (o : Option A) → is_none o ≡ false → (a : A) × (o ≡ Some a)
some_of None h = absurd cc
some_of (Some a) h = (a, refl)

pub may_flash : (again : Bool) (s : GraphicsState) (count : ℕ) (x y i j : Option ℤ) → IsDefined s → first_broken again s count (command.Operate action.Flash x y i j) ≡ None
    → (unit : Units) × (format : Format) × (shape : Aperture) × MayFlash s unit format shape
may_flash again s count x y i j defined h =
    let c : Command = command.Operate action.Flash x y i j in
    let unit = some_of s.unit (keeps_rule again s count c 3 h (omega arith)) in
    let format = some_of s.format (keeps_rule again s count c 2 h (omega arith)) in
    let number = some_of s.selected (keeps_rule again s count c 9 h (omega arith)) in
    let shape = some_of (s.definition number.0) (defined number.0 number.1) in (
      unit.0,
      format.0,
      shape.0,
      record {
        outside = keeps_rule again s count c 0 h (omega arith);
        in_unit = unit.1;
        in_format = format.1;
        selected = ap (λ (o : Option ℕ). option_and_then s.definition o) number.1 ∙ shape.1;
      },
    )

pub none_broken : {A B : Type 0} (f : A → B) (o : Option A) (l : List B) → cons_option (option_map f o) l ≡ [] → (o ≡ None) × (l ≡ [])
none_broken f None l h = (refl, h)
none_broken f (Some x) l h = absurd cc
