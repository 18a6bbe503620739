-- Most operations break no rule, and a flash among them makes one flash.
use Rattle.layer_state.proofs.Common.{◌≡◌, ℕ, ◌+◌, ◌*◌, ◌/◌, ◌^◌, ◌<◌, ◌≤◌, ℤ, pos, ◌*ℤ◌, unsigned_abs, true, false, cond, not, ◌||◌, ◌&&◌, nat_le, nat_lt, List, [], ◌∷◌, map, length, Option, None, Some, Ok, unwrap_or, is_none, refl, sym, ap, subst, ◌∙◌, arith, mul-le-mul_right, unsigned_abs-mul, option_map_or, option_and_then, flat_map, list_any, GridPoint, max_coordinate, is_too_far, picometres, unit_length, Action, Command, Flash, Flashes, State, GraphicsState, current_aperture, numbers_below, copies, copies_at, copy_at, grid_at, is_flash, aperture_flashes, flash_at, added_flashes, current_of, current_unit, current_decimals, what_at, moved_what, origin, first_broken, needs_aperture, has_too_many_digits, reaches_too_far, makes_too_many_flashes, flashes_too_far, is_long_coordinate, is_far_coordinate, is_far_pad, is_far_point, KeptParts, Adds, flash_count, IsStateAfter, Applies, AppliesOrRefuses, after, state_of, defined_at, pieces_at, AreLengths, IsSingleFlash, AreCachedValues, IsFlashOf, changes_cached, is_far_flash, is_within, point_of, and_false, Bool, is_allowed_again, profile_of, template_at}
use Rattle.std.proofs.lemmas.Bool.Decides.{nat_tests}
use Rattle.grid_units.specs.declared.fault.Reason.TheVariants as reason
use Rattle.grid_units.specs.declared.lengths.Unit.{Unit as Units}
use Rattle.grid_units.specs.declared.lengths.Unit.TheVariants.{Millimetre}
use Rattle.gerber_commands.specs.declared.command.Command.TheVariants as command
use Rattle.gerber_commands.specs.declared.command.Format.{Format}
use Rattle.gerber_commands.specs.declared.command.StepRepeat.{StepRepeat}
use Rattle.layer_state.specs.declared.aperture.Aperture.{Aperture}
use Rattle.layer_state.specs.declared.aperture.Aperture.TheVariants as aperture
use Rattle.layer_state.specs.declared.cached_values.CachedValues.{CachedValues}
use Rattle.layer_state.specs.declared.cached_values.Lengths.{Lengths}
use Rattle.layer_state.specs.declared.flash.What.{What}
use Rattle.layer_state.specs.declared.grid.CopyGrid.{CopyGrid}
use Rattle.layer_state.proofs.KeptFlashesLemmas.{adds_none}
use Rattle.layer_state.proofs.CopyGrids.{no_multiple, not_far}
use Rattle.layer_state.proofs.StateLemmas.{state_after_one_more, same_rule}
use Rattle.layer_state.proofs.MovedFlashes.{what_moved}
use Rattle.layer_state.proofs.DigitLemmas.{test_no}

-- an operation breaks no rule where these rules do not apply
pub no_rule_broken : (again : Bool) (s : GraphicsState) (count : ℕ) (action : Action) (x y i j : Option ℤ)
    → (not (not (is_flash action)) && s.in_region) ≡ false → is_none s.format ≡ false → is_none s.unit ≡ false → (needs_aperture action s.in_region && is_none s.selected) ≡ false
    → has_too_many_digits s (command.Operate action x y i j) ≡ false → reaches_too_far s (command.Operate action x y i j) ≡ false → makes_too_many_flashes s count (command.Operate action x y i j) ≡ false
    → first_broken again s count (command.Operate action x y i j) ≡ None
unfolding first_broken
no_rule_broken again s count action x y i j a b c d e f g = λ k.
    cond (a k) (Some reason.InRegion) (cond (b k) (Some reason.NoFormat) (cond (c k) (Some reason.NoUnit) (cond (d k) (Some reason.NoAperture)
    (cond (e k) (Some reason.TooManyDigits) (cond (f k) (Some reason.TooFar) (cond (g k) (Some reason.TooManyPads) None))))))

-- ---- what the fast path keeps, and what is named

record NamedLengths (l : Lengths) (unit : Option Units) (format : Option Format) : Type 0 where
  pub the_unit : Units
  pub the_format : Format
  pub unit_is : unit ≡ Some the_unit
  pub format_is : format ≡ Some the_format
  pub place : l.place ≡ unit_length the_unit / 10 ^ the_format.decimals
  pub short : l.limit < 10 ^ (the_format.whole + the_format.decimals)

record SingleShape (w : What) (unit : Units) (selected : Option Aperture) (scale turn : ℤ) (block : StepRepeat) : Type 0 where
  pub shape : Aperture
  pub shape_is : selected ≡ Some shape
  pub columns : block.columns ≡ 1
  pub rows : block.rows ≡ 1
  pub near : is_far_flash unit scale turn shape ≡ false
  pub value : w ≡ what_at origin unit scale turn shape

some_of : {A : Type 0} (o : Option A) → is_none o ≡ false → (x : A) × (o ≡ Some x)
some_of None h = absurd cc
some_of (Some x) h = (x, refl)

named_lengths : (l : Lengths) (unit : Option Units) (format : Option Format) → AreLengths l unit format → NamedLengths l unit format
named_lengths l unit format h =
    let u = some_of unit h.unit_set in
    let f = some_of format h.format_set in
    record {
      the_unit = u.0;
      the_format = f.0;
      unit_is = u.1;
      format_is = f.1;
      place = h.place ∙ (λ k. unit_length (unwrap_or (u.1 k) Millimetre) / 10 ^ option_map_or (λ (g : Format). g.decimals) (f.1 k) 0);
      short = subst (λ (o : Option Format). l.limit < 10 ^ option_map_or (λ (g : Format). g.whole + g.decimals) o 0) f.1 h.short;
    }

single_shape : (w : What) (unit : Units) (selected : Option Aperture) (scale turn : ℤ) (block : StepRepeat) → IsSingleFlash w unit selected scale turn block → SingleShape w unit selected scale turn block
single_shape w unit selected scale turn block h =
    let s = some_of selected h.some in
    record {
      shape = s.0;
      shape_is = s.1;
      columns = h.columns;
      rows = h.rows;
      near = subst (λ (o : Option Aperture). is_far_flash unit scale turn (unwrap_or o aperture.Polygon) ≡ false) s.1 h.near;
      value = subst (λ (o : Option Aperture). w ≡ what_at origin unit scale turn (unwrap_or o aperture.Polygon)) s.1 h.value;
    }

-- ---- numbers

within_limit : (n : ℤ) (limit : ℕ) → nat_le (unsigned_abs n) limit ≡ true → unsigned_abs n ≤ limit
within_limit n limit h = grind (arith, nat_tests)

pub near_length : (n : ℤ) (place limit : ℕ) → limit * place ≤ 10000000000000 → unsigned_abs n ≤ limit → unsigned_abs (n *ℤ pos place) ≤ max_coordinate
near_length n place limit near within =
    let p : unsigned_abs n * place ≤ limit * place = mul-le-mul_right place within in
    rw unsigned_abs-mul (omega (arith, p, near))

-- the length of a coordinate on the fast path
length_is : (s : GraphicsState) (l : Lengths) → NamedLengths l s.unit s.format → (n : ℤ) → picometres (current_unit (current_of s)) (current_decimals (current_of s)) n ≡ n *ℤ pos l.place
length_is s l h n =
    (λ k. n *ℤ pos (unit_length (unwrap_or (h.unit_is k) Millimetre) / 10 ^ option_map_or (λ (f : Format). f.decimals) (h.format_is k) 0)) ∙ (λ k. n *ℤ pos (sym h.place k))

not_long : (f : Format) (limit : ℕ) (named : Option ℤ) → limit < 10 ^ (f.whole + f.decimals) → is_within limit named ≡ true → is_long_coordinate f named ≡ false
not_long f limit None short within = refl
not_long f limit (Some n) short within = let w = within_limit n limit within in test_no (10 ^ (f.whole + f.decimals)) (unsigned_abs n) (omega (arith, short, w))

few_digits : (s : GraphicsState) (l : Lengths) (action : Action) (x y i j : Option ℤ) → NamedLengths l s.unit s.format
    → is_within l.limit x ≡ true → is_within l.limit y ≡ true → is_within l.limit i ≡ true → is_within l.limit j ≡ true
    → has_too_many_digits s (command.Operate action x y i j) ≡ false
few_digits s l action x y i j h a b c d =
    (λ k. option_map_or (λ (f : Format). is_long_coordinate f x || (is_long_coordinate f y || (is_long_coordinate f i || is_long_coordinate f j))) (h.format_is k) false)
    ∙ (λ k. not_long h.the_format l.limit x h.short a k || (not_long h.the_format l.limit y h.short b k || (not_long h.the_format l.limit i h.short c k || not_long h.the_format l.limit j h.short d k)))

not_far_coordinate : (s : GraphicsState) (l : Lengths) (named : Option ℤ) → l.limit * l.place ≤ 10000000000000 → NamedLengths l s.unit s.format → is_within l.limit named ≡ true → is_far_coordinate s named ≡ false
not_far_coordinate s l None near h within = refl
not_far_coordinate s l (Some n) near h within = ap is_too_far (length_is s l h n) ∙ not_far (n *ℤ pos l.place) (near_length n l.place l.limit near (within_limit n l.limit within))

-- ---- one copy

one_copy : (grid : CopyGrid) → grid.columns ≡ 1 → grid.rows ≡ 1 → copies grid ≡ record { x = grid.x; y = grid.y } ∷ []
one_copy grid c r =
    (λ k. flat_map (λ u. map (copy_at grid u) (numbers_below (r k))) (numbers_below (c k))) ∙ (λ k. record { x = no_multiple grid.x grid.step_x k; y = no_multiple grid.y grid.step_y k } ∷ [])

-- the one point of an operation
one_point : (s : GraphicsState) (l : Lengths) (x y : Option ℤ) → NamedLengths l s.unit s.format → s.block.columns ≡ 1 → s.block.rows ≡ 1 → copies_at s x y ≡ point_of l (unwrap_or x s.x) (unwrap_or y s.y) ∷ []
one_point s l x y h c r = one_copy (grid_at s x y) c r ∙ (λ k. record { x = length_is s l h (unwrap_or x s.x) k; y = length_is s l h (unwrap_or y s.y) k } ∷ [])

-- ---- operations

some_selected : (definition : ℕ → Option Aperture) (selected : Option ℕ) (shape : Aperture) → option_and_then definition selected ≡ Some shape → is_none selected ≡ false
some_selected definition None shape h = absurd cc
some_selected definition (Some n) shape h = refl

given_within_limit : (limit : ℕ) (named : Option ℤ) (d : ℤ) → nat_le (unsigned_abs (unwrap_or named d)) limit ≡ true → is_within limit named ≡ true
given_within_limit limit None d h = refl
given_within_limit limit (Some n) d h = h

not_one_too_many : (count : ℕ) → count < 4194304 → nat_lt 4194304 (count + 1) ≡ false
not_one_too_many count h = grind (arith, nat_tests)

-- an operation that is no flash, whose numbers are in range, breaks no rule
pub move_is_legal : (again : Bool) (s : GraphicsState) (count : ℕ) (l : Lengths) (action : Action) (x y i j : Option ℤ) → l.limit * l.place ≤ 10000000000000 → AreLengths l s.unit s.format
    → is_flash action ≡ false → (needs_aperture action s.in_region && is_none s.selected) ≡ false
    → is_within l.limit x ≡ true → is_within l.limit y ≡ true → is_within l.limit i ≡ true → is_within l.limit j ≡ true → first_broken again s count (command.Operate action x y i j) ≡ None
move_is_legal again s count l action x y i j near known still has a b c d =
    let h = named_lengths l s.unit s.format known in
    no_rule_broken again s count action x y i j (λ k. not (not (still k)) && s.in_region) (λ k. is_none (h.format_is k)) (λ k. is_none (h.unit_is k)) has (few_digits s l action x y i j h a b c d)
    (λ k. (not_far_coordinate s l x near h a k || not_far_coordinate s l y near h b k) || (still k && flashes_too_far s x y))
    (λ k. still k && nat_lt 4194304 (count + length (copies_at s x y)))

-- a flash at one point in range, of what is near, breaks no rule
pub flash_is_legal : (again : Bool) (s : GraphicsState) (count : ℕ) (l : Lengths) (w : What) (action : Action) (x y i j : Option ℤ) (flash : Flash) → l.limit * l.place ≤ 10000000000000 → AreLengths l s.unit s.format
    → IsSingleFlash w (current_unit (current_of s)) (current_aperture s) s.scale s.turn s.block → is_flash action ≡ true → s.in_region ≡ false → count < 4194304
    → nat_le (unsigned_abs (unwrap_or x s.x)) l.limit ≡ true → nat_le (unsigned_abs (unwrap_or y s.y)) l.limit ≡ true → is_within l.limit i ≡ true → is_within l.limit j ≡ true
    → flash ≡ record { at = point_of l (unwrap_or x s.x) (unwrap_or y s.y); what = moved_what (point_of l (unwrap_or x s.x) (unwrap_or y s.y)) w }
    → IsFlashOf again s count (command.Operate action x y i j) flash
flash_is_legal again s count l w action x y i j flash near known is_lone flashes outside few a b c d is =
    let h = named_lengths l s.unit s.format known in
    let single_copy = single_shape w (current_unit (current_of s)) (current_aperture s) s.scale s.turn s.block is_lone in
    let p : GridPoint = point_of l (unwrap_or x s.x) (unwrap_or y s.y) in
    let one : copies_at s x y ≡ p ∷ [] = one_point s l x y h single_copy.columns single_copy.rows in
    let named_x : is_within l.limit x ≡ true = given_within_limit l.limit x s.x a in
    let named_y : is_within l.limit y ≡ true = given_within_limit l.limit y s.y b in
    let near_x : is_too_far p.x ≡ false = not_far p.x (near_length (unwrap_or x s.x) l.place l.limit near (within_limit (unwrap_or x s.x) l.limit a)) in
    let near_y : is_too_far p.y ≡ false = not_far p.y (near_length (unwrap_or y s.y) l.place l.limit near (within_limit (unwrap_or y s.y) l.limit b)) in
    let near_point : list_any is_far_point (copies_at s x y) ≡ false = ap (list_any is_far_point) one ∙ (λ k. (near_x k || near_y k) || false) in
    let near_pad : option_map_or (is_far_pad s) (current_aperture s) false ≡ false = (λ k. option_map_or (is_far_pad s) (single_copy.shape_is k) false) ∙ single_copy.near in
    let selected : is_none s.selected ≡ false = some_selected s.definition s.selected single_copy.shape single_copy.shape_is in
    record {
      legal =
          no_rule_broken again s count action x y i j (λ k. not (not (flashes k)) && outside k) (λ k. is_none (h.format_is k)) (λ k. is_none (h.unit_is k))
          ((λ k. needs_aperture action s.in_region && selected k) ∙ and_false (needs_aperture action s.in_region)) (few_digits s l action x y i j h named_x named_y c d)
          (λ k. (not_far_coordinate s l x near h named_x k || not_far_coordinate s l y near h named_y k) || (flashes k && (near_point k || near_pad k)))
          ((λ k. flashes k && nat_lt 4194304 (count + length (one k))) ∙ not_one_too_many count few);
      flashes =
          (λ k. cond (flashes k) (option_map_or (aperture_flashes s x y) (single_copy.shape_is k) []) []) ∙ ap (map (flash_at s single_copy.shape)) one
          ∙ (λ k. record { at = p; what = (sym (what_moved p (current_unit (current_of s)) s.scale s.turn single_copy.shape) ∙ ap (moved_what p) (sym single_copy.value)) k } ∷ []) ∙ (λ k. sym is k ∷ []);
      few = few;
    }

-- ---- what the fast path keeps

-- a command that changes nothing of it leaves it true
pub cached_stays_valid : (cached : CachedValues) (s : GraphicsState) (c : Command) → changes_cached c ≡ false → AreCachedValues cached s → AreCachedValues cached (after c s)
cached_stays_valid cached s (command.Comment text) e h = h
cached_stays_valid cached s (command.Mode mode) e h = h
cached_stays_valid cached s (command.Quadrant mode) e h = h
cached_stays_valid cached s command.RegionStart e h = h
cached_stays_valid cached s command.RegionEnd e h = h
cached_stays_valid cached s command.Dark e h = h
cached_stays_valid cached s command.Clear e h = h
cached_stays_valid cached s (command.Mirror x y) e h = h
cached_stays_valid cached s (command.Macro name pieces) e h = h
cached_stays_valid cached s (command.Attribute kind text) e h = h
cached_stays_valid cached s (command.Remove name) e h = h
cached_stays_valid cached s command.Finish e h = h
cached_stays_valid cached s (command.Operate action x y i j) e h = h
cached_stays_valid cached s (command.UnitIs unit) e h = absurd cc
cached_stays_valid cached s (command.FormatIs format) e h = absurd cc
cached_stays_valid cached s (command.Define number template) e h = absurd cc
cached_stays_valid cached s (command.Select number) e h = absurd cc
cached_stays_valid cached s (command.Turn turn) e h = absurd cc
cached_stays_valid cached s (command.Scale scale) e h = absurd cc
cached_stays_valid cached s (command.Repeat block) e h = absurd cc
cached_stays_valid cached s command.RepeatEnd e h = absurd cc

-- ---- what a judge takes in

pub move_applies : (old new : State) (action : Action) (x y i j : Option ℤ) → is_flash action ≡ false → state_of new ≡ after (command.Operate action x y i j) (state_of old) → new.macros ≡ old.macros → new.apertures ≡ old.apertures → new.flashes ≡ old.flashes
    → Applies old (command.Operate action x y i j) new
move_applies old new action x y i j move state_after macros apertures same =
    let none : added_flashes (state_of old) (command.Operate action x y i j) ≡ [] = λ k. cond (move k) (option_map_or (aperture_flashes (state_of old) x y) (current_aperture (state_of old)) []) [] in
    record {
      state_after = state_after;
      profile = ap profile_of apertures;
      templates = λ asked. ap template_at apertures;
      macros = λ asked. ap pieces_at macros;
      apertures = λ asked. ap defined_at apertures;
      flashes = subst (λ (f : Flashes). Adds old.flashes (added_flashes (state_of old) (command.Operate action x y i j)) f) (sym same) (subst (λ (l : List Flash). Adds old.flashes l old.flashes) (sym none) (adds_none old.flashes));
    }

pub flash_applies : (old new : State) (action : Action) (x y i j : Option ℤ) (flash : Flash) → added_flashes (state_of old) (command.Operate action x y i j) ≡ flash ∷ [] → state_of new ≡ after (command.Operate action x y i j) (state_of old)
    → new.macros ≡ old.macros → new.apertures ≡ old.apertures → Adds old.flashes (flash ∷ []) new.flashes → Applies old (command.Operate action x y i j) new
flash_applies old new action x y i j flash is state_after macros apertures adds =
    record { state_after = state_after; profile = ap profile_of apertures; templates = λ asked. ap template_at apertures; macros = λ asked. ap pieces_at macros; apertures = λ asked. ap defined_at apertures; flashes = subst (λ (l : List Flash). Adds old.flashes l new.flashes) (sym is) adds }

pub step_result : (old new : State) (c : Command) → first_broken (is_allowed_again old.apertures c) (state_of old) (flash_count old.flashes) c ≡ None → Applies old c new → (parts : KeptParts) (before : List Command) → IsStateAfter old parts before → AppliesOrRefuses parts before c new (Ok tt)
step_result old new c legal takes parts before is_state = (sym (same_rule old parts before c is_state) ∙ legal, state_after_one_more old new parts before c is_state takes)
