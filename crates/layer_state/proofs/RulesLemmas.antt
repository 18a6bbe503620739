-- What follows for a command that breaks no rule.
use Rattle.layer_state.proofs.Common.{◌≡◌, ℕ, ◌+◌, length, nat_lt, ℤ, List, [], ◌∷◌, ◌++◌, Option, None, Some, Bool, true, false, cond, ◌||◌, ◌&&◌, refl, sym, ap, ◌∙◌, find, Command, Action, GraphicsState, is_flash, copies_at, first_broken, breaks_rule, reaches_too_far, flashes_too_far, sets_bad_size, is_far_coordinate, makes_too_many_flashes, or_is_false}
use Rattle.gerber_commands.specs.declared.command.Command.TheVariants as command
use Rattle.grid_units.specs.declared.fault.Reason.TheVariants as reason

-- where a search finds nothing, no element passes
none_found : {A : Type 0} (p : A → Bool) (xs ys : List A) (x : A) → find p (xs ++ x ∷ ys) ≡ None → p x ≡ false
none_found p [] ys x h = by (p x) refl
  where
    by : (b : Bool) → p x ≡ b → p x ≡ false
    by true e = cc
    by false e = e
none_found p (y ∷ xs) ys x h = by (p y) refl (none_found p xs ys x)
  where
    by : (b : Bool) → p y ≡ b → (find p (xs ++ x ∷ ys) ≡ None → p x ≡ false) → p x ≡ false
    by true e rest = cc
    by false e rest = rest (ap (λ b. cond b (Some y) (find p (xs ++ x ∷ ys))) (sym e) ∙ h)

-- a command that breaks no rule does not reach too far
pub not_too_far : (again : Bool) (s : GraphicsState) (count : ℕ) (c : Command) → first_broken again s count c ≡ None → reaches_too_far s c ≡ false
unfolding first_broken
not_too_far again s count c h =
    none_found (breaks_rule again s count c)
    (reason.InRegion ∷ reason.NotInRegion ∷ reason.NoFormat ∷ reason.NoUnit ∷ reason.UnitConflict ∷ reason.FormatConflict ∷ reason.Redefined
    ∷ reason.UnknownMacro ∷ reason.UnknownAperture ∷ reason.NoAperture ∷ reason.BadSize ∷ reason.BadRepeat ∷ reason.TooManyDigits ∷ [])
    (reason.TooManyPads ∷ []) reason.TooFar h

-- nor do its flashes make too many
pub not_too_many : (again : Bool) (s : GraphicsState) (count : ℕ) (c : Command) → first_broken again s count c ≡ None → makes_too_many_flashes s count c ≡ false
unfolding first_broken
not_too_many again s count c h =
    none_found (breaks_rule again s count c)
    (reason.InRegion ∷ reason.NotInRegion ∷ reason.NoFormat ∷ reason.NoUnit ∷ reason.UnitConflict ∷ reason.FormatConflict ∷ reason.Redefined
    ∷ reason.UnknownMacro ∷ reason.UnknownAperture ∷ reason.NoAperture ∷ reason.BadSize ∷ reason.BadRepeat ∷ reason.TooManyDigits ∷ reason.TooFar ∷ [])
    [] reason.TooManyPads h

-- nor does it have a size out of its range
pub sizes_in_range : (again : Bool) (s : GraphicsState) (count : ℕ) (c : Command) → first_broken again s count c ≡ None → sets_bad_size c ≡ false
unfolding first_broken
sizes_in_range again s count c h =
    none_found (breaks_rule again s count c)
    (reason.InRegion ∷ reason.NotInRegion ∷ reason.NoFormat ∷ reason.NoUnit ∷ reason.UnitConflict ∷ reason.FormatConflict ∷ reason.Redefined
    ∷ reason.UnknownMacro ∷ reason.UnknownAperture ∷ reason.NoAperture ∷ [])
    (reason.BadRepeat ∷ reason.TooManyDigits ∷ reason.TooFar ∷ reason.TooManyPads ∷ []) reason.BadSize h

second : (a b : Bool) → (a && b) ≡ false → a ≡ true → b ≡ false
second true b h t = h
second false b h t = cc

-- so neither does a flash
pub near_flash : (s : GraphicsState) (action : Action) (x y i j : Option ℤ) → reaches_too_far s (command.Operate action x y i j) ≡ false → is_flash action ≡ true → flashes_too_far s x y ≡ false
near_flash s action x y i j h flash = second (is_flash action) (flashes_too_far s x y) (or_is_false (is_far_coordinate s x || is_far_coordinate s y) _ h).1 flash

pub few_flashes : (s : GraphicsState) (count : ℕ) (action : Action) (x y i j : Option ℤ) → makes_too_many_flashes s count (command.Operate action x y i j) ≡ false → is_flash action ≡ true → nat_lt 4194304 (count + length (copies_at s x y)) ≡ false
few_flashes s count action x y i j h flash = second (is_flash action) (nat_lt 4194304 (count + length (copies_at s x y))) h flash
