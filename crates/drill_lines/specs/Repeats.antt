-- Lines of the wide profile that repeat the hit before them: `R3X2.54` drills three further holes, each 2.54 to the right of the one before
-- (docs/FORMATS.md, The wide profile). They stand without the blanks at their ends.
use Rattle.std.specs.Prelude.{◌≡◌, ◌⊎◌, ◌≤◌, ℕ, Bool, true, false, IsTrue, not, ◌||◌, ◌&&◌, ◌==◌, nat_le, List, [], ◌++◌, length, drop, take_while, if◌then◌else◌, Some, None, option_and_then, Result, Ok, Err, codes}
use Rattle.std.specs.List.{prefix_len}
use Rattle.std.specs.Option.{option_map}
use Rattle.grid_units.specs.declared.fault.Reason.{Reason}
use Rattle.grid_units.specs.declared.fault.Reason.TheVariants.{BadNumber}
use Rattle.grid_units.specs.declared.profile.Profile.{Profile}
use Rattle.grid_units.specs.declared.profile.Profile.TheVariants.{Strict, Wide}
use Rattle.grid_units.specs.Numbers.{is_digit, is_digits, value}
use Rattle.grid_units.specs.Results.{◌>>=◌, both}
use Rattle.grid_units.specs.Rows.{RowOf, strip_prefix}
use Rattle.drill_lines.specs.declared.command.Coordinates.{Coordinates}
use Rattle.drill_lines.specs.declared.command.Part.{Part}
use Rattle.drill_lines.specs.declared.command.Part.TheVariants as part
use Rattle.drill_lines.specs.declared.command.Repeat.{Repeat}
use Rattle.drill_lines.specs.declared.command.Settings.{Settings}
use Rattle.drill_lines.specs.declared.route.Machine.{Machine}
use Rattle.drill_lines.specs.declared.route.Machine.TheVariants as machine
use Rattle.drill_lines.specs.Grammar.{IsPointText}
use Rattle.drill_lines.specs.HoleLines.{point_line}
use Rattle.drill_lines.specs.Routes.{starts, lowers, cuts, last_line, machine_after}

-- ---- one line

-- how many further holes there are, from 1 to 10,000
unfoldable pub repeat_count : List ℕ → Result ℕ Reason
repeat_count digits = if is_digits digits && (nat_le 1 (value digits) && nat_le (value digits) 10000) then Ok (value digits) else Err BadNumber

-- a step along neither axis
abbrev pub no_step : Coordinates
no_step = record { x = None; y = None }

-- the row of steps, from each hole to the next: `X2.54`, `X1.0Y-0.5`, `Y1.0`, or nothing
abbrev pub step_row : Settings → List ℕ → RowOf Coordinates
step_row settings text = if length text == 0 then Some (Ok no_step) else point_line settings text

-- the repeat of this count and this step, or the first reason in the reading order
abbrev pub repeat_of : List ℕ → Result Coordinates Reason → Result Repeat Reason
repeat_of digits step = both (repeat_count digits) step >>= λ r. Ok (record { count = r.0; step = r.1 })

-- the row of these digits and what follows them: `3` and `X2.54`
unfoldable pub repeat_fields : Settings → List ℕ → List ℕ → RowOf Repeat
repeat_fields settings digits text = option_map (repeat_of digits) (step_row settings text)

-- the row of lines of the body that are `R`, digits and a step: `R3X2.54`
unfoldable pub repeat_row : Part → Settings → List ℕ → RowOf Repeat
repeat_row part.Body settings line = option_and_then (λ rest. repeat_fields settings (take_while is_digit rest) (drop (prefix_len is_digit rest) rest)) (strip_prefix (codes "R") line)
repeat_row _ settings line = None

-- ---- a line after these

-- the machine drills
abbrev pub is_drilling : Machine → Bool
is_drilling machine.Drilling = true
is_drilling _ = false

-- no line of a route is due after these lines, and the machine drills
abbrev pub drills_on : List (List ℕ) → Bool
drills_on earlier = not (starts (last_line earlier) || (lowers (last_line earlier) || cuts (last_line earlier))) && is_drilling (machine_after earlier)

-- in the wide profile, the row of lines that repeat a hit: right after one, where no line of a route is due and the machine drills
abbrev pub repeat_in : Profile → Bool → List (List ℕ) → Settings → List ℕ → RowOf Repeat
repeat_in Strict after_hit earlier settings line = None
repeat_in Wide after_hit earlier settings line = if after_hit && drills_on earlier then repeat_row settings.part settings line else None

-- ---- the grammar

-- a step: a point text, or nothing
abbrev pub IsStepText : Settings → List ℕ → Coordinates → Type 0
IsStepText settings text step = ((text ≡ []) × (step ≡ no_step)) ⊎ IsPointText settings text step

-- A line of the body repeats a hit so: `R3X2.54` three times, each 2.54 to the right of the one before.
abbrev pub IsRepeatLine : Settings → List ℕ → Repeat → Type 0
IsRepeatLine settings line repeat = (settings.part ≡ part.Body) × (digits step : List ℕ) × (line ≡ codes "R" ++ digits ++ step)
    × IsTrue (is_digits digits) × (repeat.count ≡ value digits) × (1 ≤ repeat.count) × (repeat.count ≤ 10000) × IsStepText settings step repeat.step
