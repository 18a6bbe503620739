-- What a reader keeps of the lines before the next one: how far a route has come. And what one more line makes of it.
use Rattle.std.specs.Prelude.{◌≡◌, ℕ, Bool, true, false, List, [], ◌∷◌, if◌then◌else◌, Option, Some, None, unwrap_or, Result, Ok, Err, codes}
use Rattle.std.specs.Option.{option_map}
use Rattle.grid_units.specs.declared.fault.Reason.{Reason}
use Rattle.grid_units.specs.declared.fault.Reason.TheVariants.{BadLine, Routed}
use Rattle.grid_units.specs.Results.{◌>>=◌}
use Rattle.grid_units.specs.Rows.{RowOf, literal_row}
use Rattle.drill_lines.specs.declared.command.Coordinates.{Coordinates}
use Rattle.drill_lines.specs.declared.command.Part.{Part}
use Rattle.drill_lines.specs.declared.command.Part.TheVariants as part
use Rattle.drill_lines.specs.declared.command.Settings.{Settings}
use Rattle.drill_lines.specs.declared.command.DrillCommand.{DrillCommand}
use Rattle.drill_lines.specs.declared.command.DrillCommand.TheVariants.{Slot, Finish}
use Rattle.drill_lines.specs.declared.route.Machine.{Machine}
use Rattle.drill_lines.specs.declared.route.Machine.TheVariants as machine
use Rattle.drill_lines.specs.declared.route.Route.{Route}
use Rattle.drill_lines.specs.declared.route.Route.TheVariants as route
use Rattle.drill_lines.specs.Meaning.{meaning}
use Rattle.drill_lines.specs.Repeats.{is_drilling}
use Rattle.drill_lines.specs.Routes.{starts, lowers, cuts, raises, routed_point, last_line, last_point, machine_set, machine_after, says_nothing, may_stand, unless_routing}

-- ---- one more line

-- what a line spells, and the route after it
abbrev pub Step : Type 0
Step = Option DrillCommand × Route

-- after `G00` and a point
abbrev pub second_step : Coordinates → List ℕ → Result Step Reason
second_step from line = if lowers line then Ok (None, route.Lowered from) else Err Routed

-- after `M15`
abbrev pub third_step : Coordinates → Settings → List ℕ → Result Step Reason
third_step from settings line = unwrap_or (option_map (λ read. read >>= λ to. Ok (None, route.Cut from to)) (routed_point (codes "G01") settings line)) (Err Routed)

-- after `G01` and a point
abbrev pub fourth_step : Coordinates → Coordinates → List ℕ → Result Step Reason
fourth_step from to line = if raises line then Ok (Some (Slot from to), route.Free machine.Routing) else Err Routed

-- a line that the strict profile refuses, where no line of a route is due, and what the machine does after it
abbrev pub part_step : Machine → Part → Settings → List ℕ → RowOf Step
part_step next part.Before settings line = literal_row ((codes "M30", Ok (Some Finish, route.Free next)) ∷ []) line
part_step next part.Body settings line = option_map (λ read. read >>= λ from. Ok (None, route.Started from)) (routed_point (codes "G00") settings line)
part_step next _ settings line = None

-- a line that the wide profile alone reads, or that may not stand since the machine has stopped
abbrev pub wide_step : Machine → Machine → Settings → List ℕ → RowOf Step
wide_step now next settings line =
    if may_stand now line then (if says_nothing settings.part line then Some (Ok (None, route.Free next)) else part_step next settings.part settings line)
    else Some (Err BadLine)

-- what any other line spells, unless it drills while the machine routes
abbrev pub other_step : Machine → Machine → Option DrillCommand → Result Step Reason
other_step now next spelled = unless_routing now spelled >>= λ c. Ok (c, route.Free next)

-- one more line
unfoldable pub route_step : Route → Settings → List ℕ → Result Step Reason
route_step (route.Free now) settings line =
    let next = unwrap_or (machine_set line) now in unwrap_or (wide_step now next settings line) (meaning settings line >>= other_step now next)
route_step (route.Started from) settings line = second_step from line
route_step (route.Lowered from) settings line = third_step from settings line
route_step (route.Cut from to) settings line = fourth_step from to line

-- ---- what the lines before say

-- no line of a route is due, and the machine drills
abbrev pub is_free_to_drill : Route → Bool
is_free_to_drill (route.Free now) = is_drilling now
is_free_to_drill _ = false

-- no line of a route is due after these lines
abbrev pub IsFree : List (List ℕ) → Type 0
IsFree earlier = (starts (last_line earlier) ≡ false) × (lowers (last_line earlier) ≡ false) × (cuts (last_line earlier) ≡ false)

-- after these lines the route has come so far
abbrev pub IsRouteAfter : Route → Settings → List (List ℕ) → Type 0
IsRouteAfter (route.Free now) settings earlier = IsFree earlier × (machine_after earlier ≡ now)
IsRouteAfter (route.Started from) settings earlier = (starts (last_line earlier) ≡ true) × (last_point (codes "G00") settings earlier ≡ Some from)
IsRouteAfter (route.Lowered from) settings earlier = (last_line earlier ≡ codes "M15") × (last_point (codes "G00") settings earlier ≡ Some from)
IsRouteAfter (route.Cut from to) settings earlier = (starts (last_line earlier) ≡ false) × (lowers (last_line earlier) ≡ false) × (cuts (last_line earlier) ≡ true)
    × (last_point (codes "G00") settings earlier ≡ Some from) × (last_point (codes "G01") settings earlier ≡ Some to)
