-- The first command at which the judge stops gives the first fault.
use Rattle.layer_state.proofs.Common.{List, ◌≡◌, [], ◌∷◌, ◌++◌, length, Err, ap, option_map, violations, fault, IfFault, violations-first, Command, Placed, Entries, State, ItemFail, AppliesOrRefuses, Scan, IsScanResult, fault_of, fail_at, IsFirstFault, KeptParts, without_places}
use Rattle.grid_units.specs.declared.item_fail.ItemFail.TheVariants as stop

pub stop_is_first_fault : (parts : KeptParts) (cs ds : Entries) (e : Placed Command) (new : Scan) (s : ItemFail) → violations (fault_of parts.profile) cs ≡ [] → IsScanResult parts (without_places cs) e.what new (Err s) → IfFault (IsFirstFault parts.profile (cs ++ e ∷ ds)) (fail_at e.place e.byte s)
stop_is_first_fault parts cs ds e new stop.Memory none answer = tt
stop_is_first_fault parts cs ds e new (stop.Refused r) none answer =
    (length cs, violations-first (fault_of parts.profile) cs ds e (fault e.place e.byte r) none (ap (option_map (fault e.place e.byte)) answer))

-- where the judge stops at a command, so does the scan
pub scan_stops : (parts : KeptParts) (before : List Command) (c : Command) (state : State) (scan : Scan) (s : ItemFail) → AppliesOrRefuses parts before c state (Err s) → IsScanResult parts before c scan (Err s)
scan_stops parts before c state scan stop.Memory h = tt
scan_stops parts before c state scan (stop.Refused reason) h = h
