-- A scan that meets an interpolation or an operation.
use Rattle.layer_state.proofs.Common.{◌≡◌, ℕ, ℤ, [], ◌∷◌, ◌++◌, List, Option, None, Some, Result, Ok, Err, refl, sym, ap, subst, ◌∙◌, append-nil, append_assoc, map-append, violations, last_set-more, violations-more, ItemFail, Action, Command, Mode, Operate, Placed, Entries, item_entries, without_places, State, Scan, function_set, HasScanned, HasScannedLegal, IsScanResult, Applies, AppliesOrRefuses, state_of, KeptParts, flash_count, GraphicsState, broken_rule_in, first_broken, Bool, is_allowed_again}
use Rattle.grid_units.specs.declared.item_fail.ItemFail.TheVariants.{Memory, Refused}
use Rattle.gerber_commands.specs.declared.command.Interpolation.{Interpolation}
use Rattle.gerber_commands.specs.Rows.{modes_of}
use Rattle.layer_state.proofs.KeptFlashesLemmas.{adds_none}
use Rattle.layer_state.proofs.StateLemmas.{state_after_one_more, same_rule}

-- one command more, which breaks no rule
pub scanned_more : (old new : Scan) (parts : KeptParts) (before : Entries) (e : Placed Command) → HasScannedLegal old parts before → IsScanResult parts (without_places before) e.what new (Ok tt) → HasScannedLegal new parts (before ++ e ∷ [])
scanned_more old new parts before e h answer =
    let whats : without_places (before ++ e ∷ []) ≡ without_places before ++ e.what ∷ [] = map-append (λ (d : Placed Command). d.what) before (e ∷ []) in
    record {
      met = subst (HasScanned new parts) (sym whats) answer.1;
      legal = ap (violations (broken_rule_in parts.profile)) whats ∙ violations-more (broken_rule_in parts.profile) (without_places before) e.what h.legal answer.0;
    }

mode_is_legal : (again : Bool) (s : GraphicsState) (count : ℕ) (mode : Interpolation) → first_broken again s count (Mode mode) ≡ None
unfolding first_broken
mode_is_legal again s count mode = refl

mode_applies : (state : State) (mode : Interpolation) → Applies state (Mode mode) state
mode_applies state mode = record { state_after = refl; profile = refl; templates = λ asked. refl; macros = λ asked. refl; apertures = λ asked. refl; flashes = adds_none state.flashes }

-- an interpolation breaks no rule, and changes nothing that the scan holds
mode_result : (scan : Scan) (parts : KeptParts) (before : List Command) (mode : Interpolation) → HasScanned scan parts before → IsScanResult parts before (Mode mode) scan (Ok tt)
mode_result scan parts before mode h =
    let state = scan.state.state in (
      sym (same_rule state parts before (Mode mode) h.is_state) ∙ mode_is_legal (is_allowed_again state.apertures (Mode mode)) (state_of state) (flash_count state.flashes) mode,
      record {
        is_state = state_after_one_more state state parts before (Mode mode) h.is_state (mode_applies state mode);
        named = h.named ∙ sym (last_set-more function_set before (Mode mode));
      },
    )

pub mode_scanned : (scan : Scan) (parts : KeptParts) (before : Entries) (place byte : ℕ) (mode : Option Interpolation) → HasScannedLegal scan parts before → HasScannedLegal scan parts (before ++ item_entries place byte (modes_of mode))
mode_scanned scan parts before place byte None h = subst (HasScannedLegal scan parts) (sym (append-nil before)) h
mode_scanned scan parts before place byte (Some mode) h = scanned_more scan scan parts before (record { place = place; byte = byte; what = Mode mode }) h (mode_result scan parts (without_places before) mode h.met)

-- an operation names no file function
pub operation_result : (parts : KeptParts) (before : List Command) (old new : Scan) (action : Action) (x y i j : Option ℤ) (r : Result (Unit {0}) ItemFail) → new.file_function ≡ old.file_function → HasScanned old parts before
    → AppliesOrRefuses parts before (Operate action x y i j) new.state.state r → IsScanResult parts before (Operate action x y i j) new r
operation_result parts before old new action x y i j (Ok z) same h answer = (answer.0, record { is_state = answer.1; named = same ∙ h.named ∙ sym (last_set-more function_set before (Operate action x y i j)) })
operation_result parts before old new action x y i j (Err Memory) same h answer = tt
operation_result parts before old new action x y i j (Err (Refused reason)) same h answer = answer

-- the interpolation comes before the operation
pub operation_last : (before : Entries) (place byte : ℕ) (mode : Option Interpolation) (what : Command) → (before ++ item_entries place byte (modes_of mode)) ++ record { place = place; byte = byte; what = what } ∷ [] ≡ before ++ item_entries place byte (modes_of mode ++ what ∷ [])
operation_last before place byte None what = ap (λ (x : Entries). x ++ record { place = place; byte = byte; what = what } ∷ []) (append-nil before)
operation_last before place byte (Some mode) what = append_assoc before (record { place = place; byte = byte; what = Mode mode } ∷ []) (record { place = place; byte = byte; what = what } ∷ [])
