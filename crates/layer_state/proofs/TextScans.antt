-- A scan that meets a comment or an attribute outside of regions.
use Rattle.layer_state.proofs.Common.{◌≡◌, ℕ, false, [], ◌∷◌, ◌++◌, List, None, Ok, refl, sym, ap, subst, ◌∙◌, option_or, last_set-more, Command, Entries, item_entries, without_places, Scan, State, function_set, HasScanned, HasScannedLegal, IsScanResult, Applies, IsStateAfter, state_of, KeptParts, flash_count, GraphicsState, first_broken, Bool, is_allowed_again}
use Rattle.gerber_text.specs.declared.text_items.TextKind.{TextKind}
use Rattle.gerber_text.specs.declared.text_items.TextKind.TheVariants as kinds
use Rattle.gerber_text.specs.FastPath.{text_command}
use Rattle.layer_state.specs.declared.cached.CachedState.{CachedState}
use Rattle.layer_state.proofs.KeptFlashesLemmas.{adds_none}
use Rattle.layer_state.proofs.OperationScans.{scanned_more}
use Rattle.layer_state.proofs.StateLemmas.{state_after_one_more, same_rule}

text_is_legal : (again : Bool) (s : GraphicsState) (count : ℕ) (kind : TextKind) (text : List ℕ) → s.in_region ≡ false → first_broken again s count (text_command kind text) ≡ None
unfolding first_broken
text_is_legal again s count kinds.Comment text outside = refl
text_is_legal again s count (kinds.Attribute which) text outside = rw outside refl
text_is_legal again s count kinds.Remove text outside = rw outside refl

text_applies : (state : State) (kind : TextKind) (text : List ℕ) → Applies state (text_command kind text) state
text_applies state kinds.Comment text = record { state_after = refl; profile = refl; templates = λ asked. refl; macros = λ asked. refl; apertures = λ asked. refl; flashes = adds_none state.flashes }
text_applies state (kinds.Attribute which) text = record { state_after = refl; profile = refl; templates = λ asked. refl; macros = λ asked. refl; apertures = λ asked. refl; flashes = adds_none state.flashes }
text_applies state kinds.Remove text = record { state_after = refl; profile = refl; templates = λ asked. refl; macros = λ asked. refl; apertures = λ asked. refl; flashes = adds_none state.flashes }

-- it changes nothing but the file function
text_result : (old new : Scan) (parts : KeptParts) (before : List Command) (kind : TextKind) (text : List ℕ) → old.state.state.current.in_region ≡ false → new.state ≡ old.state → new.file_function ≡ option_or (function_set (text_command kind text)) old.file_function → HasScanned old parts before
    → IsScanResult parts before (text_command kind text) new (Ok tt)
text_result old new parts before kind text outside same named h =
    let state = old.state.state in
    let what = text_command kind text in (
      sym (same_rule state parts before what h.is_state) ∙ text_is_legal (is_allowed_again state.apertures what) (state_of state) (flash_count state.flashes) kind text outside,
      record {
        is_state = subst (λ (s : CachedState). IsStateAfter s.state parts (before ++ what ∷ [])) (sym same) (state_after_one_more state state parts before what h.is_state (text_applies state kind text));
        named = named ∙ (ap (option_or (function_set what)) h.named ∙ sym (last_set-more function_set before what));
      },
    )

pub text_scanned : (old new : Scan) (parts : KeptParts) (before : Entries) (place byte : ℕ) (kind : TextKind) (text : List ℕ) → old.state.state.current.in_region ≡ false → new.state ≡ old.state → new.file_function ≡ option_or (function_set (text_command kind text)) old.file_function → HasScannedLegal old parts before
    → HasScannedLegal new parts (before ++ item_entries place byte (text_command kind text ∷ []))
text_scanned old new parts before place byte kind text outside same named h =
    scanned_more old new parts before (record { place = place; byte = byte; what = text_command kind text }) h (text_result old new parts (without_places before) kind text outside same named h.met)
