-- Lists of commands: a legal one has no first fault, and that of one is that of each longer one.
use Rattle.layer_state.proofs.Common.{◌≡◌, ℕ, List, [], ◌∷◌, ◌++◌, length, Option, Some, None, slice_get, refl, ap, ◌∙◌, filter_map, cons_option, option_map, map-append, violations, violation_at, with_prefixes_from, IsLegal, fault, violations-append, Command, Placed, Entries, fault_of, IsFirstFault, Profile, broken_rule_in, without_places}
use Rattle.grid_units.specs.declared.fault.Fault.{Fault}
use Rattle.grid_units.specs.declared.fault.Reason.{Reason}

none_mapped : {A B : Type 0} (f : A → B) (o : Option A) (l : List B) → cons_option (option_map f o) l ≡ [] → (o ≡ None) × (l ≡ [])
none_mapped f None l h = (refl, h)
none_mapped f (Some x) l h = absurd cc

sound_after : (profile : Profile) (first cs : Entries) → filter_map (violation_at (broken_rule_in profile)) (with_prefixes_from (without_places first) (without_places cs)) ≡ [] → filter_map (violation_at (fault_of profile)) (with_prefixes_from first cs) ≡ []
sound_after profile first [] h = refl
sound_after profile first (e ∷ cs) h =
    let both = none_mapped (λ (r : Reason). (length (without_places first), r)) (broken_rule_in profile (without_places first) e.what) _ h in
    let again : without_places (first ++ e ∷ []) ≡ without_places first ++ e.what ∷ [] = map-append (λ (d : Placed Command). d.what) first (e ∷ []) in
    let rest = sound_after profile (first ++ e ∷ []) cs (ap (λ (l : List Command). filter_map (violation_at (broken_rule_in profile)) (with_prefixes_from l (without_places cs))) again ∙ both.1) in
    ap (λ (o : Option Reason). cons_option (option_map (λ (f : Fault). (length first, f)) (option_map (fault e.place e.byte) o)) (filter_map (violation_at (fault_of profile)) (with_prefixes_from (first ++ e ∷ []) cs))) both.0 ∙ rest

-- a legal list has no first fault
pub sound : (profile : Profile) (cs : Entries) → IsLegal (broken_rule_in profile) (without_places cs) → violations (fault_of profile) cs ≡ []
sound profile cs h = sound_after profile [] cs h

none_or_some : (o : Option (ℕ × Fault)) (p : ℕ × Fault) → o ≡ None → o ≡ Some p → ⊥
none_or_some None p e k = cc
none_or_some (Some q) p e k = cc

pub no_fault : (profile : Profile) (cs : Entries) (f : Fault) → IsLegal (broken_rule_in profile) (without_places cs) → IsFirstFault profile cs f → ⊥
no_fault profile cs f legal h = none_or_some (slice_get (violations (fault_of profile) cs) 0) (h.0, f) (ap (λ (l : List (ℕ × Fault)). slice_get l 0) (sound profile cs legal)) h.1

first_of_longer : (l m : List (ℕ × Fault)) (x : ℕ × Fault) → slice_get l 0 ≡ Some x → slice_get (l ++ m) 0 ≡ Some x
first_of_longer [] m x e = absurd cc
first_of_longer (y ∷ l) m x e = e

-- the first fault of a list is that of each longer one
pub first_fault_of_longer : (profile : Profile) (cs ds : Entries) (f : Fault) → IsFirstFault profile cs f → IsFirstFault profile (cs ++ ds) f
first_fault_of_longer profile cs ds f h = (h.0, ap (λ (l : List (ℕ × Fault)). slice_get l 0) (violations-append (fault_of profile) cs ds) ∙ first_of_longer (violations (fault_of profile) cs) _ (h.0, f) h.1)
