-- The fault of some commands and the next one is that of all commands.
use Rattle.layer_state.proofs.Common.{◌≡◌, ◌+◌, ◌<◌, ℕ, [], ◌∷◌, ◌++◌, length, take, drop, get_or, ap, subst, ◌∙◌, append_assoc, IfFault, Command, Placed, Entries, Profile, IsFirstFault}
use Rattle.grid_units.specs.declared.fault.Fail.{Fail}
use Rattle.grid_units.specs.declared.fault.Fail.TheVariants as fails
use Rattle.layer_state.proofs.SplitAtCommand.{cut_at}
use Rattle.layer_state.proofs.LegalLists.{first_fault_of_longer}

stays_first : (profile : Profile) (cs ds : Entries) (e : Fail) → IfFault (IsFirstFault profile cs) e → IfFault (IsFirstFault profile (cs ++ ds)) e
stays_first profile cs ds fails.Memory h = tt
stays_first profile cs ds (fails.Refused f) h = first_fault_of_longer profile cs ds f h

pub fault_of_all : (profile : Profile) (before cs : Entries) (i : ℕ) (e : Placed Command) (fail : Fail) → i < length cs → e ≡ get_or cs i e → IfFault (IsFirstFault profile ((before ++ take i cs) ++ e ∷ [])) fail → IfFault (IsFirstFault profile (before ++ cs)) fail
fault_of_all profile before cs i e fail lt is h =
    let so_far = before ++ take i cs in
    let whole : (so_far ++ e ∷ []) ++ drop (i + 1) cs ≡ before ++ cs =
    append_assoc so_far (e ∷ []) (drop (i + 1) cs) ∙ append_assoc before (take i cs) (e ∷ drop (i + 1) cs) ∙ ap (λ (x : Entries). before ++ x) (cut_at cs i e lt is) in
    subst (λ (l : Entries). IfFault (IsFirstFault profile l) fail) whole (stays_first profile (so_far ++ e ∷ []) (drop (i + 1) cs) fail h)
