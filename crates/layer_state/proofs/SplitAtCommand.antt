-- A list of commands, cut at one of them.
use Rattle.layer_state.proofs.Common.{◌≡◌, ◌+◌, ◌<◌, ℕ, [], ◌∷◌, ◌++◌, length, take, drop, get_or, ap, sym, ◌∙◌, drop-cons, add-one, take_more, take-append-drop, Command, Placed, Entries}

-- the commands up to and with the one at i
pub take_next : (cs : Entries) (i : ℕ) (e : Placed Command) → i < length cs → e ≡ get_or cs i e → take (i + 1) cs ≡ take i cs ++ e ∷ []
take_next cs i e h k = take_more cs i e h ∙ ap (λ d. take i cs ++ d ∷ []) (sym k)

-- the list, cut at i
pub cut_at : (cs : Entries) (i : ℕ) (e : Placed Command) → i < length cs → e ≡ get_or cs i e → take i cs ++ e ∷ drop (i + 1) cs ≡ cs
cut_at cs i e h k =
    ap (λ l. take i cs ++ l) (ap (λ d. d ∷ drop (i + 1) cs) k ∙ ap (λ n. get_or cs i e ∷ drop n cs) (add-one i) ∙ sym (drop-cons cs i e h)) ∙ take-append-drop i cs
