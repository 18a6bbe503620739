-- Commands that a reader passes: they are gone, and the last operation is that among them, or before them.
use Rattle.gerber_text.proofs.Common.{◌≡◌, ℕ, [], ◌∷◌, ◌++◌, Option, None, Some, option_or, refl, sym, ap, ◌∙◌, last_set-append, option_or_none, Action, Command, Interpolation, modes_of, Placed, Entries, action_of, item_entries, latest_action, last_set}
use Rattle.std.proofs.Common.{append-nil}

-- commands that are not held count among those that are gone, where no others are held
pub counted_gone : (gone held added : Entries) → held ≡ [] → (gone ++ held) ++ added ≡ (gone ++ added) ++ held
counted_gone gone held added none = (λ i. (gone ++ none i) ++ added) ∙ (ap (λ (x : Entries). x ++ added) (append-nil gone) ∙ (sym (append-nil (gone ++ added)) ∙ (λ i. (gone ++ added) ++ sym none i)))

-- after more commands, whose last operation is that of this one
pub latest_on : (before after added : Entries) (what : Command) (old new : Option Action) → after ≡ before ++ added → last_set (λ entry. action_of entry.what) added ≡ action_of what → old ≡ latest_action before → new ≡ option_or (action_of what) old → new ≡ latest_action after
latest_on before after added what old new items last held is =
    is ∙ ap (option_or (action_of what)) held ∙ ap (λ o. option_or o (latest_action before)) (sym last) ∙ sym (last_set-append (λ (entry : Placed Command). action_of entry.what) before added) ∙ ap latest_action (sym items)

-- among the commands of an operation's item, it is the last operation
pub last_operation : (place byte : ℕ) (mode : Option Interpolation) (what : Command) → last_set (λ (entry : Placed Command). action_of entry.what) (item_entries place byte (modes_of mode ++ what ∷ [])) ≡ action_of what
last_operation place byte None what = refl
last_operation place byte (Some mode) what = option_or_none (action_of what)
