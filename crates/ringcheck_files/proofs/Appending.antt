-- Texts that were written one after the other.
use Rattle.ringcheck_files.proofs.Common.{◌∙◌, ◌++◌, ℕ, List, Option, Some, None, ap, append_assoc, Appends}

-- two texts
pub appends_both : (before middle after : Option (List ℕ)) (first second : List ℕ) → Appends before middle first → Appends middle after second → Appends before after (first ++ second)
appends_both None middle after first second h k = tt
appends_both (Some xs) None after first second h k = absurd h
appends_both (Some xs) (Some ys) None first second h k = absurd k
appends_both (Some xs) (Some ys) (Some zs) first second h k = k ∙ (ap (λ (t : List ℕ). t ++ second) h ∙ append_assoc xs first second)
