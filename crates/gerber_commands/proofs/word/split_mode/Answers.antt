-- The bytes at the start of the word, and the others.
use Rattle.gerber_commands.proofs.Common.{◌≡◌, ◌∷◌, [], ◌-◌, ◌≤◌, List, ℕ, length, take, drop, get_or, take_all, ap, sym, arith, rules}
use Rattle.gerber_commands.specs.Words.{split_mode}
use Rattle.gerber_commands.proofs.word.split_mode.Goals as goal

three : (text : List ℕ) (x y z : ℕ) → 3 ≤ length text → get_or text 0 0 ≡ x → get_or text 1 0 ≡ y → get_or text 2 0 ≡ z → text ≡ x ∷ y ∷ z ∷ take (length text - 3) (drop 3 text)
three [] x y z le p q r = absurd (omega arith)
three (a ∷ []) x y z le p q r = absurd (omega arith)
three (a ∷ b ∷ []) x y z le p q r = absurd (omega arith)
three (a ∷ b ∷ d ∷ bs) x y z le p q r = λ i. p i ∷ q i ∷ r i ∷ sym (take_all (length (a ∷ b ∷ d ∷ bs) - 3) bs (omega arith)) i

pub returns-in-71 : goal.returns-in-71
unfolding split_mode
returns-in-71 c =
    let e = three c.args.text.now 71 48 49 c.in-71.len_at_least (omega arith) (omega arith) (omega arith) in
    record { mode = sym (ap (λ t. (split_mode t).0) e); rest = sym (ap (λ t. (split_mode t).1) e) }

pub returns-in-71-3 : goal.returns-in-71-3
unfolding split_mode
returns-in-71-3 c =
    let e = three c.args.text.now 71 48 50 c.in-71-3.len_at_least (omega arith) (omega arith) (omega arith) in
    record { mode = sym (ap (λ t. (split_mode t).0) e); rest = sym (ap (λ t. (split_mode t).1) e) }

pub returns-in-71-5 : goal.returns-in-71-5
unfolding split_mode
returns-in-71-5 c =
    let e = three c.args.text.now 71 48 51 c.in-71-5.len_at_least (omega arith) (omega arith) (omega arith) in
    record { mode = sym (ap (λ t. (split_mode t).0) e); rest = sym (ap (λ t. (split_mode t).1) e) }

pub returns-in_default : goal.returns-in_default
unfolding split_mode
returns-in_default c = search rules
