use Rattle.gerber_commands.proofs.Common.{◌≡◌, ◌<◌, ◌^◌, ◌∙◌, ◌∷◌, [], ℕ, List, take, true, sym, subst, arith, length-take-le, list_all, is_digit, AllByRecursion, All-from_recursion, both_true}
use Rattle.gerber_commands.proofs.number.eight_digits.Goals as goal

each_digit : (bytes : List ℕ) → list_all is_digit bytes ≡ true → AllByRecursion (λ b. is_digit b ≡ true) bytes
each_digit [] h = tt
each_digit (b ∷ bs) h = let p = both_true (is_digit b) (list_all is_digit bs) h in (p.0, each_digit bs p.1)

pub value_of-requires-clause-digits : goal.value_of-requires-clause-digits
value_of-requires-clause-digits c = All-from_recursion (λ b. is_digit b ≡ true) (take 8 c.args.bytes.now) (each_digit (take 8 c.args.bytes.now) (sym c.are_digits.ensures ∙ c.if-not-are_digits.false))

pub returns-clause-digits : goal.returns-clause-digits
returns-clause-digits c = All-from_recursion (λ b. is_digit b ≡ true) (take 8 c.args.bytes.now) (each_digit (take 8 c.args.bytes.now) (sym c.are_digits.ensures ∙ c.if-not-are_digits.false))

pub returns-clause-bound : goal.returns-clause-bound
returns-clause-bound c = subst (λ (k : ℕ). c.value_of.result < 10 ^ k) (length-take-le 8 c.args.bytes.now (omega (arith, c.if-bytes-lt8.false))) c.value_of.ensures.small
