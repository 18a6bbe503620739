use Rattle.drill_text.proofs.Common.{◌≢◌, ℕ, ◌<◌, ◌≤◌, List, length, take, get_or, All, sym, subst, arith, eqb-true, eq-eqb, get_or-take, length-take, All-from_get_or}
use Rattle.memchr.specs.Find.{Nowhere, Passes, is_byte}
use Rattle.drill_text.proofs.reader.line_len.Goals as goal

run_before : (e : ℕ) (bytes : List ℕ) (i : ℕ) → i ≤ length bytes → Nowhere (Passes (is_byte e) bytes) 0 i → All (λ b. b ≢ e) (take i bytes)
run_before e bytes i le none = All-from_get_or (λ b. b ≢ e) (take i bytes) 0 (λ k lt.
    let below : k < i = omega (arith, lt, length-take i bytes, le) in
    subst (λ b. b ≢ e) (sym (get_or-take i bytes k 0 below)) (λ same. none k (omega arith) below (eq-eqb (get_or bytes k 0) e same)))

pub returns-in-Some-clause-inside : goal.returns-in-Some-clause-inside
returns-in-Some-clause-inside c = run_before 10 c.args.bytes.now c.in-Some.at (omega (arith, c.in-Some.ensures.0.high)) c.in-Some.ensures.0.before

pub returns-in-Some-clause-stops : goal.returns-in-Some-clause-stops
returns-in-Some-clause-stops c lt = eqb-true _ 10 c.in-Some.ensures.1

pub returns-in-None-clause-inside : goal.returns-in-None-clause-inside
returns-in-None-clause-inside c = run_before 10 c.args.bytes.now _ (omega arith) c.in-None.ensures
