-- Parameters that are read one after the other.
use Rattle.gerber_commands.proofs.Common.{◌≡◌, ℕ, suc, ◌+◌, ◌≤◌, Bool, true, false, cond, leb, List, [], ◌∷◌, ◌++◌, length, Result, Ok, Err, refl, sym, ap, ◌∙◌, arith, append_assoc, IfOk, leb-true, leb-false, le-leb, length-append, Reason, ◌>>=◌, both, earlier_reason}
use Rattle.std.proofs.Common.{ℤ}
use Rattle.std.proofs.lemmas.List.{append-nil}
use Rattle.grid_units.specs.Reasons.{reason_number}
use Rattle.gerber_commands.specs.Inner.Parameters.{with_size}

-- the parameters read before, and those read after them
abbrev pub joined : Result (List ℤ) Reason → Result (List ℤ) Reason → Result (List ℤ) Reason
joined before behind = both before behind >>= λ p. Ok (p.0 ++ p.1)

first_by : (a b c : Reason) (t u w : Bool) → leb (reason_number a) (reason_number b) ≡ t → leb (reason_number b) (reason_number c) ≡ u → leb (reason_number a) (reason_number c) ≡ w → earlier_reason (cond t a b) c ≡ earlier_reason a (cond u b c)
first_by a b c true true w ab bc ac =
    let le : reason_number a ≤ reason_number c = omega (arith, leb-true _ _ ab, leb-true _ _ bc) in
    ap (λ t. cond t a c) (le-leb _ _ le) ∙ sym (ap (λ t. cond t a b) ab)
first_by a b c true false w ab bc ac = refl
first_by a b c false true w ab bc ac = ap (λ t. cond t b c) bc ∙ sym (ap (λ t. cond t a b) ab)
first_by a b c false false true ab bc ac = absurd (omega (arith, leb-true _ _ ac, leb-false _ _ ab, leb-false _ _ bc))
first_by a b c false false false ab bc ac = ap (λ t. cond t b c) bc ∙ sym (ap (λ t. cond t a c) ac)

-- of three reasons the first, whichever two are compared first
first_of_three : (a b c : Reason) → earlier_reason (earlier_reason a b) c ≡ earlier_reason a (earlier_reason b c)
first_of_three a b c = first_by a b c (leb (reason_number a) (reason_number b)) (leb (reason_number b) (reason_number c)) (leb (reason_number a) (reason_number c)) refl refl refl

-- one more parameter is the last of those before, as it is the first of those after
pub one_more : (before : Result (List ℤ) Reason) (one : Result ℤ Reason) (behind : Result (List ℤ) Reason) → joined (with_size before one) behind ≡ joined before (both one behind >>= λ p. Ok (p.0 ∷ p.1))
one_more (Ok xs) (Ok x) (Ok ys) = ap (λ (l : List ℤ). Ok l) (append_assoc xs (x ∷ []) ys)
one_more (Ok xs) (Ok x) (Err c) = refl
one_more (Ok xs) (Err b) (Ok ys) = refl
one_more (Ok xs) (Err b) (Err c) = refl
one_more (Err a) (Ok x) (Ok ys) = refl
one_more (Err a) (Ok x) (Err c) = refl
one_more (Err a) (Err b) (Ok ys) = refl
one_more (Err a) (Err b) (Err c) = ap (λ (r : Reason). Err r) (first_of_three a b c)

-- where there was room for the parameters left, there is room for those after the first of them
pub room_left : (before : Result (List ℤ) Reason) (one : Result ℤ Reason) (n m : ℕ) → IfOk before (λ s. length s + n ≤ 5) → n ≡ suc m → IfOk (with_size before one) (λ s. length s + m ≤ 5)
room_left (Ok xs) (Ok x) n m h e = omega (arith, h, e, length-append xs (x ∷ []))
room_left (Ok xs) (Err b) n m h e = tt
room_left (Err a) (Ok x) n m h e = tt
room_left (Err a) (Err b) n m h e = tt

-- nothing was read before
pub none_before : (behind : Result (List ℤ) Reason) → joined (Ok []) behind ≡ behind
none_before (Ok ys) = refl
none_before (Err c) = refl

-- nothing is read after these parameters
pub none_after : (before : Result (List ℤ) Reason) → joined before (Ok []) ≡ before
none_after (Ok xs) = ap (λ (l : List ℤ). Ok l) (append-nil xs)
none_after (Err a) = refl
