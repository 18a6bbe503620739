-- Runs of bytes inside an item, and items at the start of bytes, as a search for their end finds them.
use Rattle.gerber_text.proofs.Common.{◌≡◌, ◌≢◌, ℕ, suc, ◌+◌, ◌<◌, ◌≤◌, Bool, true, false, cond, ◌||◌, eqb, List, [], ◌∷◌, ◌++◌, length, take, drop, get_or, All, refl, sym, ap, subst, ◌∙◌, arith, AllByRecursion, false≢true, eqb-false, get_or-take, length-take, All-from_get_or, recursion_from_All, is_line_break, end_byte, IsUnfinished, IsInside, HasLeadingItem}
use Rattle.std.proofs.lemmas.Grind.{take_at_read}
use Rattle.memchr.specs.Find.{Nowhere, Passes, is_byte3}
use Rattle.gerber_text.proofs.OffsetByteLemmas.{AllR-append}
use Rattle.gerber_text.proofs.ReaderStepLemmas.{run_inside, run_kept, ender_stays}

-- ---- runs

untrue : (t : Bool) → (t ≡ true → ⊥) → t ≡ false
untrue true h = absurd (h refl)
untrue false h = refl

none_of : (t u v : Bool) → ((t || u) || v) ≡ false → (t ≡ false) × ((u || v) ≡ false)
none_of true u v h = absurd (false≢true (sym h))
none_of false u v h = (refl, h)

one_of : (t u v : Bool) → ((t || u) || v) ≡ true → t ≡ false → (u || v) ≡ false → ⊥
one_of true u v h k l = false≢true (sym k)
one_of false u v h k l = false≢true (sym l ∙ h)

pub run_before : (e : ℕ) (bytes : List ℕ) (i : ℕ) → i ≤ length bytes → Nowhere (Passes (is_byte3 e 10 13) bytes) 0 i → All (IsInside e) (take i bytes)
run_before e bytes i le none = All-from_get_or (IsInside e) (take i bytes) 0 (λ k lt.
    let below : k < i = omega (arith, lt, length-take i bytes, le) in
    let b = get_or bytes k 0 in
    subst (IsInside e) (sym (get_or-take i bytes k 0 below)) (none_of (eqb b e) (eqb b 10) (eqb b 13) (untrue _ (none k (omega arith) below))))

pub run_stops : (e : ℕ) (bytes : List ℕ) (i : ℕ) → Passes (is_byte3 e 10 13) bytes i → i ≡ 0 → IsInside e (get_or bytes 0 0) → ⊥
run_stops e bytes i p zero inside =
    let b = get_or bytes 0 0 in
    one_of (eqb b e) (eqb b 10) (eqb b 13) (subst (Passes (is_byte3 e 10 13) bytes) zero p) inside.0 inside.1

-- ---- items

unfinished_by : (t : Bool) (b : ℕ) → b ≢ 42 → AllByRecursion (λ x. x ≢ cond t 37 42) (cond t [] (b ∷ []))
unfinished_by true b ne = tt
unfinished_by false b ne = (ne, tt)

pub leading_item : (bytes : List ℕ) (len : ℕ) → 0 < length bytes → IsInside 42 (get_or bytes 0 0) → len < length (drop 1 bytes) → All (IsInside (end_byte bytes)) (take len (drop 1 bytes)) → get_or (drop 1 bytes) len 0 ≡ end_byte bytes → len + 2 ≤ 1048576 → HasLeadingItem bytes (len + 2)
leading_item [] len some first more inside ends short = absurd (omega (arith, some))
leading_item (b ∷ bs) len some first more inside ends short =
    let e = end_byte (b ∷ bs) in
    let run = recursion_from_All (IsInside e) (take len bs) inside in
    let two : len + 2 ≡ suc (len + 1) = omega arith in
    let item : take (len + 2) (b ∷ bs) ≡ (b ∷ take len bs) ++ e ∷ [] =
    ap (λ n. take n (b ∷ bs)) two ∙ ap (λ (x : List ℕ). b ∷ x) ((take_at_read bs len 0 more).1 ∙ ap (λ x. take len bs ++ x ∷ []) ends) in
    let begun : IsUnfinished (b ∷ []) = unfinished_by (eqb b 37) b (eqb-false b 42 first.0) in
    record {
      some = omega arith;
      within = omega (arith, more);
      short = short;
      one = record { prefix = b ∷ take len bs; unfinished = run_inside (b ∷ []) (take len bs) (omega arith) begun run; whole = item };
      kept = subst (AllByRecursion (λ x. is_line_break x ≡ false)) (sym item) (first.1, AllR-append (λ x. is_line_break x ≡ false) (take len bs) (e ∷ []) (run_kept e (take len bs) run) (ender_stays (b ∷ bs), tt));
    }
