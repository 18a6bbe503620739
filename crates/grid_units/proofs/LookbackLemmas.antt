-- What one more element changes of the words that look back.
use Rattle.std.proofs.Common.{◌≡◌, List, [], ◌∷◌, ◌++◌, length, Option, None, Some, unwrap_or, slice_get, Bool, true, false, ◌||◌, refl, sym, ap, ◌∙◌, append_assoc, append-nil}
use Rattle.std.proofs.lemmas.List.Concat.{flat_map-append}
use Rattle.std.proofs.lemmas.List.Folds.{list_any-append}
use Rattle.std.proofs.lemmas.List.Elements.{filter_map-append}
use Rattle.std.specs.Option.{option_or, option_map}
use Rattle.std.specs.List.{flat_map, filter_map, cons_option, list_any}
use Rattle.grid_units.specs.Lists.{last_set, with_prefixes, with_prefixes_from, violation_at, violations}

pub option_or_none : {A : Type 0} (o : Option A) → option_or o None ≡ o
option_or_none None = refl
option_or_none (Some x) = refl

pub option_or_assoc : {A : Type 0} (o p q : Option A) → option_or (option_or o p) q ≡ option_or o (option_or p q)
option_or_assoc None p q = refl
option_or_assoc (Some x) p q = refl

pub unwrap_or_or : {A : Type 0} (o p : Option A) (d : A) → unwrap_or (option_or o p) d ≡ unwrap_or o (unwrap_or p d)
unwrap_or_or None p d = refl
unwrap_or_or (Some x) p d = refl

-- what two lists in a row name last: by the second, else by the first
pub last_set-append : {C A : Type 0} (names : C → Option A) (cs ds : List C) → last_set names (cs ++ ds) ≡ option_or (last_set names ds) (last_set names cs)
last_set-append names [] ds = sym (option_or_none (last_set names ds))
last_set-append names (c ∷ cs) ds = ap (λ o. option_or o (names c)) (last_set-append names cs ds) ∙ option_or_assoc (last_set names ds) (last_set names cs) (names c)

pub last_set-more : {C A : Type 0} (names : C → Option A) (cs : List C) (c : C) → last_set names (cs ++ c ∷ []) ≡ option_or (names c) (last_set names cs)
last_set-more names cs c = last_set-append names cs (c ∷ [])

-- what two lists in a row name last, with a value to start from
pub last_or-append : {C A : Type 0} (names : C → Option A) (start : A) (cs ds : List C) → unwrap_or (last_set names (cs ++ ds)) start ≡ unwrap_or (last_set names ds) (unwrap_or (last_set names cs) start)
last_or-append names start cs ds = ap (λ o. unwrap_or o start) (last_set-append names cs ds) ∙ unwrap_or_or (last_set names ds) (last_set names cs) start

pub last_or-more : {C A : Type 0} (names : C → Option A) (start : A) (cs : List C) (c : C) → unwrap_or (last_set names (cs ++ c ∷ [])) start ≡ unwrap_or (names c) (unwrap_or (last_set names cs) start)
last_or-more names start cs c = last_or-append names start cs (c ∷ [])

or_comm : (a b : Bool) → (a || b) ≡ (b || a)
or_comm true true = refl
or_comm true false = refl
or_comm false true = refl
or_comm false false = refl

or_false : (b : Bool) → (b || false) ≡ b
or_false true = refl
or_false false = refl

-- whether an element passes the test, after one more
pub list_any-more : {C : Type 0} (test : C → Bool) (cs : List C) (c : C) → list_any test (cs ++ c ∷ []) ≡ (test c || list_any test cs)
list_any-more test cs c = list_any-append test cs (c ∷ []) ∙ ap (λ b. list_any test cs || b) (or_false (test c)) ∙ or_comm (list_any test cs) (test c)

-- the positions of two lists in a row
pub with_prefixes_from-append : {C : Type 0} (first cs ds : List C) → with_prefixes_from first (cs ++ ds) ≡ with_prefixes_from first cs ++ with_prefixes_from (first ++ cs) ds
with_prefixes_from-append first [] ds = ap (λ l. with_prefixes_from l ds) (sym (append-nil first))
with_prefixes_from-append first (c ∷ cs) ds =
    ap (λ l. (first, c) ∷ l) (with_prefixes_from-append (first ++ c ∷ []) cs ds ∙ ap (λ l. with_prefixes_from (first ++ c ∷ []) cs ++ with_prefixes_from l ds) (append_assoc first (c ∷ []) cs))

pub with_prefixes-append : {C : Type 0} (cs ds : List C) → with_prefixes (cs ++ ds) ≡ with_prefixes cs ++ with_prefixes_from cs ds
with_prefixes-append cs ds = with_prefixes_from-append [] cs ds

-- what each position gives, after one more element
pub flat_positions-more : {C A : Type 0} (gives : List C → C → List A) (cs : List C) (c : C) → flat_map (λ p. gives p.0 p.1) (with_prefixes (cs ++ c ∷ [])) ≡ flat_map (λ p. gives p.0 p.1) (with_prefixes cs) ++ gives cs c
flat_positions-more {C} {A} gives cs c =
    ap (flat_map (λ (p : List C × C). gives p.0 p.1)) (with_prefixes-append cs (c ∷ []))
    ∙ flat_map-append (λ (p : List C × C). gives p.0 p.1) (with_prefixes cs) ((cs, c) ∷ [])
    ∙ ap (λ (l : List A). flat_map (λ (p : List C × C). gives p.0 p.1) (with_prefixes cs) ++ l) (append-nil (gives cs c))

-- the breaks of two lists in a row
pub violations-append : {C R : Type 0} (broken : List C → C → Option R) (cs ds : List C) → violations broken (cs ++ ds) ≡ violations broken cs ++ filter_map (violation_at broken) (with_prefixes_from cs ds)
violations-append broken cs ds = ap (filter_map (violation_at broken)) (with_prefixes-append cs ds) ∙ filter_map-append (violation_at broken) (with_prefixes cs) (with_prefixes_from cs ds)

-- an element that breaks no rule adds no break
pub violations-more : {C R : Type 0} (broken : List C → C → Option R) (cs : List C) (c : C) → violations broken cs ≡ [] → broken cs c ≡ None → violations broken (cs ++ c ∷ []) ≡ []
violations-more broken cs c none legal = violations-append broken cs (c ∷ []) ∙ (λ i. none i ++ cons_option (option_map (λ r. (length cs, r)) (legal i)) [])

-- the first element that breaks a rule is the first break
pub violations-first : {C R : Type 0} (broken : List C → C → Option R) (cs ds : List C) (c : C) (r : R) → violations broken cs ≡ [] → broken cs c ≡ Some r → slice_get (violations broken (cs ++ c ∷ ds)) 0 ≡ Some (length cs, r)
violations-first broken cs ds c r none is =
    ap (λ l. slice_get l 0) (violations-append broken cs (c ∷ ds))
    ∙ (λ i. slice_get (none i ++ cons_option (option_map (λ q. (length cs, q)) (is i)) (filter_map (violation_at broken) (with_prefixes_from (cs ++ c ∷ []) ds))) 0)
