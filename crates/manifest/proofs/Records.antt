-- The records that were read, one after another, are the records of the text.
use Rattle.manifest.proofs.Common.{◌≡◌, ◌∙◌, ◌<◌, ◌≤◌, ◌++◌, ◌+◌, ◌==◌, ◌&&◌, ℕ, zero, suc, List, [], ◌∷◌, Bool, true, false, Some, None, length, arith, refl, sym, ap, if◌then◌else◌, false≢true, AreRecords, Reached, records, records_from, CsvRecord}
use Rattle.csv.specs.Machine.{Read, after_end, ends_at_end, is_end, next_record, step, fields_after, field_after, in_field, ends_with, is_byte, start_field, start_record}
use Rattle.csv.specs.declared.parser.Config.{Config}
use Rattle.csv.specs.declared.parser.Terminator.{Terminator}
use Rattle.csv.specs.declared.parser.Terminator.TheVariants as term
use Rattle.csv.specs.declared.parser.State.{State}
use Rattle.csv.specs.declared.parser.State.TheVariants as st
use Rattle.csv.specs.declared.parser.Action.{Action}
use Rattle.csv.specs.declared.parser.Action.TheVariants as act

-- as many records as the text has, with steps to spare
from_reached : (cfg : Config) (s s2 : State) (xs ys : List ℕ) (rows : List CsvRecord) (n : ℕ) → length rows < n → Reached cfg s xs rows s2 ys
    → next_record cfg s2 [] [] ys ≡ None → records_from cfg n s xs ≡ rows
unfolding records_from Reached
from_reached cfg s s2 xs ys rows zero lt h e = absurd (omega arith)
from_reached cfg s s2 xs ys [] (suc n) lt h e = rw (h.0, h.1, e) refl
from_reached cfg s s2 xs ys (r ∷ rs) (suc n) lt h e =
    rw (h.1, h.2) (ap (λ (t : List CsvRecord). h.0.0 ∷ t) (from_reached cfg h.0.1 s2 h.0.2 ys rs n (omega arith) h.3 e))

-- a state between two records
abbrev IsBetween : State → Type 0
IsBetween s = ends_at_end s ≡ false

after_end-between : (t : Terminator) (c : ℕ) → IsBetween (after_end t c)
after_end-between (term.Any b) c = refl
after_end-between term.CRLF c = by (c == 13)
  where
    by : (b : Bool) → IsBetween (if b then st.AfterCr else st.StartRecord)
    by true = refl
    by false = refl

abbrev EndsBetween : State × Action → Type 0
EndsBetween p = is_end p.1 ≡ true → IsBetween p.0

either : (b : Bool) (p q : State × Action) → EndsBetween p → EndsBetween q → EndsBetween (if b then p else q)
either true p q f g = f
either false p q f g = g

goes_on : (s : State) (a : Action) → is_end a ≡ false → EndsBetween (s, a)
goes_on s a e t = absurd (false≢true (sym e ∙ t))

-- a choice of two steps, in words: what each of them does
abbrev ending : Config → ℕ → State × Action
ending cfg c = (after_end cfg.terminator c, act.EndRecord)

abbrev rest_of_field : Config → ℕ → State × Action
rest_of_field cfg c = if ends_with cfg.terminator c then ending cfg c else (st.InField, act.Copy)

in_field-between : (cfg : Config) (c : ℕ) → EndsBetween (in_field cfg c)
in_field-between cfg c = either (c == cfg.delimiter) (st.StartField, act.EndField) (rest_of_field cfg c) (goes_on st.StartField act.EndField refl)
    (either (ends_with cfg.terminator c) (ending cfg c) (st.InField, act.Copy) (λ t. after_end-between cfg.terminator c) (goes_on st.InField act.Copy refl))

start_field-between : (cfg : Config) (c : ℕ) → EndsBetween (start_field cfg c)
start_field-between cfg c = either (cfg.quoting && (c == cfg.quote)) (st.InQuoted, act.Skip) (in_field cfg c) (goes_on st.InQuoted act.Skip refl) (in_field-between cfg c)

abbrev after_comment : Config → ℕ → State × Action
after_comment cfg c = if is_byte cfg.comment c then (st.InComment, act.Skip) else start_field cfg c

start_record-between : (cfg : Config) (c : ℕ) → EndsBetween (start_record cfg c)
start_record-between cfg c = either (ends_with cfg.terminator c) (st.StartRecord, act.Skip) (after_comment cfg c) (goes_on st.StartRecord act.Skip refl)
    (either (is_byte cfg.comment c) (st.InComment, act.Skip) (start_field cfg c) (goes_on st.InComment act.Skip refl) (start_field-between cfg c))

step-between : (cfg : Config) (s : State) (c : ℕ) → EndsBetween (step cfg s c)
step-between cfg st.StartRecord c = start_record-between cfg c
step-between cfg st.StartField c = start_field-between cfg c
step-between cfg st.InField c = in_field-between cfg c
step-between cfg st.InQuoted c = either (cfg.quoting && (c == cfg.quote)) (st.AfterQuote, act.Skip)
    (if cfg.quoting && is_byte cfg.escape c then (st.InEscape, act.Skip) else (st.InQuoted, act.Copy)) (goes_on st.AfterQuote act.Skip refl)
    (either (cfg.quoting && is_byte cfg.escape c) (st.InEscape, act.Skip) (st.InQuoted, act.Copy) (goes_on st.InEscape act.Skip refl) (goes_on st.InQuoted act.Copy refl))
step-between cfg st.InEscape c = goes_on st.InQuoted act.Copy refl
step-between cfg st.AfterQuote c = either (cfg.quoting && cfg.double_quote && (c == cfg.quote)) (st.InQuoted, act.Copy) (in_field cfg c) (goes_on st.InQuoted act.Copy refl) (in_field-between cfg c)
step-between cfg st.InComment c = either (c == 10) (st.StartRecord, act.Skip) (st.InComment, act.Skip) (goes_on st.StartRecord act.Skip refl) (goes_on st.InComment act.Skip refl)
step-between cfg st.AfterCr c = either (c == 10) (st.StartRecord, act.Skip) (start_record cfg c) (goes_on st.StartRecord act.Skip refl) (start_record-between cfg c)

some_is : {A : Type 0} (x y : A) → Some x ≡ Some y → x ≡ y
some_is x y e = cc

-- a record ends between two records, and what is left is no longer than the text
ends : (cfg : Config) (s : State) (f : CsvRecord) (p xs : List ℕ) (q : Read) → next_record cfg s f p xs ≡ Some q → IsBetween q.1 × (length q.2 ≤ length xs)
unfolding next_record
ends cfg s f p [] q e = at_end (ends_at_end s) e
  where
    at_end : (b : Bool) → (if b then Some (f ++ (p ∷ []), st.StartRecord, []) else None) ≡ Some q → IsBetween q.1 × (length q.2 ≤ 0)
    at_end true e = let h = some_is _ _ e in rw (← h) (refl, omega arith)
    at_end false e = cc e
ends cfg s f p (c ∷ rest) q e = by (is_end (step cfg s c).1) refl (ends cfg (step cfg s c).0 (fields_after (step cfg s c).1 f p) (field_after (step cfg s c).1 c p) rest q)
  where
    by : (b : Bool) → is_end (step cfg s c).1 ≡ b
        → (next_record cfg (step cfg s c).0 (fields_after (step cfg s c).1 f p) (field_after (step cfg s c).1 c p) rest ≡ Some q → IsBetween q.1 × (length q.2 ≤ length rest))
        → IsBetween q.1 × (length q.2 ≤ suc (length rest))
    by true t more = let h = some_is _ _ (rw t at e) in rw (← h) (step-between cfg s c t, omega arith)
    by false t more = let h = more (rw t at e) in (h.0, omega (arith, h.1))

-- a record that begins between two records takes at least a byte
takes : (cfg : Config) (s : State) (f : CsvRecord) (p xs : List ℕ) (q : Read) → IsBetween s → next_record cfg s f p xs ≡ Some q → length q.2 < length xs
unfolding next_record
takes cfg s f p [] q between e = cc (rw between at e)
takes cfg s f p (c ∷ rest) q between e = by (is_end (step cfg s c).1) refl
  where
    by : (b : Bool) → is_end (step cfg s c).1 ≡ b → length q.2 < suc (length rest)
    by true t = let h = some_is _ _ (rw t at e) in rw (← h) (omega arith)
    by false t =
        let h = ends cfg (step cfg s c).0 (fields_after (step cfg s c).1 f p) (field_after (step cfg s c).1 c p) rest q (rw t at e) in
        omega (arith, h.1)

no_more : (cfg : Config) (s s2 : State) (xs ys : List ℕ) (rows : List CsvRecord) → IsBetween s → Reached cfg s xs rows s2 ys → length rows ≤ length xs
unfolding Reached
no_more cfg s s2 xs ys [] between h = omega arith
no_more cfg s s2 xs ys (r ∷ rs) between h =
    let less = takes cfg s [] [] xs h.0 between h.1 in
    let rest = no_more cfg h.0.1 s2 h.0.2 ys rs (ends cfg s [] [] xs h.0 h.1).0 h.3 in
    omega (arith, less, rest)

pub records-are : (cfg : Config) (xs : List ℕ) (rows : List CsvRecord) → AreRecords cfg st.StartRecord xs rows → rows ≡ records cfg xs
records-are cfg xs rows h =
    let few = no_more cfg st.StartRecord h.0 xs h.1 rows refl h.2 in
    sym (from_reached cfg st.StartRecord h.0 xs h.1 rows (length xs + 1) (omega (arith, few)) h.2 h.3)
