-- What a text shows as its fault, each longer text shows too.
use Rattle.gerber_text.proofs.Common.{◌≡◌, ℕ, suc, ◌+◌, ◌-◌, ◌<◌, ◌≤◌, Bool, true, false, cond, ltb, List, [], ◌++◌, length, take, Result, Ok, Err, refl, sym, ap, subst, ◌∙◌, arith, inl, inr, take_all, take-append-le, length-append, lt-ltb, le-ltb, ltb-true, ltb-false, false≢true, take-append-add, Profile, Fault, Fail, TooLong, ◌>>=◌, fault, bind_err, guard_err, OffsetByte, offset_bytes, offset_bytes_from, Splits, Entries, commands_by, shown_by, ShowsIn, SpellsPrefixIn, FailsOnBytes, FailsWithIn, text_limit}
use Rattle.grid_units.specs.declared.fault.Fail.TheVariants as fails
use Rattle.gerber_text.proofs.OffsetByteLemmas.{offset_bytes-append}
use Rattle.gerber_text.proofs.ShowsLemmas.{stops_stay}
use Rattle.gerber_text.proofs.UniqueReading.{same_items}
use Rattle.gerber_text.proofs.FinishLemmas.{fails_by}

-- ---- a text above the limit: its first bytes are those of the longer one

same_prefix : (text more : List ℕ) (items : List (List OffsetByte)) (rest : List OffsetByte) → text_limit < length text → Splits (offset_bytes (take text_limit text)) items rest → Splits (offset_bytes (take text_limit (text ++ more))) items rest
same_prefix text more items rest lt s = subst (λ (t : List ℕ). Splits (offset_bytes t) items rest) (sym (take-append-le text_limit text more (omega arith))) s

shows_beyond : (profile : Profile) (text more : List ℕ) (answer : Result Entries Fault) → text_limit < length text → ShowsIn profile text answer → ShowsIn profile (text ++ more) answer
shows_beyond profile text more answer lt s =
    let both = lt-ltb text_limit (length text) lt ∙ sym (lt-ltb text_limit (length (text ++ more)) (omega (arith, length-append text more))) in
    record {
      items = s.items;
      rest = s.rest;
      splits = same_prefix text more s.items s.rest lt s.splits;
      answer_is = s.answer_is ∙ ap (λ t. shown_by profile s.items s.rest >>= λ commands. cond t (Err (fault (suc (length s.items)) text_limit TooLong)) (Ok commands)) both;
    }

kept_beyond : (profile : Profile) (text more : List ℕ) (kept : ℕ) (cs : Entries) → text_limit < length text → SpellsPrefixIn profile text kept cs → SpellsPrefixIn profile (text ++ more) kept cs
kept_beyond profile text more kept cs lt k = record { items = k.items; rest = k.rest; splits = same_prefix text more k.items k.rest lt k.splits; within = k.within; spelled = k.spelled }

fails_beyond : (profile : Profile) (text more : List ℕ) (cs : Entries) (e : Fail) → text_limit < length text → FailsWithIn profile text cs e → FailsWithIn profile (text ++ more) cs e
fails_beyond profile text more cs fails.Memory lt h = record { reported = tt; kept = (h.kept.0, kept_beyond profile text more h.kept.0 cs lt h.kept.1) }
fails_beyond profile text more cs (fails.Refused f) lt h = record { reported = shows_beyond profile text more (Err f) lt h.reported; kept = (h.kept.0, h.kept.1, kept_beyond profile text more h.kept.0 cs lt h.kept.2) }

-- ---- a text within the limit: its bytes stop a reader

fault_within : (profile : Profile) (text : List ℕ) (f : Fault) → length text ≤ text_limit → (s : ShowsIn profile text (Err f)) → shown_by profile s.items s.rest ≡ Err f
fault_within profile text f le s =
    let place = suc (length s.items) in
    elim (bind_err (shown_by profile s.items s.rest) (λ commands. cond (ltb text_limit (length text)) (Err (fault place text_limit TooLong)) (Ok commands)) f (sym s.answer_is)) [
      | inl h ↦ h
      | inr h ↦ absurd (false≢true (sym (le-ltb text_limit (length text) le) ∙ (guard_err (ltb text_limit (length text)) (fault place text_limit TooLong) f h.0 h.2).0))
    ]

stops_within : (profile : Profile) (text : List ℕ) (cs : Entries) (e : Fail) → length text ≤ text_limit → FailsWithIn profile text cs e → FailsOnBytes profile (offset_bytes (take text_limit text)) cs e
stops_within profile text cs fails.Memory le h =
    let k = h.kept.1 in
    record { items = k.items; rest = k.rest; splits = k.splits; kept = h.kept.0; within = k.within; spelled = k.spelled; reported = tt }
stops_within profile text cs (fails.Refused f) le h =
    let s = h.reported in
    let k = h.kept.2 in
    let same = same_items (offset_bytes (take text_limit text)) s.items k.items s.rest k.rest s.splits k.splits in
    record {
      items = s.items;
      rest = s.rest;
      splits = s.splits;
      kept = h.kept.0;
      within = subst (λ (x : List (List OffsetByte)). h.kept.0 ≤ length x) (sym same.0) k.within;
      spelled = ap (λ (x : List (List OffsetByte)). commands_by profile 1 (take h.kept.0 x) []) same.0 ∙ k.spelled;
      reported = (fault_within profile text f le s, h.kept.1);
    }

fails_within : (profile : Profile) (text more : List ℕ) (cs : Entries) (e : Fail) → length text ≤ text_limit → FailsWithIn profile text cs e → FailsWithIn profile (text ++ more) cs e
fails_within profile text more cs e le h =
    let n = text_limit - length text in
    let sum : length text + n ≡ text_limit = omega (arith, le) in
    let prefix : text ++ take n more ≡ take text_limit (text ++ more) = sym (take-append-add text more n) ∙ ap (λ (m : ℕ). take m (text ++ more)) sum in
    let here : FailsOnBytes profile (offset_bytes text) cs e = subst (λ (t : List ℕ). FailsOnBytes profile (offset_bytes t) cs e) (take_all text_limit text le) (stops_within profile text cs e le h) in
    let on : FailsOnBytes profile (offset_bytes (text ++ take n more)) cs e = subst (λ (x : List OffsetByte). FailsOnBytes profile x cs e) (sym (offset_bytes-append text (take n more))) (stops_stay profile (offset_bytes text) (offset_bytes_from (length text) (take n more)) cs e here) in
    fails_by profile (text ++ more) (text ++ take n more) cs e prefix on

by_length : (profile : Profile) (t : Bool) (text more : List ℕ) (cs : Entries) (e : Fail) → ltb text_limit (length text) ≡ t → FailsWithIn profile text cs e → FailsWithIn profile (text ++ more) cs e
by_length profile true text more cs e long h = fails_beyond profile text more cs e (ltb-true _ _ long) h
by_length profile false text more cs e short h = fails_within profile text more cs e (ltb-false _ _ short) h

-- a failure of a text is that of each longer one, after the same commands
pub fails_longer : (profile : Profile) (text more : List ℕ) (cs : Entries) (e : Fail) → FailsWithIn profile text cs e → FailsWithIn profile (text ++ more) cs e
fails_longer profile text more cs e h = by_length profile (ltb text_limit (length text)) text more cs e refl h
