-- What a whole text shows and reads as, from what a reader holds.
use Rattle.gerber_text.proofs.Common.{◌≡◌, ℕ, suc, ◌+◌, ◌<◌, ◌≤◌, Bool, true, false, cond, ltb, List, [], ◌∷◌, ◌++◌, length, take, Result, Ok, Err, None, Some, sym, ap, subst, ◌∙◌, arith, append_assoc, inl, inr, list_all, take_all, take_at, length-append, lt-ltb, le-ltb, false≢true, Profile, Fault, Fail, TooLong, Truncated, Progress, OffsetByte, offset_bytes, bytes_of, first_offset, has_end, Splits, ◌>>=◌, fault, Answers, AnswersAlways, Entries, commands_by, shown_by, ShowsIn, entries_at_end, ReadsIn, is_blank, SpellsPrefixIn, SpellsBeforeFaultIn, ReadsUpToFault, entries_of, entries_after, Holds, FailsOnBytes, Refuses, FailsWithIn, RefusesText, Ends, bind_err, guard_err, text_limit}
use Rattle.grid_units.specs.declared.fault.Fail.TheVariants as fails
use Rattle.gerber_text.proofs.ShowsLemmas.{kept_all}

pub never : (a : Fail) → Some a ≡ None → ⊥
never a h = cc

-- the length is checked last: where the first bytes of a text show a fault, the whole shows it too
checks_len : ℕ → List (List OffsetByte) → Entries → Result Entries Fault
checks_len len items commands = cond (ltb text_limit len) (Err (fault (suc (length items)) text_limit TooLong)) (Ok commands)

-- a fault of a text, or of its first bytes where it is too long
fault_shown : (profile : Profile) (text : List ℕ) (items : List (List OffsetByte)) (rest : List OffsetByte) (f : Fault) → Splits (offset_bytes (take text_limit text)) items rest → shown_by profile items rest ≡ Err f → ShowsIn profile text (Err f)
unfolding checks_len
fault_shown profile text items rest f s e = record {
  items = items;
  rest = rest;
  splits = s;
  answer_is = sym (ap (λ r. r >>= checks_len (length text) items) e);
}

kept_of : (profile : Profile) (text : List ℕ) (kept : ℕ) (items : List (List OffsetByte)) (rest : List OffsetByte) (cs : Entries) → Splits (offset_bytes (take text_limit text)) items rest → kept ≤ length items → commands_by profile 1 (take kept items) [] ≡ Ok cs → SpellsPrefixIn profile text kept cs
kept_of profile text kept items rest cs s le e = record { items = items; rest = rest; splits = s; within = le; spelled = e }

-- what a reader holds of a text are the commands before the next place
pub kept_before : (profile : Profile) (r : Progress) (gone : Entries) (text : List ℕ) (h : Holds r profile gone text) → length text ≤ text_limit → (byte : ℕ) → SpellsBeforeFaultIn profile text (fails.Refused (fault (r.items + 1) byte Truncated)) (gone ++ r.commands.items)
kept_before profile r gone text h le byte =
    let place : r.items + 1 ≡ suc (length h.items) = omega (arith, h.count) in
    (length h.items, place, kept_of profile text (length h.items) h.items h.rest (gone ++ r.commands.items) (subst (λ (t : List ℕ). Splits (offset_bytes t) h.items h.rest) (sym (take_all text_limit text le)) h.splits) (omega arith) (kept_all profile r gone text h))

-- a failure within the first bytes of a text
pub fails_by : (profile : Profile) (text prefix : List ℕ) (cs : Entries) (e : Fail) → prefix ≡ take text_limit text → FailsOnBytes profile (offset_bytes prefix) cs e → FailsWithIn profile text cs e
fails_by profile text prefix cs fails.Memory same h =
    let s = subst (λ (t : List ℕ). Splits (offset_bytes t) h.items h.rest) same h.splits in
    record { reported = tt; kept = (h.kept, kept_of profile text h.kept h.items h.rest cs s h.within h.spelled) }
fails_by profile text prefix cs (fails.Refused f) same h =
    let s = subst (λ (t : List ℕ). Splits (offset_bytes t) h.items h.rest) same h.splits in
    record { reported = fault_shown profile text h.items h.rest f s h.reported.0; kept = (h.kept, h.reported.1, kept_of profile text h.kept h.items h.rest cs s h.within h.spelled) }

pub too_long_text : (profile : Profile) (r : Progress) (gone : Entries) (prefix more : List ℕ) → length prefix ≡ text_limit → 0 < length more → Holds r profile gone prefix → FailsWithIn profile (prefix ++ more) (gone ++ r.commands.items) (fails.Refused (fault (r.items + 1) text_limit TooLong))
unfolding checks_len
too_long_text profile r gone prefix more e some h =
    let long : text_limit < length (prefix ++ more) = omega (arith, length-append prefix more) in
    let place : suc (length h.items) ≡ r.items + 1 = omega (arith, h.count) in
    let s = subst (λ (t : List ℕ). Splits (offset_bytes t) h.items h.rest) (sym (take_at prefix more text_limit e)) h.splits in
    record {
      reported = record {
        items = h.items;
        rest = h.rest;
        splits = s;
        answer_is = sym (ap (λ s. s >>= checks_len (length (prefix ++ more)) h.items) h.commands ∙ (ap (λ t. cond t (Err (fault (suc (length h.items)) text_limit TooLong)) (Ok (gone ++ r.commands.items))) (lt-ltb text_limit (length (prefix ++ more)) long) ∙ ap (λ p. Err (fault p text_limit TooLong)) place));
      };
      kept = (length h.items, sym place, kept_of profile (prefix ++ more) (length h.items) h.items h.rest (gone ++ r.commands.items) s (omega arith) (kept_all profile r gone prefix h));
    }

pub refuses_within : (old : Progress) (left : Entries) (piece : List ℕ) (e : Fail) → old.offset + length piece ≤ text_limit → Refuses old left piece e → RefusesText old left piece e
refuses_within old left piece e le h = λ profile gone text holds.
    fails_by profile (text ++ piece) (text ++ piece) (gone ++ left) e (sym (take_all text_limit (text ++ piece) (omega (arith, holds.offset, length-append text piece)))) (h profile gone text holds)

pub refuses_beyond : (old : Progress) (left : Entries) (prefix more : List ℕ) (e : Fail) → old.offset + length prefix ≡ text_limit → Refuses old left prefix e → RefusesText old left (prefix ++ more) e
refuses_beyond old left prefix more e len h = λ profile gone text holds.
    subst (λ (t : List ℕ). FailsWithIn profile t (gone ++ left) e) (append_assoc text prefix more)
    (fails_by profile ((text ++ prefix) ++ more) (text ++ prefix) (gone ++ left) e (sym (take_at (text ++ prefix) more text_limit (omega (arith, holds.offset, length-append text prefix)))) (h profile gone text holds))

-- ---- the end of the text

ends_with : ℕ → List (List OffsetByte) → List OffsetByte → Entries → Result Entries Fault
ends_with len items rest commands = cond (ltb text_limit len) (Err (fault (suc (length items)) text_limit TooLong)) (entries_at_end len items rest commands)

pub reads_ok : (profile : Profile) (text : List ℕ) (items : List (List OffsetByte)) (rest : List OffsetByte) (cs : Entries) → Splits (offset_bytes text) items rest → shown_by profile items rest ≡ Ok cs → has_end items ≡ true → length text ≤ text_limit → ReadsIn profile text (Ok cs)
unfolding ends_with
reads_ok profile text items rest cs s e some le = record {
  items = items;
  rest = rest;
  splits = subst (λ (t : List ℕ). Splits (offset_bytes t) items rest) (sym (take_all text_limit text le)) s;
  answer_is = sym (ap (λ r. r >>= ends_with (length text) items rest) e ∙ (ap (λ t. cond t (Err (fault (suc (length items)) text_limit TooLong)) (entries_at_end (length text) items rest cs)) (le-ltb text_limit (length text) le) ∙ ap (λ t. cond t (Ok cs) (Err (fault (suc (length items)) (cond (list_all is_blank (bytes_of rest)) (length text) (first_offset rest)) Truncated))) some));
}

pub reads_truncated : (profile : Profile) (text : List ℕ) (items : List (List OffsetByte)) (rest : List OffsetByte) (cs : Entries) (place byte : ℕ) → Splits (offset_bytes text) items rest → shown_by profile items rest ≡ Ok cs → has_end items ≡ false → length text ≤ text_limit
    → suc (length items) ≡ place → cond (list_all is_blank (bytes_of rest)) (length text) (first_offset rest) ≡ byte → ReadsIn profile text (Err (fault place byte Truncated))
unfolding ends_with
reads_truncated profile text items rest cs place byte s e none le place-is byte-is = record {
  items = items;
  rest = rest;
  splits = subst (λ (t : List ℕ). Splits (offset_bytes t) items rest) (sym (take_all text_limit text le)) s;
  answer_is = sym (ap (λ r. r >>= ends_with (length text) items rest) e ∙ (ap (λ t. cond t (Err (fault (suc (length items)) text_limit TooLong)) (entries_at_end (length text) items rest cs)) (le-ltb text_limit (length text) le) ∙ (ap (λ t. cond t (Ok cs) (Err (fault (suc (length items)) (cond (list_all is_blank (bytes_of rest)) (length text) (first_offset rest)) Truncated))) none ∙ (ap (λ b. Err (fault (suc (length items)) b Truncated)) byte-is ∙ ap (λ p. Err (fault p byte Truncated)) place-is))));
}

pub stops_at : (t : Bool) (rest : List OffsetByte) (n offset start : ℕ) → list_all is_blank (bytes_of rest) ≡ t → offset ≡ n → (0 < length rest → start ≡ first_offset rest) → cond t n (first_offset rest) ≡ cond t offset start
stops_at true rest n offset start h e k = sym e
stops_at false [] n offset start h e k = absurd (false≢true (sym h))
stops_at false (m ∷ rest) n offset start h e k = sym (k (omega arith))

-- a fault that a text shows is the one that it has
pub shows_reads : (profile : Profile) (text : List ℕ) (f : Fault) → ShowsIn profile text (Err f) → ReadsIn profile text (Err f)
unfolding checks_len ends_with
shows_reads profile text f s = record {
  items = s.items;
  rest = s.rest;
  splits = s.splits;
  answer_is = elim (bind_err (shown_by profile s.items s.rest) (checks_len (length text) s.items) f (sym s.answer_is)) [
    | inl h ↦ sym (ap (λ r. r >>= ends_with (length text) s.items s.rest) h)
    | inr h ↦ (let g = guard_err (ltb text_limit (length text)) (fault (suc (length s.items)) text_limit TooLong) f h.0 h.2 in
        sym (ap (λ r. r >>= ends_with (length text) s.items s.rest) h.1 ∙ (ap (λ t. cond t (Err (fault (suc (length s.items)) text_limit TooLong)) (entries_at_end (length text) s.items s.rest h.0)) g.0 ∙ ap (λ (x : Fault). Err x) g.1)))
  ];
}

pub answers_err : (profile : Profile) (text : List ℕ) (cs : Entries) (e : Fail) → FailsWithIn profile text cs e → Answers entries_of (λ answer. ReadsIn profile text answer) (Err e)
answers_err profile text cs fails.Memory h = tt
answers_err profile text cs (fails.Refused f) h = shows_reads profile text f h.reported

pub keeps_err : (profile : Profile) (text : List ℕ) (cs : Entries) (e : Fail) → FailsWithIn profile text cs e → ReadsUpToFault {X = Unit {0}} profile text cs (Err e)
keeps_err profile text cs fails.Memory h = (tt, h.kept)
keeps_err profile text cs (fails.Refused f) h = (shows_reads profile text f h.reported, h.kept)

pub ends_answers : (profile : Profile) (text : List ℕ) (gone cs : Entries) (e : Fail) → Ends {X = Unit {0}} profile text cs (Err e) → AnswersAlways (entries_after gone) (λ answer. ReadsIn profile text answer) (Err e)
ends_answers profile text gone cs fails.Memory h = absurd h
ends_answers profile text gone cs (fails.Refused f) h = h.0

pub ends_kept : (profile : Profile) (text : List ℕ) (cs : Entries) (e : Fail) → Ends {X = Unit {0}} profile text cs (Err e) → SpellsBeforeFaultIn profile text e cs
ends_kept profile text cs fails.Memory h = absurd h
ends_kept profile text cs (fails.Refused f) h = h.1

pub ends_keeps : (profile : Profile) (text : List ℕ) (cs : Entries) (r : Result (Unit {0}) Fail) → Ends profile text cs r → ReadsUpToFault profile text cs r
ends_keeps profile text cs (Ok x) h = h
ends_keeps profile text cs (Err fails.Memory) h = absurd h
ends_keeps profile text cs (Err (fails.Refused f)) h = (h.0, h.1)

-- what a reader holds is what its text shows
pub holds_shows : (profile : Profile) (r : Progress) (gone : Entries) (text : List ℕ) (cs : Entries) → cs ≡ gone ++ r.commands.items → r.offset ≤ text_limit → Holds r profile gone text → ShowsIn profile text (Ok cs)
unfolding checks_len
holds_shows profile r gone text cs same le h =
    let short : length text ≤ text_limit = omega (arith, h.offset, le) in
    record {
      items = h.items;
      rest = h.rest;
      splits = subst (λ (t : List ℕ). Splits (offset_bytes t) h.items h.rest) (sym (take_all text_limit text short)) h.splits;
      answer_is = sym (ap (λ s. s >>= checks_len (length text) h.items) h.commands ∙ (ap (λ t. cond t (Err (fault (suc (length h.items)) text_limit TooLong)) (Ok (gone ++ r.commands.items))) (le-ltb text_limit (length text) short) ∙ ap (λ (x : Entries). Ok x) (sym same)));
    }
