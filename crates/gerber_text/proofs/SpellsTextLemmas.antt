-- A text reads as commands just where it spells them.
use Rattle.gerber_text.proofs.Common.{◌≡◌, ℕ, suc, ◌≤◌, Bool, true, false, cond, ltb, List, [], ◌∷◌, length, Result, Ok, Err, refl, sym, ap, subst, ◌∙◌, list_all, AllByRecursion, take_all, ltb-false, Fault, Fail, TooLong, AfterEnd, Truncated, IfOk, Vec, Profile, Command, Placed, fault, Answers, AnswersAlways, bind_ok, OffsetByte, offset_bytes, bytes_of, first_offset, has_end, Splits, Entries, shown_by, entries_at_end, ReadsIn, is_blank, may_follow, after_end, SpellsTextIn, entries_of, text_limit}
use Rattle.grid_units.specs.declared.fault.Fail.TheVariants as fails
use Rattle.gerber_text.proofs.ShowsLemmas.{shown_spelled, shown_ended}
use Rattle.gerber_text.proofs.UniqueReading.{one_read}
use Rattle.gerber_text.proofs.FinishLemmas.{reads_ok}

follow_by : (t : Bool) (m : OffsetByte) (ms : List OffsetByte) (place : ℕ) (cs ds : Entries) → may_follow m.1 ≡ t → after_end place cs (m ∷ ms) ≡ Ok ds → (may_follow m.1 ≡ true) × (after_end place cs ms ≡ Ok ds)
follow_by true m ms place cs ds h e = (h, sym (ap (λ t. cond t (after_end place cs ms) (Err (fault place m.0 AfterEnd))) h) ∙ e)
follow_by false m ms place cs ds h e = let no : Err (fault place m.0 AfterEnd) ≡ Ok ds = sym (ap (λ t. cond t (after_end place cs ms) (Err (fault place m.0 AfterEnd))) h) ∙ e in absurd cc

tail_follows : (place : ℕ) (cs ds : Entries) (rest : List OffsetByte) → after_end place cs rest ≡ Ok ds → AllByRecursion (λ m. may_follow m.1 ≡ true) rest
tail_follows place cs ds [] e = tt
tail_follows place cs ds (m ∷ ms) e = let r = follow_by (may_follow m.1) m ms place cs ds refl e in (r.0, tail_follows place cs ds ms r.1)

follows_tail : (place : ℕ) (cs : Entries) (rest : List OffsetByte) → AllByRecursion (λ m. may_follow m.1 ≡ true) rest → after_end place cs rest ≡ Ok cs
follows_tail place cs [] h = refl
follows_tail place cs (m ∷ ms) h = ap (λ t. cond t (after_end place cs ms) (Err (fault place m.0 AfterEnd))) h.0 ∙ follows_tail place cs ms h.1

-- what stands where the text ends, by two tests
last_ok : (t u : Bool) (d f : Fault) (x y : Entries) → cond t (Err d) (cond u (Ok x) (Err f)) ≡ Ok y → (t ≡ false) × (u ≡ true)
last_ok true u d f x y e = absurd cc
last_ok false true d f x y e = (refl, refl)
last_ok false false d f x y e = absurd cc

ok_same : (r : Result Entries Fault) (x y : Entries) → r ≡ Ok x → r ≡ Ok y → x ≡ y
ok_same r x y p q = cc

final : ℕ → List (List OffsetByte) → List OffsetByte → Entries → Result Entries Fault
final len items rest commands = cond (ltb text_limit len) (Err (fault (suc (length items)) text_limit TooLong)) (entries_at_end len items rest commands)

-- what stands when the items and what follows them gave a value
read_ends : (len : ℕ) (items : List (List OffsetByte)) (rest : List OffsetByte) (cs ds : Entries) → final len items rest cs ≡ Ok ds → (ltb text_limit len ≡ false) × (has_end items ≡ true) × (cs ≡ ds)
unfolding final
read_ends len items rest cs ds e =
    let byte = cond (list_all is_blank (bytes_of rest)) len (first_offset rest) in
    let g = last_ok (ltb text_limit len) (has_end items) (fault (suc (length items)) text_limit TooLong) (fault (suc (length items)) byte Truncated) cs ds e in
    let is : final len items rest cs ≡ Ok cs = (ap (λ t. cond t (Err (fault (suc (length items)) text_limit TooLong)) (cond (has_end items) (Ok cs) (Err (fault (suc (length items)) byte Truncated)))) g.0 ∙ ap (λ t. cond t (Ok cs) (Err (fault (suc (length items)) byte Truncated))) g.1) in
    (g.0, g.1, ok_same (final len items rest cs) cs ds is e)

pub reads_spells : (profile : Profile) (text : List ℕ) (cs : Entries) → ReadsIn profile text (Ok cs) → SpellsTextIn profile text cs
unfolding final
reads_spells profile text cs r =
    let b = bind_ok (shown_by profile r.items r.rest) (final (length text) r.items r.rest) cs (sym r.answer_is) in
    let g = read_ends (length text) r.items r.rest b.0 cs b.2 in
    let short : length text ≤ text_limit = ltb-false _ _ g.0 in
    let shows : shown_by profile r.items r.rest ≡ Ok cs = b.1 ∙ ap (λ (x : Entries). Ok x) g.2 in
    let spelled = shown_spelled profile r.items r.rest cs shows in
    record {
      items = r.items;
      tail = r.rest;
      splits = subst (λ (t : List ℕ). Splits (offset_bytes t) r.items r.rest) (take_all text_limit text short) r.splits;
      ends = g.1;
      spelled = spelled;
      follows = tail_follows (suc (length r.items)) cs cs r.rest (sym (shown_ended profile r.items r.rest cs g.1 spelled) ∙ shows);
      short = short;
    }

pub spells_reads : (profile : Profile) (text : List ℕ) (cs : Entries) → SpellsTextIn profile text cs → ReadsIn profile text (Ok cs)
spells_reads profile text cs s =
    reads_ok profile text s.items s.tail cs s.splits (shown_ended profile s.items s.tail cs s.ends s.spelled ∙ follows_tail (suc (length s.items)) cs s.tail s.follows) s.ends s.short

-- ---- what a call returned

only_by : (profile : Profile) (text : List ℕ) (cs : Entries) (answer : Result Entries Fault) → SpellsTextIn profile text cs → ReadsIn profile text answer → answer ≡ Ok cs
only_by profile text cs answer s r = one_read profile text answer (Ok cs) r (spells_reads profile text cs s)

pub only_err : (profile : Profile) (text : List ℕ) (cs : Entries) (e : Fail) → Answers entries_of (λ answer. ReadsIn profile text answer) (Err e) → SpellsTextIn profile text cs → Answers entries_of (λ answer. answer ≡ Ok cs) (Err e)
only_err profile text cs fails.Memory h s = tt
only_err profile text cs (fails.Refused f) h s = only_by profile text cs (Err f) s h

pub always_exact : (profile : Profile) (text : List ℕ) (r : Result (Vec (Placed Command)) Fail) → AnswersAlways entries_of (λ answer. ReadsIn profile text answer) r → Answers entries_of (λ answer. ReadsIn profile text answer) r
always_exact profile text (Ok v) h = h
always_exact profile text (Err fails.Memory) h = tt
always_exact profile text (Err (fails.Refused f)) h = h

pub always_found : (profile : Profile) (text : List ℕ) (r : Result (Vec (Placed Command)) Fail) → AnswersAlways entries_of (λ answer. ReadsIn profile text answer) r → IfOk r (λ v. SpellsTextIn profile text v.items)
always_found profile text (Ok v) h = reads_spells profile text v.items h
always_found profile text (Err e) h = tt

pub always_only : (profile : Profile) (text : List ℕ) (r : Result (Vec (Placed Command)) Fail) → AnswersAlways entries_of (λ answer. ReadsIn profile text answer) r → (cs : Entries) → SpellsTextIn profile text cs → Answers entries_of (λ answer. answer ≡ Ok cs) r
always_only profile text (Ok v) h cs s = only_by profile text cs (Ok v.items) s h
always_only profile text (Err fails.Memory) h cs s = tt
always_only profile text (Err (fails.Refused f)) h cs s = only_by profile text cs (Err f) s h
