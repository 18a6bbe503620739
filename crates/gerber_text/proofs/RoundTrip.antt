-- The canonical text of a sayable list spells just this list.
use Rattle.gerber_text.proofs.Common.{◌≡◌, ℕ, suc, ◌+◌, ◌≤◌, Bool, true, false, cond, not, ◌||◌, ◌&&◌, List, [], ◌∷◌, ◌++◌, length, Ok, refl, sym, ap, subst, ◌∙◌, arith, append_assoc, flat_map, append-nil, length-append, le-ltb, false≢true, ◌>>=◌, Strict, Command, is_line_break, is_end_item, IsItem, canonical, OffsetByte, offset_bytes_from, offset_bytes, bytes_of, first_offset, has_end, AreItems, Splits, spelled_in, Entries, latest_action, commands_by, item_entries, without_breaks, Spells, is_sayable, is_finish, lines, sayable, without_places, ReadsAs, text_limit, both_true, not_true}
use Rattle.gerber_text.proofs.CanonicalParses.{parses as canonical_spells}
use Rattle.gerber_text.proofs.SpelledCommands.{canonical_ends}
use Rattle.gerber_text.proofs.OffsetByteLemmas.{offset_bytes_from-append}
use Rattle.gerber_text.proofs.ShowsLemmas.{shown_ended}
use Rattle.gerber_text.proofs.FinishLemmas.{reads_ok}

-- each command is one that its canonical item spells, and the end of the text is the last and no other
abbrev IsSayable : List Command → Type 0
IsSayable [] = ⊥
IsSayable (c ∷ []) = Spells (canonical c) c × (is_end_item (without_breaks (canonical c)) ≡ true)
IsSayable (c ∷ d ∷ cs) = Spells (canonical c) c × (is_end_item (without_breaks (canonical c)) ≡ false) × IsSayable (d ∷ cs)

-- a list is sayable by its test
are_spelled : (cs : List Command) → sayable cs ≡ true → IsSayable cs
are_spelled [] h = absurd (false≢true h)
are_spelled (c ∷ []) h = let k = both_true (is_sayable c) (is_finish c) h in (canonical_spells c k.0, canonical_ends c k.0 ∙ k.1)
are_spelled (c ∷ d ∷ cs) h =
    let k = both_true (is_sayable c) (not (is_finish c) && sayable (d ∷ cs)) h in
    let l = both_true (not (is_finish c)) (sayable (d ∷ cs)) k.1 in
    (canonical_spells c k.0, canonical_ends c k.0 ∙ not_true (is_finish c) l.0, are_spelled (d ∷ cs) l.1)

-- the bytes without their offsets are those that are no line breaks
pub bytes_of_marks : (n : ℕ) (text : List ℕ) → bytes_of (offset_bytes_from n text) ≡ without_breaks text
bytes_of_marks n [] = refl
bytes_of_marks n (b ∷ bs) = by (is_line_break b) (bytes_of_marks (n + 1) bs)
  where
    by : (t : Bool) → bytes_of (offset_bytes_from (n + 1) bs) ≡ without_breaks bs → bytes_of (cond (not t) ((n, b) ∷ offset_bytes_from (n + 1) bs) (offset_bytes_from (n + 1) bs)) ≡ cond (not t) (b ∷ without_breaks bs) (without_breaks bs)
    by true h = h
    by false h = ap (λ (x : List ℕ). b ∷ x) h

-- the bytes with their offsets of each canonical item, the first at this offset
items_of_lines : ℕ → List Command → List (List OffsetByte)
items_of_lines n [] = []
items_of_lines n (c ∷ cs) = offset_bytes_from n (canonical c) ∷ items_of_lines (n + length (canonical c) + 1) cs

record Found (n place : ℕ) (cs : List Command) (before : Entries) : Type 0 where
  more : Entries
  whole : offset_bytes_from n (lines cs) ≡ flat_map (λ (i : List OffsetByte). i) (items_of_lines n cs)
  each : AreItems (items_of_lines n cs)
  ends : has_end (items_of_lines n cs) ≡ true
  commands : commands_by Strict place (items_of_lines n cs) before ≡ Ok (before ++ more)
  same : without_places more ≡ cs

parses : (place n : ℕ) (c : Command) (before : Entries) → Spells (canonical c) c → spelled_in Strict place (first_offset (offset_bytes_from n (canonical c))) (bytes_of (offset_bytes_from n (canonical c))) before ≡ Ok (before ++ item_entries place (first_offset (offset_bytes_from n (canonical c))) (c ∷ []))
unfolding spelled_in
parses place n c before s = rw (bytes_of_marks n (canonical c), le-ltb _ _ s.short, s.parses (latest_action before)) refl

-- an item and its line end leave the item's bytes with their offsets
one_line : (n : ℕ) (text rest : List ℕ) → offset_bytes_from n ((text ++ 10 ∷ []) ++ rest) ≡ offset_bytes_from n text ++ offset_bytes_from (n + length text + 1) rest
one_line n text rest =
    let at : n + length (text ++ 10 ∷ []) ≡ n + length text + 1 = omega (arith, length-append text (10 ∷ [])) in
    let prefix : offset_bytes_from n (text ++ 10 ∷ []) ≡ offset_bytes_from n text = offset_bytes_from-append n text (10 ∷ []) ∙ append-nil (offset_bytes_from n text) in
    offset_bytes_from-append n (text ++ 10 ∷ []) rest ∙ (ap (λ (x : List OffsetByte). x ++ offset_bytes_from (n + length (text ++ 10 ∷ [])) rest) prefix ∙ ap (λ k. offset_bytes_from n text ++ offset_bytes_from k rest) at)

is_one : (n : ℕ) (c : Command) → Spells (canonical c) c → IsItem (bytes_of (offset_bytes_from n (canonical c)))
is_one n c s = subst IsItem (sym (bytes_of_marks n (canonical c))) s.one

found : (n place : ℕ) (cs : List Command) (before : Entries) → IsSayable cs → Found n place cs before
unfolding items_of_lines
found n place [] before h = absurd h
found n place (c ∷ []) before h =
    let first = first_offset (offset_bytes_from n (canonical c)) in
    record {
      more = item_entries place first (c ∷ []);
      whole = one_line n (canonical c) [];
      each = (is_one n c h.0, λ _. refl, tt);
      ends = ap (λ (b : List ℕ). is_end_item b || false) (bytes_of_marks n (canonical c)) ∙ ap (λ t. t || false) h.1;
      commands = ap (λ r. r >>= λ x. Ok x) (parses place n c before h.0);
      same = refl;
    }
found n place (c ∷ d ∷ cs) before h =
    let first = first_offset (offset_bytes_from n (canonical c)) in
    let now = item_entries place first (c ∷ []) in
    let rest = found (n + length (canonical c) + 1) (suc place) (d ∷ cs) (before ++ now) h.2 in
    let not_end : is_end_item (bytes_of (offset_bytes_from n (canonical c))) ≡ false = ap is_end_item (bytes_of_marks n (canonical c)) ∙ h.1 in
    record {
      more = now ++ rest.more;
      whole = one_line n (canonical c) (lines (d ∷ cs)) ∙ ap (λ (x : List OffsetByte). offset_bytes_from n (canonical c) ++ x) rest.whole;
      each = (is_one n c h.0, λ e. absurd (false≢true (sym not_end ∙ e)), rest.each);
      ends = ap (λ t. t || has_end (items_of_lines (n + length (canonical c) + 1) (d ∷ cs))) not_end ∙ rest.ends;
      commands = ap (λ r. r >>= commands_by Strict (suc place) (items_of_lines (n + length (canonical c) + 1) (d ∷ cs))) (parses place n c before h.0) ∙ (rest.commands ∙ ap (λ (x : Entries). Ok x) (append_assoc before now rest.more));
      same = ap (λ (x : List Command). c ∷ x) rest.same;
    }

pub reads_as : (cs : List Command) (text : List ℕ) → text ≡ lines cs → length text ≤ text_limit → sayable cs ≡ true → ReadsAs text cs
reads_as cs text is le h =
    let f = found 0 1 cs [] (are_spelled cs h) in
    let all = items_of_lines 0 cs in
    let splits : Splits (offset_bytes (lines cs)) all [] = record { whole = f.whole ∙ sym (append-nil (flat_map (λ (i : List OffsetByte). i) all)); each = f.each; partial = λ none. absurd (false≢true (sym none ∙ f.ends)) } in
    let short : length (lines cs) ≤ text_limit = subst (λ (t : List ℕ). length t ≤ text_limit) is le in
    let whole : ReadsAs (lines cs) cs = record { entries = f.more; reads = reads_ok Strict (lines cs) all [] f.more splits (shown_ended Strict all [] f.more f.ends f.commands) f.ends short; same = f.same } in
    subst (λ (t : List ℕ). ReadsAs t cs) (sym is) whole
