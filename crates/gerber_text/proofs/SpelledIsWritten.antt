-- A text that spells commands is written for them.
use Rattle.gerber_text.proofs.Common.{◌≡◌, ◌≢◌, ℕ, suc, ◌≤◌, Bool, true, false, cond, ◌||◌, ltb, List, [], ◌∷◌, ◌++◌, length, Result, Ok, Err, refl, sym, ap, subst, ◌∙◌, append_assoc, option_or, flat_map, concat, list_any, AllByRecursion, append-nil, map-append, All-from_recursion, ltb-false, false≢true, Fault, Reason, TooLong, item_limit, ◌>>=◌, with_place, or_is_false, last_set-append, bind_ok, Command, Finish, Profile, IsItem, is_end_item, meaning_in, is_finish, OffsetByte, bytes_of, first_offset, has_end, AreItems, Entries, action_of, latest_action, item_entries, spelled_in, commands_by, may_follow, without_places, AreItemsIn, IsEnd, Placed, last_set}
use Rattle.gerber_text.specs.Laws.{SpelledTextsAreWrittenIn}
use Rattle.gerber_text.proofs.GrammarItems.{item_written, is_end, end_means, item_ends}
use Rattle.gerber_text.proofs.RoundTrip.{bytes_of_marks}

-- ---- what an item adds

-- an item within the limit, and the commands that it spelled
pub record Added (profile : Profile) (place byte : ℕ) (bytes : List ℕ) (before after : Entries) : Type 0 where
  pub short : length bytes ≤ item_limit
  pub commands : List Command
  pub spells : meaning_in profile (latest_action before) bytes ≡ Ok commands
  pub whole : after ≡ before ++ item_entries place byte commands

at_ok : (place byte : ℕ) (r : Result Entries Reason) (after : Entries) → with_place place byte r ≡ Ok after → r ≡ Ok after
at_ok place byte (Ok x) after e = let same : x ≡ after = let o : (let r : Result Entries Fault = Ok x in r ≡ Ok after) = e in cc in ap (λ (y : Entries). Ok y) same
at_ok place byte (Err r) after e = absurd cc

added_by : (profile : Profile) (t : Bool) (place byte : ℕ) (bytes : List ℕ) (before after : Entries) → ltb item_limit (length bytes) ≡ t → cond t (Err TooLong) (meaning_in profile (latest_action before) bytes >>= λ commands. Ok (before ++ item_entries place byte commands)) ≡ Ok after → Added profile place byte bytes before after
added_by profile true place byte bytes before after e h = absurd cc
added_by profile false place byte bytes before after e h =
    let b = bind_ok (meaning_in profile (latest_action before) bytes) (λ commands. Ok (before ++ item_entries place byte commands)) after h in
    record { short = ltb-false item_limit (length bytes) e; commands = b.0; spells = b.1; whole = let same : before ++ item_entries place byte b.0 ≡ after = let o : (let r : Result Entries Reason = Ok (before ++ item_entries place byte b.0) in r ≡ Ok after) = b.2 in cc in sym same }

pub added : (profile : Profile) (place byte : ℕ) (bytes : List ℕ) (before after : Entries) → spelled_in profile place byte bytes before ≡ Ok after → Added profile place byte bytes before after
unfolding spelled_in
added profile place byte bytes before after e =
    added_by profile (ltb item_limit (length bytes)) place byte bytes before after refl (at_ok place byte (cond (ltb item_limit (length bytes)) (Err TooLong) (meaning_in profile (latest_action before) bytes >>= λ commands. Ok (before ++ item_entries place byte commands))) after e)

pub bare : (place byte : ℕ) (cs : List Command) → without_places (item_entries place byte cs) ≡ cs
bare place byte [] = refl
bare place byte (c ∷ cs) = ap (λ (l : List Command). c ∷ l) (bare place byte cs)

pub bare_append : (xs ys : Entries) → without_places (xs ++ ys) ≡ without_places xs ++ without_places ys
bare_append [] ys = refl
bare_append (x ∷ xs) ys = ap (λ (l : List Command). x.what ∷ l) (bare_append xs ys)

-- ---- the last operation

last_placed : (place byte : ℕ) (cs : List Command) → last_set (λ entry. action_of entry.what) (item_entries place byte cs) ≡ last_set action_of cs
last_placed place byte [] = refl
last_placed place byte (c ∷ cs) = ap (λ o. option_or o (action_of c)) (last_placed place byte cs)

pub latest_more : (old : Entries) (place byte : ℕ) (cs : List Command) → latest_action (old ++ item_entries place byte cs) ≡ option_or (last_set action_of cs) (latest_action old)
latest_more old place byte cs = last_set-append (λ (entry : Placed Command). action_of entry.what) old (item_entries place byte cs) ∙ ap (λ o. option_or o (latest_action old)) (last_placed place byte cs)

-- ---- commands before the end of the text

-- no Finish where the item does not end the text
none_finish : (cs : List Command) → list_any is_finish cs ≡ false → AllByRecursion (λ c. c ≢ Finish) cs
none_finish [] h = tt
none_finish (c ∷ cs) h = let k = or_is_false (is_finish c) (list_any is_finish cs) h in (λ e. false≢true (sym k.0 ∙ ap is_finish e), none_finish cs k.1)

-- no Finish in either of two lists
none_in_both : (xs ys : List Command) → AllByRecursion (λ c. c ≢ Finish) xs → AllByRecursion (λ c. c ≢ Finish) ys → AllByRecursion (λ c. c ≢ Finish) (xs ++ ys)
none_in_both [] ys h k = k
none_in_both (x ∷ xs) ys h k = (h.0, none_in_both xs ys h.1 k)

-- ---- items

-- items up to the end of the text, as the grammar has them, and the commands that they add
record Written (profile : Profile) (cut : List (List OffsetByte)) (old after : Entries) : Type 0 where
  items : List (List ℕ)
  end : List ℕ
  before : List Command
  whole : bytes_of (flat_map (λ item. item) cut) ≡ concat items ++ end
  spelled : AreItemsIn profile (latest_action old) items before
  not_ended : AllByRecursion (λ c. c ≢ Finish) before
  ends : IsEnd end
  is : without_places after ≡ without_places old ++ (before ++ Finish ∷ [])

added_bare : (place byte : ℕ) (old middle : Entries) (cs : List Command) → middle ≡ old ++ item_entries place byte cs → without_places middle ≡ without_places old ++ cs
added_bare place byte old middle cs e = ap without_places e ∙ (bare_append old (item_entries place byte cs) ∙ ap (λ (l : List Command). without_places old ++ l) (bare place byte cs))

regroup : (a b c d : List Command) → (a ++ b) ++ (c ++ d) ≡ a ++ ((b ++ c) ++ d)
regroup a b c d = append_assoc a b (c ++ d) ∙ ap (λ (l : List Command). a ++ l) (sym (append_assoc b c d))

last_written : (profile : Profile) (place : ℕ) (item : List OffsetByte) (items : List (List OffsetByte)) (old middle after : Entries) → is_end_item (bytes_of item) ≡ true → items ≡ [] → Added profile place (first_offset item) (bytes_of item) old middle → commands_by profile (suc place) items middle ≡ Ok after → Written profile (item ∷ items) old after
last_written profile place item items old middle after e none a h =
    let same : middle ≡ after = let o : (let r : Result Entries Fault = Ok middle in r ≡ Ok after) = ap (λ (l : List (List OffsetByte)). commands_by profile (suc place) l middle) (sym none) ∙ h in cc in
    let commands : a.commands ≡ Finish ∷ [] = let o : (let r : Result (List Command) Reason = Ok a.commands in r ≡ Ok (Finish ∷ [])) = sym a.spells ∙ (end_means profile (latest_action old) (bytes_of item) (is_end (bytes_of item) e)).1 in cc in
    record {
      items = [];
      end = bytes_of item;
      before = [];
      whole = ap (λ (l : List (List OffsetByte)). bytes_of (item ++ flat_map (λ (i : List OffsetByte). i) l)) none ∙ ap bytes_of (append-nil item);
      spelled = refl;
      not_ended = tt;
      ends = is_end (bytes_of item) e;
      is = ap without_places (sym same) ∙ (added_bare place (first_offset item) old middle a.commands a.whole ∙ ap (λ (l : List Command). without_places old ++ l) commands);
    }

next_written : (profile : Profile) (place : ℕ) (item : List OffsetByte) (items : List (List OffsetByte)) (old middle after : Entries) → IsItem (bytes_of item) → is_end_item (bytes_of item) ≡ false → Added profile place (first_offset item) (bytes_of item) old middle → Written profile items middle after → Written profile (item ∷ items) old after
next_written profile place item items old middle after one end a w =
    let written = item_written profile (latest_action old) (bytes_of item) a.commands one a.spells in
    let latest : latest_action middle ≡ option_or (last_set action_of a.commands) (latest_action old) = ap latest_action a.whole ∙ latest_more old place (first_offset item) a.commands in
    record {
      items = bytes_of item ∷ w.items;
      end = w.end;
      before = a.commands ++ w.before;
      whole = map-append (λ (m : OffsetByte). m.1) item (flat_map (λ (i : List OffsetByte). i) items) ∙ (ap (λ (l : List ℕ). bytes_of item ++ l) w.whole ∙ sym (append_assoc (bytes_of item) (concat w.items) w.end));
      spelled = (a.commands, w.before, refl, a.short, written, subst (λ p. AreItemsIn profile p w.items w.before) latest w.spelled);
      not_ended = none_in_both a.commands w.before (none_finish a.commands (item_ends profile (latest_action old) (bytes_of item) a.commands written ∙ end)) w.not_ended;
      ends = w.ends;
      is = w.is ∙ (ap (λ (l : List Command). l ++ (w.before ++ Finish ∷ [])) (added_bare place (first_offset item) old middle a.commands a.whole) ∙ regroup (without_places old) a.commands w.before (Finish ∷ []));
    }

items_written : (profile : Profile) (place : ℕ) (items : List (List OffsetByte)) (old after : Entries) → AreItems items → has_end items ≡ true → commands_by profile place items old ≡ Ok after → Written profile items old after
items_written profile place [] old after h e c = absurd (false≢true e)
items_written profile place (item ∷ items) old after h e c =
    let b = bind_ok (spelled_in profile place (first_offset item) (bytes_of item) old) (commands_by profile (suc place) items) after c in
    let a = added profile place (first_offset item) (bytes_of item) old b.0 b.1 in
    by (is_end_item (bytes_of item)) refl a b.2 e (λ l. items_written profile (suc place) items b.0 after h.2 l b.2)
  where
    by : {middle : Entries} (t : Bool) → is_end_item (bytes_of item) ≡ t → Added profile place (first_offset item) (bytes_of item) old middle → commands_by profile (suc place) items middle ≡ Ok after → (t || has_end items) ≡ true → (has_end items ≡ true → Written profile items middle after) → Written profile (item ∷ items) old after
    by {middle = middle} true end a rest some again = last_written profile place item items old middle after end (h.1 end) a rest
    by {middle = middle} false end a rest some again = next_written profile place item items old middle after h.0 end a (again some)

-- ---- texts

all_follow : (tail : List OffsetByte) → AllByRecursion (λ m. may_follow m.1 ≡ true) tail → AllByRecursion (λ b. may_follow b ≡ true) (bytes_of tail)
all_follow [] h = tt
all_follow (m ∷ tail) h = (h.0, all_follow tail h.1)

pub spelled_is_written : SpelledTextsAreWrittenIn
spelled_is_written profile text entries s =
    let w = items_written profile 1 s.items [] entries s.splits.each s.ends s.spelled in
    let cut = flat_map (λ (i : List OffsetByte). i) s.items in
    record {
      items = w.items;
      end = w.end;
      tail = bytes_of s.tail;
      before = w.before;
      short = s.short;
      written = sym (bytes_of_marks 0 text) ∙ (ap bytes_of s.splits.whole ∙ (map-append (λ (m : OffsetByte). m.1) cut s.tail ∙ ap (λ (l : List ℕ). l ++ bytes_of s.tail) w.whole));
      spelled = w.spelled;
      not_ended = All-from_recursion (λ c. c ≢ Finish) w.before w.not_ended;
      ends = w.ends;
      follows = All-from_recursion (λ b. may_follow b ≡ true) (bytes_of s.tail) (all_follow s.tail s.follows);
      is = w.is;
    }
