-- A text that is written for commands spells just these, and is written for no others.
use Rattle.gerber_text.proofs.Common.{◌≡◌, ◌≢◌, inl, inr, ℕ, suc, ◌≤◌, true, false, ◌||◌, Option, None, option_or, List, [], ◌∷◌, ◌++◌, length, Result, Ok, refl, sym, ap, subst, ◌∙◌, arith, append_assoc, flat_map, concat, list_any, AllByRecursion, append-nil, recursion_from_All, false≢true, Profile, Fault, item_limit, ◌>>=◌, Action, Command, Finish, is_end_item, is_finish, OffsetByte, offset_bytes, bytes_of, first_offset, has_end, AreItems, Entries, latest_action, item_entries, commands_by, may_follow, without_places, IsItemIn, AreItemsIn, IsEnd, action_of, last_set}
use Rattle.gerber_text.specs.Laws.{WrittenTextsAreSpelledIn, TextsSpellOneListIn}
use Rattle.gerber_text.proofs.GrammarItems.{item_means, end_means, other, item_ends}
use Rattle.gerber_text.proofs.Items.{spelled_ok}
use Rattle.gerber_text.proofs.RoundTrip.{bytes_of_marks}
use Rattle.gerber_text.proofs.SpelledIsWritten.{bare, bare_append, latest_more}
use Rattle.gerber_text.proofs.SpellsTextLemmas.{spells_reads}
use Rattle.gerber_text.proofs.UniqueReading.{one_read}

-- ---- bytes with their offsets

-- divided where their bytes are
record Divided (ms : List OffsetByte) (a b : List ℕ) : Type 0 where
  front : List OffsetByte
  back : List OffsetByte
  whole : ms ≡ front ++ back
  front_is : bytes_of front ≡ a
  back_is : bytes_of back ≡ b

divide : (ms : List OffsetByte) (a b : List ℕ) → bytes_of ms ≡ a ++ b → Divided ms a b
divide ms [] b e = record { front = []; back = ms; whole = refl; front_is = refl; back_is = e }
divide [] (x ∷ a) b e = absurd cc
divide (m ∷ ms) (x ∷ a) b e =
    let first : m.1 ≡ x = cc in
    let rest : bytes_of ms ≡ a ++ b = cc in
    let d = divide ms a b rest in
    record { front = m ∷ d.front; back = d.back; whole = ap (λ (l : List OffsetByte). m ∷ l) d.whole; front_is = λ i. first i ∷ d.front_is i; back_is = d.back_is }

-- ---- the end of the text

ends_text : (end : List ℕ) → IsEnd end → is_end_item end ≡ true
ends_text end (inl e) = ap is_end_item e
ends_text end (inr e) = ap is_end_item e

end_is_short : (end : List ℕ) → IsEnd end → length end ≤ item_limit
end_is_short end (inl e) = omega (arith, ap length e)
end_is_short end (inr e) = omega (arith, ap length e)

-- an item that is written for no Finish is not the end of the text
goes_on : (profile : Profile) (latest : Option Action) (item : List ℕ) (cs : List Command) → IsItemIn profile latest item cs → AllByRecursion (λ c. c ≢ Finish) cs → is_end_item item ≡ false
goes_on profile latest item cs h none = sym (item_ends profile latest item cs h) ∙ no_finish cs none
  where
    no_finish : (ds : List Command) → AllByRecursion (λ c. c ≢ Finish) ds → list_any is_finish ds ≡ false
    no_finish [] n = refl
    no_finish (d ∷ ds) n = λ i. other d n.0 i || no_finish ds n.1 i

all_parts : (P : Command → Type 0) (xs ys : List Command) → AllByRecursion P (xs ++ ys) → AllByRecursion P xs × AllByRecursion P ys
all_parts P [] ys h = (tt, h)
all_parts P (x ∷ xs) ys h = let k = all_parts P xs ys h.1 in ((h.0, k.0), k.1)

-- ---- items

-- items with their offsets, up to the end of the text, that spell these commands after the old ones
record Found (profile : Profile) (ms : List OffsetByte) (place : ℕ) (old : Entries) (commands : List Command) (tail : List ℕ) : Type 0 where
  items : List (List OffsetByte)
  left : List OffsetByte
  after : Entries
  whole : ms ≡ flat_map (λ item. item) items ++ left
  each : AreItems items
  ends : has_end items ≡ true
  spelled : commands_by profile place items old ≡ Ok after
  is : without_places after ≡ without_places old ++ commands
  left_is : bytes_of left ≡ tail

found_last : (profile : Profile) (place : ℕ) (ms : List OffsetByte) (old : Entries) (end tail : List ℕ) → IsEnd end → bytes_of ms ≡ end ++ tail → Found profile ms place old (Finish ∷ []) tail
found_last profile place ms old end tail h e =
    let d = divide ms end tail e in
    let at = first_offset d.front in
    let ends = subst IsEnd (sym d.front_is) h in
    let means = end_means profile (latest_action old) (bytes_of d.front) ends in
    record {
      items = d.front ∷ [];
      left = d.back;
      after = old ++ item_entries place at (Finish ∷ []);
      whole = d.whole ∙ ap (λ (l : List OffsetByte). l ++ d.back) (sym (append-nil d.front));
      each = (means.0, λ _. refl, tt);
      ends = ap (λ t. t || false) (ends_text (bytes_of d.front) ends);
      spelled = ap (λ r. r >>= commands_by profile (suc place) []) (spelled_ok profile place at (bytes_of d.front) old (Finish ∷ []) (end_is_short (bytes_of d.front) ends) means.1);
      is = bare_append old (item_entries place at (Finish ∷ []));
      left_is = d.back_is;
    }

found_next : (profile : Profile) (place : ℕ) (ms : List OffsetByte) (old : Entries) (item rest tail : List ℕ) (first commands : List Command) (d : Divided ms item rest) → IsItemIn profile (latest_action old) item first → length item ≤ item_limit → AllByRecursion (λ c. c ≢ Finish) first
    → Found profile d.back (suc place) (old ++ item_entries place (first_offset d.front) first) commands tail → Found profile ms place old (first ++ commands) tail
found_next profile place ms old item rest tail first commands d written short none f =
    let at = first_offset d.front in
    let now = item_entries place at first in
    let here = subst (λ (l : List ℕ). IsItemIn profile (latest_action old) l first) (sym d.front_is) written in
    let is = item_means profile (latest_action old) (bytes_of d.front) first here in
    let not_end = goes_on profile (latest_action old) (bytes_of d.front) first here none in
    let added : without_places (old ++ now) ≡ without_places old ++ first = bare_append old now ∙ ap (λ (l : List Command). without_places old ++ l) (bare place at first) in
    record {
      items = d.front ∷ f.items;
      left = f.left;
      after = f.after;
      whole = d.whole ∙ (ap (λ (l : List OffsetByte). d.front ++ l) f.whole ∙ sym (append_assoc d.front (flat_map (λ (i : List OffsetByte). i) f.items) f.left));
      each = (is.0, λ end. absurd (false≢true (sym not_end ∙ end)), f.each);
      ends = ap (λ t. t || has_end f.items) not_end ∙ f.ends;
      spelled = ap (λ r. r >>= commands_by profile (suc place) f.items) (spelled_ok profile place at (bytes_of d.front) old first (subst (λ (l : List ℕ). length l ≤ item_limit) (sym d.front_is) short) is.1) ∙ f.spelled;
      is = f.is ∙ (ap (λ (l : List Command). l ++ commands) added ∙ append_assoc (without_places old) first commands);
      left_is = f.left_is;
    }

regroup : (a b c d : List ℕ) → ((a ++ b) ++ c) ++ d ≡ a ++ ((b ++ c) ++ d)
regroup a b c d = ap (λ (l : List ℕ). l ++ d) (append_assoc a b c) ∙ append_assoc a (b ++ c) d

found : (profile : Profile) (place : ℕ) (latest : Option Action) (items : List (List ℕ)) (before : List Command) (ms : List OffsetByte) (old : Entries) (end tail : List ℕ) → latest ≡ latest_action old → AreItemsIn profile latest items before → AllByRecursion (λ c. c ≢ Finish) before → IsEnd end
    → bytes_of ms ≡ concat items ++ end ++ tail → Found profile ms place old (before ++ Finish ∷ []) tail
found profile place latest [] before ms old end tail same h none ends e = subst (λ (l : List Command). Found profile ms place old (l ++ Finish ∷ []) tail) (sym h) (found_last profile place ms old end tail ends e)
found profile place latest (item ∷ items) before ms old end tail same h none ends e =
    let first = h.0 in
    let others = h.1 in
    let rest = concat items ++ end ++ tail in
    let parts = all_parts (λ c. c ≢ Finish) first others (subst (AllByRecursion (λ c. c ≢ Finish)) h.2 none) in
    let d = divide ms item rest (e ∙ regroup item (concat items) end tail) in
    let now = item_entries place (first_offset d.front) first in
    let later : option_or (last_set action_of first) latest ≡ latest_action (old ++ now) = ap (option_or (last_set action_of first)) same ∙ sym (latest_more old place (first_offset d.front) first) in
    let more = found profile (suc place) (option_or (last_set action_of first) latest) items others d.back (old ++ now) end tail later h.5 parts.1 ends d.back_is in
    let written = subst (λ t. IsItemIn profile t item first) same h.4 in
    let joined : first ++ (others ++ Finish ∷ []) ≡ before ++ Finish ∷ [] = sym (append_assoc first others (Finish ∷ [])) ∙ ap (λ (l : List Command). l ++ Finish ∷ []) (sym h.2) in
    subst (λ (l : List Command). Found profile ms place old l tail) joined (found_next profile place ms old item rest tail first (others ++ Finish ∷ []) d written h.3 parts.0 more)

-- ---- texts

all_follow : (left : List OffsetByte) → AllByRecursion (λ b. may_follow b ≡ true) (bytes_of left) → AllByRecursion (λ m. may_follow m.1 ≡ true) left
all_follow [] h = tt
all_follow (m ∷ left) h = (h.0, all_follow left h.1)

pub written_is_spelled : WrittenTextsAreSpelledIn
written_is_spelled profile text commands w =
    let f = found profile 1 None w.items w.before (offset_bytes text) [] w.end w.tail refl w.spelled (recursion_from_All (λ c. c ≢ Finish) w.before w.not_ended) w.ends (bytes_of_marks 0 text ∙ w.written) in
    let follows = subst (AllByRecursion (λ b. may_follow b ≡ true)) (sym f.left_is) (recursion_from_All (λ b. may_follow b ≡ true) w.tail w.follows) in (
      f.after,
      f.is ∙ sym w.is,
      record {
        items = f.items;
        tail = f.left;
        splits = record { whole = f.whole; each = f.each; partial = λ none. absurd (false≢true (sym none ∙ f.ends)) };
        ends = f.ends;
        spelled = f.spelled;
        follows = all_follow f.left follows;
        short = w.short;
      },
    )

ok_same : (x y : Entries) → (let r : Result Entries Fault = Ok x in r ≡ Ok y) → x ≡ y
ok_same x y e = cc

pub one_list : TextsSpellOneListIn
one_list profile text a b p q =
    let s = written_is_spelled profile text a p in
    let t = written_is_spelled profile text b q in
    let same = ok_same s.0 t.0 (one_read profile text (Ok s.0) (Ok t.0) (spells_reads profile text s.0 s.2) (spells_reads profile text t.0 t.2)) in
    sym s.1 ∙ (ap without_places same ∙ t.1)
