-- What a text shows as it goes on: commands that stay, and the first fault, which stays too.
use Rattle.gerber_text.proofs.Common.{◌≡◌, ◌≢◌, ℕ, zero, suc, ◌+◌, ◌-◌, ◌<◌, ◌≤◌, ◌⊎◌, inl, inr, Bool, true, false, cond, eqb, ltb, not, ◌||◌, List, [], ◌∷◌, ◌++◌, length, take, drop, get_or, Result, Ok, Err, refl, sym, ap, subst, ◌∙◌, arith, append_assoc, AllByRecursion, append-nil, length-append, length-map, take-append-drop, take-append-le, take_all, take_rest, take-add, eqb-true, eqb-false, lt-ltb, le-ltb, ltb-true, ltb-false, false≢true, Profile, Fault, Fail, TooLong, AfterEnd, Progress, is_line_break, end_byte, IsUnfinished, OffsetByte, offset_bytes_from, offset_bytes, bytes_of, first_offset, has_end, Splits, may_follow_end, ◌>>=◌, fault, IfFault, Entries, spelled_in, commands_by, may_follow, after_end, shown_by, Holds, FailsOnBytes, Advances, Refuses, bind_ok, bind_err, guard_ok, guard_err, item_limit}
use Rattle.grid_units.specs.declared.fault.Fail.TheVariants as fails
use Rattle.gerber_text.proofs.OffsetByteLemmas.{offset_bytes-append, first_offset-append}
use Rattle.gerber_text.proofs.SplitsLemmas.{Splits-grow, Splits-close, IsUnfinished-push, bytes_of-push, commands_by-push}

-- ---- after the end of the text

split_first : {A : Type 0} (t : Bool) (x y : A) (d z : A) → cond t x y ≡ z → ((t ≡ true) × (x ≡ z)) ⊎ ((t ≡ false) × (y ≡ z))
split_first true x y d z e = inl (refl, e)
split_first false x y d z e = inr (refl, e)

pub after_end_ok : (place : ℕ) (cs ds : Entries) (rest : List OffsetByte) → after_end place cs rest ≡ Ok ds → (cs ≡ ds) × ((more : List OffsetByte) → after_end place cs (rest ++ more) ≡ after_end place cs more)
after_end_ok place cs ds [] e = (cc, λ more. refl)
after_end_ok place cs ds (m ∷ ms) e =
    elim (split_first (may_follow m.1) (after_end place cs ms) (Err (fault place m.0 AfterEnd)) (Ok ds) (Ok ds) e) [
      | inl h ↦ (let r = after_end_ok place cs ds ms h.1 in (r.0, λ more. ap (λ t. cond t (after_end place cs (ms ++ more)) (Err (fault place m.0 AfterEnd))) h.0 ∙ r.1 more))
      | inr h ↦ absurd cc
    ]

after_end_err : (place : ℕ) (cs : Entries) (rest more : List OffsetByte) (f : Fault) → after_end place cs rest ≡ Err f → after_end place cs (rest ++ more) ≡ Err f
after_end_err place cs [] more f e = absurd cc
after_end_err place cs (m ∷ ms) more f e =
    elim (split_first (may_follow m.1) (after_end place cs ms) (Err (fault place m.0 AfterEnd)) (Err f) (Err f) e) [
      | inl h ↦ ap (λ t. cond t (after_end place cs (ms ++ more)) (Err (fault place m.0 AfterEnd))) h.0 ∙ after_end_err place cs ms more f h.1
      | inr h ↦ ap (λ t. cond t (after_end place cs (ms ++ more)) (Err (fault place m.0 AfterEnd))) h.0 ∙ h.1
    ]

passes : (t : Bool) (n b place : ℕ) (cs : Entries) (ms : List OffsetByte) → (t || may_follow b) ≡ true → after_end place cs (cond (not t) ((n, b) ∷ ms) ms) ≡ after_end place cs ms
passes true n b place cs ms h = refl
passes false n b place cs ms h = ap (λ u. cond u (after_end place cs ms) (Err (fault place n AfterEnd))) h

stops : (t : Bool) (n b place : ℕ) (cs : Entries) (ms : List OffsetByte) → (t || may_follow b) ≡ false → after_end place cs (cond (not t) ((n, b) ∷ ms) ms) ≡ Err (fault place n AfterEnd)
stops true n b place cs ms h = absurd (false≢true (sym h))
stops false n b place cs ms h = ap (λ u. cond u (after_end place cs ms) (Err (fault place n AfterEnd))) h

pub all_follow : (n place : ℕ) (cs : Entries) (bytes : List ℕ) → AllByRecursion (λ b. may_follow_end b ≡ true) bytes → after_end place cs (offset_bytes_from n bytes) ≡ Ok cs
all_follow n place cs [] h = refl
all_follow n place cs (b ∷ bytes) h = passes (is_line_break b) n b place cs (offset_bytes_from (n + 1) bytes) h.0 ∙ all_follow (n + 1) place cs bytes h.1

pub stray : (n place : ℕ) (cs : Entries) (bytes : List ℕ) (i : ℕ) → i < length bytes → AllByRecursion (λ b. may_follow_end b ≡ true) (take i bytes) → may_follow_end (get_or bytes i 0) ≡ false → after_end place cs (offset_bytes_from n bytes) ≡ Err (fault place (n + i) AfterEnd)
stray n place cs [] i lt h k = absurd (omega arith)
stray n place cs (b ∷ bytes) zero lt h k =
    let j : n ≡ n + 0 = omega arith in
    stops (is_line_break b) n b place cs (offset_bytes_from (n + 1) bytes) k ∙ ap (λ at. Err (fault place at AfterEnd)) j
stray n place cs (b ∷ bytes) (suc i) lt h k =
    let j : (n + 1) + i ≡ n + suc i = omega arith in
    passes (is_line_break b) n b place cs (offset_bytes_from (n + 1) bytes) h.0 ∙ (stray (n + 1) place cs bytes i (omega arith) h.1 k ∙ ap (λ at. Err (fault place at AfterEnd)) j)

-- ---- what is shown

pub running_ok : (profile : Profile) (items : List (List OffsetByte)) (rest : List OffsetByte) (cs : Entries) → has_end items ≡ false → shown_by profile items rest ≡ Ok cs → (commands_by profile 1 items [] ≡ Ok cs) × (length rest ≤ item_limit)
running_ok profile items rest cs none e =
    let b = bind_ok (commands_by profile 1 items []) (λ commands. cond (has_end items) (after_end (suc (length items)) commands rest) (cond (ltb item_limit (length rest)) (Err (fault (suc (length items)) (first_offset rest) TooLong)) (Ok commands))) cs e in
    let g = guard_ok (ltb item_limit (length rest)) (fault (suc (length items)) (first_offset rest) TooLong) b.0 cs (sym (ap (λ t. cond t (after_end (suc (length items)) b.0 rest) (cond (ltb item_limit (length rest)) (Err (fault (suc (length items)) (first_offset rest) TooLong)) (Ok b.0))) none) ∙ b.2) in
    (b.1 ∙ ap (λ (x : Entries). Ok x) g.1, ltb-false _ _ g.0)

pub show_ok : (profile : Profile) (items : List (List OffsetByte)) (rest : List OffsetByte) (cs : Entries) → has_end items ≡ false → commands_by profile 1 items [] ≡ Ok cs → length rest ≤ item_limit → shown_by profile items rest ≡ Ok cs
show_ok profile items rest cs none e le = rw (e, none, le-ltb _ _ le) refl

pub show_long : (profile : Profile) (items : List (List OffsetByte)) (rest : List OffsetByte) (cs : Entries) → has_end items ≡ false → commands_by profile 1 items [] ≡ Ok cs → item_limit < length rest → shown_by profile items rest ≡ Err (fault (suc (length items)) (first_offset rest) TooLong)
show_long profile items rest cs none e lt = rw (e, none, lt-ltb _ _ lt) refl

pub shown_ended : (profile : Profile) (items : List (List OffsetByte)) (rest : List OffsetByte) (cs : Entries) → has_end items ≡ true → commands_by profile 1 items [] ≡ Ok cs → shown_by profile items rest ≡ after_end (suc (length items)) cs rest
shown_ended profile items rest cs some e = rw (e, some) refl

pub ended_more : (profile : Profile) (items : List (List OffsetByte)) (rest more : List OffsetByte) (cs : Entries) → has_end items ≡ true → shown_by profile items rest ≡ Ok cs → shown_by profile items (rest ++ more) ≡ after_end (suc (length items)) cs more
ended_more profile items rest more cs some e =
    let b = bind_ok (commands_by profile 1 items []) (λ commands. cond (has_end items) (after_end (suc (length items)) commands rest) (cond (ltb item_limit (length rest)) (Err (fault (suc (length items)) (first_offset rest) TooLong)) (Ok commands))) cs e in
    let r = after_end_ok (suc (length items)) b.0 cs rest (sym (ap (λ t. cond t (after_end (suc (length items)) b.0 rest) (cond (ltb item_limit (length rest)) (Err (fault (suc (length items)) (first_offset rest) TooLong)) (Ok b.0))) some) ∙ b.2) in
    shown_ended profile items (rest ++ more) b.0 some b.1 ∙ (r.1 more ∙ ap (λ (x : Entries). after_end (suc (length items)) x more) r.0)

rest_shows : (t : Bool) (place : ℕ) (r : Result Entries Fault) → (r >>= λ commands. cond t (after_end place commands []) (cond (ltb item_limit 0) (Err (fault place 0 TooLong)) (Ok commands))) ≡ r
rest_shows true place (Ok x) = refl
rest_shows false place (Ok x) = refl
rest_shows t place (Err x) = refl

-- the items and one more, with nothing after it
pub show_push : (profile : Profile) (items : List (List OffsetByte)) (item : List OffsetByte) (cs : Entries) → commands_by profile 1 items [] ≡ Ok cs → shown_by profile (items ++ item ∷ []) [] ≡ spelled_in profile (suc (length items)) (first_offset item) (bytes_of item) cs
show_push profile items item cs e =
    let k : 1 + length items ≡ suc (length items) = omega arith in
    let cmds : commands_by profile 1 (items ++ item ∷ []) [] ≡ spelled_in profile (suc (length items)) (first_offset item) (bytes_of item) cs = commands_by-push profile 1 items item [] ∙ (ap (λ r. r >>= spelled_in profile (1 + length items) (first_offset item) (bytes_of item)) e ∙ ap (λ p. spelled_in profile p (first_offset item) (bytes_of item) cs) k) in
    rest_shows (has_end (items ++ item ∷ [])) (suc (length (items ++ item ∷ []))) (commands_by profile 1 (items ++ item ∷ []) []) ∙ cmds

-- ---- a fault stays, and the items before it

-- one more byte: the first items stay, and so does a fault
pub record Pushed (profile : Profile) (ms : List OffsetByte) (m : OffsetByte) (items : List (List OffsetByte)) (rest : List OffsetByte) : Type 0 where
  pub more : List (List OffsetByte)
  pub left : List OffsetByte
  pub splits : Splits (ms ++ m ∷ []) more left
  pub prefix : (n : ℕ) → n ≤ length items → (n ≤ length more) × (take n more ≡ take n items)
  pub stays : (f : Fault) → shown_by profile items rest ≡ Err f → shown_by profile more left ≡ Err f

pushed_ended : (profile : Profile) (ms : List OffsetByte) (m : OffsetByte) (items : List (List OffsetByte)) (rest : List OffsetByte) → has_end items ≡ true → Splits ms items rest → Pushed profile ms m items rest
pushed_ended profile ms m items rest some s =
    let place = suc (length items) in
    record {
      more = items;
      left = rest ++ m ∷ [];
      splits = Splits-grow ms items rest (m ∷ []) s (λ none. absurd (false≢true (sym none ∙ some)));
      prefix = λ n h. (h, refl);
      stays = λ f e.
          let unfolded = ap (λ t. commands_by profile 1 items [] >>= λ commands. cond t (after_end place commands rest) (cond (ltb item_limit (length rest)) (Err (fault place (first_offset rest) TooLong)) (Ok commands))) (sym some) ∙ e in
          elim (bind_err (commands_by profile 1 items []) (λ commands. after_end place commands rest) f unfolded) [
            | inl h ↦ rw h refl
            | inr h ↦ shown_ended profile items (rest ++ m ∷ []) h.0 some h.1 ∙ after_end_err place h.0 rest (m ∷ []) f h.2
          ];
    }

-- where the text has not ended, the fault is that of an item, or the rest is too long
running_err : (profile : Profile) (items : List (List OffsetByte)) (rest : List OffsetByte) (f : Fault) → has_end items ≡ false → shown_by profile items rest ≡ Err f
    → (commands_by profile 1 items [] ≡ Err f) ⊎ ((cs : Entries) × (commands_by profile 1 items [] ≡ Ok cs) × (item_limit < length rest) × (fault (suc (length items)) (first_offset rest) TooLong ≡ f))
running_err profile items rest f none e =
    let place = suc (length items) in
    let unfolded = ap (λ t. commands_by profile 1 items [] >>= λ commands. cond t (after_end place commands rest) (cond (ltb item_limit (length rest)) (Err (fault place (first_offset rest) TooLong)) (Ok commands))) (sym none) ∙ e in
    elim (bind_err (commands_by profile 1 items []) (λ commands. cond (ltb item_limit (length rest)) (Err (fault place (first_offset rest) TooLong)) (Ok commands)) f unfolded) [
      | inl h ↦ inl h
      | inr h ↦ (let g = guard_err (ltb item_limit (length rest)) (fault place (first_offset rest) TooLong) f h.0 h.2 in inr (h.0, h.1, ltb-true _ _ g.0, g.1))
    ]

first_err : (profile : Profile) (items : List (List OffsetByte)) (rest : List OffsetByte) (f : Fault) → commands_by profile 1 items [] ≡ Err f → shown_by profile items rest ≡ Err f
first_err profile items rest f e = rw e refl

pushed_inside : (profile : Profile) (ms : List OffsetByte) (m : OffsetByte) (items : List (List OffsetByte)) (rest : List OffsetByte) → has_end items ≡ false → m.1 ≢ end_byte (bytes_of rest) → Splits ms items rest → Pushed profile ms m items rest
pushed_inside profile ms m items rest none inside s = record {
  more = items;
  left = rest ++ m ∷ [];
  splits = Splits-grow ms items rest (m ∷ []) s (λ _. subst IsUnfinished (sym (bytes_of-push rest m)) (IsUnfinished-push (bytes_of rest) m.1 (s.partial none) inside));
  prefix = λ n h. (h, refl);
  stays = λ f e. elim (running_err profile items rest f none e) [
    | inl h ↦ first_err profile items (rest ++ m ∷ []) f h
    | inr h ↦ (let long : 0 < length rest = omega (arith, h.2) in
        show_long profile items (rest ++ m ∷ []) h.0 none h.1 (omega (arith, h.2, length-append rest (m ∷ []))) ∙ (ap (λ at. Err (fault (suc (length items)) at TooLong)) (first_offset-append rest (m ∷ []) long) ∙ ap (λ (g : Fault). Err g) h.3))
  ];
}

-- an item that is too long is a fault
pub too_long : (profile : Profile) (place byte : ℕ) (bytes : List ℕ) (before : Entries) → item_limit < length bytes → spelled_in profile place byte bytes before ≡ Err (fault place byte TooLong)
unfolding spelled_in
too_long profile place byte bytes before lt = rw (lt-ltb _ _ lt) refl

show_push_err : (profile : Profile) (items : List (List OffsetByte)) (item : List OffsetByte) (f : Fault) → commands_by profile 1 items [] ≡ Err f → shown_by profile (items ++ item ∷ []) [] ≡ Err f
show_push_err profile items item f e =
    let cmds : commands_by profile 1 (items ++ item ∷ []) [] ≡ Err f = commands_by-push profile 1 items item [] ∙ ap (λ r. r >>= spelled_in profile (1 + length items) (first_offset item) (bytes_of item)) e in
    first_err profile (items ++ item ∷ []) [] f cmds

pub take_of_push : (items : List (List OffsetByte)) (item : List OffsetByte) (n : ℕ) → n ≤ length items → (n ≤ length (items ++ item ∷ [])) × (take n (items ++ item ∷ []) ≡ take n items)
take_of_push items item n h = (omega (arith, length-append items (item ∷ [])), rw take-append-le refl)

pushed_last : (profile : Profile) (ms : List OffsetByte) (m : OffsetByte) (items : List (List OffsetByte)) (rest : List OffsetByte) → has_end items ≡ false → m.1 ≡ end_byte (bytes_of rest) → Splits ms items rest → Pushed profile ms m items rest
pushed_last profile ms m items rest none last s = record {
  more = items ++ (rest ++ m ∷ []) ∷ [];
  left = [];
  splits = Splits-close ms items rest m s none last;
  prefix = take_of_push items (rest ++ m ∷ []);
  stays = λ f e. elim (running_err profile items rest f none e) [
    | inl h ↦ show_push_err profile items (rest ++ m ∷ []) f h
    | inr h ↦ (let long : 0 < length rest = omega (arith, h.2) in
        show_push profile items (rest ++ m ∷ []) h.0 h.1 ∙ (too_long profile (suc (length items)) (first_offset (rest ++ m ∷ [])) (bytes_of (rest ++ m ∷ [])) h.0 (omega (arith, h.2, length-append rest (m ∷ []), length-map (rest ++ m ∷ []) (λ (x : OffsetByte). x.1))) ∙ (ap (λ at. Err (fault (suc (length items)) at TooLong)) (first_offset-append rest (m ∷ []) long) ∙ ap (λ (g : Fault). Err g) h.3)))
  ];
}

pub by_end : (profile : Profile) (t u : Bool) (ms : List OffsetByte) (m : OffsetByte) (items : List (List OffsetByte)) (rest : List OffsetByte) → has_end items ≡ t → eqb m.1 (end_byte (bytes_of rest)) ≡ u → Splits ms items rest → Pushed profile ms m items rest
by_end profile true u ms m items rest h k s = pushed_ended profile ms m items rest h s
by_end profile false true ms m items rest h k s = pushed_last profile ms m items rest h (eqb-true _ _ k) s
by_end profile false false ms m items rest h k s = pushed_inside profile ms m items rest h (eqb-false _ _ k) s

reported_stays : (profile : Profile) (items more : List (List OffsetByte)) (rest left : List OffsetByte) (kept : ℕ) (e : Fail) → ((f : Fault) → shown_by profile items rest ≡ Err f → shown_by profile more left ≡ Err f) → IfFault (λ f. (shown_by profile items rest ≡ Err f) × (f.place ≡ suc kept)) e → IfFault (λ f. (shown_by profile more left ≡ Err f) × (f.place ≡ suc kept)) e
reported_stays profile items more rest left kept fails.Memory stays h = tt
reported_stays profile items more rest left kept (fails.Refused f) stays h = (stays f h.0, h.1)

stops_push : (profile : Profile) (ms : List OffsetByte) (m : OffsetByte) (cs : Entries) (e : Fail) → FailsOnBytes profile ms cs e → FailsOnBytes profile (ms ++ m ∷ []) cs e
stops_push profile ms m cs e h =
    let p = by_end profile (has_end h.items) (eqb m.1 (end_byte (bytes_of h.rest))) ms m h.items h.rest refl refl h.splits in
    let f = p.prefix h.kept h.within in
    record {
      items = p.more;
      rest = p.left;
      splits = p.splits;
      kept = h.kept;
      within = f.0;
      spelled = ap (λ (x : List (List OffsetByte)). commands_by profile 1 x []) f.1 ∙ h.spelled;
      reported = reported_stays profile h.items p.more h.rest p.left h.kept e p.stays h.reported;
    }

pub stops_stay : (profile : Profile) (ms more : List OffsetByte) (cs : Entries) (e : Fail) → FailsOnBytes profile ms cs e → FailsOnBytes profile (ms ++ more) cs e
stops_stay profile ms [] cs e h = subst (λ (x : List OffsetByte). FailsOnBytes profile x cs e) (sym (append-nil ms)) h
stops_stay profile ms (m ∷ more) cs e h =
    subst (λ (x : List OffsetByte). FailsOnBytes profile x cs e) (append_assoc ms (m ∷ []) more) (stops_stay profile (ms ++ m ∷ []) more cs e (stops_push profile ms m cs e h))

-- ---- readers

shown_spelled_by : (profile : Profile) (t : Bool) (items : List (List OffsetByte)) (rest : List OffsetByte) (cs : Entries) → has_end items ≡ t → shown_by profile items rest ≡ Ok cs → commands_by profile 1 items [] ≡ Ok cs
shown_spelled_by profile false items rest cs none e = (running_ok profile items rest cs none e).0
shown_spelled_by profile true items rest cs some e =
    let b = bind_ok (commands_by profile 1 items []) (λ commands. cond (has_end items) (after_end (suc (length items)) commands rest) (cond (ltb item_limit (length rest)) (Err (fault (suc (length items)) (first_offset rest) TooLong)) (Ok commands))) cs e in
    let r = after_end_ok (suc (length items)) b.0 cs rest (sym (ap (λ t. cond t (after_end (suc (length items)) b.0 rest) (cond (ltb item_limit (length rest)) (Err (fault (suc (length items)) (first_offset rest) TooLong)) (Ok b.0))) some) ∙ b.2) in
    b.1 ∙ ap (λ (x : Entries). Ok x) r.0

-- where no fault is shown, the items alone spell the commands
pub shown_spelled : (profile : Profile) (items : List (List OffsetByte)) (rest : List OffsetByte) (cs : Entries) → shown_by profile items rest ≡ Ok cs → commands_by profile 1 items [] ≡ Ok cs
shown_spelled profile items rest cs e = shown_spelled_by profile (has_end items) items rest cs refl e

pub kept_all : (profile : Profile) (r : Progress) (gone : Entries) (text : List ℕ) (h : Holds r profile gone text) → commands_by profile 1 (take (length h.items) h.items) [] ≡ Ok (gone ++ r.commands.items)
kept_all profile r gone text h = ap (λ (x : List (List OffsetByte)). commands_by profile 1 x []) (take_all (length h.items) h.items (omega arith)) ∙ shown_spelled profile h.items h.rest (gone ++ r.commands.items) h.commands

pub kept_pushed : (profile : Profile) (r : Progress) (gone : Entries) (text : List ℕ) (h : Holds r profile gone text) (item : List OffsetByte) → commands_by profile 1 (take (length h.items) (h.items ++ item ∷ [])) [] ≡ Ok (gone ++ r.commands.items)
kept_pushed profile r gone text h item = ap (λ (x : List (List OffsetByte)). commands_by profile 1 x []) (take_of_push h.items item (length h.items) (omega arith)).1 ∙ kept_all profile r gone text h

-- running out of memory stops a reader anywhere, with the commands that it has
pub out_of_memory : (old : Progress) (left : Entries) (bytes : List ℕ) → left ≡ old.commands.items → Refuses old left bytes fails.Memory
out_of_memory old left bytes same = λ profile gone text h.
    let here : FailsOnBytes profile (offset_bytes text) (gone ++ left) fails.Memory = record {
      items = h.items;
      rest = h.rest;
      splits = h.splits;
      kept = length h.items;
      within = omega arith;
      spelled = kept_all profile old gone text h ∙ ap (λ (x : Entries). Ok (gone ++ x)) (sym same);
      reported = tt;
    } in
    subst (λ (x : List OffsetByte). FailsOnBytes profile x (gone ++ left) fails.Memory) (sym (offset_bytes-append text bytes)) (stops_stay profile (offset_bytes text) (offset_bytes_from (length text) bytes) (gone ++ left) fails.Memory here)

pub Refuses-longer : (old : Progress) (left : Entries) (xs ys : List ℕ) (e : Fail) → Refuses old left xs e → Refuses old left (xs ++ ys) e
Refuses-longer old left xs ys e h = λ profile gone text holds.
    let joined : offset_bytes (text ++ (xs ++ ys)) ≡ offset_bytes (text ++ xs) ++ offset_bytes_from (length (text ++ xs)) ys = ap offset_bytes (sym (append_assoc text xs ys)) ∙ offset_bytes-append (text ++ xs) ys in
    subst (λ (x : List OffsetByte). FailsOnBytes profile x (gone ++ left) e) (sym joined) (stops_stay profile (offset_bytes (text ++ xs)) (offset_bytes_from (length (text ++ xs)) ys) (gone ++ left) e (h profile gone text holds))

pub Advances-then : (a b c : Progress) (xs ys : List ℕ) → Advances a b xs → Advances b c ys → Advances a c (xs ++ ys)
Advances-then a b c xs ys h k = λ profile gone text holds. subst (Holds c profile gone) (append_assoc text xs ys) (k profile gone (text ++ xs) (h profile gone text holds))

-- some bytes after a text, and some of those that follow
pub two_takes : (text bytes : List ℕ) (n k : ℕ) → (text ++ take n bytes) ++ take k (take (length bytes - n) (drop n bytes)) ≡ text ++ take (n + k) bytes
two_takes text bytes n k = ap (λ (x : List ℕ). (text ++ take n bytes) ++ take k x) (take_rest bytes n) ∙ (append_assoc text (take n bytes) (take k (drop n bytes)) ∙ ap (λ (x : List ℕ). text ++ x) (sym (take-add n k bytes)))

-- a step over the first bytes, and one over some of those that follow
pub Advances-both : (a b c : Progress) (bytes : List ℕ) (n k : ℕ) → Advances a b (take n bytes) → Advances b c (take k (take (length bytes - n) (drop n bytes))) → Advances a c (take (n + k) bytes)
Advances-both a b c bytes n k first more = λ profile gone text holds. subst (Holds c profile gone) (two_takes text bytes n k) (more profile gone (text ++ take n bytes) (first profile gone text holds))

pub Refuses-then : (a b : Progress) (left : Entries) (xs ys : List ℕ) (e : Fail) → Advances a b xs → Refuses b left ys e → Refuses a left (xs ++ ys) e
Refuses-then a b left xs ys e h k = λ profile gone text holds. subst (λ (x : List ℕ). FailsOnBytes profile (offset_bytes x) (gone ++ left) e) (append_assoc text xs ys) (k profile gone (text ++ xs) (h profile gone text holds))

pub Refuses-first : (old : Progress) (left : Entries) (bytes : List ℕ) (e : Fail) → 0 < length bytes → Refuses old left (get_or bytes 0 0 ∷ []) e → Refuses old left bytes e
Refuses-first old left [] e some h = absurd (omega arith)
Refuses-first old left (b ∷ bytes) e some h = Refuses-longer old left (b ∷ []) bytes e h

pub Refuses-prefix : (old : Progress) (left : Entries) (bytes : List ℕ) (n : ℕ) (e : Fail) → Refuses old left (take n bytes) e → Refuses old left bytes e
Refuses-prefix old left bytes n e h = subst (λ (x : List ℕ). Refuses old left x e) (take-append-drop n bytes) (Refuses-longer old left (take n bytes) (drop n bytes) e h)
