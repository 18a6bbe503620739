-- A text that goes on: its items, its rest, and what they show.
use Rattle.gerber_text.proofs.Common.{◌≡◌, ◌≢◌, ℕ, suc, ◌+◌, ◌<◌, Bool, true, false, cond, eqb, ◌||◌, List, [], ◌∷◌, ◌++◌, length, Result, Ok, Err, refl, sym, ap, subst, ◌∙◌, arith, append_assoc, flat_map, AllByRecursion, append-nil, map-append, flat_map-append, list_any-append, false≢true, Profile, end_byte, after_percent, IsUnfinished, IsItem, is_end_item, OffsetByte, bytes_of, first_offset, has_end, AreItems, Splits, ◌>>=◌, Entries, spelled_in, commands_by, bind_cong, bind_Ok}
use Rattle.gerber_text.proofs.OffsetByteLemmas.{AllR-append}

-- ---- unfinished items

pub cond-append : (t : Bool) (b : ℕ) (bs run : List ℕ) → cond t (bs ++ run) (b ∷ (bs ++ run)) ≡ cond t bs (b ∷ bs) ++ run
cond-append true b bs run = refl
cond-append false b bs run = refl

-- bytes that do not end the item lengthen it
pub IsUnfinished-append : (a run : List ℕ) → 0 < length a → IsUnfinished a → AllByRecursion (λ b. b ≢ end_byte a) run → IsUnfinished (a ++ run)
IsUnfinished-append [] run long h k = absurd (omega arith)
IsUnfinished-append (b ∷ bs) run long h k =
    subst (λ (x : List ℕ). AllByRecursion (λ y. y ≢ end_byte (b ∷ bs)) x) (sym (cond-append (eqb b 37) b bs run)) (AllR-append (λ y. y ≢ end_byte (b ∷ bs)) (after_percent (b ∷ bs)) run h k)

begins : (t : Bool) (b : ℕ) → eqb b 37 ≡ t → b ≢ 42 → AllByRecursion (λ y. y ≢ cond t 37 42) (cond t [] (b ∷ []))
begins true b e h = tt
begins false b e h = (h, tt)

-- any byte but `*` begins an item
pub IsUnfinished-one : (b : ℕ) → b ≢ 42 → IsUnfinished (b ∷ [])
IsUnfinished-one b h = begins (eqb b 37) b refl h

-- one more byte, wherever the item is
pub IsUnfinished-push : (a : List ℕ) (b : ℕ) → IsUnfinished a → b ≢ end_byte a → IsUnfinished (a ++ b ∷ [])
IsUnfinished-push [] b h k = IsUnfinished-one b k
IsUnfinished-push (x ∷ xs) b h k = IsUnfinished-append (x ∷ xs) (b ∷ []) (omega arith) h (k, tt)

-- ---- items

or_false : (a b : Bool) → (a || b) ≡ false → (a ≡ false) × (b ≡ false)
or_false true b h = absurd (false≢true (sym h))
or_false false b h = (refl, h)

or_right : (a : Bool) → (a || false) ≡ a
or_right true = refl
or_right false = refl

pub has_end-push : (items : List (List OffsetByte)) (item : List OffsetByte) → has_end items ≡ false → has_end (items ++ item ∷ []) ≡ is_end_item (bytes_of item)
has_end-push items item h =
    list_any-append (λ (i : List OffsetByte). is_end_item (bytes_of i)) items (item ∷ []) ∙ (ap (λ t. t || (is_end_item (bytes_of item) || false)) h ∙ or_right (is_end_item (bytes_of item)))

AreItems-push : (items : List (List OffsetByte)) (item : List OffsetByte) → AreItems items → has_end items ≡ false → IsItem (bytes_of item) → AreItems (items ++ item ∷ [])
AreItems-push [] item h none i = (i, λ _. refl, tt)
AreItems-push (x ∷ items) item h none i =
    let e = or_false (is_end_item (bytes_of x)) (has_end items) none in
    (h.0, λ k. absurd (false≢true (sym e.0 ∙ k)), AreItems-push items item h.2 e.1 i)

-- ---- splitting a text that goes on

pub Splits-grow : (ms : List OffsetByte) (items : List (List OffsetByte)) (rest more : List OffsetByte) → Splits ms items rest → (has_end items ≡ false → IsUnfinished (bytes_of (rest ++ more))) → Splits (ms ++ more) items (rest ++ more)
Splits-grow ms items rest more s h = record {
  whole = ap (λ (x : List OffsetByte). x ++ more) s.whole ∙ append_assoc (flat_map (λ (i : List OffsetByte). i) items) rest more;
  each = s.each;
  partial = h;
}

pub bytes_of-push : (rest : List OffsetByte) (m : OffsetByte) → bytes_of (rest ++ m ∷ []) ≡ bytes_of rest ++ m.1 ∷ []
bytes_of-push rest m = map-append (λ (x : OffsetByte). x.1) rest (m ∷ [])

pub Splits-close : (ms : List OffsetByte) (items : List (List OffsetByte)) (rest : List OffsetByte) (m : OffsetByte) → Splits ms items rest → has_end items ≡ false → m.1 ≡ end_byte (bytes_of rest) → Splits (ms ++ m ∷ []) (items ++ (rest ++ m ∷ []) ∷ []) []
Splits-close ms items rest m s none e =
    let item : IsItem (bytes_of (rest ++ m ∷ [])) = record { prefix = bytes_of rest; unfinished = s.partial none; whole = bytes_of-push rest m ∙ ap (λ b. bytes_of rest ++ b ∷ []) e } in
    let joined : flat_map (λ (i : List OffsetByte). i) (items ++ (rest ++ m ∷ []) ∷ []) ≡ flat_map (λ (i : List OffsetByte). i) items ++ (rest ++ m ∷ []) = flat_map-append (λ (i : List OffsetByte). i) items ((rest ++ m ∷ []) ∷ []) ∙ ap (λ (x : List OffsetByte). flat_map (λ (i : List OffsetByte). i) items ++ x) (append-nil (rest ++ m ∷ [])) in
    record {
      whole = ap (λ (x : List OffsetByte). x ++ m ∷ []) s.whole ∙ (append_assoc (flat_map (λ (i : List OffsetByte). i) items) rest (m ∷ []) ∙ (sym joined ∙ sym (append-nil (flat_map (λ (i : List OffsetByte). i) (items ++ (rest ++ m ∷ []) ∷ [])))));
      each = AreItems-push items (rest ++ m ∷ []) s.each none item;
      partial = λ _. tt;
    }

-- ---- what the items spell

bind_assoc : {A B C E : Type 0} (r : Result A E) (f : A → Result B E) (g : B → Result C E) → ((r >>= f) >>= g) ≡ (r >>= λ x. f x >>= g)
bind_assoc (Ok x) f g = refl
bind_assoc (Err e) f g = refl

pub commands_by-push : (profile : Profile) (place : ℕ) (items : List (List OffsetByte)) (item : List OffsetByte) (before : Entries) → commands_by profile place (items ++ item ∷ []) before ≡ (commands_by profile place items before >>= spelled_in profile (place + length items) (first_offset item) (bytes_of item))
commands_by-push profile place [] item before =
    let k : place + 0 ≡ place = omega arith in
    bind_Ok (spelled_in profile place (first_offset item) (bytes_of item) before) ∙ sym (ap (λ p. spelled_in profile p (first_offset item) (bytes_of item) before) k)
commands_by-push profile place (x ∷ items) item before =
    let k : suc place + length items ≡ place + suc (length items) = omega arith in
    let rest : (commands : Entries) → commands_by profile (suc place) (items ++ item ∷ []) commands ≡ (commands_by profile (suc place) items commands >>= spelled_in profile (place + suc (length items)) (first_offset item) (bytes_of item)) = λ commands. commands_by-push profile (suc place) items item commands ∙ ap (λ p. commands_by profile (suc place) items commands >>= spelled_in profile p (first_offset item) (bytes_of item)) k in
    let first = spelled_in profile place (first_offset x) (bytes_of x) before in
    bind_cong first (commands_by profile (suc place) (items ++ item ∷ [])) (λ commands. commands_by profile (suc place) items commands >>= spelled_in profile (place + suc (length items)) (first_offset item) (bytes_of item)) rest
    ∙ sym (bind_assoc first (commands_by profile (suc place) items) (spelled_in profile (place + suc (length items)) (first_offset item) (bytes_of item)))
