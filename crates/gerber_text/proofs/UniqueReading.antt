-- A text is cut in one way, so it has one reading.
use Rattle.gerber_text.proofs.Common.{◌≡◌, ◌≢◌, ℕ, Bool, true, false, cond, eqb, ◌||◌, List, [], ◌∷◌, ◌++◌, length, take, Result, refl, sym, ap, subst, ◌∙◌, arith, append_assoc, fold, flat_map, AllByRecursion, append-nil, map-append, fold-append, eqb-true, eq-eqb, Profile, Fault, end_byte, after_percent, IsUnfinished, IsItem, is_end_item, OffsetByte, offset_bytes, bytes_of, has_end, AreItems, Splits, Entries, ShowsIn, ReadsIn, shown_within, read_by, text_limit}
use Rattle.gerber_text.proofs.SplitsLemmas.{cond-append, has_end-push}

abbrev pub Parts : Type 0
Parts = List (List OffsetByte) × List OffsetByte

-- one more byte: after the end of the text, at the end of an item, or inside one
pub next : Parts → OffsetByte → Parts
next c m = cond (has_end c.0) (c.0, c.1 ++ m ∷ []) (cond (eqb m.1 (end_byte (bytes_of c.1))) (c.0 ++ (c.1 ++ m ∷ []) ∷ [], []) (c.0, c.1 ++ m ∷ []))

pub run : Parts → List OffsetByte → Parts
run c ms = fold next c ms

-- ---- a byte inside an item does not end it

middle : (P : ℕ → Type 0) (xs : List ℕ) (b : ℕ) (bs : List ℕ) → AllByRecursion P (xs ++ b ∷ bs) → P b
middle P [] b bs h = h.0
middle P (x ∷ xs) b bs h = middle P xs b bs h.1

at_first : (t : Bool) (b : ℕ) (bs : List ℕ) → eqb b 37 ≡ t → AllByRecursion (λ y. y ≢ cond t 37 42) (cond t bs (b ∷ bs)) → b ≢ 42
at_first true b bs e h = λ k. absurd (omega (arith, eqb-true b 37 e))
at_first false b bs e h = h.0

goes_on : (a : List ℕ) (b : ℕ) (bs : List ℕ) → IsUnfinished (a ++ b ∷ bs) → b ≢ end_byte a
goes_on [] b bs h = at_first (eqb b 37) b bs refl h
goes_on (x ∷ xs) b bs h =
    middle (λ y. y ≢ end_byte (x ∷ xs)) (after_percent (x ∷ xs)) b bs (subst (λ (z : List ℕ). AllByRecursion (λ y. y ≢ end_byte (x ∷ xs)) z) (cond-append (eqb x 37) x xs (b ∷ bs)) h)

differ : (a b : ℕ) → a ≢ b → (t : Bool) → eqb a b ≡ t → t ≡ false
differ a b h true e = absurd (h (eqb-true a b e))
differ a b h false e = refl

-- ---- runs

next_inside : (xs : List (List OffsetByte)) (a : List OffsetByte) (m : OffsetByte) → has_end xs ≡ false → m.1 ≢ end_byte (bytes_of a) → next (xs, a) m ≡ (xs, a ++ m ∷ [])
unfolding next
next_inside xs a m none h = rw (none, differ m.1 (end_byte (bytes_of a)) h (eqb m.1 (end_byte (bytes_of a))) refl) refl

next_last : (xs : List (List OffsetByte)) (a : List OffsetByte) (m : OffsetByte) → has_end xs ≡ false → m.1 ≡ end_byte (bytes_of a) → next (xs, a) m ≡ (xs ++ (a ++ m ∷ []) ∷ [], [])
unfolding next
next_last xs a m none h = rw (none, eq-eqb m.1 (end_byte (bytes_of a)) h) refl

next_after_end : (xs : List (List OffsetByte)) (a : List OffsetByte) (m : OffsetByte) → has_end xs ≡ true → next (xs, a) m ≡ (xs, a ++ m ∷ [])
unfolding next
next_after_end xs a m some = rw some refl

run_inside : (xs : List (List OffsetByte)) (a r : List OffsetByte) → has_end xs ≡ false → IsUnfinished (bytes_of (a ++ r)) → run (xs, a) r ≡ (xs, a ++ r)
unfolding run
run_inside xs a [] none h = ap (λ (x : List OffsetByte). (xs, x)) (sym (append-nil a))
run_inside xs a (m ∷ r) none h =
    let split : bytes_of (a ++ m ∷ r) ≡ bytes_of a ++ m.1 ∷ bytes_of r = map-append (λ (x : OffsetByte). x.1) a (m ∷ r) in
    let inside = goes_on (bytes_of a) m.1 (bytes_of r) (subst IsUnfinished split h) in
    let again : (a ++ m ∷ []) ++ r ≡ a ++ m ∷ r = append_assoc a (m ∷ []) r in
    ap (λ (c : Parts). fold next c r) (next_inside xs a m none inside) ∙ (run_inside xs (a ++ m ∷ []) r none (subst (λ (x : List OffsetByte). IsUnfinished (bytes_of x)) (sym again) h) ∙ ap (λ (x : List OffsetByte). (xs, x)) again)

run_after : (xs : List (List OffsetByte)) (a r : List OffsetByte) → has_end xs ≡ true → run (xs, a) r ≡ (xs, a ++ r)
unfolding run
run_after xs a [] some = ap (λ (x : List OffsetByte). (xs, x)) (sym (append-nil a))
run_after xs a (m ∷ r) some =
    ap (λ (c : Parts). fold next c r) (next_after_end xs a m some) ∙ (run_after xs (a ++ m ∷ []) r some ∙ ap (λ (x : List OffsetByte). (xs, x)) (append_assoc a (m ∷ []) r))

-- the bytes with their offsets of an item: those before its last, and its last
pub record LastByte (item : List OffsetByte) (prefix : List ℕ) (e : ℕ) : Type 0 where
  pub before : List OffsetByte
  pub last : OffsetByte
  pub whole : item ≡ before ++ last ∷ []
  pub bytes : bytes_of before ≡ prefix
  pub byte : last.1 ≡ e

ending : (item : List OffsetByte) (prefix : List ℕ) (e : ℕ) → bytes_of item ≡ prefix ++ e ∷ [] → LastByte item prefix e
ending [] [] e h = absurd cc
ending [] (b ∷ prefix) e h = absurd cc
ending (m ∷ []) [] e h = record { before = []; last = m; whole = refl; bytes = refl; byte = cc }
ending (m ∷ n ∷ item) [] e h = absurd cc
ending (m ∷ item) (b ∷ prefix) e h =
    let rest : bytes_of item ≡ prefix ++ e ∷ [] = cc in
    let same : m.1 ≡ b = cc in
    let r = ending item prefix e rest in
    record { before = m ∷ r.before; last = r.last; whole = ap (λ (x : List OffsetByte). m ∷ x) r.whole; bytes = ap (λ (x : List ℕ). m.1 ∷ x) r.bytes ∙ ap (λ y. y ∷ prefix) same; byte = r.byte }

run_item : (xs : List (List OffsetByte)) (item : List OffsetByte) → has_end xs ≡ false → IsItem (bytes_of item) → run (xs, []) item ≡ (xs ++ item ∷ [], [])
unfolding run
run_item xs item none i =
    let p = ending item i.prefix (end_byte i.prefix) i.whole in
    let prefix : fold next (xs, []) p.before ≡ (xs, p.before) = run_inside xs [] p.before none (subst IsUnfinished (sym p.bytes) i.unfinished) in
    let last : p.last.1 ≡ end_byte (bytes_of p.before) = p.byte ∙ ap end_byte (sym p.bytes) in
    ap (λ (x : List OffsetByte). fold next (xs, []) x) p.whole ∙ (fold-append next (xs, []) p.before (p.last ∷ []) ∙ (ap (λ (c : Parts). next c p.last) prefix ∙ (next_last xs p.before p.last none last ∙ ap (λ (x : List OffsetByte). (xs ++ x ∷ [], [])) (sym p.whole))))

-- from one item on, where the items after it are found
run_last : (t : Bool) (xs : List (List OffsetByte)) (item : List OffsetByte) (items : List (List OffsetByte)) (rest : List OffsetByte) → is_end_item (bytes_of item) ≡ t → has_end xs ≡ false → (is_end_item (bytes_of item) ≡ true → items ≡ [])
    → (has_end (xs ++ item ∷ []) ≡ false → run (xs ++ item ∷ [], []) (flat_map (λ (i : List OffsetByte). i) items ++ rest) ≡ ((xs ++ item ∷ []) ++ items, rest))
    → run (xs ++ item ∷ [], []) (flat_map (λ (i : List OffsetByte). i) items ++ rest) ≡ (xs ++ item ∷ items, rest)
run_last true xs item items rest e none only again =
    let some : has_end (xs ++ item ∷ []) ≡ true = has_end-push xs item none ∙ e in
    subst (λ (is : List (List OffsetByte)). run (xs ++ item ∷ [], []) (flat_map (λ (i : List OffsetByte). i) is ++ rest) ≡ (xs ++ item ∷ is, rest)) (sym (only e)) (run_after (xs ++ item ∷ []) [] rest some)
run_last false xs item items rest e none only again =
    again (has_end-push xs item none ∙ e) ∙ ap (λ (x : List (List OffsetByte)). (x, rest)) (append_assoc xs (item ∷ []) items)

-- if neither the items so far nor this one are the end, the rest stays unfinished
still : (t u : Bool) → t ≡ false → u ≡ false → (t || u) ≡ false
still true u h k = h
still false u h k = k

run_items : (xs items : List (List OffsetByte)) (rest : List OffsetByte) → has_end xs ≡ false → AreItems items → (has_end items ≡ false → IsUnfinished (bytes_of rest)) → run (xs, []) (flat_map (λ (i : List OffsetByte). i) items ++ rest) ≡ (xs ++ items, rest)
unfolding run
run_items xs [] rest none each partial = run_inside xs [] rest none (partial refl) ∙ ap (λ (x : List (List OffsetByte)). (x, rest)) (sym (append-nil xs))
run_items xs (item ∷ items) rest none each partial =
    let more = flat_map (λ (i : List OffsetByte). i) items in
    ap (λ (x : List OffsetByte). fold next (xs, []) x) (append_assoc item more rest) ∙ (fold-append next (xs, []) item (more ++ rest) ∙ (ap (λ (c : Parts). fold next c (more ++ rest)) (run_item xs item none each.0)
    ∙ run_last (is_end_item (bytes_of item)) xs item items rest refl none each.1 (λ more_none. run_items (xs ++ item ∷ []) items rest more_none each.2 (λ h. partial (still (is_end_item (bytes_of item)) (has_end items) (sym (has_end-push xs item none) ∙ more_none) h)))))

-- where a list of bytes with their offsets splits, running over it finds the parts
pub finds : (ms : List OffsetByte) (items : List (List OffsetByte)) (rest : List OffsetByte) → Splits ms items rest → run ([], []) ms ≡ (items, rest)
finds ms items rest s = ap (run ([], [])) s.whole ∙ run_items [] items rest refl s.each s.partial

pub same_items : (ms : List OffsetByte) (items others : List (List OffsetByte)) (rest left : List OffsetByte) → Splits ms items rest → Splits ms others left → (items ≡ others) × (rest ≡ left)
same_items ms items others rest left s t =
    let both = sym (finds ms items rest s) ∙ finds ms others left t in
    (ap (λ (c : Parts). c.0) both, ap (λ (c : Parts). c.1) both)

abbrev parts : List (List OffsetByte) → List OffsetByte → Parts
parts a c = (a, c)

pair : (a b : List (List OffsetByte)) (c d : List OffsetByte) → a ≡ b → c ≡ d → parts a c ≡ parts b d
pair a b c d e f = ap (λ (x : List (List OffsetByte)). parts x c) e ∙ ap (λ (x : List OffsetByte). parts b x) f

pub one_shown : (profile : Profile) (text : List ℕ) (a b : Result Entries Fault) → ShowsIn profile text a → ShowsIn profile text b → a ≡ b
one_shown profile text a b s t =
    let same = same_items (offset_bytes (take text_limit text)) s.items t.items s.rest t.rest s.splits t.splits in
    s.answer_is ∙ (ap (λ (c : Parts). shown_within profile (length text) c.0 c.1) (pair s.items t.items s.rest t.rest same.0 same.1) ∙ sym t.answer_is)

pub one_read : (profile : Profile) (text : List ℕ) (a b : Result Entries Fault) → ReadsIn profile text a → ReadsIn profile text b → a ≡ b
one_read profile text a b s t =
    let same = same_items (offset_bytes (take text_limit text)) s.items t.items s.rest t.rest s.splits t.splits in
    s.answer_is ∙ (ap (λ (c : Parts). read_by profile (length text) c.0 c.1) (pair s.items t.items s.rest t.rest same.0 same.1) ∙ sym t.answer_is)
