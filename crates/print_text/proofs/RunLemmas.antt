-- The rings of a layer are at the places of its run.
use Rattle.print_text.proofs.Common.{◌≡◌, ◌∙◌, ◌<◌, ◌≤◌, ◌+◌, ◌-◌, ◌*◌, ◌++◌, ℕ, suc, pos, Bool, true, false, cond, List, [], ◌∷◌, length, take, drop, get_or, min, refl, ap, ap₂, sym, ⊎_elim, arith, length-drop, ◌==◌, ◌&&◌, ◌||◌, slice_range, count_by, enumerate_from, filter, filter_map, list_any, append-nil, drop-take, get_or-drop, get_or-take, length-take, take-append-drop, take-take, filter-append, length-filter, RingLack, IsRun, group_line, group_words, is_alike, smallest, ring_of}
use Rattle.std.proofs.lemmas.Bool.{and_parts, cases_eq, eqb-true, ne_eqb}
use Rattle.std.proofs.lemmas.List.Folds.{drop_split, list_any-append, list_any_none}
use Rattle.std.proofs.lemmas.List.FromFn.{get_or-enumerate_from, length-enumerate_from}
use Rattle.print_text.specs.declared.runs.Run.{Run}

filter_none : {X : Type 0} (p : X → Bool) (xs : List X) → ((i : ℕ) (d : X) → i < length xs → p (get_or xs i d) ≡ false) → filter p xs ≡ []
filter_none p [] off = refl
filter_none {X} p (x ∷ xs) off =
    filter-append p (x ∷ []) xs
    ∙ ap₂ (λ (a b : List X). a ++ b) (ap (λ (b : Bool). cond b (x ∷ []) []) (off 0 x (grind arith))) (filter_none p xs (λ i d lt. off (suc i) d (grind (arith, lt))))

filter_after : {X : Type 0} (p : X → Bool) (xs : List X) (i : ℕ) → ((j : ℕ) (d : X) → i ≤ j → j < length xs → p (get_or xs j d) ≡ false) → filter p (drop i xs) ≡ []
filter_after p xs i off = filter_none p (drop i xs) (λ j d lt. ap p (get_or-drop i xs j d) ∙ off (i + j) d (omega arith) (omega (arith, lt, length-drop i xs)))

filter_first : {X : Type 0} (p : X → Bool) (xs : List X) (i : ℕ) → ((j : ℕ) (d : X) → j < i → j < length xs → p (get_or xs j d) ≡ false) → filter p (take i xs) ≡ []
filter_first p xs i off =
    filter_none p (take i xs) (λ j d lt. let within : j < i = omega (arith, lt, length-take i xs) in ap p (get_or-take i xs j d within) ∙ off j d within (omega (arith, lt, length-take i xs)))

filter_taken : {X : Type 0} (p : X → Bool) (xs : List X) (i : ℕ) → filter p (drop i xs) ≡ [] → filter p (take i xs) ≡ filter p xs
filter_taken {X} p xs i none =
    sym (ap (filter p) (sym (take-append-drop i xs)) ∙ (filter-append p (take i xs) (drop i xs) ∙ (ap (λ (ys : List X). filter p (take i xs) ++ ys) none ∙ append-nil (filter p (take i xs)))))

filter_dropped : {X : Type 0} (p : X → Bool) (xs : List X) (i : ℕ) → filter p (take i xs) ≡ [] → filter p (drop i xs) ≡ filter p xs
filter_dropped {X} p xs i none =
    sym (ap (filter p) (sym (take-append-drop i xs)) ∙ (filter-append p (take i xs) (drop i xs) ∙ ap (λ (ys : List X). ys ++ filter p (drop i xs)) none))

filter_between : {X : Type 0} (p : X → Bool) (xs : List X) (i j : ℕ) → i ≤ j → filter p (take i xs) ≡ [] → filter p (drop j xs) ≡ [] → filter p (slice_range xs i j) ≡ filter p xs
filter_between {X} p xs i j ordered before end =
    sym (sym (filter_dropped p xs i before)
    ∙ (ap (filter p) (drop_split xs i j ordered)
    ∙ (filter-append p (slice_range xs i j) (drop j xs)
    ∙ (ap (λ (ys : List X). filter p (slice_range xs i j) ++ ys) end ∙ append-nil (filter p (slice_range xs i j))))))

off_before : (rings : List RingLack) (layer : ℕ) (run : Run) → IsRun rings (length rings) layer run → (i : ℕ) (d : RingLack) → i < run.first → i < length rings → ((get_or rings i d).layer == layer) ≡ false
off_before rings layer run h i d before within = ne_eqb (get_or rings i d).layer layer (λ e. let there = h.holds i d within e in omega (arith, there.0, before))

off_after : (rings : List RingLack) (layer : ℕ) (run : Run) → IsRun rings (length rings) layer run → (i : ℕ) (d : RingLack) → run.end ≤ i → i < length rings → ((get_or rings i d).layer == layer) ≡ false
off_after rings layer run h i d end within = ne_eqb (get_or rings i d).layer layer (λ e. let there = h.holds i d within e in omega (arith, there.1, end))

marked : (rings : List RingLack) (layer i : ℕ) (d : ℕ × RingLack) → i < length (enumerate_from 0 rings) → ((get_or rings i d.1).layer == layer) ≡ false → ((get_or (enumerate_from 0 rings) i d).1.layer == layer) ≡ false
marked rings layer i d within off = ap (λ (mark : ℕ × RingLack). mark.1.layer == layer) (get_or-enumerate_from 0 rings i d (omega (arith, within, length-enumerate_from 0 rings))) ∙ off

-- no ring before the run of a layer is on the layer
pub none_before : (rings : List RingLack) (layer : ℕ) (run : Run) → IsRun rings (length rings) layer run → filter (λ finding. finding.1.layer == layer) (take run.first (enumerate_from 0 rings)) ≡ []
none_before rings layer run h =
    filter_first (λ (finding : ℕ × RingLack). finding.1.layer == layer) (enumerate_from 0 rings) run.first
    (λ i d before within. marked rings layer i d within (off_before rings layer run h i d.1 before (omega (arith, within, length-enumerate_from 0 rings))))

-- the rings up to the end of a layer's run include all rings on the layer
pub all_after : (rings : List RingLack) (layer : ℕ) (run : Run) (i : ℕ) → IsRun rings (length rings) layer run → run.end ≤ i
    → filter (λ finding. finding.1.layer == layer) (take i (enumerate_from 0 rings)) ≡ filter (λ finding. finding.1.layer == layer) (enumerate_from 0 rings)
all_after rings layer run i h at =
    filter_taken (λ (finding : ℕ × RingLack). finding.1.layer == layer) (enumerate_from 0 rings) i
    (filter_after (λ (finding : ℕ × RingLack). finding.1.layer == layer) (enumerate_from 0 rings) i
    (λ j d end within. marked rings layer j d within (off_after rings layer run h j d.1 (omega (arith, at, end)) (omega (arith, within, length-enumerate_from 0 rings)))))

-- the run of a layer has as many rings of the layer as the whole list
pub count_in_run : (rings : List RingLack) (layer : ℕ) (run : Run) → IsRun rings (length rings) layer run
    → count_by (λ lack. lack.layer == layer) (slice_range rings run.first run.end) ≡ count_by (λ lack. lack.layer == layer) rings
count_in_run rings layer run h =
    let on = λ (lack : RingLack). lack.layer == layer in
    sym (length-filter on (slice_range rings run.first run.end))
    ∙ (ap length (filter_between on rings run.first run.end h.ordered
    (filter_first on rings run.first (off_before rings layer run h))
    (filter_after on rings run.end (off_after rings layer run h)))
    ∙ length-filter on rings)

-- the run of a layer, and one more ring
pub longer_run : (rings : List RingLack) (place layer : ℕ) (run : Run) (first : ℕ) → first ≡ min run.first place → place < length rings → IsRun rings place layer run
    → IsRun rings (place + 1) layer (record { layer = run.layer; first = first; end = place + 1 })
longer_run rings place layer run first at lt h = record {
  own = h.own;
  ordered = omega (arith, at);
  inside = omega (arith, lt);
  holds = λ i d below on. ⊎_elim (λ e. (omega (arith, at, e), omega (arith, below))) (λ n. let there = h.holds i d (omega (arith, n, below)) on in (omega (arith, at, there.0), omega (arith, below))) (cases_eq i place);
}

-- a ring on another layer is not like one on this layer
not_alike : (one other : RingLack) (layer : ℕ) → one.layer ≡ layer → (other.layer ≡ layer → ⊥) → is_alike one other ≡ false
not_alike one other layer own off =
    ap (λ (b : Bool). b && (one.at.hole.radius == other.at.hole.radius)) (ne_eqb one.layer other.layer (λ e. off (sym e ∙ own)))

alike_before : (rings : List RingLack) (layer : ℕ) (run : Run) (one : RingLack) → IsRun rings (length rings) layer run → one.layer ≡ layer
    → (i : ℕ) (d : RingLack) → i < run.first → i < length rings → is_alike one (get_or rings i d) ≡ false
alike_before rings layer run one h own i d before within = not_alike one (get_or rings i d) layer own (λ e. let there = h.holds i d within e in omega (arith, there.0, before))

alike_after : (rings : List RingLack) (layer : ℕ) (run : Run) (one : RingLack) → IsRun rings (length rings) layer run → one.layer ≡ layer
    → (i : ℕ) (d : RingLack) → run.end ≤ i → i < length rings → is_alike one (get_or rings i d) ≡ false
alike_after rings layer run one h own i d end within = not_alike one (get_or rings i d) layer own (λ e. let there = h.holds i d within e in omega (arith, there.1, end))

-- the run of a layer has all rings that are like one on the layer
pub alike_in_run : (rings : List RingLack) (layer : ℕ) (run : Run) (one : RingLack) → IsRun rings (length rings) layer run → one.layer ≡ layer
    → filter (is_alike one) (slice_range rings run.first run.end) ≡ filter (is_alike one) rings
alike_in_run rings layer run one h own =
    filter_between (is_alike one) rings run.first run.end h.ordered
    (filter_first (is_alike one) rings run.first (alike_before rings layer run one h own))
    (filter_after (is_alike one) rings run.end (alike_after rings layer run one h own))

-- so the line of these says of the run what it says of all rings
pub group_in_run : (name : List ℕ) (rings : List RingLack) (layer : ℕ) (run : Run) (one : RingLack) → IsRun rings (length rings) layer run → one.layer ≡ layer
    → group_line name (slice_range rings run.first run.end) one ≡ group_line name rings one
group_in_run name rings layer run one h own =
    let same = alike_in_run rings layer run one h own in
    ap₂ (group_words name (pos (2 * one.at.hole.radius)))
    (sym (length-filter (is_alike one) (slice_range rings run.first run.end)) ∙ (ap length same ∙ length-filter (is_alike one) rings))
    (ap (λ (all : List RingLack). smallest (filter_map (λ lack. ring_of lack.cause) all)) same)

-- the elements before a place, from another place on
take_from : {X : Type 0} (xs : List X) (from i : ℕ) → from ≤ i → take i xs ≡ take from xs ++ slice_range xs from i
take_from {X} xs from i ordered =
    let split : from + (i - from) ≡ i = omega (arith, ordered) in
    sym (take-append-drop from (take i xs))
    ∙ ap₂ (λ (a b : List X). a ++ b) (take-take from i xs ordered) (ap (λ (n : ℕ). drop from (take n xs)) (sym split) ∙ drop-take from (i - from) xs)

-- before a place in the run of a layer, the run has a ring that is like one on the layer just where the list has one
pub any_in_run : (rings : List RingLack) (layer : ℕ) (run : Run) (one : RingLack) (i : ℕ) → IsRun rings (length rings) layer run → one.layer ≡ layer → run.first ≤ i
    → list_any (is_alike one) (slice_range rings run.first i) ≡ list_any (is_alike one) (take i rings)
any_in_run rings layer run one i h own first =
    sym (ap (list_any (is_alike one)) (take_from rings run.first i first)
    ∙ (list_any-append (is_alike one) (take run.first rings) (slice_range rings run.first i)
    ∙ ap (λ (b : Bool). b || list_any (is_alike one) (slice_range rings run.first i)) none))
  where
    none : list_any (is_alike one) (take run.first rings) ≡ false
    none = list_any_none (is_alike one) (take run.first rings)
        (λ k d l. let before : k < run.first = omega (arith, l, length-take run.first rings) in
        ap (is_alike one) (get_or-take run.first rings k d before) ∙ alike_before rings layer run one h own k d before (omega (arith, l, length-take run.first rings)))

-- a ring that passes a test of its layer and another test is on the layer
pub on_layer : (layer other : ℕ) (b : Bool) → ((layer == other) && b) ≡ true → layer ≡ other
on_layer layer other b on = eqb-true layer other (and_parts (layer == other) b on).0
