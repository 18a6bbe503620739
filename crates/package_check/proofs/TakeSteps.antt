-- A reader of a package takes files.
use Rattle.package_check.proofs.Common.{◌≡◌, ◌≢◌, ◌<◌, ◌≤◌, ◌+◌, ◌++◌, ◌||◌, ◌&&◌, eqb, ltb, ℕ, zero, suc, List, [], ◌∷◌, Ok, Err, Result, Option, Some, None, OnOk, Bool, true, false, not, length, map, take, get_or, slice_get, inl, inr, arith, refl, sym, ap, subst, ◌∙◌, alloc_error, option_map, flat_map, AllocError, both_ways, cases_eq, cases_order, eq-eqb, eqb-true, false≢true, le-ltb, lt-ltb, ltb-true, ne_eqb, or_cases, or_left, or_right, length-map, flat_map-cons, get_or_from_slice_get, none-some, same_Some, slice_get-map, slice_get_read, slice_get_within, Fault, Fail, keeps_drawn, keeps_rows, ReadingIsUniqueIn, Keep, Role, Said, PackageFault, Content, PackageReader, Kept, FileView, Setting, HaveContents, IsFirstRefused, Reads, is_copper, unnamed_file, AreDrawnOf, AreFileLists, BoardView, IsBoard, IsDrawnBoard, IsFlashedBoard, OfCopper, Returns, board_of, HasContours, HasMacros, HasRows, HasTaken, HasTakenAll, HoldsThose, IsKeptOf, IsPutAt, IsOutOfMemory, ReadsAt, ReadsInto, StoppedAmong, TakesFile, TakesThose, contents_in, is_kind, is_kind_at, is_kind_of, is_wanted, kept_at, next_stop, shown_board, shown_in}
use Rattle.grid_units.specs.declared.fault.Fail.TheVariants as fails
use Rattle.package_check.specs.declared.PackageFault.TheVariants as stop
use Rattle.board.specs.declared.Shown.{Shown}
use Rattle.package_check.proofs.ContentIsReading.{content_read}
use Rattle.package_check.proofs.FlashesByFile.{drawn_read, lists_first, no_lists}
use Rattle.package_check.proofs.GrowingLists.{any_name}
use Rattle.package_check.proofs.ShownLemmas.{rows_where_drawn}

-- ---- tests of what was taken

pub or_none : (x : Bool) → (x || false) ≡ x
or_none true = refl
or_none false = refl

pub or_together : (x y z : Bool) → ((x || y) || z) ≡ (x || (y || z))
or_together true y z = refl
or_together false y z = refl

pub stopped_alike : (xs ys : List FileView) (p : ℕ → Bool) → ((i : ℕ) → p i ≡ true → slice_get ys i ≡ slice_get xs i) → (stopped : Option PackageFault) → StoppedAmong xs p stopped → StoppedAmong ys p stopped
stopped_alike xs ys p same None h = tt
stopped_alike xs ys p same (Some stop.Memory) h = h
stopped_alike xs ys p same (Some (stop.File r f)) h = (h.0, same r h.2 ∙ h.1, h.2, h.3)

-- other files stand at the indexes that were not taken
pub taken_alike : (reader : PackageReader) (keep : Keep) (xs ys : List FileView) (p : ℕ → Bool) → length xs ≡ length ys → ((i : ℕ) → p i ≡ true → slice_get ys i ≡ slice_get xs i)
    → HasTaken reader keep xs p → HasTaken reader keep ys p
taken_alike reader keep xs ys p size same h = record {
  keeps = h.keeps;
  holds = record {
    inside = let le = h.holds.inside in omega (arith, le, size);
    stopped = stopped_alike xs ys p same reader.stopped h.holds.stopped;
    kept = λ i s t at wanted. h.holds.kept i s t (sym (same i t) ∙ at) wanted;
    empty = h.holds.empty;
  };
}

-- `Has` says what a state holds of the files that were taken, those at the indexes that pass a test
module _ {S K : Type 0} (Has : S → K → (ℕ → Bool) → Type 0) where
  -- between two states the files are taken that pass a test
  abbrev pub Takes : S → S → (ℕ → Bool) → Type 0
  Takes before after test = (k : K) (taken : ℕ → Bool) → Has before k taken → Has after k (λ i. taken i || test i)

  -- the same files, by another test
  has_same : (s : S) (k : K) (p q : ℕ → Bool) → ((i : ℕ) → p i ≡ q i) → Has s k p → Has s k q
  has_same s k p q same h = subst (λ (t : ℕ → Bool). Has s k t) (λ j. λ i. same i j) h

  takes_same : (a b : S) (p q : ℕ → Bool) → ((i : ℕ) → p i ≡ q i) → Takes a b p → Takes a b q
  takes_same a b p q same h k taken was = has_same b k (λ i. taken i || p i) (λ i. taken i || q i) (λ i. ap (λ (t : Bool). taken i || t) (same i)) (h k taken was)

  -- what is taken one after the other
  takes_then : (a b c : S) (p q r : ℕ → Bool) → ((i : ℕ) → (p i || q i) ≡ r i) → Takes a b p → Takes b c q → Takes a c r
  takes_then a b c p q r same first second k taken h =
      has_same c k (λ i. (taken i || p i) || q i) (λ i. taken i || r i) (λ i. or_together (taken i) (p i) (q i) ∙ ap (λ (t : Bool). taken i || t) (same i)) (second k (λ i. taken i || p i) (first k taken h))

  -- nothing is taken
  takes_none : (s : S) (p : ℕ → Bool) → ((i : ℕ) → false ≡ p i) → Takes s s p
  takes_none s p none k taken h = has_same s k taken (λ i. taken i || p i) (λ i. sym (or_none (taken i)) ∙ ap (λ (t : Bool). taken i || t) (none i)) h

-- of those below an index that pass a test, none so far
pub none_below : (test : ℕ → Bool) (i : ℕ) → false ≡ (ltb i 0 && test i)
none_below test i = sym (ap (λ (t : Bool). t && test i) (le-ltb i 0 (omega arith)))

-- and one more, which passes
pub one_more : (test : ℕ → Bool) (k : ℕ) → test k ≡ true → (i : ℕ) → ((ltb i k && test i) || eqb i k) ≡ (ltb i (k + 1) && test i)
one_more test k passes i = elim (cases_order i k) [
  | inl same ↦
      ap (λ (t : Bool). (t && test i) || eqb i k) (le-ltb i k (omega (arith, same)))
      ∙ (eq-eqb i k same ∙ (sym (ap test same ∙ passes) ∙ sym (ap (λ (t : Bool). t && test i) (lt-ltb i (k + 1) (omega (arith, same))))))
  | inr (inl less) ↦
      ap (λ (t : Bool). (t && test i) || eqb i k) (lt-ltb i k less)
      ∙ (ap (λ (t : Bool). test i || t) (ne_eqb i k (λ same. absurd (omega (arith, same, less)))) ∙ (or_none (test i) ∙ sym (ap (λ (t : Bool). t && test i) (lt-ltb i (k + 1) (omega (arith, less))))))
  | inr (inr more) ↦
      ap (λ (t : Bool). (t && test i) || eqb i k) (le-ltb i k (omega (arith, more)))
      ∙ (ne_eqb i k (λ same. absurd (omega (arith, same, more))) ∙ sym (ap (λ (t : Bool). t && test i) (le-ltb i (k + 1) (omega (arith, more)))))
]

-- and one that does not pass
pub none_more : (test : ℕ → Bool) (k : ℕ) → test k ≡ false → (i : ℕ) → (ltb i k && test i) ≡ (ltb i (k + 1) && test i)
none_more test k fails i = elim (cases_order i k) [
  | inl same ↦
      let none : test i ≡ false = ap test same ∙ fails in
      ap (λ (t : Bool). t && test i) (le-ltb i k (omega (arith, same))) ∙ (sym none ∙ sym (ap (λ (t : Bool). t && test i) (lt-ltb i (k + 1) (omega (arith, same)))))
  | inr (inl less) ↦ ap (λ (t : Bool). t && test i) (lt-ltb i k less) ∙ sym (ap (λ (t : Bool). t && test i) (lt-ltb i (k + 1) (omega (arith, less))))
  | inr (inr more) ↦ ap (λ (t : Bool). t && test i) (le-ltb i k (omega (arith, more))) ∙ sym (ap (λ (t : Bool). t && test i) (le-ltb i (k + 1) (omega (arith, more))))
]

-- and all of them, where no index past the end passes
pub all_below : (test : ℕ → Bool) (n : ℕ) → ((i : ℕ) → n ≤ i → test i ≡ false) → (i : ℕ) → (ltb i n && test i) ≡ test i
all_below test n past i = elim (cases_order i n) [
  | inl same ↦ ap (λ (t : Bool). t && test i) (le-ltb i n (omega (arith, same))) ∙ sym (past i (omega (arith, same)))
  | inr (inl less) ↦ ap (λ (t : Bool). t && test i) (lt-ltb i n less)
  | inr (inr more) ↦ ap (λ (t : Bool). t && test i) (le-ltb i n (omega (arith, more))) ∙ sym (past i (omega (arith, more)))
]

-- ---- kinds of files

-- no file stands past the end
pub no_kind_past : (copper : Bool) (sources : List FileView) (i : ℕ) → length sources ≤ i → is_kind_at copper sources i ≡ false
no_kind_past copper [] i le = refl
no_kind_past copper (s ∷ ss) zero le = absurd (omega (arith, le))
no_kind_past copper (s ∷ ss) (suc i) le = no_kind_past copper ss i (omega (arith, le))

-- a file has one of the two kinds
pub either_kind : (sources : List FileView) (i : ℕ) → i < length sources → (is_kind_at false sources i || is_kind_at true sources i) ≡ true
either_kind [] i lt = absurd (omega (arith, lt))
either_kind (s ∷ ss) zero lt = by (is_copper s.role)
  where
    by : (t : Bool) → (not t || t) ≡ true
    by true = refl
    by false = refl
either_kind (s ∷ ss) (suc i) lt = either_kind ss i (omega (arith, lt))

-- ---- a reader that has taken all

stopped_all : (sources : List FileView) (p : ℕ → Bool) (stopped : Option PackageFault) → StoppedAmong sources p stopped → StoppedAmong sources (λ i. true) stopped
stopped_all sources p None h = tt
stopped_all sources p (Some stop.Memory) h = h
stopped_all sources p (Some (stop.File r f)) h = (h.0, h.1, refl, h.3)

-- all files are held, where the test is true of each
pub all_held : {X : Type 0} (Is : ℕ → FileView → X → Type 0) (slots : List (Option X)) (stopping : Option PackageFault) (sources : List FileView) (p : ℕ → Bool) → ((i : ℕ) → i < length sources → p i ≡ true)
    → HoldsThose Is slots stopping sources p → HoldsThose Is slots stopping sources (λ i. true)
all_held Is slots stopping sources p all h = record {
  inside = h.inside;
  stopped = stopped_all sources p stopping h.stopped;
  kept = λ i source t at wanted. h.kept i source (all i (slice_get_within sources i source at)) at wanted;
  empty = λ i off. absurd (false≢true (sym off));
}

pub all_taken : (reader : PackageReader) (keep : Keep) (sources : List FileView) (p : ℕ → Bool) → ((i : ℕ) → i < length sources → p i ≡ true) → HasTaken reader keep sources p → HasTakenAll reader keep sources
all_taken reader keep sources p all h = record {
  keeps = h.keeps;
  holds = all_held (λ i. IsKeptOf keep) reader.slots.items reader.stopped sources p all h.holds;
}

-- the files of one kind, and then those of the other
pub both_kinds : (a b c : PackageReader) (keep : Keep) (sources : List FileView) → TakesThose a b sources (is_kind_at false sources) → TakesThose b c sources (is_kind_at true sources)
    → HasTaken a keep sources (λ i. false) → HasTakenAll c keep sources
both_kinds a b c keep sources first second h =
    all_taken c keep sources (λ i. is_kind_at false sources i || is_kind_at true sources i) (either_kind sources) (second keep (λ i. is_kind_at false sources i) (first keep (λ i. false) h))

-- ---- a reader takes a file

stopped_more : (sources : List FileView) (p : ℕ → Bool) (index : ℕ) (stopped : Option PackageFault) → StoppedAmong sources p stopped → StoppedAmong sources (λ i. p i || eqb i index) stopped
stopped_more sources p index None h = tt
stopped_more sources p index (Some stop.Memory) h = h
stopped_more sources p index (Some (stop.File r f)) h = (h.0, h.1, or_left (p r) (eqb r index) h.2, h.3)

-- a file that was not taken, and is not at this index, was not taken before
not_before : (p q : Bool) → (p || q) ≡ false → p ≡ false
not_before true q h = absurd (false≢true (sym h))
not_before false q h = refl

-- a file after one that is refused
pub passed_over : {X : Type 0} (Is : ℕ → FileView → X → Type 0) (slots : List (Option X)) (stopping : Option PackageFault) (index : ℕ) (sources : List FileView) (taken : ℕ → Bool) → is_wanted stopping index ≡ false
    → HoldsThose Is slots stopping sources taken → HoldsThose Is slots stopping sources (λ i. taken i || eqb i index)
passed_over Is slots stopping index sources taken off h = record {
  inside = h.inside;
  stopped = stopped_more sources taken index stopping h.stopped;
  kept = λ i s t there wanted. elim (or_cases (taken i) (eqb i index) t) [
    | inl was ↦ h.kept i s was there wanted
    | inr here ↦ absurd (both_ways (is_wanted stopping index) off (subst (λ (k : ℕ). is_wanted stopping k ≡ true) (eqb-true i index here) wanted))
  ];
  empty = λ i none. h.empty i (not_before (taken i) (eqb i index) none);
}

pub not_wanted : (reader : PackageReader) (index : ℕ) (source : FileView) → is_wanted reader.stopped index ≡ false → TakesFile reader reader index source
not_wanted reader index source off sources at keep taken h = record {
  keeps = h.keeps;
  holds = passed_over (λ i. IsKeptOf keep) reader.slots.items reader.stopped index sources taken off h.holds;
}

-- a file before one that is wanted is wanted
wanted_before : (stopped : Option PackageFault) (i index : ℕ) → i < index → is_wanted stopped index ≡ true → is_wanted stopped i ≡ true
wanted_before None i index lt h = refl
wanted_before (Some stop.Memory) i index lt h = absurd (false≢true h)
wanted_before (Some (stop.File r f)) i index lt h = let below = ltb-true index r h in lt-ltb i r (omega arith)

-- what is read of a file does not depend on its name
pub read_named : (keep : Keep) (index : ℕ) (q : Role) (name : List ℕ) (said : Said) (bytes : List ℕ) (n : Setting) (before after : List (Option Kept)) (r : Result (Unit {0}) Fail)
    → ReadsAt keep index (unnamed_file q said n bytes) before after r → ReadsAt keep index (record { role = q; name = name; said = said; bytes = bytes; setting = n }) before after r
read_named keep index q name said bytes n before after (Ok u) h = (h.0, record { content = any_name q name said bytes n (Ok h.0.content) h.1.content; rows = h.1.rows; drawn = h.1.drawn }, h.2)
read_named keep index q name said bytes n before after (Err fails.Memory) h = tt
read_named keep index q name said bytes n before after (Err (fails.Refused f)) h = (any_name q name said bytes n (Err f) h.0, h.1)

-- a file that was taken and is not at this index was taken before
taken_before : (p : ℕ → Bool) (i index : ℕ) → i ≢ index → (p i || eqb i index) ≡ true → p i ≡ true
taken_before p i index other t = elim (or_cases (p i) (eqb i index) t) [ inl was ↦ was | inr here ↦ absurd (other (eqb-true i index here)) ]

-- a file that was not taken, and is not at this index, is another
other_index : (p : ℕ → Bool) (i index : ℕ) → (p i || eqb i index) ≡ false → i ≢ index
other_index p i index none same = absurd (both_ways (p i || eqb i index) none (or_right (p i) (eqb i index) (eq-eqb i index same)))

-- a file that is read, and stands before any that is refused so far
pub read_in : {X : Type 0} (Is : ℕ → FileView → X → Type 0) (before after : List (Option X)) (stopping : Option PackageFault) (index : ℕ) (source : FileView) (sources : List FileView) (taken : ℕ → Bool) (one : X)
    → slice_get sources index ≡ Some source → Is index source one → IsPutAt index one before after → HoldsThose Is before stopping sources taken → HoldsThose Is after stopping sources (λ i. taken i || eqb i index)
read_in Is before after stopping index source sources taken one at is put h = record {
  inside = put.size (length sources) h.inside (slice_get_within sources index source at);
  stopped = stopped_more sources taken index stopping h.stopped;
  kept = λ i s t there w. elim (cases_eq i index) [
    | inl same ↦
        let source_is : source ≡ s = same_Some source s (sym at ∙ (ap (slice_get sources) (sym same) ∙ there)) in
        (one, ap (kept_at after) same ∙ put.here, subst (λ (k : ℕ). Is k s one) (sym same) (subst (λ (x : FileView). Is index x one) source_is is))
    | inr other ↦ let old = h.kept i s (taken_before taken i index other t) there w in (old.0, put.others i other ∙ old.1, old.2)
  ];
  empty = λ i none. put.others i (other_index taken i index none) ∙ h.empty i (not_before (taken i) (eqb i index) none);
}

-- a file that is refused, and stands before any that is refused so far
pub refused_at : {X : Type 0} (Is : ℕ → FileView → X → Type 0) (slots : List (Option X)) (stopping : Option PackageFault) (index : ℕ) (source : FileView) (sources : List FileView) (taken : ℕ → Bool) (f : Fault)
    → slice_get sources index ≡ Some source → Reads source (Err f) → is_wanted stopping index ≡ true → HoldsThose Is slots stopping sources taken → HoldsThose Is slots (Some (stop.File index f)) sources (λ i. taken i || eqb i index)
refused_at Is slots stopping index source sources taken f at refused on h = record {
  inside = h.inside;
  stopped = (source, at, or_right (taken index) (eqb index index) (eq-eqb index index refl), refused);
  kept = λ i s t there w.
      let below : i < index = ltb-true i index w in
      h.kept i s (taken_before taken i index (λ same. absurd (omega (arith, same, below))) t) there (wanted_before stopping i index below on);
  empty = λ i none. h.empty i (not_before (taken i) (eqb i index) none);
}

-- a file that is read, or refused, and stands before any that is refused so far
pub held_more : {X : Type 0} (Is : ℕ → FileView → X → Type 0) (before after : List (Option X)) (old new : Option PackageFault) (index : ℕ) (source : FileView) (sources : List FileView) (taken : ℕ → Bool) (read : Result (Unit {0}) Fail)
    → slice_get sources index ≡ Some source → is_wanted old index ≡ true → ReadsInto (Is index source) index source before after read → new ≡ next_stop old index read → new ≢ Some stop.Memory
    → HoldsThose Is before old sources taken → HoldsThose Is after new sources (λ i. taken i || eqb i index)
held_more Is before after old new index source sources taken (Ok u) at on slots stops memory h =
    subst (λ (st : Option PackageFault). HoldsThose Is after st sources (λ i. taken i || eqb i index)) (sym stops) (read_in Is before after old index source sources taken slots.0 at slots.1 slots.2 h)
held_more Is before after old new index source sources taken (Err fails.Memory) at on slots stops memory h = absurd (memory stops)
held_more {X} Is before after old new index source sources taken (Err (fails.Refused f)) at on slots stops memory h =
    subst (λ (st : Option PackageFault). HoldsThose Is after st sources (λ i. taken i || eqb i index)) (sym stops)
    (subst (λ (xs : List (Option X)). HoldsThose Is xs (Some (stop.File index f)) sources (λ i. taken i || eqb i index)) (sym slots.1) (refused_at Is before old index source sources taken f at slots.0 on h))

pub wanted : (before after : PackageReader) (index : ℕ) (source : FileView) (read : Result (Unit {0}) Fail) (r : Result (Unit {0}) AllocError) → is_wanted before.stopped index ≡ true
    → after.keep ≡ before.keep → ReadsAt before.keep index source before.slots.items after.slots.items read → after.stopped ≡ next_stop before.stopped index read
    → (IsOutOfMemory after → r ≡ Err alloc_error) → OnOk r (TakesFile before after index source)
wanted before after index source read (Err e) on keeps slots stops memory = tt
wanted before after index source read (Ok v) on keeps slots stops memory = λ sources at keep taken h. record {
  keeps = keeps ∙ h.keeps;
  holds = held_more (λ i. IsKeptOf keep) before.slots.items after.slots.items before.stopped after.stopped index source sources taken read at on
      (subst (λ (k : Keep). ReadsAt k index source before.slots.items after.slots.items read) h.keeps slots) stops (λ is. let e = memory is in absurd cc) h.holds;
}

-- ---- the files of one kind are taken, one after the other

-- what a reader holds of the files of a package
abbrev pub OfReader : List FileView → PackageReader → Keep → (ℕ → Bool) → Type 0
OfReader sources reader keep taken = HasTaken reader keep sources taken

module _ {S K X : Type 0} (Has : S → K → (ℕ → Bool) → Type 0) (seen : X → FileView) (copper : Bool) (xs : List X) where
  -- whether the file at an index is of the kind
  abbrev of_kind : ℕ → Bool
  of_kind i = is_kind_at copper (map seen xs) i

  file_at : (k : ℕ) (x : X) → k < length xs → x ≡ get_or xs k x → slice_get (map seen xs) k ≡ Some (seen x)
  file_at k x lt is = slice_get-map seen xs k ∙ ap (option_map seen) (slice_get_read xs (length xs) k x refl lt is)

  -- none so far
  pub kind_none : (a : S) → Takes Has a a (λ i. ltb i 0 && of_kind i)
  kind_none a = takes_none Has a (λ i. ltb i 0 && of_kind i) (none_below of_kind)

  -- and the next, which is of the kind
  pub kind_taken : (a b c : S) (k : ℕ) (x : X) (s : FileView) → k < length xs → x ≡ get_or xs k x → is_kind copper (seen x).role ≡ true → s ≡ seen x
      → Takes Has a b (λ i. ltb i k && of_kind i) → (slice_get (map seen xs) k ≡ Some s → Takes Has b c (λ i. eqb i k)) → Takes Has a c (λ i. ltb i (k + 1) && of_kind i)
  kind_taken a b c k x s lt is kind same so_far takes =
      let at = file_at k x lt is in
      takes_then Has a b c (λ i. ltb i k && of_kind i) (λ i. eqb i k) (λ i. ltb i (k + 1) && of_kind i) (one_more of_kind k (ap (is_kind_of copper) at ∙ kind)) so_far
      (takes (at ∙ ap (λ (y : FileView). Some y) (sym same)))

  -- or is not of the kind
  pub kind_left : (a b : S) (k : ℕ) (x : X) → k < length xs → x ≡ get_or xs k x → is_kind copper (seen x).role ≡ false → Takes Has a b (λ i. ltb i k && of_kind i) → Takes Has a b (λ i. ltb i (k + 1) && of_kind i)
  kind_left a b k x lt is kind so_far =
      takes_same Has a b (λ i. ltb i k && of_kind i) (λ i. ltb i (k + 1) && of_kind i) (none_more of_kind k (ap (is_kind_of copper) (file_at k x lt is) ∙ kind)) so_far

  -- all of them
  pub kind_all : (a b : S) (k : ℕ) → length xs ≤ k → Takes Has a b (λ i. ltb i k && of_kind i) → Takes Has a b of_kind
  kind_all a b k le so_far =
      takes_same Has a b (λ i. ltb i k && of_kind i) of_kind (all_below of_kind k (λ i past. no_kind_past copper (map seen xs) i (omega (arith, length-map xs seen, le, past)))) so_far

-- ---- what is answered

module _ (keep : Keep) where
  -- what is kept of the file at an index
  abbrev KeptAt : List (Option Kept) → ℕ → FileView → Type 0
  KeptAt slots i s = (one : Kept) × (kept_at slots i ≡ Some one) × IsKeptOf keep s one

  -- the slots have the contents of all files
  pub all_contents : (sources : List FileView) (slots : List (Option Kept)) → length slots ≤ length sources → ((i : ℕ) (s : FileView) → slice_get sources i ≡ Some s → KeptAt slots i s)
      → HaveContents sources (flat_map contents_in slots)
  all_contents [] [] le each = tt
  all_contents [] (x ∷ xs) le each = absurd (omega (arith, le))
  all_contents (s ∷ ss) [] le each = let one = each 0 s refl in absurd (none-some one.0 one.1)
  all_contents (s ∷ ss) (x ∷ xs) le each =
      let one = each 0 s refl in
      let is : flat_map contents_in (x ∷ xs) ≡ one.0.content ∷ flat_map contents_in xs = flat_map-cons contents_in x xs ∙ ap (λ (o : Option Kept). contents_in o ++ flat_map contents_in xs) one.1 in
      subst (λ (cs : List Content). HaveContents (s ∷ ss) cs) (sym is) (content_read s one.0.content one.2.content, all_contents ss xs (omega (arith, le)) (λ i t at. each (suc i) t at))

  -- and of what they have to be shown the list that is told of each file
  pub all_lists : {X : Type 0} (IsOf : FileView → List X → Type 0) (list_of : Shown → List X) → ((s : FileView) (one : Kept) → IsKeptOf keep s one → IsOf s (list_of one.shown))
      → (sources : List FileView) (slots : List (Option Kept)) → length slots ≤ length sources → ((i : ℕ) (s : FileView) → slice_get sources i ≡ Some s → KeptAt slots i s)
      → AreFileLists IsOf sources (map list_of (flat_map shown_in slots))
  all_lists IsOf list_of told [] [] le each = no_lists IsOf
  all_lists IsOf list_of told [] (x ∷ xs) le each = absurd (omega (arith, le))
  all_lists IsOf list_of told (s ∷ ss) [] le each = let one = each 0 s refl in absurd (none-some one.0 one.1)
  all_lists IsOf list_of told (s ∷ ss) (x ∷ xs) le each =
      let one = each 0 s refl in
      let is : flat_map shown_in (x ∷ xs) ≡ one.0.shown ∷ flat_map shown_in xs = flat_map-cons shown_in x xs ∙ ap (λ (o : Option Kept). shown_in o ++ flat_map shown_in xs) one.1 in
      subst (λ (all : List Shown). AreFileLists IsOf (s ∷ ss) (map list_of all)) (sym is)
      (lists_first IsOf s ss (list_of one.0.shown) (map list_of (flat_map shown_in xs)) (told s one.0 one.2)
      (all_lists IsOf list_of told ss xs (omega (arith, le)) (λ i t at. each (suc i) t at)))

  -- the rows of each file
  pub rows_told : keeps_rows keep ≡ true → (s : FileView) (one : Kept) → IsKeptOf keep s one → OfCopper HasRows s one.shown.rows.items
  rows_told keeps s one kept = λ copper. let h = kept.rows keeps copper in (h.0, h.1, h.2.rows)

  -- and its pads that do not count
  pub macros_told : keeps_rows keep ≡ true → (s : FileView) (one : Kept) → IsKeptOf keep s one → OfCopper HasMacros s one.shown.macros.items
  macros_told keeps s one kept = λ copper. let h = kept.rows keeps copper in (h.0, h.1, h.2.macros)

  pub contours_told : keeps_rows keep ≡ true → (s : FileView) (one : Kept) → IsKeptOf keep s one → OfCopper HasContours s one.shown.contours.items
  contours_told keeps s one kept = λ copper. let h = kept.rows keeps copper in (h.0, h.1, h.2.contours)

  -- what each file draws
  pub drawn_told : ReadingIsUniqueIn → keeps_drawn keep ≡ true → (s : FileView) (one : Kept) → IsKeptOf keep s one → AreDrawnOf s one.shown.drawn.items
  drawn_told once keeps s one kept = λ copper. drawn_read once s one.shown.drawn.items (kept.drawn keeps copper) copper

-- the contents of the files before an index
first_contents : (n : ℕ) (sources : List FileView) → n ≤ length sources → ((i : ℕ) (s : FileView) → i < n → slice_get sources i ≡ Some s → (one : Content) × Reads s (Ok one))
    → (contents : List Content) × HaveContents (take n sources) contents
first_contents zero sources le each = ([], tt)
first_contents (suc n) [] le each = absurd (omega (arith, le))
first_contents (suc n) (s ∷ ss) le each =
    let one = each 0 s (omega arith) refl in
    let rest = first_contents n ss (omega (arith, le)) (λ i t lt at. each (suc i) t (omega (arith, lt)) at) in
    (one.0 ∷ rest.0, (content_read s one.0 one.1, rest.1))

-- the file at which reading stopped is the first that is refused
pub first_refused : {X : Type 0} (Is : ℕ → FileView → X → Type 0) → ((i : ℕ) (s : FileView) (one : X) → Is i s one → (c : Content) × Reads s (Ok c)) → (slots : List (Option X)) (stopping : Option PackageFault) (sources : List FileView)
    → HoldsThose Is slots stopping sources (λ i. true) → (r : ℕ) (f : Fault) → stopping ≡ Some (stop.File r f) → IsFirstRefused sources r f
first_refused Is read slots stopping sources all r f is =
    let stopped = subst (StoppedAmong sources (λ i. true)) is all.stopped in
    let inside = slice_get_within sources r stopped.0 stopped.1 in
    let before = first_contents r sources (omega (arith, inside)) (λ i s lt at.
    let one = all.kept i s refl at (subst (λ (st : Option PackageFault). is_wanted st i ≡ true) (sym is) (lt-ltb i r lt)) in read i s one.0 one.2) in
    record {
      contents = before.0;
      read = before.1;
      inside = inside;
      refused = λ d. subst (λ (x : FileView). Reads x (Err f)) (sym (get_or_from_slice_get sources r stopped.0 d stopped.1)) stopped.3;
    }

module _ (reader : PackageReader) (keep : Keep) (sources : List FileView) (all : HasTakenAll reader keep sources) where
  refused_first : (r : ℕ) (f : Fault) → reader.stopped ≡ Some (stop.File r f) → IsFirstRefused sources r f
  refused_first = first_refused (λ i. IsKeptOf keep) (λ i s one is. (one.content, is.content)) reader.slots.items reader.stopped sources all.holds

  pub stop_returned : (Is : List FileView → BoardView → Type 0) (fault : PackageFault) → reader.stopped ≡ Some fault → Returns Is sources (Err fault)
  stop_returned Is stop.Memory is = tt
  stop_returned Is (stop.File r f) is = refused_first r f is

  module _ (none : reader.stopped ≡ None) (board : BoardView)
      (is : board ≡ shown_board (flat_map contents_in reader.slots.items) (flat_map shown_in reader.slots.items)) where
    each_kept : (i : ℕ) (s : FileView) → slice_get sources i ≡ Some s → KeptAt keep reader.slots.items i s
    each_kept i s at = all.holds.kept i s refl at (subst (λ (st : Option PackageFault). is_wanted st i ≡ true) (sym none) refl)

    pub board_read : IsBoard sources board
    board_read = record {
      contents = flat_map contents_in reader.slots.items;
      read = all_contents keep sources reader.slots.items all.holds.inside each_kept;
      is = is ∙ sym (ap (λ (b : BoardView). board_of (flat_map contents_in reader.slots.items) b.rows b.macros b.contours b.drawn) is);
    }

    pub flashed_board_read : keeps_rows keep ≡ true → IsFlashedBoard sources board
    flashed_board_read keeps = record {
      is = board_read;
      rows = subst (AreFileLists (OfCopper HasRows) sources) (sym (ap (λ (b : BoardView). b.rows) is))
          (all_lists keep (OfCopper HasRows) (λ (one : Shown). one.rows.items) (rows_told keep keeps) sources reader.slots.items all.holds.inside each_kept);
      macros = subst (AreFileLists (OfCopper HasMacros) sources) (sym (ap (λ (b : BoardView). b.macros) is))
          (all_lists keep (OfCopper HasMacros) (λ (one : Shown). one.macros.items) (macros_told keep keeps) sources reader.slots.items all.holds.inside each_kept);
      contours = subst (AreFileLists (OfCopper HasContours) sources) (sym (ap (λ (b : BoardView). b.contours) is))
          (all_lists keep (OfCopper HasContours) (λ (one : Shown). one.contours.items) (contours_told keep keeps) sources reader.slots.items all.holds.inside each_kept);
    }

    pub drawn_board_read : ReadingIsUniqueIn → keeps_drawn keep ≡ true → IsDrawnBoard sources board
    drawn_board_read once keeps = record {
      is = flashed_board_read (rows_where_drawn keep keeps);
      drawn = subst (AreFileLists AreDrawnOf sources) (sym (ap (λ (b : BoardView). b.drawn) is))
          (all_lists keep AreDrawnOf (λ (one : Shown). one.drawn.items) (drawn_told keep once keeps) sources reader.slots.items all.holds.inside each_kept);
    }
