-- A check of a package takes copper files.
use Rattle.package_check.proofs.Common.{◌≡◌, ◌<◌, ◌+◌, ◌||◌, eqb, ℕ, suc, List, [], ◌∷◌, Ok, Err, Result, Option, Some, None, OnOk, Bool, true, false, length, map, get_or, slice_get, inl, inr, arith, refl, sym, ap, ap₂, subst, ◌∙◌, alloc_error, sum_by, AllocError, both_ways, cases_eq, false≢true, get_or-map, length-map, count_by_more_no, count_by_more_yes, sum_by-cons, none-some, GridRules, Answers, Said, Fail, Drilled, hole_count, CheckView, holes_in_slot, is_drill_in, is_drill_sum, AreHolesOf, HasJudged, HasJudgedAll, IsJudgedOf, JudgesThose, TakesCopper, drill_files, layer_number, HoldsThose, IsPutAt, ReadsInto, is_kind_at, is_wanted, kept_at, next_stop, IsLeftOf, Judges, JudgesCopper, Setting, FileView, HasContent, HaveContents, is_copper, sum_of, unnamed_file, FileSum, PackageFault, Content, Judged, Fault, ReadsCopper, Reads, ReadsUnlessBadSpan, is_bad_span, LayerSpan}
use Rattle.grid_units.specs.declared.fault.Fail.TheVariants as fails
use Rattle.manifest.specs.declared.Role.TheVariants as role
use Rattle.package_check.specs.CheckViews.{setting_of}
use Rattle.board.specs.declared.FileSum.TheVariants as sum
use Rattle.package_check.specs.declared.PackageFault.TheVariants as stop
use Rattle.package_check.specs.declared.contents.Content.TheVariants as content
use Rattle.package_check.proofs.ContentIsReading.{content_read}
use Rattle.package_check.proofs.FileKinds.{either, file_kind}
use Rattle.package_check.proofs.GrowingLists.{any_name}
use Rattle.package_check.proofs.TakeSteps.{all_held, either_kind, held_more, passed_over, stopped_alike}

-- ---- the holes that the slots count

-- slots that have the same holes, one by one, have as many
same_holes : (xs ys : List (Option Judged)) → ((i : ℕ) → holes_in_slot (kept_at xs i) ≡ holes_in_slot (kept_at ys i)) → sum_by holes_in_slot xs ≡ sum_by holes_in_slot ys
same_holes [] [] each = refl
same_holes [] (y ∷ ys) each =
    let none : 0 ≡ holes_in_slot y = each 0 in
    let rest : 0 ≡ sum_by holes_in_slot ys = same_holes [] ys (λ i. each (suc i)) in
    ap₂ (λ (a b : ℕ). a + b) none rest ∙ sym (sum_by-cons holes_in_slot y ys)
same_holes (x ∷ xs) [] each =
    let none : holes_in_slot x ≡ 0 = each 0 in
    let rest : sum_by holes_in_slot xs ≡ 0 = same_holes xs [] (λ i. each (suc i)) in
    sum_by-cons holes_in_slot x xs ∙ ap₂ (λ (a b : ℕ). a + b) none rest
same_holes (x ∷ xs) (y ∷ ys) each =
    sum_by-cons holes_in_slot x xs ∙ (ap₂ (λ (a b : ℕ). a + b) (each 0) (same_holes xs ys (λ i. each (suc i))) ∙ sym (sum_by-cons holes_in_slot y ys))

pub same_slots : (before after : List (Option Judged)) → ((i : ℕ) → kept_at after i ≡ kept_at before i) → sum_by holes_in_slot after ≡ sum_by holes_in_slot before
same_slots before after same = same_holes after before (λ i. ap holes_in_slot (same i))

no_holes_counted : (s : FileSum) → is_drill_sum s ≡ false → hole_count s ≡ 0
no_holes_counted (sum.Layer pads other contours) is = refl
no_holes_counted s is = absurd (false≢true (sym is))

no_holes : (o : Option Judged) → is_drill_in o ≡ false → holes_in_slot o ≡ 0
no_holes None is = refl
no_holes (Some one) is = no_holes_counted one.sum is

-- a layer that is put where no drill file is adds no hole
pub layer_put : (before after : List (Option Judged)) (index : ℕ) (one : Judged) → IsPutAt index one before after → is_drill_in (kept_at before index) ≡ false → is_drill_sum one.sum ≡ false
    → sum_by holes_in_slot after ≡ sum_by holes_in_slot before
layer_put before after index one put free layer = same_holes after before (λ i. elim (cases_eq i index) [
  | inl same ↦
      ap (λ (k : ℕ). holes_in_slot (kept_at after k)) same
      ∙ (ap holes_in_slot put.here ∙ (no_holes (Some one) layer ∙ (sym (no_holes (kept_at before index) free) ∙ sym (ap (λ (k : ℕ). holes_in_slot (kept_at before k)) same))))
  | inr other ↦ ap holes_in_slot (put.others i other)
])

-- ---- what is left of a copper file

-- the counts of a copper file are those of a layer
layer_counted : (s : FileView) (c : Content) → is_copper s.role ≡ true → HasContent s c → is_drill_sum (sum_of c) ≡ false
layer_counted s (content.Layer image) copper has = refl
layer_counted s c copper has = absurd (both_ways (is_copper s.role) (file_kind s c has) copper)

pub layer_left : (rules : GridRules) (holes : List Drilled) (layer : ℕ) (s : FileView) (one : Judged) → is_copper s.role ≡ true → Judges rules holes layer s (Ok one) → is_drill_sum one.sum ≡ false
layer_left rules holes layer s one copper h = ap is_drill_sum h.2.sum ∙ layer_counted s h.0 copper (content_read s h.0 h.1)

-- a copper file without a span is judged by its bytes
pub judged_bytes : (rules : GridRules) (holes : List Drilled) (layer layers : ℕ) (said : Said) (bytes : List ℕ) (r : Result Judged Fail) → said.span ≡ None → Answers {T = Judged} (λ one. one) (JudgesCopper rules holes layer bytes) r
    → Answers {T = Judged} (λ one. one) (Judges rules holes layer (unnamed_file role.Copper said (record { layers = layers; profile = rules.profile }) bytes)) r
judged_bytes rules holes layer layers said bytes r none h = by r h
  where
    good : (answer : Result Content Fault) → ReadsCopper rules.profile bytes answer → Reads (unnamed_file role.Copper said (record { layers = layers; profile = rules.profile }) bytes) answer
    good answer h =
        subst (λ (t : Bool). ReadsUnlessBadSpan t (unnamed_file role.Copper said (record { layers = layers; profile = rules.profile }) bytes) answer) (ap (λ (s : Option LayerSpan). is_bad_span role.Copper s layers) (sym none)) h

    by : (r : Result Judged Fail) → Answers {T = Judged} (λ one. one) (JudgesCopper rules holes layer bytes) r → Answers {T = Judged} (λ one. one) (Judges rules holes layer (unnamed_file role.Copper said (record { layers = layers; profile = rules.profile }) bytes)) r
    by (Ok one) h = (h.0, good (Ok h.0) h.1, h.2)
    by (Err fails.Memory) h = tt
    by (Err (fails.Refused f)) h = good (Err f) h

-- ---- a file is judged, and put into its slot

module _ (rules : GridRules) (holes : List Drilled) (layer index layers : ℕ) (said : Said) (bytes : List ℕ) (before : List (Option Judged)) where
  -- what a step of reading does
  abbrev Puts : List (Option Judged) → Result (Unit {0}) Fail → Type 0
  Puts after r = ReadsInto (λ one. Judges rules holes layer (unnamed_file role.Copper said (record { layers = layers; profile = rules.profile }) bytes) (Ok one)) index (unnamed_file role.Copper said (record { layers = layers; profile = rules.profile }) bytes) before after r

  pub puts_none : (e : Fail) → Answers {T = Judged} (λ one. one) (Judges rules holes layer (unnamed_file role.Copper said (record { layers = layers; profile = rules.profile }) bytes)) (Err e) → Puts before (Err e)
  puts_none fails.Memory h = tt
  puts_none (fails.Refused f) h = (h, refl)

-- what is read of a file does not depend on its name
judged_named : (rules : GridRules) (holes : List Drilled) (layer number index : ℕ) (name : List ℕ) (said : Said) (bytes : List ℕ) (n : Setting) (before after : List (Option Judged)) (r : Result (Unit {0}) Fail) → layer ≡ number
    → ReadsInto (λ one. Judges rules holes layer (unnamed_file role.Copper said n bytes) (Ok one)) index (unnamed_file role.Copper said n bytes) before after r
    → ReadsInto (λ one. Judges rules holes number (record { role = role.Copper; name = name; said = said; bytes = bytes; setting = n }) (Ok one)) index (record { role = role.Copper; name = name; said = said; bytes = bytes; setting = n }) before after r
judged_named rules holes layer number index name said bytes n before after (Ok u) same h =
    (h.0, (h.1.0, any_name role.Copper name said bytes n (Ok h.1.0) h.1.1, subst (λ (k : ℕ). IsLeftOf rules holes k h.1.0 h.0) same h.1.2), h.2)
judged_named rules holes layer number index name said bytes n before after (Err fails.Memory) same h = tt
judged_named rules holes layer number index name said bytes n before after (Err (fails.Refused f)) same h = (any_name role.Copper name said bytes n (Err f) h.0, h.1)

-- a check that goes on after a file went on before it
went_on : (stopped : Option PackageFault) (index : ℕ) (read : Result (Unit {0}) Fail) → next_stop stopped index read ≡ None → stopped ≡ None
went_on stopped index (Ok u) is = is
went_on stopped index (Err fails.Memory) is = absurd (none-some stop.Memory (sym is))
went_on stopped index (Err (fails.Refused f)) is = absurd (none-some (stop.File index f) (sym is))

-- the slot of a copper file is not that of a drill file
pub no_drill : (check : CheckView) (sources : List FileView) (rules : GridRules) (taken : ℕ → Bool) (index : ℕ) (s : FileView) → HasJudged check sources rules taken → slice_get sources index ≡ Some s → is_copper s.role ≡ true
    → is_wanted check.stopped index ≡ true → is_drill_in (kept_at check.slots index) ≡ false
no_drill check sources rules taken index s h at copper on = either (taken index)
    (λ t. let one = h.holds.kept index s t at on in ap is_drill_in one.1 ∙ layer_left check.rules check.holes (layer_number sources index) s one.0 copper one.2)
    (λ t. ap is_drill_in (h.holds.empty index t))

-- a copper file after one that is refused
pub judged_passed : (check : CheckView) (index layer : ℕ) (source : FileView) → is_wanted check.stopped index ≡ false → TakesCopper check check index layer source
judged_passed check index layer source off = λ sources at number rules taken h. record {
  same_rules = h.same_rules;
  holds = passed_over (IsJudgedOf check.rules check.holes sources) check.slots check.stopped index sources taken off h.holds;
  drilled = h.drilled;
}

-- a copper file that stands before any that is refused so far
pub judged_more : (before after : CheckView) (index layer : ℕ) (name : List ℕ) (said : Said) (bytes : List ℕ) (read : Result (Unit {0}) Fail) (r : Result (Unit {0}) AllocError) → is_wanted before.stopped index ≡ true
    → after.holes ≡ before.holes → after.rules ≡ before.rules
    → (is_drill_in (kept_at before.slots index) ≡ false → ReadsInto (λ one. Judges before.rules before.holes layer (unnamed_file role.Copper said (setting_of before) bytes) (Ok one)) index (unnamed_file role.Copper said (setting_of before) bytes) before.slots after.slots read)
    → after.stopped ≡ next_stop before.stopped index read → (after.stopped ≡ Some stop.Memory → r ≡ Err alloc_error)
    → OnOk r (TakesCopper before after index layer (record { role = role.Copper; name = name; said = said; bytes = bytes; setting = setting_of before }))
judged_more before after index layer name said bytes read (Err e) on holes rules reads stops memory = tt
judged_more before after index layer name said bytes read (Ok v) on holes rules reads stops memory = λ sources at number under taken h.
    let source : FileView = record { role = role.Copper; name = name; said = said; bytes = bytes; setting = setting_of before } in
    let free = no_drill before sources under taken index source h at refl on in
    let named = judged_named before.rules before.holes layer (layer_number sources index) index name said bytes (setting_of before) before.slots after.slots read number (reads free) in
    record {
      same_rules = rules ∙ h.same_rules;
      holds = subst (λ (rs : GridRules). HoldsThose (IsJudgedOf rs after.holes sources) after.slots after.stopped sources (λ i. taken i || eqb i index)) (sym rules)
          (subst (λ (hs : List Drilled). HoldsThose (IsJudgedOf before.rules hs sources) after.slots after.stopped sources (λ i. taken i || eqb i index)) (sym holes)
          (held_more (IsJudgedOf before.rules before.holes sources) before.slots after.slots before.stopped after.stopped index source sources taken read at on named stops (λ is. let e = memory is in absurd cc) h.holds));
      drilled = λ none. subst (AreHolesOf sources) (sym holes) (h.drilled (went_on before.stopped index read (sym stops ∙ none)));
    }

-- other copper files stand at indexes that were not taken
pub judged_alike : (check : CheckView) (rules : GridRules) (xs ys : List FileView) (p : ℕ → Bool) → length xs ≡ length ys → ((i : ℕ) → p i ≡ true → slice_get ys i ≡ slice_get xs i) → ((i : ℕ) → layer_number ys i ≡ layer_number xs i)
    → drill_files ys ≡ drill_files xs → HasJudged check xs rules p → HasJudged check ys rules p
judged_alike check rules xs ys p size same numbers drills h = record {
  same_rules = h.same_rules;
  holds = record {
    inside = let le = h.holds.inside in omega (arith, le, size);
    stopped = stopped_alike xs ys p same check.stopped h.holds.stopped;
    kept = λ i s t at wanted.
        let one = h.holds.kept i s t (sym (same i t) ∙ at) wanted in (one.0, one.1, subst (λ (k : ℕ). Judges check.rules check.holes k s (Ok one.0)) (sym (numbers i)) one.2);
    empty = h.holds.empty;
  };
  drilled = λ none. let was = h.drilled none in (was.0, subst (λ (fs : List FileView). HaveContents fs was.0) (sym drills) was.1, was.2);
}

-- ---- a check takes the copper files, one after the other

-- what a check holds of the files of a package
abbrev pub OfCheck : List FileView → CheckView → GridRules → (ℕ → Bool) → Type 0
OfCheck sources check rules taken = HasJudged check sources rules taken

module _ {X : Type 0} (seen : X → FileView) (xs : List X) where
  -- the number of the next layer after a copper file
  pub number_taken : (k : ℕ) (x : X) → k < length xs → x ≡ get_or xs k x → is_copper (seen x).role ≡ true → layer_number (map seen xs) (k + 1) ≡ layer_number (map seen xs) k + 1
  number_taken k x lt is copper =
      count_by_more_yes (λ (s : FileView). is_copper s.role) (map seen xs) k (seen x) (omega (arith, length-map xs seen, lt))
      (ap (λ (s : FileView). is_copper s.role) (get_or-map seen xs k x (seen x) lt ∙ ap seen (sym is)) ∙ copper)

  -- and after a drill file
  pub number_left : (k : ℕ) (x : X) → k < length xs → x ≡ get_or xs k x → is_copper (seen x).role ≡ false → layer_number (map seen xs) (k + 1) ≡ layer_number (map seen xs) k
  number_left k x lt is drill =
      count_by_more_no (λ (s : FileView). is_copper s.role) (map seen xs) k (seen x) (omega (arith, length-map xs seen, lt))
      (ap (λ (s : FileView). is_copper s.role) (get_or-map seen xs k x (seen x) lt ∙ ap seen (sym is)) ∙ drill)

-- a check has taken all files, where the test is true of each
pub judged_all : (check : CheckView) (sources : List FileView) (rules : GridRules) (p : ℕ → Bool) → ((i : ℕ) → i < length sources → p i ≡ true) → HasJudged check sources rules p → HasJudgedAll check sources rules
judged_all check sources rules p all h = record {
  same_rules = h.same_rules;
  holds = all_held (IsJudgedOf check.rules check.holes sources) check.slots check.stopped sources p all h.holds;
  drilled = h.drilled;
}

-- the drill files, and then the copper files, are all files
pub all_taken : (a b : CheckView) (sources : List FileView) (rules : GridRules) → HasJudged a sources rules (is_kind_at false sources) → JudgesThose a b sources (is_kind_at true sources) → HasJudgedAll b sources rules
all_taken a b sources rules h copper =
    judged_all b sources rules (λ i. is_kind_at false sources i || is_kind_at true sources i) (either_kind sources) (copper rules (is_kind_at false sources) h)
