-- Files of a package that were loaded, whatever their order.
use Rattle.ringcheck.proofs.Common.{◌≡◌, cond, ◌≢◌, ◌<◌, ◌≤◌, ◌↔◌, ◌+◌, ◌||◌, ◌&&◌, eqb, ltb, ℕ, zero, suc, Bool, true, false, not, List, [], ◌∷◌, length, map, take, set, get_or, Option, Some, None, Result, Ok, Err, inl, inr, arith, refl, sym, ap, subst, ◌∙◌, and_left, and_right, both_ways, cases_eq, cases_lt, false≢true, eqb-true, le-ltb, lt-ltb, or_cases, or_from, option_or, unwrap_or, get_or-set_other, get_or-set_same, length-set, length-take-le, take_all, count_by, none-some, same_Some, slice_get_within, Entry, GridRules, Profile, CheckView, setting_of, HasJudged, HasJudgedAll, drill_files, layer_number, FileView, Setting, is_copper, file_limit, within, HasRisen, HasFiles, RefusedFile, file_views_among, long_file, setting_in, sources, Halts, OfFiles, refusal, AreFirstOf, EndsAt, HasLoaded, LoadsCopper, LoadsCopperTo, LoadsFile, LoadsKind, OfCheckedCopper, RefusesLong, is_kind_at, is_kind_of, source, Refusal, of_archive, Halt, HasTakenHashed, HasJudgedHashed, AreDigestsOf}
use Rattle.std.proofs.Common.{slice_get}
use Rattle.std.proofs.lemmas.List.Sums.{sum_by-cons}
use Rattle.layer_features.specs.declared.keep.Keep.{Keep}
use Rattle.package_check.specs.Holding as taking
use Rattle.package_check.specs.Holding.{HasTaken, HasTakenAll, is_kind, setting_of as reader_setting}
use Rattle.package_check.specs.declared.package_reader.PackageReader.{PackageReader}
use Rattle.sha2.specs.Sha256.{sha256}
use Rattle.package_check.proofs.CheckSteps.{judged_alike, judged_all}
use Rattle.package_check.proofs.TakeSteps.{all_below, all_taken, none_below, none_more, one_more, or_none, or_together, taken_alike}
use Rattle.ringcheck.proofs.Outcomes.{risen_since}
use Rattle.ringcheck.specs.declared.refusals.Halt.TheVariants as halt

-- ---- the files of entries

-- there is a file for each entry
pub views_length : (n : Setting) (es : List Entry) (fs : List (List ℕ)) → length fs ≡ length es → length (file_views_among n es fs) ≡ length es
views_length n [] fs same = refl
views_length n (e ∷ es) [] same = absurd (omega (arith, same))
views_length n (e ∷ es) (f ∷ fs) same = ap suc (views_length n es fs (omega (arith, same)))

-- the file at an index is that of its entry
pub view_at : (n : Setting) (es : List Entry) (fs : List (List ℕ)) (i : ℕ) (e : Entry) → length fs ≡ length es → slice_get es i ≡ Some e → slice_get (file_views_among n es fs) i ≡ Some (source n e (get_or fs i []))
view_at n [] fs i e same at = absurd (none-some e at)
view_at n (x ∷ es) [] i e same at = absurd (omega (arith, same))
view_at n (x ∷ es) (f ∷ fs) zero e same at = ap (λ (o : Entry). Some (source n o f)) (same_Some x e at)
view_at n (x ∷ es) (f ∷ fs) (suc i) e same at = view_at n es fs i e (omega (arith, same)) at

-- other bytes of one file leave the others as they are
pub views_other : (n : Setting) (es : List Entry) (fs : List (List ℕ)) (k : ℕ) (bytes : List ℕ) (i : ℕ) → i ≢ k → slice_get (file_views_among n es (set fs k bytes)) i ≡ slice_get (file_views_among n es fs) i
views_other n [] fs k bytes i other = refl
views_other n (e ∷ es) [] k bytes i other = refl
views_other n (e ∷ es) (f ∷ fs) zero bytes zero other = absurd (other refl)
views_other n (e ∷ es) (f ∷ fs) zero bytes (suc i) other = refl
views_other n (e ∷ es) (f ∷ fs) (suc k) bytes zero other = refl
views_other n (e ∷ es) (f ∷ fs) (suc k) bytes (suc i) other = views_other n es fs k bytes i (λ same. other (ap suc same))

-- the number of a layer by its entries
pub views_number : (n : Setting) (es : List Entry) (fs : List (List ℕ)) → length fs ≡ length es → (i : ℕ) → layer_number (file_views_among n es fs) i ≡ count_by (λ (e : Entry). is_copper e.role) (take i es)
views_number n es fs same zero = refl
views_number n [] fs same (suc i) = refl
views_number n (e ∷ es) [] same (suc i) = absurd (omega (arith, same))
views_number n (e ∷ es) (f ∷ fs) same (suc i) =
    sum_by-cons (λ (s : FileView). cond (is_copper s.role) 1 0) (source n e f) (take i (file_views_among n es fs))
    ∙ (ap (λ (m : ℕ). cond (is_copper e.role) 1 0 + m) (views_number n es fs (omega (arith, same)) i) ∙ sym (sum_by-cons (λ (x : Entry). cond (is_copper x.role) 1 0) e (take i es)))

-- other bytes of a copper file leave the drill files as they are
pub views_drills : (n : Setting) (es : List Entry) (fs : List (List ℕ)) (k : ℕ) (bytes : List ℕ) (e : Entry) → slice_get es k ≡ Some e → is_copper e.role ≡ true → drill_files (file_views_among n es (set fs k bytes)) ≡ drill_files (file_views_among n es fs)
views_drills n [] fs k bytes e at copper = refl
views_drills n (x ∷ es) [] k bytes e at copper = refl
views_drills n (x ∷ es) (f ∷ fs) zero bytes e at copper =
    let is : is_copper x.role ≡ true = ap (λ (y : Entry). is_copper y.role) (same_Some x e at) ∙ copper in
    (λ j. cond (not (is j)) (source n x bytes ∷ drill_files (file_views_among n es fs)) (drill_files (file_views_among n es fs)))
    ∙ sym (λ j. cond (not (is j)) (source n x f ∷ drill_files (file_views_among n es fs)) (drill_files (file_views_among n es fs)))
views_drills n (x ∷ es) (f ∷ fs) (suc k) bytes e at copper =
    ap (λ (ds : List FileView). cond (not (is_copper x.role)) (source n x f ∷ ds) ds) (views_drills n es fs k bytes e at copper)

-- ---- digests of files

-- the digests of files are those of others that are the same at the indexes that are done
digests_alike : (digests : List (List ℕ)) (files others : List FileView) (done : ℕ → Bool) → ((i : ℕ) → done i ≡ true → slice_get others i ≡ slice_get files i) → AreDigestsOf digests files done → AreDigestsOf digests others done
digests_alike digests files others done same are i file is at inside = are i file is (sym (same i is) ∙ at) inside

-- and one more
digests_more : (digests : List (List ℕ)) (files : List FileView) (done : ℕ → Bool) (k : ℕ) (one : FileView) → slice_get files k ≡ Some one → AreDigestsOf digests files done
    → AreDigestsOf (set digests k (sha256 one.bytes)) files (λ i. done i || eqb i k)
digests_more digests files done k one there are i file is at inside = elim (cases_eq i k) [
  | inl same ↦
      let here : get_or (set digests k (sha256 one.bytes)) k [] ≡ sha256 one.bytes = get_or-set_same digests k (sha256 one.bytes) [] (omega (arith, room, same)) in
      ap (λ (j : ℕ). get_or (set digests k (sha256 one.bytes)) j []) same ∙ (here ∙ ap (λ (x : FileView). sha256 x.bytes) (same_Some one file (sym there ∙ (ap (slice_get files) (sym same) ∙ at))))
  | inr other ↦
      get_or-set_other digests k i (sha256 one.bytes) [] other ∙ are i file (elim (or_cases (done i) (eqb i k) is) [ inl was ↦ was | inr same ↦ absurd (other (eqb-true i k same)) ]) at room
]
  where
    room : i < length digests
    room = let size = length-set digests k (sha256 one.bytes) in omega (arith, inside, size)

-- ---- files that were loaded

module _ (has : List ℕ → List ℕ → Type 0) (profile : Profile) (all : List Entry) where
  -- none of them yet
  pub none_loaded : (Taken : List FileView → (ℕ → Bool) → Type 0) → ((sources : List FileView) → Taken sources (λ i. false)) → HasLoaded has profile all Taken (λ i. false)
  none_loaded Taken stands = record {
    files = map (λ (e : Entry). []) all;
    size = same all;
    loaded = λ i entry none at. absurd cc;
    taken = stands (sources profile all (map (λ (e : Entry). []) all));
  }
    where
      same : (es : List Entry) → length (map (λ (e : Entry). let none : List ℕ = [] in none) es) ≡ length es
      same [] = refl
      same (e ∷ es) = ap suc (same es)

  -- the same files, by another test
  pub loaded_same : (Taken : List FileView → (ℕ → Bool) → Type 0) (p q : ℕ → Bool) → ((i : ℕ) → p i ≡ q i) → HasLoaded has profile all Taken p → HasLoaded has profile all Taken q
  loaded_same Taken p q same h = subst (λ (t : ℕ → Bool). HasLoaded has profile all Taken t) (λ j. λ i. same i j) h

  -- and one more
  loaded_more : (Before After : List FileView → (ℕ → Bool) → Type 0) (done : ℕ → Bool) (k : ℕ) (entry : Entry) (bytes : List ℕ) → slice_get all k ≡ Some entry → done k ≡ false → within file_limit has entry.file bytes
      → ((files : List (List ℕ)) → length files ≡ length all → Before (sources profile all files) done → Before (sources profile all (set files k bytes)) done)
      → ((files : List (List ℕ)) → length files ≡ length all → slice_get (sources profile all files) k ≡ Some (source (setting_in profile all) entry bytes) → Before (sources profile all files) done → After (sources profile all files) (λ i. done i || eqb i k))
      → HasLoaded has profile all Before done → HasLoaded has profile all After (λ i. done i || eqb i k)
  loaded_more Before After done k entry bytes at new held alike takes h =
      let n = setting_in profile all in
      let files : List (List ℕ) = set h.files k bytes in
      let inside : k < length all = slice_get_within all k entry at in
      let size : length files ≡ length all = length-set h.files k bytes ∙ h.size in
      let here : get_or files k [] ≡ bytes = get_or-set_same h.files k bytes [] (omega (arith, inside, h.size)) in
      let not_k = λ (i : ℕ) (d : done i ≡ true). (λ (same : i ≡ k). both_ways (done k) new (subst (λ (j : ℕ). done j ≡ true) same d)) in
      record {
        files = files;
        size = size;
        loaded = λ i e d there. elim (or_cases (done i) (eqb i k) d) [
          | inl was ↦ subst (within file_limit has e.file) (sym (get_or-set_other h.files k i bytes [] (not_k i was))) (h.loaded i e was there)
          | inr new_one ↦
              let same = eqb-true i k new_one in
              let is : entry ≡ e = same_Some entry e (sym at ∙ (ap (slice_get all) (sym same) ∙ there)) in
              subst (λ (x : Entry). within file_limit has x.file (get_or files i [])) is
              (subst (within file_limit has entry.file) (sym (ap (λ (j : ℕ). get_or files j []) same ∙ here)) held)
        ];
        taken = takes files size (view_at n all files k entry size at ∙ ap (λ (b : List ℕ). Some (source n entry b)) here) (alike h.files h.size h.taken);
      }

  -- a loader that has as much
  pub loaded_along : (later : List ℕ → List ℕ → Type 0) → ((n b : List ℕ) → has n b → later n b) → (Taken : List FileView → (ℕ → Bool) → Type 0) (done : ℕ → Bool) → HasLoaded has profile all Taken done → HasLoaded later profile all Taken done
  loaded_along later to Taken done h = record {
    files = h.files;
    size = h.size;
    loaded = λ i e d at. let w = h.loaded i e d at in (to e.file (get_or h.files i []) w.0, w.1);
    taken = h.taken;
  }

  -- none of a kind yet
  pub none_yet : (copper : Bool) (Taken : List FileView → (ℕ → Bool) → Type 0) (done : ℕ → Bool) → HasLoaded has profile all Taken done → HasLoaded has profile all Taken (λ i. done i || (ltb i 0 && is_kind_at copper all i))
  none_yet copper Taken done h =
      loaded_same Taken done (λ i. done i || (ltb i 0 && is_kind_at copper all i)) (λ i. sym (or_none (done i)) ∙ ap (λ (t : Bool). done i || t) (none_below (is_kind_at copper all) i)) h

  -- the next file, which is of the kind that is loaded
  kind_loaded : (copper : Bool) (Before After : List FileView → (ℕ → Bool) → Type 0) (done : ℕ → Bool) (k : ℕ) (entry : Entry) (bytes : List ℕ) → slice_get all k ≡ Some entry → is_kind copper entry.role ≡ true → done k ≡ false
      → within file_limit has entry.file bytes
      → ((files : List (List ℕ)) (p : ℕ → Bool) → p k ≡ false → length files ≡ length all → Before (sources profile all files) p → Before (sources profile all (set files k bytes)) p)
      → ((files : List (List ℕ)) (p : ℕ → Bool) → length files ≡ length all → slice_get (sources profile all files) k ≡ Some (source (setting_in profile all) entry bytes) → Before (sources profile all files) p → After (sources profile all files) (λ i. p i || eqb i k))
      → HasLoaded has profile all Before (λ i. done i || (ltb i k && is_kind_at copper all i)) → HasLoaded has profile all After (λ i. done i || (ltb i (k + 1) && is_kind_at copper all i))
  kind_loaded copper Before After done k entry bytes at kind new held alike takes h =
      let before = λ (i : ℕ). done i || (ltb i k && is_kind_at copper all i) in
      let not_yet : before k ≡ false = or_from (done k) (ltb k k && is_kind_at copper all k) new (and_left (ltb k k) (is_kind_at copper all k) (le-ltb k k (omega arith))) in
      loaded_same After (λ i. (done i || (ltb i k && is_kind_at copper all i)) || eqb i k) (λ i. done i || (ltb i (k + 1) && is_kind_at copper all i))
      (λ i. or_together (done i) (ltb i k && is_kind_at copper all i) (eqb i k) ∙ ap (λ (t : Bool). done i || t) (one_more (is_kind_at copper all) k (ap (is_kind_of copper) at ∙ kind) i))
      (loaded_more Before After before k entry bytes at not_yet held (λ files size was. alike files before not_yet size was) (λ files size there was. takes files before size there was) h)

  -- or is not of the kind
  pub kind_passed : (copper : Bool) (Taken : List FileView → (ℕ → Bool) → Type 0) (done : ℕ → Bool) (k : ℕ) (entry : Entry) → slice_get all k ≡ Some entry → is_kind copper entry.role ≡ false
      → HasLoaded has profile all Taken (λ i. done i || (ltb i k && is_kind_at copper all i)) → HasLoaded has profile all Taken (λ i. done i || (ltb i (k + 1) && is_kind_at copper all i))
  kind_passed copper Taken done k entry at kind h =
      loaded_same Taken (λ i. done i || (ltb i k && is_kind_at copper all i)) (λ i. done i || (ltb i (k + 1) && is_kind_at copper all i))
      (λ i. ap (λ (t : Bool). done i || t) (none_more (is_kind_at copper all) k (ap (is_kind_of copper) at ∙ kind) i)) h

  -- other bytes of a file that is not done leave those that are as they are
  done_alike : (files : List (List ℕ)) (p : ℕ → Bool) (k : ℕ) (bytes : List ℕ) → p k ≡ false → (i : ℕ) → p i ≡ true
      → slice_get (sources profile all (set files k bytes)) i ≡ slice_get (sources profile all files) i
  done_alike files p k bytes none i d = views_other (setting_in profile all) all files k bytes i (λ same. both_ways (p k) none (subst (λ (j : ℕ). p j ≡ true) same d))

  -- a reader has taken the next file
  pub reader_loaded : (keep : Keep) (copper : Bool) (before after : PackageReader) (digests digests_after : List (List ℕ)) (done : ℕ → Bool) (k : ℕ) (entry : Entry) → slice_get all k ≡ Some entry → is_kind copper entry.role ≡ true → reader_setting before ≡ setting_in profile all
      → done k ≡ false → LoadsFile has before after digests digests_after k entry → HasLoaded has profile all (HasTakenHashed before keep digests) (λ i. done i || (ltb i k && is_kind_at copper all i))
      → HasLoaded has profile all (HasTakenHashed after keep digests_after) (λ i. done i || (ltb i (k + 1) && is_kind_at copper all i))
  reader_loaded keep copper before after digests digests_after done k entry at kind layers new (bytes, held, takes, hashed) h =
      let n = setting_in profile all in
      kind_loaded copper (HasTakenHashed before keep digests) (HasTakenHashed after keep digests_after) done k entry bytes at kind new held
      (λ files p none size was. (
        taken_alike before keep (sources profile all files) (sources profile all (set files k bytes)) p (views_length n all files size ∙ sym (views_length n all (set files k bytes) (length-set files k bytes ∙ size)))
            (done_alike files p k bytes none) was.0,
        digests_alike digests (sources profile all files) (sources profile all (set files k bytes)) p (done_alike files p k bytes none) was.1,
      ))
      (λ files p size there was. (
        takes (sources profile all files) (there ∙ ap (λ (m : Setting). Some (source m entry bytes)) (sym layers)) keep p was.0,
        subst (λ (ds : List (List ℕ)). AreDigestsOf ds (sources profile all files) (λ i. p i || eqb i k)) (sym hashed) (digests_more digests (sources profile all files) p k (source n entry bytes) there was.1),
      )) h

  -- a check has taken the next file, which is copper
  pub copper_loaded : (rules : GridRules) (before after : CheckView) (digests digests_after : List (List ℕ)) (done : ℕ → Bool) (k layer : ℕ) (entry : Entry) → slice_get all k ≡ Some entry → is_copper entry.role ≡ true → setting_of before ≡ setting_in profile all
      → done k ≡ false → layer ≡ count_by (λ (e : Entry). is_copper e.role) (take k all) → LoadsCopper has before after digests digests_after k layer entry
      → HasLoaded has profile all (HasJudgedHashed before rules digests) (λ i. done i || (ltb i k && is_kind_at true all i))
      → HasLoaded has profile all (HasJudgedHashed after rules digests_after) (λ i. done i || (ltb i (k + 1) && is_kind_at true all i))
  copper_loaded rules before after digests digests_after done k layer entry at copper layers new number (bytes, held, takes, hashed) h =
      let n = setting_in profile all in
      kind_loaded true (HasJudgedHashed before rules digests) (HasJudgedHashed after rules digests_after) done k entry bytes at copper new held
      (λ files p none size was. (
        judged_alike before rules (sources profile all files) (sources profile all (set files k bytes)) p (views_length n all files size ∙ sym (views_length n all (set files k bytes) (length-set files k bytes ∙ size)))
            (done_alike files p k bytes none)
            (λ i. views_number n all (set files k bytes) (length-set files k bytes ∙ size) i ∙ sym (views_number n all files size i)) (views_drills n all files k bytes entry at copper) was.0,
        digests_alike digests (sources profile all files) (sources profile all (set files k bytes)) p (done_alike files p k bytes none) was.1,
      ))
      (λ files p size there was. (
        takes (sources profile all files) (there ∙ ap (λ (m : Setting). Some (source m entry bytes)) (sym layers)) (number ∙ sym (views_number n all files size k)) rules p was.0,
        subst (λ (ds : List (List ℕ)). AreDigestsOf ds (sources profile all files) (λ i. p i || eqb i k)) (sym hashed) (digests_more digests (sources profile all files) p k (source n entry bytes) there was.1),
      )) h

-- ---- kinds

-- an entry has one of the two kinds
pub either_entry_kind : (es : List Entry) (i : ℕ) → i < length es → (is_kind_at false es i || is_kind_at true es i) ≡ true
either_entry_kind [] i lt = absurd (omega (arith, lt))
either_entry_kind (e ∷ es) zero lt = by (is_copper e.role)
  where
    by : (t : Bool) → (not t || t) ≡ true
    by true = refl
    by false = refl
either_entry_kind (e ∷ es) (suc i) lt = either_entry_kind es i (omega (arith, lt))

-- and not both
pub one_entry_kind : (es : List Entry) (i : ℕ) → is_kind_at true es i ≡ true → is_kind_at false es i ≡ false
one_entry_kind [] i h = refl
one_entry_kind (e ∷ es) zero h = ap not h
one_entry_kind (e ∷ es) (suc i) h = one_entry_kind es i h

-- the files of drill files below one index and of copper files below another
abbrev pub done_to : List Entry → ℕ → ℕ → ℕ → Bool
done_to all drills copper i = (false || (ltb i drills && is_kind_at false all i)) || (ltb i copper && is_kind_at true all i)

pub done_below : (all : List Entry) (drills copper i : ℕ) → copper ≤ drills → i < copper → i < length all → done_to all drills copper i ≡ true
done_below all drills copper i le lt inside =
    rw (lt-ltb i drills (omega (arith, le, lt)), lt-ltb i copper lt) (either_entry_kind all i inside)

-- ---- a check

-- past the end no entry is of a kind
no_entry_past : (copper : Bool) (es : List Entry) (i : ℕ) → length es ≤ i → is_kind_at copper es i ≡ false
no_entry_past copper [] i le = refl
no_entry_past copper (e ∷ es) zero le = absurd (omega (arith, le))
no_entry_past copper (e ∷ es) (suc i) le = no_entry_past copper es i (omega (arith, le))

-- a file is of the kind of its entry
views_kind : (copper : Bool) (n : Setting) (es : List Entry) (fs : List (List ℕ)) → length fs ≡ length es → (i : ℕ) → taking.is_kind_at copper (file_views_among n es fs) i ≡ is_kind_at copper es i
views_kind copper n [] fs same i = refl
views_kind copper n (e ∷ es) [] same i = absurd (omega (arith, same))
views_kind copper n (e ∷ es) (f ∷ fs) same zero = refl
views_kind copper n (e ∷ es) (f ∷ fs) same (suc i) = views_kind copper n es fs (omega (arith, same)) i

-- a check goes on from a reader that has taken all drill files
pub checking_loaded : (has : List ℕ → List ℕ → Type 0) (profile : Profile) (all : List Entry) (keep : Keep) (rules : GridRules) (reader : PackageReader) (check : CheckView) (digests : List (List ℕ)) (drills : ℕ) → drills ≡ length all
    → ((files : List FileView) → HasTaken reader keep files (taking.is_kind_at false files) → HasJudged check files rules (taking.is_kind_at false files))
    → HasLoaded has profile all (HasTakenHashed reader keep digests) (λ i. false || (ltb i drills && is_kind_at false all i)) → HasLoaded has profile all (HasJudgedHashed check rules digests) (λ i. false || (ltb i drills && is_kind_at false all i))
checking_loaded has profile all keep rules reader check digests drills ends stands h =
    let files = sources profile all h.files in
    let same = λ (i : ℕ). views_kind false (setting_in profile all) all h.files h.size i ∙ sym (all_below (is_kind_at false all) drills (λ i past. no_entry_past false all i (omega (arith, past, ends))) i) in
    let tests : taking.is_kind_at false files ≡ (λ i. ltb i drills && is_kind_at false all i) = λ j. λ i. same i j in
    record {
      files = h.files;
      size = h.size;
      loaded = h.loaded;
      taken = (subst (λ (t : ℕ → Bool). HasJudged check files rules t) tests (stands files (subst (λ (t : ℕ → Bool). HasTaken reader keep files t) (sym tests) h.taken.0)), h.taken.1);
    }

-- ---- what came of all files

-- the files of the first entries
pub has_first : (has : List ℕ → List ℕ → Type 0) (m : ℕ) (es : List Entry) (fs : List (List ℕ)) → length fs ≡ length es
    → ((i : ℕ) (e : Entry) → i < m → slice_get es i ≡ Some e → has e.file (get_or fs i [])) → HasFiles has (take m es) (take m fs)
has_first has zero es fs same each = tt
has_first has (suc m) [] [] same each = tt
has_first has (suc m) [] (f ∷ fs) same each = absurd (omega (arith, same))
has_first has (suc m) (e ∷ es) [] same each = absurd (omega (arith, same))
has_first has (suc m) (e ∷ es) (f ∷ fs) same each = (each 0 e (omega arith) refl, has_first has m es fs (omega (arith, same)) (λ i x lt at. each (suc i) x (omega (arith, lt)) at))

-- the entries before an index are the first of all
pub first_of : (n : ℕ) (all : List Entry) → AreFirstOf (take n all) all
first_of zero all i e at = absurd (none-some e at)
first_of (suc n) [] i e at = at
first_of (suc n) (x ∷ xs) zero e at = at
first_of (suc n) (x ∷ xs) (suc i) e at = first_of n xs i e at

-- a count that rose by an earlier time rose by a later one
pub risen_by : (old middle new : ℕ) → old ≤ middle → middle ≤ new → HasRisen old middle → HasRisen old new
risen_by old middle new a b (inl more) = inl (omega arith)
risen_by old middle new a b (inr last) = elim (cases_lt middle new) [ inl more ↦ inl (omega (arith, a, more)) | inr le ↦ inr (omega (arith, last, le, b)) ]

pub halts_weaker : (Is Is' : Refusal → Type 0) (Risen Risen' : Type 0) → ((why : Refusal) → Is why → Is' why) → (Risen → Risen') → (h : Halt) → Halts Is Risen h → Halts Is' Risen' h
halts_weaker Is Is' Risen Risen' to rise (halt.Refused what why) is = to (refusal what why) is
halts_weaker Is Is' Risen Risen' to rise (halt.Archive what why name) is = to (of_archive name.now (refusal what why)) is
halts_weaker Is Is' Risen Risen' to rise (halt.Unread what path) risen = rise risen

-- what halts a loader that has no more, by a count that rose since a later time, halts one that has more
pub halts_since : (later has : List ℕ → List ℕ → Type 0) → ((n b : List ℕ) → later n b → has n b) → (index : ℕ) (entry : Entry) (old middle new : ℕ) → old ≤ middle → (h : Halt)
    → Halts (RefusesLong later index entry) (HasRisen middle new) h → Halts (RefusesLong has index entry) (HasRisen old new) h
halts_since later has to index entry old middle new le =
    halts_weaker (RefusesLong later index entry) (RefusesLong has index entry) (HasRisen middle new) (HasRisen old new)
    (λ why long. record { bytes = long.bytes; loaded = to entry.file long.bytes long.loaded; long = long.long; is = long.is }) (risen_since old middle new le)

module _ (has : List ℕ → List ℕ → Type 0) (profile : Profile) (all : List Entry) (Taken : List FileView → (ℕ → Bool) → Type 0) (drills copper : ℕ) (le : copper ≤ drills) (h : HasLoaded has profile all Taken (done_to all drills copper)) where
  files_before : HasFiles (within file_limit has) (take copper all) (take copper h.files)
  files_before = has_first (within file_limit has) copper all h.files h.size (λ i e lt at. h.loaded i e (done_below all drills copper i le lt (slice_get_within all i e at)) at)

  -- a file above the limit, before which all were loaded
  pub long_refused : (later : List ℕ → List ℕ → Type 0) → ((n b : List ℕ) → later n b → has n b) → (entry : Entry) (why : Refusal) → slice_get all copper ≡ Some entry → RefusesLong later copper entry why
      → RefusedFile has profile all why
  long_refused later to entry why at long =
      long_file copper entry (record { files = take copper h.files; before = files_before; at = at; bytes = long.bytes; loaded = to entry.file long.bytes long.loaded; long = long.long }) long.is

  -- all files
  pub all_loaded : (All : List FileView → Type 0) → ((files : List FileView) (p : ℕ → Bool) → ((i : ℕ) → i < length files → p i ≡ true) → Taken files p → All files) → length all ≤ copper
      → (files : List (List ℕ)) × HasFiles (within file_limit has) all files × All (sources profile all files)
  all_loaded All to past =
      let n = setting_in profile all in (
        h.files,
        has_all,
        to (sources profile all h.files) (done_to all drills copper) (λ i lt. let inside : i < length all = omega (arith, lt, views_length n all h.files h.size) in done_below all drills copper i le (omega (arith, inside, past)) inside) h.taken,
      )
    where
      has_all : HasFiles (within file_limit has) all h.files
      has_all = subst (λ (es : List Entry). HasFiles (within file_limit has) es h.files) (take_all copper all past)
          (subst (λ (fs : List (List ℕ)). HasFiles (within file_limit has) (take copper all) fs) (take_all copper h.files (omega (arith, past, h.size))) files_before)

-- ---- two passes

-- what came of all files, which a reader has taken in two passes: each was loaded, or one of them halts
abbrev pub IsEnd : (List ℕ → List ℕ → Type 0) → Profile → List Entry → Keep → PackageReader → Type 0 → Option Halt → Type 0
IsEnd has profile all keep last Risen None = (files : List (List ℕ)) × HasFiles (within file_limit has) all files × HasTakenAll last keep (sources profile all files)
IsEnd has profile all keep last Risen (Some stop) = Halts (RefusedFile has profile all) Risen stop

-- the drill files were loaded, and then the copper files among those before the first that cannot be
module _ (has later : List ℕ → List ℕ → Type 0) (same : (n b : List ℕ) → later n b ↔ has n b) (profile : Profile) (all : List Entry) (keep : Keep) (start middle last : PackageReader) (digests digests_middle digests_last : List (List ℕ)) (drills copper old between new : ℕ)
    (layers : reader_setting start ≡ setting_in profile all) (stays : reader_setting middle ≡ reader_setting start) (stands : (files : List FileView) → HasTaken start keep files (λ i. false)) (one : LoadsKind has all start middle digests digests_middle false drills)
    (two : LoadsKind later (take drills all) middle last digests_middle digests_last true copper) (rises : old ≤ between) (rises_on : between ≤ new) (inside : drills ≤ length all) (within_first : copper ≤ length (take drills all)) where
  -- what the reader has taken at last
  abbrev Last : List FileView → (ℕ → Bool) → Type 0
  Last = HasTakenHashed last keep digests_last

  both_loaded : HasLoaded has profile all Last (done_to all drills copper)
  both_loaded =
      let done = λ (i : ℕ). false || (ltb i drills && is_kind_at false all i) in
      let drilled = one profile all keep (λ i. false) (λ i e at. at) layers (λ i kind. refl) (none_loaded has profile all (HasTakenHashed start keep digests) (λ files. (stands files, λ i file d. absurd (false≢true d)))) in
      loaded_along later profile all has (λ n b. (same n b).0) Last (done_to all drills copper)
      (two profile all keep done (first_of drills all) (stays ∙ layers) (λ i kind. and_right (ltb i drills) (is_kind_at false all i) (one_entry_kind all i kind)) (loaded_along has profile all later (λ n b. (same n b).1) (HasTakenHashed middle keep digests_middle) done drilled))

  size : length (take drills all) ≡ drills
  size = length-take-le drills all inside

  below : copper ≤ drills
  below = omega (arith, size, within_first)

  pub passes_end : (first second : Option Halt) → EndsAt has all (HasRisen old between) drills first → EndsAt later (take drills all) (HasRisen between new) copper second → IsEnd has profile all keep last (HasRisen old new) (option_or second first)
  passes_end first (Some s) before (entry, at, halts) =
      halts_weaker (RefusesLong later copper entry) (RefusedFile has profile all) (HasRisen between new) (HasRisen old new)
      (λ why long. long_refused has profile all Last drills copper below both_loaded later (λ n b. (same n b).0) entry why (first_of drills all copper entry at) long) (risen_since old between new rises) s halts
  passes_end (Some s) None (entry, at, halts) ends =
      let here : drills ≡ copper = sym (ends ∙ size) in
      halts_weaker (RefusesLong has drills entry) (RefusedFile has profile all) (HasRisen old between) (HasRisen old new)
      (λ why long. long_refused has profile all Last drills copper below both_loaded has (λ n b held. held) entry why (subst (λ (k : ℕ). slice_get all k ≡ Some entry) here at)
      (subst (λ (k : ℕ). RefusesLong has k entry why) here long)) (risen_by old between new rises rises_on) s halts
  passes_end None None before ends = all_loaded has profile all Last drills copper below both_loaded (HasTakenAll last keep) (λ files p each was. all_taken last keep files p each was.0) (omega (arith, before, ends, size))

-- the first of two halts, where there is the second
pub or_default : (o : Option Halt) (h : Halt) → option_or o (Some h) ≡ Some (unwrap_or o h)
or_default None h = refl
or_default (Some x) h = refl

-- all drill files were loaded, and then the copper files, which a check has taken
pub check_passes : (has later : List ℕ → List ℕ → Type 0) → ((n b : List ℕ) → later n b ↔ has n b) → (all : List Entry) (keep : Keep) (rules : GridRules) (start middle : PackageReader) (check last : CheckView) (digests digests_middle digests_last : List (List ℕ)) (drills copper : ℕ)
    → drills ≡ length all → reader_setting start ≡ setting_in rules.profile all → reader_setting middle ≡ reader_setting start → check.layers ≡ (reader_setting middle).layers → ((sources : List FileView) → HasTaken start keep sources (λ i. false))
    → LoadsKind has all start middle digests digests_middle false drills → ((files : List FileView) → HasTaken middle keep files (taking.is_kind_at false files) → HasJudged check files rules (taking.is_kind_at false files))
    → LoadsCopperTo later all check last digests_middle digests_last copper → HasLoaded has rules.profile all (HasJudgedHashed last rules digests_last) (done_to all drills copper)
check_passes has later same all keep rules start middle check last digests digests_middle digests_last drills copper ends layers stays counted stands one goes two =
    let done = λ (i : ℕ). false || (ltb i drills && is_kind_at false all i) in
    let drilled = one rules.profile all keep (λ i. false) (λ i e at. at) layers (λ i kind. refl) (none_loaded has rules.profile all (HasTakenHashed start keep digests) (λ files. (stands files, λ i file d. absurd (false≢true d)))) in
    let checked : HasLoaded has rules.profile all (HasJudgedHashed check rules digests_middle) done = checking_loaded has rules.profile all keep rules middle check digests_middle drills ends goes drilled in
    let count : check.layers ≡ (setting_in rules.profile all).layers = counted ∙ ap (λ (s : Setting). s.layers) (stays ∙ layers) in
    let profile : check.rules.profile ≡ rules.profile = ap (λ (r : GridRules). r.profile) checked.taken.0.same_rules in
    let read_in : setting_of check ≡ setting_in rules.profile all = λ j. let s : Setting = record { layers = count j; profile = profile j } in s in
    loaded_along later rules.profile all has (λ n b. (same n b).0) (HasJudgedHashed last rules digests_last) (done_to all drills copper)
    (two rules.profile rules done read_in (λ i kind. and_right (ltb i drills) (is_kind_at false all i) (one_entry_kind all i kind))
    (loaded_along has rules.profile all later (λ n b. (same n b).1) (HasJudgedHashed check rules digests_middle) done checked))

-- what came of the copper files is what came of all, where all drill files were loaded before
pub all_checked : (has later : List ℕ → List ℕ → Type 0) → ((n b : List ℕ) → later n b ↔ has n b) → (all : List Entry) (keep : Keep) (rules : GridRules) (start middle : PackageReader) (check : CheckView) (digests digests_middle digests_last : List (List ℕ)) (drills old between new : ℕ) → drills ≡ length all
    → reader_setting start ≡ setting_in rules.profile all → reader_setting middle ≡ reader_setting start → check.layers ≡ (reader_setting middle).layers → ((sources : List FileView) → HasTaken start keep sources (λ i. false))
    → LoadsKind has all start middle digests digests_middle false drills → ((files : List FileView) → HasTaken middle keep files (taking.is_kind_at false files) → HasJudged check files rules (taking.is_kind_at false files))
    → old ≤ between → (r : Result CheckView Halt) → OfCheckedCopper later all check digests_middle digests_last (HasRisen between new) r → OfFiles has rules.profile all (HasRisen old new) (λ it files. HasJudgedAll it files rules × AreDigestsOf digests_last files (λ i. true)) r
all_checked has later same all keep rules start middle check digests digests_middle digests_last drills old between new ends layers stays counted stands one goes rises (Ok last) two =
    let loaded = check_passes has later same all keep rules start middle check last digests digests_middle digests_last drills (length all) ends layers stays counted stands one goes two in
    all_loaded has rules.profile all (HasJudgedHashed last rules digests_last) drills (length all) (omega (arith, ends)) loaded (λ files. HasJudgedAll last files rules × AreDigestsOf digests_last files (λ i. true))
    (λ files p each was. (judged_all last files rules p each was.0, λ i file d at. was.1 i file (each i (slice_get_within files i file at)) at)) (omega arith)
all_checked has later same all keep rules start middle check digests digests_middle digests_last drills old between new ends layers stays counted stands one goes rises (Err stop) (copper, (entry, at, halts), last, last_digests, two) =
    let Taken = HasJudgedHashed last rules last_digests in
    let loaded = check_passes has later same all keep rules start middle check last digests digests_middle last_digests drills copper ends layers stays counted stands one goes two in
    let inside = slice_get_within all copper entry at in
    halts_weaker (RefusesLong later copper entry) (RefusedFile has rules.profile all) (HasRisen between new) (HasRisen old new)
    (λ why long. long_refused has rules.profile all Taken drills copper (omega (arith, ends, inside)) loaded later (λ n b. (same n b).0) entry why at long) (risen_since old between new rises) stop halts
