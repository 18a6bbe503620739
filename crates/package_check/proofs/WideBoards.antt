-- What the wide profile says of the files of a board that was read in the strict one.
use Rattle.package_check.proofs.Common.{◌≡◌, inl, inr, ◌↔◌, ◌<◌, ◌+◌, ◌++◌, ◌||◌, ◌&&◌, ℕ, suc, Bool, true, false, not, List, [], ◌∷◌, Result, Ok, Err, length, map, get_or, arith, refl, ap, ap₂, sym, subst, ◌∙◌, ⊤, option_map, or_cases, AllByRecursion, cons_option, enumerate_from, filter, flat_map, list_any, length-map, flat_map-cons, Fault, GridRules, Profile, Strict, Wide, DrillCommand, calls_plated, IsDrillText, without_places, LayerImage, ReadingIsUniqueIn, ReadsLayerIn, StrictLayers, Feature, wide_pad_covers, WidePad, Role, Said, finding_of, gap_findings, is_refused_slot, layer_findings, ring_findings, is_in_span, Drilled, Finding, DrillView, LayerView, HasContours, HasLayerView, HasMacros, FileView, BytesHaveContent, HaveContents, IsFirstRefused, IsReport, IsAnswer, AnswerExists, AreFileLists, BoardView, OfCopper, holes_of_all, index_of, is_copper, layers, pads_of, report_on, sum_of, ReportView, IsUncontradicted, ReadIsUncontradicted, WideFindsNoMore, read_in, said_in, Numbered, Content, both_ways, GridPoint, FeatureKind, contour_pad, macro_pad, pad_in, strict_kind_of, strict_view, uncounted_contours, uncounted_macros, wide_features_of, Plain, Rounded, list_any-append, WideAnswersByBoard, is_called_plated, in_wide, layer_rings, wide_rings, or_is_false}
use Rattle.drill_text.specs.Profiles as drills
use Rattle.pad_shapes.specs.Holding.{covers_hole}
use Rattle.layer_features.specs.declared.feature.FeatureKind.TheVariants as kind
use Rattle.layer_features.specs.Features.{pads_of as feature_pads}
use Rattle.manifest.specs.declared.Role.TheVariants as role
use Rattle.package_check.specs.declared.contents.Content.TheVariants as content
use Rattle.package_check.proofs.Passing.{all_drilled}
use Rattle.package_check.proofs.FlashReadingLemmas.{ok_same}

-- ---- the pads of a layer

-- whatever is asked of a pad, the pads of two lists answer alike
abbrev Alike : List WidePad → List WidePad → Type 0
Alike xs ys = (test : WidePad → Bool) → list_any test xs ≡ list_any test ys

first : (x a b c : Bool) → (x || ((a || b) || c)) ≡ (((x || a) || b) || c)
first true a b c = refl
first false a b c = refl

second : (x a b c : Bool) → (x || ((a || b) || c)) ≡ ((a || (x || b)) || c)
second true true b c = refl
second true false b c = refl
second false a b c = refl

third : (x a b c : Bool) → (x || ((a || b) || c)) ≡ ((a || b) || (x || c))
third true true b c = refl
third true false true c = refl
third true false false c = refl
third false a b c = refl

-- what is asked is so of a pad that the strict profile counts, of the shape of a macro, or of a contour
abbrev of_plain : (WidePad → Bool) → List Feature → Bool
of_plain test features = list_any test (feature_pads (strict_view features))

abbrev of_macros : (WidePad → Bool) → List Feature → Bool
of_macros test features = list_any test (uncounted_macros Strict features)

abbrev of_contours : (WidePad → Bool) → List Feature → Bool
of_contours test features = list_any test (uncounted_contours Strict features)

-- a pad of the wide profile is one of the strict profile, the shape of a macro, or a contour
any_pad : (test : WidePad → Bool) (features : List Feature)
    → list_any test (feature_pads features) ≡ ((of_plain test features || of_macros test features) || of_contours test features)
any_pad test [] = refl
any_pad test (f ∷ fs) = by f.at f.what (any_pad test fs)
  where
    by : (at : GridPoint) (k : FeatureKind) → list_any test (feature_pads fs) ≡ ((of_plain test fs || of_macros test fs) || of_contours test fs)
        → list_any test (cons_option (pad_in k) (feature_pads fs))
        ≡ ((list_any test (feature_pads (cons_option (option_map (λ (j : FeatureKind). record { at = at; what = j }) (strict_kind_of k)) (strict_view fs))) || list_any test (cons_option (macro_pad k) (uncounted_macros Strict fs)))
        || list_any test (cons_option (contour_pad k) (uncounted_contours Strict fs)))
    by at (kind.Pad pad) rest = ap (λ (b : Bool). test (Plain pad) || b) rest ∙ first (test (Plain pad)) (of_plain test fs) (of_macros test fs) (of_contours test fs)
    by at (kind.Shape pad reason) rest = ap (λ (b : Bool). test (Rounded pad) || b) rest ∙ second (test (Rounded pad)) (of_plain test fs) (of_macros test fs) (of_contours test fs)
    by at (kind.Contour pad) rest = ap (λ (b : Bool). test (Rounded pad) || b) rest ∙ third (test (Rounded pad)) (of_plain test fs) (of_macros test fs) (of_contours test fs)
    by at k rest = rest

module _ (layers_too : StrictLayers) (once : ReadingIsUniqueIn) where
  same_image : (profile : Profile) (bytes : List ℕ) (i j : LayerImage) → ReadsLayerIn profile bytes (Ok i) → ReadsLayerIn profile bytes (Ok j) → i ≡ j
  same_image profile bytes i j h k = ok_same (once profile bytes (Ok i) (Ok j) h k)

  -- the pads of a layer in the wide profile are its pads in the strict one, and those that this does not count
  all_of_layer : (bytes : List ℕ) (a b : LayerView) (macros contours : List WidePad) → HasLayerView Strict bytes a → HasLayerView Wide bytes b → HasMacros Strict bytes macros → HasContours Strict bytes contours
      → Alike b.pads ((a.pads ++ macros) ++ contours)
  all_of_layer bytes a b macros contours read widely has_macros has_contours test =
      let law = layers_too bytes read.0 read.1 in
      let features = wide_features_of (without_places read.0.commands) in
      let plain_is : a.pads ≡ feature_pads (strict_view features) = ap (λ (v : LayerView). v.pads) read.2 ∙ ap feature_pads (sym law.features) in
      let macros_are : macros ≡ uncounted_macros Strict features =
      has_macros.2 ∙ ap (λ (i : LayerImage). uncounted_macros Strict (wide_features_of (without_places i.commands))) (same_image Strict bytes has_macros.0 read.0 has_macros.1 read.1) in
      let contours_are : contours ≡ uncounted_contours Strict features =
      has_contours.2 ∙ ap (λ (i : LayerImage). uncounted_contours Strict (wide_features_of (without_places i.commands))) (same_image Strict bytes has_contours.0 read.0 has_contours.1 read.1) in
      let all_are : b.pads ≡ feature_pads features =
      ap (λ (v : LayerView). v.pads) widely.2 ∙ ap (λ (i : LayerImage). feature_pads (wide_features_of (without_places i.commands))) (same_image Wide bytes widely.0 read.0 widely.1 law.wide) in
      let ps = feature_pads (strict_view features) in
      let ms = uncounted_macros Strict features in
      let cs = uncounted_contours Strict features in
      ap (list_any test) all_are
      ∙ (any_pad test features
      ∙ (sym (list_any-append test (ps ++ ms) cs ∙ ap (λ (b : Bool). b || list_any test cs) (list_any-append test ps ms))
      ∙ sym (λ i. list_any test ((plain_is i ++ macros_are i) ++ contours_are i))))

  -- ---- the contents of a file in both profiles

  -- two contents are of one kind, and the pads of a layer are those of the other, and these
  abbrev Suit : List WidePad → List WidePad → Content → Content → Type 0
  Suit macros contours (content.Layer a) (content.Layer b) = Alike b.pads ((a.pads ++ macros) ++ contours)
  Suit macros contours (content.Drill p v d) (content.Drill q w e) = ⊤
  Suit macros contours (content.Mixed v d) (content.Mixed w e) = ⊤
  Suit macros contours _ _ = ⊥

  suit : (q : Role) (name : List ℕ) (said : Said) (bytes : List ℕ) (n : ℕ) (macros contours : List WidePad) (c d : Content)
      → BytesHaveContent (record { role = q; name = name; said = said; bytes = bytes; setting = record { layers = n; profile = Strict } }) c
      → BytesHaveContent (record { role = q; name = name; said = said_in Wide said; bytes = bytes; setting = record { layers = n; profile = Wide } }) d
      → (is_copper q ≡ true → HasMacros Strict bytes macros) → (is_copper q ≡ true → HasContours Strict bytes contours) → Suit macros contours c d
  suit role.Copper name said bytes n macros contours (content.Layer a) (content.Layer b) h k ms cs = all_of_layer bytes a b macros contours h.0 k.0 (ms refl) (cs refl)
  suit role.Plated name said bytes n macros contours (content.Drill p v d) (content.Drill q w e) h k ms cs = tt
  suit role.Unplated name said bytes n macros contours (content.Drill p v d) (content.Drill q w e) h k ms cs = tt
  suit role.Mixed name said bytes n macros contours (content.Mixed v d) (content.Mixed w e) h k ms cs = tt
  suit role.Copper name said bytes n macros contours (content.Layer a) other h k ms cs = absurd k
  suit role.Plated name said bytes n macros contours (content.Drill p v d) other h k ms cs = absurd k
  suit role.Unplated name said bytes n macros contours (content.Drill p v d) other h k ms cs = absurd k
  suit role.Mixed name said bytes n macros contours (content.Mixed v d) other h k ms cs = absurd k
  suit q name said bytes n macros contours one other h k ms cs = absurd h

  module _ (macros contours : ℕ → List WidePad) where
    -- so it is of each file, by its index
    abbrev Suits : ℕ → List Content → List Content → Type 0
    Suits k [] [] = ⊤
    Suits k (c ∷ cs) (d ∷ ds) = Suit (macros k) (contours k) c d × Suits (k + 1) cs ds
    Suits k _ _ = ⊥

    -- the files from an index on have such pads
    abbrev Have : (Profile → List ℕ → List WidePad → Type 0) → (ℕ → List WidePad) → ℕ → List FileView → Type 0
    Have Has pads k ss = (j : ℕ) (s : FileView) → j < length ss → OfCopper Has (get_or (map (read_in Strict) ss) j s) (pads (k + j))

    have_here : (Has : Profile → List ℕ → List WidePad → Type 0) (pads : ℕ → List WidePad) (k : ℕ) (s : FileView) (ss : List FileView) → Have Has pads k (s ∷ ss) → OfCopper Has (read_in Strict s) (pads k)
    have_here Has pads k s ss h = let e : k + 0 ≡ k = omega arith in subst (λ (n : ℕ). OfCopper Has (read_in Strict s) (pads n)) e (h 0 s (omega arith))

    have_later : (Has : Profile → List ℕ → List WidePad → Type 0) (pads : ℕ → List WidePad) (k : ℕ) (s : FileView) (ss : List FileView) → Have Has pads k (s ∷ ss) → Have Has pads (k + 1) ss
    have_later Has pads k s ss h j t lt =
        let e : k + suc j ≡ (k + 1) + j = omega arith in subst (λ (n : ℕ). OfCopper Has (get_or (map (read_in Strict) ss) j t) (pads n)) e (h (suc j) t (omega arith))

    suits : (k : ℕ) (ss : List FileView) (cs ds : List Content) → HaveContents (map (read_in Strict) ss) cs → HaveContents (map (read_in Wide) ss) ds → Have HasMacros macros k ss → Have HasContours contours k ss → Suits k cs ds
    suits k [] [] [] h w ms ks = tt
    suits k [] [] ds h w ms ks = absurd w
    suits k (s ∷ ss) (c ∷ cs) [] h w ms ks = absurd w
    suits k (s ∷ ss) (c ∷ cs) (d ∷ ds) h w ms ks = (
      suit s.role s.name s.said s.bytes s.setting.layers (macros k) (contours k) c d h.0.1 w.0.1 (have_here HasMacros macros k s ss ms) (have_here HasContours contours k s ss ks),
      suits (k + 1) ss cs ds h.1 w.1 (have_later HasMacros macros k s ss ms) (have_later HasContours contours k s ss ks),
    )
    suits k ss cs ds h w ms ks = absurd h

    -- ---- the findings

    module _ (ring : ℕ) (holes : List Drilled) (pads : ℕ → List WidePad) where
      abbrev found : ℕ → List WidePad → List Finding
      found l ps = layer_findings wide_pad_covers Wide ring holes l ps

      found_alike : (l : ℕ) (xs ys : List WidePad) → Alike xs ys → found l xs ≡ found l ys
      found_alike l xs ys alike =
          λ i. map (finding_of Wide l)
          (filter (λ (hole : ℕ × Drilled). (hole.1.plated && is_in_span l hole.1.span) && (is_refused_slot Wide hole.1.hole || not (alike (covers_hole wide_pad_covers ring hole.1.hole) i))) (enumerate_from 0 holes))

      abbrev by_layer : ℕ × List WidePad → List Finding
      by_layer layer = found layer.0 layer.1

      abbrev by_file : ℕ × ℕ → List Finding
      by_file layer = found layer.0 ((pads layer.0 ++ macros layer.1) ++ contours layer.1)

      abbrev Stands : ℕ → List (List WidePad) → Type 0
      Stands l lists = (j : ℕ) → pads (l + j) ≡ get_or lists j []

      abbrev AreFound : ℕ → ℕ → List (List WidePad) → List ℕ → Type 0
      AreFound k l lists files = flat_map by_layer (enumerate_from l lists) ≡ flat_map by_file (enumerate_from l files)

      all_found : (k l : ℕ) (cs ds : List Content) → Suits k cs ds → Stands l (layers cs) → AreFound k l (layers ds) (flat_map index_of (enumerate_from k cs))
      all_found k l [] [] s h = refl
      all_found k l [] (d ∷ ds) s h = absurd s
      all_found k l (c ∷ cs) [] s h = absurd s
      all_found k l (c ∷ cs) (d ∷ ds) s h =
          ap (λ (xs : List (List WidePad)). flat_map by_layer (enumerate_from l xs)) (flat_map-cons pads_of d ds)
          ∙ (one c d s.0 (λ m. all_found (k + 1) m cs ds s.1) (λ j. h j ∙ ap (λ (xs : List (List WidePad)). get_or xs j []) (flat_map-cons pads_of c cs))
          ∙ sym (ap (λ (xs : List ℕ). flat_map by_file (enumerate_from l xs)) (flat_map-cons index_of (k, c) (enumerate_from (k + 1) cs))))
        where
          one : (a b : Content) → Suit (macros k) (contours k) a b → ((m : ℕ) → Stands m (layers cs) → AreFound (k + 1) m (layers ds) (flat_map index_of (enumerate_from (k + 1) cs))) → Stands l (pads_of a ++ layers cs)
              → AreFound k l (pads_of b ++ layers ds) (index_of (k, a) ++ flat_map index_of (enumerate_from (k + 1) cs))
          one (content.Layer a) (content.Layer b) alike rest there =
              let here : pads l ≡ a.pads = ap pads (let e : l ≡ l + 0 = omega arith in e) ∙ there 0 in
              flat_map-cons by_layer (l, b.pads) (enumerate_from (l + 1) (layers ds))
              ∙ (ap₂ (λ (xs ys : List Finding). xs ++ ys)
              (found_alike l b.pads ((a.pads ++ macros k) ++ contours k) alike ∙ ap (λ (ps : List WidePad). found l ((ps ++ macros k) ++ contours k)) (sym here))
              (rest (l + 1) (λ j. ap pads (let e : (l + 1) + j ≡ l + suc j = omega arith in e) ∙ there (suc j)))
              ∙ sym (flat_map-cons by_file (l, k) (enumerate_from (l + 1) (flat_map index_of (enumerate_from (k + 1) cs)))))
          one (content.Drill p v d) (content.Drill q w e) alike rest there = rest l there
          one (content.Mixed v d) (content.Mixed w e) alike rest there = rest l there
          one a b alike rest there = absurd alike

-- ---- files that contradict their role

module _ (texts : (text : List ℕ) (commands : List DrillCommand) → (drills.Reads text (Ok commands)) ↔ (IsDrillText text commands))
    (reads_once : (text : List ℕ) (a b : Result (List DrillCommand) Fault) → drills.Reads text a → drills.Reads text b → a ≡ b) where
  same_text : (text : List ℕ) (a b : List DrillCommand) → IsDrillText text a → IsDrillText text b → a ≡ b
  same_text text a b h k = ok_same (reads_once text (Ok a) (Ok b) ((texts text a).1 h) ((texts text b).1 k))

  silent : (q : Role) (name : List ℕ) (said : Said) (bytes : List ℕ) (n : ℕ) (c : Content) → BytesHaveContent (record { role = q; name = name; said = said; bytes = bytes; setting = record { layers = n; profile = Strict } }) c
      → is_called_plated (sum_of c) ≡ false → q ≡ role.Unplated → (commands : List DrillCommand) → IsDrillText bytes commands → list_any calls_plated commands ≡ false
  silent role.Unplated name said bytes n (content.Drill p v d) h none is commands text =
      let said : d.contradicted ≡ list_any calls_plated h.0.0 = ap (λ (view : DrillView). view.contradicted) h.0.2 in
      ap (list_any calls_plated) (same_text bytes commands h.0.0 text h.0.1) ∙ (sym said ∙ (sym (ap (λ (b : Bool). not b && d.contradicted) h.1) ∙ none))
  silent role.Unplated name said bytes n c h none is commands text = absurd h
  silent q name said bytes n c h none is commands text = absurd cc

  all_silent : (ss : List FileView) (cs : List Content) → HaveContents (map (read_in Strict) ss) cs → list_any is_called_plated (map sum_of cs) ≡ false → AllByRecursion IsUncontradicted ss
  all_silent [] cs h none = tt
  all_silent (s ∷ ss) [] h none = absurd h
  all_silent (s ∷ ss) (c ∷ cs) h none =
      let two = or_is_false (is_called_plated (sum_of c)) (list_any is_called_plated (map sum_of cs)) none in
      (silent s.role s.name s.said s.bytes s.setting.layers c h.0.1 two.0, all_silent ss cs h.1 two.1)

  -- a file that contradicts its role, and whose holes no comment calls plated
  not_silent : (q : Role) (name : List ℕ) (said : Said) (bytes : List ℕ) (n : ℕ) (c : Content) → BytesHaveContent (record { role = q; name = name; said = said; bytes = bytes; setting = record { layers = n; profile = Strict } }) c
      → is_called_plated (sum_of c) ≡ true → (q ≡ role.Unplated → (commands : List DrillCommand) → IsDrillText bytes commands → list_any calls_plated commands ≡ false) → ⊥
  not_silent role.Unplated name said bytes n (content.Drill p v d) h some free =
      let said : d.contradicted ≡ list_any calls_plated h.0.0 = ap (λ (view : DrillView). view.contradicted) h.0.2 in
      both_ways d.contradicted (said ∙ free refl h.0.0 h.0.1) (sym (ap (λ (b : Bool). not b && d.contradicted) h.1) ∙ some)
  not_silent role.Plated name said bytes n (content.Drill p v d) h some free = both_ways false refl (sym (ap (λ (b : Bool). not b && d.contradicted) h.1) ∙ some)
  not_silent role.Copper name said bytes n (content.Layer a) h some free = both_ways false refl some
  not_silent role.Mixed name said bytes n (content.Mixed v d) h some free = both_ways false refl some
  not_silent q name said bytes n c h some free = absurd h

  -- so the wide profile does not read them all
  not_read : ReadIsUncontradicted → (ss : List FileView) (cs ds : List Content) → HaveContents (map (read_in Strict) ss) cs → HaveContents (map (read_in Wide) ss) ds → list_any is_called_plated (map sum_of cs) ≡ true → ⊥
  not_read free [] [] ds h w some = both_ways false refl some
  not_read free [] (c ∷ cs) ds h w some = absurd h
  not_read free (s ∷ ss) [] ds h w some = absurd h
  not_read free (s ∷ ss) (c ∷ cs) [] h w some = absurd w
  not_read free (s ∷ ss) (c ∷ cs) (d ∷ ds) h w some = elim (or_cases (is_called_plated (sum_of c)) (list_any is_called_plated (map sum_of cs)) some) [
    | inl here ↦ not_silent s.role s.name s.said s.bytes s.setting.layers c h.0.1 here (free s d w.0)
    | inr there ↦ not_read free ss cs ds h.1 w.1 there
  ]

-- ---- the answer

pub wide_answers_by_board : StrictLayers → ReadingIsUniqueIn → ((text : List ℕ) (commands : List DrillCommand) → (drills.Reads text (Ok commands)) ↔ (IsDrillText text commands))
    → ((text : List ℕ) (a b : Result (List DrillCommand) Fault) → drills.Reads text a → drills.Reads text b → a ≡ b) → ReadIsUncontradicted → WideFindsNoMore → AnswerExists → WideAnswersByBoard
wide_answers_by_board layers_too once texts reads_once free no_more exists sources rules board h = record {
  refuses = λ some. refused some (exists (map (read_in Wide) sources) (in_wide rules));
  reads = read;
}
  where
    files_are : board.files ≡ map sum_of h.is.contents
    files_are = ap (λ (b : BoardView). b.files) h.is.is

    refused : list_any is_called_plated board.files ≡ true → (answer : Result ReportView (ℕ × Fault)) × IsAnswer (map (read_in Wide) sources) (in_wide rules) answer → (index : ℕ) × (fault : Fault) × IsFirstRefused (map (read_in Wide) sources) index fault
    refused some (Ok wide, is) = absurd (not_read texts reads_once free sources h.is.contents is.contents h.is.read is.read (sym (ap (list_any is_called_plated) files_are) ∙ some))
    refused some (Err why, is) = (why.0, why.1, is)

    have : (Has : Profile → List ℕ → List WidePad → Type 0) (lists : List (List WidePad)) → AreFileLists (OfCopper Has) (map (read_in Strict) sources) lists
        → (j : ℕ) (s : FileView) → j < length sources → OfCopper Has (get_or (map (read_in Strict) sources) j s) (get_or lists (0 + j) [])
    have Has lists are j s lt =
        let e : j ≡ 0 + j = omega arith in
        subst (λ (n : ℕ). OfCopper Has (get_or (map (read_in Strict) sources) j s) (get_or lists n [])) e (are.each j s (omega (arith, length-map sources (read_in Strict), lt)))

    read : list_any is_called_plated board.files ≡ false → (wide : ReportView) × IsReport (map (read_in Wide) sources) (in_wide rules) wide × (wide.findings ≡ wide_rings rules board ++ gap_findings rules.gap board.holes)
    read none =
        let strict : GridRules = record { ring = rules.ring; gap = rules.gap; profile = Strict } in
        let more = no_more sources rules.ring rules.gap (report_on strict h.is.contents) (record { contents = h.is.contents; read = h.is.read; is = refl }) (all_silent texts reads_once sources h.is.contents h.is.read (sym (ap (list_any is_called_plated) files_are) ∙ none)) in
        let ds = more.1.contents in
        let pads : ℕ → List WidePad = λ layer. get_or board.layers layer [] in
        let macros : ℕ → List WidePad = λ file. get_or board.macros file [] in
        let contours : ℕ → List WidePad = λ file. get_or board.contours file [] in
        let same_holes : holes_of_all ds ≡ board.holes =
        ap (map (λ (hole : Numbered). hole.drilled)) (sym (ap (λ (r : ReportView). r.holes) more.1.is) ∙ more.2.holes) ∙ (all_drilled h.is.contents ∙ sym (ap (λ (b : BoardView). b.holes) h.is.is)) in
        let stands : (j : ℕ) → pads (0 + j) ≡ get_or (layers h.is.contents) j [] =
        λ j. ap pads (let e : 0 + j ≡ j = omega arith in e) ∙ ap (λ (b : BoardView). get_or b.layers j []) h.is.is in
        let suited = suits layers_too once macros contours 0 sources h.is.contents ds h.is.read more.1.read (have HasMacros board.macros h.macros) (have HasContours board.contours h.contours) in
        let rings : ring_findings wide_pad_covers Wide rules.ring (layers ds) board.holes ≡ wide_rings rules board =
        all_found layers_too once macros contours rules.ring board.holes pads 0 0 h.is.contents ds suited stands
        ∙ ap (λ (b : BoardView). flat_map (layer_rings (in_wide rules) board) (enumerate_from 0 b.layer_indexes)) (sym h.is.is) in (
          more.0,
          more.1,
          ap (λ (r : ReportView). r.findings) more.1.is
              ∙ ((λ i. ring_findings wide_pad_covers Wide rules.ring (layers ds) (same_holes i) ++ gap_findings rules.gap (same_holes i)) ∙ ap (λ (fs : List Finding). fs ++ gap_findings rules.gap board.holes) rings),
        )
