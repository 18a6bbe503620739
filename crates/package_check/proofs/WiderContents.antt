-- What files say in the strict profile, they say in the wide one, with further pads.
use Rattle.package_check.proofs.Common.{◌≡◌, ◌⊎◌, inl, inr, ◌↔◌, ◌<◌, ◌+◌, ◌++◌, ℕ, zero, suc, true, false, List, [], ◌∷◌, None, Ok, length, map, get_or, arith, refl, ap, ap₂, sym, subst, ◌∙◌, ⊤, option_map, AllByRecursion, Contains, cons_option, enumerate_from, filter, flat_map, list_any, flat_map-cons, Contains-append_cases, Contains-append_left, Strict, Wide, DrillCommand, calls_plated, ReadsBy, ReadsIn, mixed_in, unplated_in, IsDrillText, without_places, StrictLayers, Feature, wide_pad_covers, WidePad, Role, Said, gap_findings, ring_findings, Finding, DrillView, LayerView, HasLayerView, ReadsDrill, layer_view, FileView, BytesHaveContent, HaveContents, holes_of_all, holes_of, index_of, layers, numbered_holes, pads_of, report_on, FindsNoMore, IsUncontradicted, WideFindsNoMore, is_gap, read_in, said_in, Numbered, Content, both_ways, GridPoint, FeatureKind, pad_in, strict_kind_of, strict_view, wide_features_of, Plain, Rounded, Ring, Oblique}
use Rattle.drill_text.specs.Profiles as drills
use Rattle.layer_features.specs.declared.feature.FeatureKind.TheVariants as kind
use Rattle.layer_features.specs.Features.{pads_of as feature_pads}
use Rattle.manifest.specs.declared.Role.TheVariants as role
use Rattle.ring_rules.specs.WithoutFindings.{FindsNoObliqueInWide, WideFindsNoMore as RingsFindNoMore}
use Rattle.package_check.specs.declared.contents.Content.TheVariants as content
use Rattle.package_check.proofs.WiderFindings.{gaps_among, gaps_are, is_among, rings_are}

-- ---- the pads of standard apertures are among all pads

later : {A : Type 0} (x y : A) (xs : List A) → Contains xs x → Contains (y ∷ xs) x
later x y xs h = (suc h.0, (let lt = h.1 in omega arith), h.2)

strict_among : (features : List Feature) (w : WidePad) → Contains (feature_pads (strict_view features)) w → Contains (feature_pads features) w
strict_among [] w = λ h. h
strict_among (f ∷ fs) w = by f.at f.what (strict_among fs w)
  where
    by : (at : GridPoint) (k : FeatureKind) → (Contains (feature_pads (strict_view fs)) w → Contains (feature_pads fs) w)
        → Contains (feature_pads (cons_option (option_map (λ (j : FeatureKind). record { at = at; what = j }) (strict_kind_of k)) (strict_view fs))) w → Contains (cons_option (pad_in k) (feature_pads fs)) w
    by at (kind.Pad pad) rest h = elim (Contains-append_cases (Plain pad ∷ []) (feature_pads (strict_view fs)) w h) [
      | inl here ↦ Contains-append_left (Plain pad ∷ []) (feature_pads fs) w here
      | inr there ↦ later w (Plain pad) (feature_pads fs) (rest there)
    ]
    by at (kind.Shape pad reason) rest h = later w (Rounded pad) (feature_pads fs) (rest h)
    by at (kind.Contour pad) rest h = later w (Rounded pad) (feature_pads fs) (rest h)
    by at k rest h = rest h

-- a content has all that another has, and may have further pads
abbrev IsWider : Content → Content → Type 0
IsWider (content.Layer a) (content.Layer b) = (w : WidePad) → Contains a.pads w → Contains b.pads w
IsWider (content.Drill p v d) (content.Drill q w e) = content.Drill p v d ≡ content.Drill q w e
IsWider (content.Mixed v d) (content.Mixed w e) = content.Mixed v d ≡ content.Mixed w e
IsWider _ _ = ⊥

abbrev AreWider : List Content → List Content → Type 0
AreWider [] [] = ⊤
AreWider (c ∷ cs) (d ∷ ds) = IsWider c d × AreWider cs ds
AreWider _ _ = ⊥

module _ (layers_too : StrictLayers) (texts : (text : List ℕ) (commands : List DrillCommand) → (drills.Reads text (Ok commands)) ↔ (IsDrillText text commands))
    (drills_too : (text : List ℕ) (commands : List DrillCommand) → drills.Reads text (Ok commands) → ReadsIn Wide text (Ok commands))
    (mixed_too : (text : List ℕ) (commands : List DrillCommand) → ReadsBy (mixed_in Strict) text (Ok commands) → ReadsBy (mixed_in Wide) text (Ok commands))
    (unplated_too : (text : List ℕ) (commands : List DrillCommand) → drills.Reads text (Ok commands) → list_any calls_plated commands ≡ false → ReadsBy (unplated_in Wide) text (Ok commands)) where
  -- a layer has its pads in the wide profile too
  wider_layer : (bytes : List ℕ) (a : LayerView) → HasLayerView Strict bytes a → (b : LayerView) × HasLayerView Wide bytes b × (b.is_copper ≡ a.is_copper) × ((w : WidePad) → Contains a.pads w → Contains b.pads w)
  wider_layer bytes a h =
      let law = layers_too bytes h.0 h.1 in
      let commands = without_places h.0.commands in
      let same : a.pads ≡ feature_pads (strict_view (wide_features_of commands)) = ap (λ (v : LayerView). v.pads) h.2 ∙ ap feature_pads (sym law.features) in (
        layer_view Wide commands,
        (h.0, law.wide, refl),
        sym (ap (λ (v : LayerView). v.is_copper) h.2),
        λ w among. strict_among (wide_features_of commands) w (subst (λ (ps : List WidePad). Contains ps w) same among),
      )

  wider_drill : (bytes : List ℕ) (drill : DrillView) → ReadsDrill Strict None true bytes (Ok drill) → ReadsDrill Wide None true bytes (Ok drill)
  wider_drill bytes drill h = (h.0, drills_too bytes h.0 ((texts bytes h.0).1 h.1), h.2)

  -- and a file that its role calls unplated, where it does not contradict that
  wider_unplated : (bytes : List ℕ) (drill : DrillView) → ((commands : List DrillCommand) → IsDrillText bytes commands → list_any calls_plated commands ≡ false) → ReadsDrill Strict None false bytes (Ok drill) → ReadsDrill Wide None false bytes (Ok drill)
  wider_unplated bytes drill silent h = (h.0, unplated_too bytes h.0 ((texts bytes h.0).1 h.1) (silent h.0 h.1), h.2)

  wider_file : (q : Role) (name : List ℕ) (said : Said) (bytes : List ℕ) (n : ℕ) (c : Content) → (q ≡ role.Unplated → (commands : List DrillCommand) → IsDrillText bytes commands → list_any calls_plated commands ≡ false)
      → BytesHaveContent (record { role = q; name = name; said = said; bytes = bytes; setting = record { layers = n; profile = Strict } }) c
      → (d : Content) × BytesHaveContent (record { role = q; name = name; said = said_in Wide said; bytes = bytes; setting = record { layers = n; profile = Wide } }) d × IsWider c d
  wider_file role.Copper name said bytes n (content.Layer a) silent h = let more = wider_layer bytes a h.0 in (content.Layer more.0, (more.1, more.2 ∙ h.1), more.3)
  wider_file role.Mixed name said bytes n (content.Mixed v d) silent h = (content.Mixed v d, ((h.0.0, mixed_too bytes h.0.0 h.0.1, h.0.2), h.1), refl)
  wider_file role.Plated name said bytes n (content.Drill p v d) silent h = (content.Drill p v d, (wider_drill bytes d h.0, h.1, h.2), refl)
  wider_file role.Unplated name said bytes n (content.Drill p v d) silent h = (content.Drill p v d, (wider_unplated bytes d (silent refl) h.0, h.1, h.2), refl)
  wider_file q name said bytes n c silent h = absurd h

  wider_files : (sources : List FileView) (cs : List Content) → HaveContents (map (read_in Strict) sources) cs → AllByRecursion IsUncontradicted sources → (ds : List Content) × HaveContents (map (read_in Wide) sources) ds × AreWider cs ds
  wider_files [] [] h silent = ([], tt, tt)
  wider_files (s ∷ ss) (c ∷ cs) h silent =
      let one = wider_file s.role s.name s.said s.bytes s.setting.layers c silent.0 h.0.1 in
      let rest = wider_files ss cs h.1 silent.1 in
      (one.0 ∷ rest.0, ((h.0.0, one.1), rest.1), (one.2, rest.2))
  wider_files ss cs h silent = absurd h

-- ---- what wider contents have

same_holes : (n : ℕ) (c d : Content) → IsWider c d → holes_of (n, d) ≡ holes_of (n, c)
same_holes n (content.Layer a) (content.Layer b) h = refl
same_holes n (content.Drill p v d) (content.Drill q w e) h = ap (λ (one : Content). holes_of (n, one)) (sym h)
same_holes n (content.Mixed v d) (content.Mixed w e) h = ap (λ (one : Content). holes_of (n, one)) (sym h)
same_holes n c d h = absurd h

same_index : (n : ℕ) (c d : Content) → IsWider c d → index_of (n, d) ≡ index_of (n, c)
same_index n (content.Layer a) (content.Layer b) h = refl
same_index n (content.Drill p v d) (content.Drill q w e) h = refl
same_index n (content.Mixed v d) (content.Mixed w e) h = refl
same_index n c d h = absurd h

same_over : {Y : Type 0} (f : ℕ × Content → List Y) → ((n : ℕ) (c d : Content) → IsWider c d → f (n, d) ≡ f (n, c)) → (n : ℕ) (cs ds : List Content) → AreWider cs ds → flat_map f (enumerate_from n ds) ≡ flat_map f (enumerate_from n cs)
same_over f one n [] [] h = refl
same_over {Y} f one n (c ∷ cs) (d ∷ ds) h =
    flat_map-cons f (n, d) (enumerate_from (n + 1) ds)
    ∙ (ap₂ (λ (xs ys : List Y). xs ++ ys) (one n c d h.0) (same_over f one (n + 1) cs ds h.1) ∙ sym (flat_map-cons f (n, c) (enumerate_from (n + 1) cs)))
same_over f one n cs ds h = absurd h

-- the pads of each layer are among those of the same layer
wider_pads : (cs ds : List Content) → AreWider cs ds → (length (layers cs) ≡ length (layers ds)) × ((l : ℕ) (w : WidePad) → l < length (layers cs) → Contains (get_or (layers cs) l []) w → Contains (get_or (layers ds) l []) w)
wider_pads [] [] h = (refl, λ l w lt c. c)
wider_pads [] (d ∷ ds) h = absurd h
wider_pads (c ∷ cs) [] h = absurd h
wider_pads (c ∷ cs) (d ∷ ds) h =
    subst (λ (xs : List (List WidePad)). (length xs ≡ length (layers (d ∷ ds))) × ((l : ℕ) (w : WidePad) → l < length xs → Contains (get_or xs l []) w → Contains (get_or (layers (d ∷ ds)) l []) w)) (sym (flat_map-cons pads_of c cs))
    (subst (λ (ys : List (List WidePad)). (length (pads_of c ++ layers cs) ≡ length ys) × ((l : ℕ) (w : WidePad) → l < length (pads_of c ++ layers cs) → Contains (get_or (pads_of c ++ layers cs) l []) w → Contains (get_or ys l []) w)) (sym (flat_map-cons pads_of d ds))
    (first c d h.0 (wider_pads cs ds h.1)))
  where
    first : (a b : Content) → IsWider a b → (length (layers cs) ≡ length (layers ds)) × ((l : ℕ) (w : WidePad) → l < length (layers cs) → Contains (get_or (layers cs) l []) w → Contains (get_or (layers ds) l []) w)
        → (length (pads_of a ++ layers cs) ≡ length (pads_of b ++ layers ds)) × ((l : ℕ) (w : WidePad) → l < length (pads_of a ++ layers cs) → Contains (get_or (pads_of a ++ layers cs) l []) w → Contains (get_or (pads_of b ++ layers ds) l []) w)
    first (content.Layer a) (content.Layer b) one rest = (ap suc rest.0, by one rest.1)
      where
        by : ((w : WidePad) → Contains a.pads w → Contains b.pads w) → ((l : ℕ) (w : WidePad) → l < length (layers cs) → Contains (get_or (layers cs) l []) w → Contains (get_or (layers ds) l []) w)
            → (l : ℕ) (w : WidePad) → l < length (a.pads ∷ layers cs) → Contains (get_or (a.pads ∷ layers cs) l []) w → Contains (get_or (b.pads ∷ layers ds) l []) w
        by one rest zero w lt among = one w among
        by one rest (suc l) w lt among = rest l w (omega arith) among
    first (content.Drill p v e) (content.Drill q w g) one rest = rest
    first (content.Mixed v e) (content.Mixed w g) one rest = rest
    first a b one rest = absurd one

-- ---- the reports

module _ (rings_no_more : RingsFindNoMore {S = WidePad} {W = WidePad} wide_pad_covers wide_pad_covers) (no_oblique : FindsNoObliqueInWide wide_pad_covers) (ring gap : ℕ) (cs ds : List Content) (wider : AreWider cs ds) where
  all_same : numbered_holes ds ≡ numbered_holes cs
  all_same = same_over holes_of same_holes 0 cs ds wider

  drilled_same : holes_of_all ds ≡ holes_of_all cs
  drilled_same = ap (map (λ (hole : Numbered). hole.drilled)) all_same

  abbrev wide_rings : List Finding
  wide_rings = ring_findings wide_pad_covers Wide ring (layers ds) (holes_of_all cs)

  ring_there : (l h : ℕ) → Contains wide_rings (Ring l h) → Contains (ring_findings wide_pad_covers Strict ring (layers cs) (holes_of_all cs)) (Ring l h) ⊎ Contains (ring_findings wide_pad_covers Strict ring (layers cs) (holes_of_all cs)) (Oblique l h)
  ring_there l h =
      let pads = wider_pads cs ds wider in
      rings_no_more (λ w. w) ring (layers cs) (layers ds) (holes_of_all cs) l h (record { as_many = pads.0; same = λ s p r. refl; among = pads.1 })

  beside : {A B : Type 0} (f : A → B) {C D : Type 0} (g : C → D) → A ⊎ C → B ⊎ D
  beside f g (inl a) = inl (f a)
  beside f g (inr c) = inr (g c)

  among_rings : (f : Finding) → is_gap f ≡ false → Contains (wide_rings ++ gap_findings gap (holes_of_all cs)) f → Contains wide_rings f
  among_rings f other c = by (Contains-append_cases wide_rings (gap_findings gap (holes_of_all cs)) f c)
    where
      by : Contains wide_rings f ⊎ Contains (gap_findings gap (holes_of_all cs)) f → Contains wide_rings f
      by (inl here) = here
      by (inr there) = absurd (both_ways (is_gap f) other (is_among true (gap_findings gap (holes_of_all cs)) f (gaps_are gap (holes_of_all cs)) there))

  pub finds_no_more : FindsNoMore (report_on (record { ring = ring; gap = gap; profile = Wide }) ds) (report_on (record { ring = ring; gap = gap; profile = Strict }) cs)
  finds_no_more =
      let there = ring_findings wide_pad_covers Strict ring (layers cs) (holes_of_all cs) in
      let gaps = gap_findings gap (holes_of_all cs) in
      let found : ring_findings wide_pad_covers Wide ring (layers ds) (holes_of_all ds) ++ gap_findings gap (holes_of_all ds) ≡ wide_rings ++ gaps =
      (λ i. ring_findings wide_pad_covers Wide ring (layers ds) (drilled_same i) ++ gap_findings gap (drilled_same i)) in
      record {
        layers = same_over index_of same_index 0 cs ds wider;
        holes = all_same;
        gaps = ap (filter is_gap) found ∙ (gaps_among wide_rings gaps (rings_are wide_pad_covers Wide ring (layers ds) (holes_of_all cs)) (gaps_are gap (holes_of_all cs))
            ∙ sym (gaps_among there gaps (rings_are wide_pad_covers Strict ring (layers cs) (holes_of_all cs)) (gaps_are gap (holes_of_all cs))));
        rings = λ layer hole c.
            beside (Contains-append_left there gaps (Ring layer hole)) (Contains-append_left there gaps (Oblique layer hole))
            (ring_there layer hole (among_rings (Ring layer hole) refl (subst (λ (fs : List Finding). Contains fs (Ring layer hole)) found c)));
        angles = λ layer hole c. no_oblique ring (layers ds) (holes_of_all cs) layer hole (among_rings (Oblique layer hole) refl (subst (λ (fs : List Finding). Contains fs (Oblique layer hole)) found c));
      }

pub wide_finds_no_more : StrictLayers → ((text : List ℕ) (commands : List DrillCommand) → (drills.Reads text (Ok commands)) ↔ (IsDrillText text commands))
    → ((text : List ℕ) (commands : List DrillCommand) → drills.Reads text (Ok commands) → ReadsIn Wide text (Ok commands))
    → ((text : List ℕ) (commands : List DrillCommand) → ReadsBy (mixed_in Strict) text (Ok commands) → ReadsBy (mixed_in Wide) text (Ok commands))
    → ((text : List ℕ) (commands : List DrillCommand) → drills.Reads text (Ok commands) → list_any calls_plated commands ≡ false → ReadsBy (unplated_in Wide) text (Ok commands)) → RingsFindNoMore {S = WidePad} {W = WidePad} wide_pad_covers wide_pad_covers → FindsNoObliqueInWide wide_pad_covers → WideFindsNoMore
wide_finds_no_more layers_too texts drills_too mixed_too unplated_too rings_no_more no_oblique sources ring gap strict h silent =
    let more = wider_files layers_too texts drills_too mixed_too unplated_too sources h.contents h.read silent in
    let wide = report_on (record { ring = ring; gap = gap; profile = Wide }) more.0 in
    (wide, record { contents = more.0; read = more.1; is = refl }, subst (FindsNoMore wide) (sym h.is) (finds_no_more rings_no_more no_oblique ring gap h.contents more.0 more.2))
