-- A copper file whose pads are tried as they are read.
use Rattle.package_check.proofs.Common.{◌≡◌, ◌++◌, ℕ, List, [], None, Ok, Err, false, true, ap, inl, subst, sym, inr, refl, ◌∙◌, map, GridRules, Answers, Fail, without_places, LayerStands, KeptLayer, ReadsKeptIn, plain, FeatureCounts, wide_pad_covers, WidePad, layer_findings, Drilled, Finding, HasLayerView, is_copper_function, layer_view, HolesView, HasTriedIn, HasTriedPadsOf, JudgesCopper, not_copper, Judged, LayerReader, Vec}
use Rattle.grid_units.specs.declared.fault.Fail.TheVariants as fails
use Rattle.layer_features.specs.declared.keep.Keep.TheVariants as keep
use Rattle.package_check.specs.declared.contents.Content.TheVariants as content
use Rattle.board.specs.declared.FileSum.TheVariants as sum

-- what is left of a layer, of which some pads were taken
module _ (rules : GridRules) (holes : List Drilled) (layer : ℕ) (text : List ℕ) (left : List WidePad) (rest : KeptLayer) (read : ReadsKeptIn rules.profile keep.Pads left text (Ok rest)) where
  -- what the check keeps of the whole layer
  view_of_rest : HasLayerView rules.profile text (layer_view rules.profile (without_places read.0.commands))
  view_of_rest = (read.0, read.1, refl)

  pub is_left : is_copper_function rest.file_function ≡ true → (one : Judged) → one.sum ≡ sum.Layer rest.counts.flashed rest.counts.other rest.counts.contours
      → one.rings.items ≡ layer_findings wide_pad_covers rules.profile rules.ring holes layer (left ++ (map plain rest.pads ++ rest.wide_pads)) → JudgesCopper rules holes layer text (Ok one)
  is_left copper one counts rings = (
    content.Layer (layer_view rules.profile (without_places read.0.commands)),
    (view_of_rest, ap is_copper_function (sym read.2.named) ∙ copper),
    record {
      sum = counts ∙ ap (λ (n : FeatureCounts). sum.Layer n.flashed n.other n.contours) read.2.counts;
      rings = rings ∙ ap (λ (ps : List WidePad). layer_findings wide_pad_covers rules.profile rules.ring holes layer ps) (read.2.pads refl);
    },
  )

  is_no_copper : is_copper_function rest.file_function ≡ false → JudgesCopper rules holes layer text (Err not_copper)
  is_no_copper other = inr (layer_view rules.profile (without_places read.0.commands), view_of_rest, ap is_copper_function (sym read.2.named) ∙ other, refl)

  pub refused_as_no_copper : (e : Fail) → e ≡ fails.Refused not_copper → is_copper_function rest.file_function ≡ false → Answers {T = Judged} (λ one. one) (JudgesCopper rules holes layer text) (Err e)
  refused_as_no_copper e is other = subst (λ (x : Fail). Answers {T = Judged} (λ one. one) (JudgesCopper rules holes layer text) (Err x)) (sym is) (is_no_copper other)

-- the fault of the rest of a layer is that of its file
pub rest_fault : (rules : GridRules) (holes : List Drilled) (layer : ℕ) (text : List ℕ) (left : List WidePad) (e : Fail) → Answers {T = KeptLayer} (λ rest. rest) (ReadsKeptIn rules.profile keep.Pads left text) (Err e)
    → Answers {T = Judged} (λ one. one) (JudgesCopper rules holes layer text) (Err e)
rest_fault rules holes layer text left fails.Memory h = tt
rest_fault rules holes layer text left (fails.Refused f) h = inl h

-- no pad was taken so far, and none tried
pub none_tried : (holes : HolesView) (layer : ℕ) (reader : LayerReader) (text : List ℕ) → LayerStands reader holes.rules.profile keep.Pads [] text → holes.search ≡ None → HasTriedPadsOf holes layer reader text
none_tried holes layer reader text stands none = record { taken = []; read = stands; tried = subst (HasTriedIn holes.holes holes.index layer []) (sym none) refl }

-- the findings at the holes as they stand later are those at the holes as they stood
pub rings_there : (later rules : GridRules) (there holes : List Drilled) (layer : ℕ) (tried pads : List WidePad) (rings : Vec Finding) → later ≡ rules → there ≡ holes → tried ≡ pads
    → rings.items ≡ layer_findings wide_pad_covers later.profile later.ring there layer tried → rings.items ≡ layer_findings wide_pad_covers rules.profile rules.ring holes layer pads
rings_there later rules there holes layer tried pads rings same_rules same_holes same_pads is =
    is ∙ (λ j. layer_findings wide_pad_covers (same_rules j).profile (same_rules j).ring (same_holes j) layer (same_pads j))
