-- Rewritten files say the same.
use Rattle.ringcheck.proofs.Common.{◌≡◌, ◌↔◌, ℕ, Bool, true, false, List, [], ◌∷◌, None, Option, Result, Ok, Err, refl, sym, ap, subst, ◌∙◌, inl, inr, false≢true, list_any, Profile, Strict, Wide, FileView, ReadsBytes, ReadsUnlessBadSpan, ReadsCopper, ReadsHoles, Setting, is_bad_span}
use Rattle.grid_units.specs.declared.fault.Fault.{Fault}
use Rattle.gerber_text.specs.Writing.{without_places}
use Rattle.drill_lines.specs.declared.command.CoordinateFormat.{CoordinateFormat}
use Rattle.drill_lines.specs.declared.command.DrillCommand.{DrillCommand}
use Rattle.drill_text.specs.MixedLaws.{KindsReadTheSame, UncontradictedIsLegal}
use Rattle.drill_text.specs.Plating.{calls_plated}
use Rattle.drill_text.specs.Profiles.{Kind, ReadsBy, ReadsIn, unplated_in}
use Rattle.drill_text.specs.Profiles as drills
use Rattle.drill_text.specs.Texts.{IsDrillText}
use Rattle.layer_image.specs.Layers as layers
use Rattle.layer_image.specs.Layers.{LayerImage}
use Rattle.manifest.specs.declared.Role.{Role}
use Rattle.manifest.specs.declared.Role.TheVariants as role
use Rattle.manifest.specs.declared.Said.{Said}
use Rattle.ringcheck_files.specs.declared.rewrite.Kind.TheVariants as kind
use Rattle.ringcheck_files.specs.Rewriting.{HaveSameCommands, KeepsCommands}
use Rattle.package_check.specs.declared.contents.Content.{Content}
use Rattle.package_check.specs.declared.contents.Content.TheVariants as content
use Rattle.package_check.specs.ContentViews.{LayerView, DrillView}
use Rattle.package_check.specs.FileTexts.{HasLayerView, ReadsDrill, drill_kind, drill_view, layer_view}
use Rattle.package_check.specs.AlikePackages.{ReadAlike, AllReadAlike, SameAnswers}
use Rattle.ringcheck.specs.RewrittenPackages.{is_mixed, kind_of, with_bytes, IsRewritten, AreRewritten, RewritingKeepsAnswers}

module _ (layer_once : layers.ReadingIsUniqueIn) (layer_wide : (text : List ℕ) (layer : LayerImage) → layers.ReadsLayer text (Ok layer) → layers.ReadsLayerIn Wide text (Ok layer))
    (drill_once : (text : List ℕ) (a b : Result (List DrillCommand) Fault) → drills.Reads text a → drills.Reads text b → a ≡ b)
    (kinds_once : (kind : Kind) (text : List ℕ) (a b : Result (List DrillCommand) Fault) → ReadsBy kind text a → ReadsBy kind text b → a ≡ b)
    (drill_wide : (text : List ℕ) (commands : List DrillCommand) → drills.Reads text (Ok commands) → ReadsIn Wide text (Ok commands))
    (texts : (text : List ℕ) (commands : List DrillCommand) → (drills.Reads text (Ok commands)) ↔ (IsDrillText text commands)) (same_in : KindsReadTheSame) (legal : UncontradictedIsLegal) (keeps : KeepsCommands) where
  other_kind : (s t : List ℕ) → HaveSameCommands kind.Layer s t → HaveSameCommands kind.Layer t s
  other_kind s t h = (h.1, h.0, h.3, h.2, sym h.4)

  -- a layer of the strict profile is the same in each
  in_any : (profile : Profile) (s : List ℕ) (a : LayerImage) → layers.ReadsLayer s (Ok a) → layers.ReadsLayerIn profile s (Ok a)
  in_any Strict s a h = h
  in_any Wide s a h = layer_wide s a h

  same_layer : (profile : Profile) (s : List ℕ) (a b : LayerImage) → layers.ReadsLayerIn profile s (Ok a) → layers.ReadsLayer s (Ok b) → a ≡ b
  same_layer profile s a b h k = let e : (let x : Result LayerImage Fault = Ok a in let y : Result LayerImage Fault = Ok b in x ≡ y) = layer_once profile s (Ok a) (Ok b) h (in_any profile s b k) in cc

  no_fault : (profile : Profile) (s : List ℕ) (a : LayerImage) (f : Fault) → layers.ReadsLayer s (Ok a) → layers.ReadsLayerIn profile s (Err f) → ⊥
  no_fault profile s a f h k = let e : (let x : Result LayerImage Fault = Ok a in let y : Result LayerImage Fault = Err f in x ≡ y) = layer_once profile s (Ok a) (Err f) (in_any profile s a h) k in cc

  layer_same : (profile : Profile) (s t : List ℕ) → HaveSameCommands kind.Layer s t → (view : LayerView) → HasLayerView profile s view → HasLayerView profile t view
  layer_same profile s t h view k =
      (h.1, in_any profile t h.1 h.3, k.2 ∙ (ap (λ (l : LayerImage). layer_view profile (without_places l.commands)) (same_layer profile s k.0 h.0 k.1 h.2) ∙ ap (layer_view profile) h.4))

  copper_same : (profile : Profile) (s t : List ℕ) → HaveSameCommands kind.Layer s t → (answer : Result Content Fault) → ReadsCopper profile s answer → ReadsCopper profile t answer
  copper_same profile s t h (Ok (content.Layer image)) k = (layer_same profile s t h image k.0, k.1)
  copper_same profile s t h (Ok (content.Drill plated span drill)) k = absurd k
  copper_same profile s t h (Ok (content.Mixed span holes)) k = absurd k
  copper_same profile s t h (Err f) (inl k) = absurd (no_fault profile s h.0 f h.2 k)
  copper_same profile s t h (Err f) (inr k) = inr (k.0, layer_same profile s t h k.0 k.1, k.2, k.3)

  other_drill : (s t : List ℕ) → HaveSameCommands kind.Drill s t → HaveSameCommands kind.Drill t s
  other_drill s t h = (h.0, h.2, h.1)

  same_commands : (s : List ℕ) (a b : List DrillCommand) → IsDrillText s a → IsDrillText s b → a ≡ b
  same_commands s a b h k = let e : (let x : Result (List DrillCommand) Fault = Ok a in let y : Result (List DrillCommand) Fault = Ok b in x ≡ y) = drill_once s (Ok a) (Ok b) ((texts s a).1 h) ((texts s b).1 k) in cc

  -- nothing is said of the coordinates of a file of the wide profile, and where its role calls it unplated, none of its commands says that holes are plated
  IsSilent : Profile → Option CoordinateFormat → Bool → List DrillCommand → Type 0
  IsSilent profile format plated commands = profile ≡ Wide → (format ≡ None) × (plated ≡ false → list_any calls_plated commands ≡ false)

  -- a drill text of the strict profile is the same in the wide one
  in_wide : (format : Option CoordinateFormat) (plated : Bool) (s : List ℕ) (a : List DrillCommand) → IsSilent Wide format plated a → IsDrillText s a → ReadsBy (drill_kind Wide format plated) s (Ok a)
  unfolding IsSilent
  in_wide format true s a silent h = subst (λ (f : Option CoordinateFormat). ReadsBy (drill_kind Wide f true) s (Ok a)) (sym (silent refl).0) (drill_wide s a ((texts s a).1 h))
  in_wide format false s a silent h =
      subst (λ (f : Option CoordinateFormat). ReadsBy (drill_kind Wide f false) s (Ok a)) (sym (silent refl).0) ((same_in (unplated_in Wide) s a).1 (drill_wide s a ((texts s a).1 h), (legal a).1 ((silent refl).1 refl)))

  same_wide : (format : Option CoordinateFormat) (plated : Bool) (s : List ℕ) (a b : List DrillCommand) → IsSilent Wide format plated b → ReadsBy (drill_kind Wide format plated) s (Ok a) → IsDrillText s b → a ≡ b
  same_wide format plated s a b silent h k = let e : (let x : Result (List DrillCommand) Fault = Ok a in let y : Result (List DrillCommand) Fault = Ok b in x ≡ y) = kinds_once (drill_kind Wide format plated) s (Ok a) (Ok b) h (in_wide format plated s b silent k) in cc

  no_drill_fault : (profile : Profile) (format : Option CoordinateFormat) (plated : Bool) (s : List ℕ) (a : List DrillCommand) (f : Fault) → IsSilent profile format plated a → IsDrillText s a → ReadsDrill profile format plated s (Err f) → ⊥
  no_drill_fault Strict format plated s a f silent h k = let e : (let x : Result (List DrillCommand) Fault = Ok a in let y : Result (List DrillCommand) Fault = Err f in x ≡ y) = drill_once s (Ok a) (Err f) ((texts s a).1 h) k in cc
  no_drill_fault Wide format plated s a f silent h k = let e : (let x : Result (List DrillCommand) Fault = Ok a in let y : Result (List DrillCommand) Fault = Err f in x ≡ y) = kinds_once (drill_kind Wide format plated) s (Ok a) (Err f) (in_wide format plated s a silent h) k in cc

  drill_same : (profile : Profile) (format : Option CoordinateFormat) (plated : Bool) (s t : List ℕ) (h : HaveSameCommands kind.Drill s t) → IsSilent profile format plated h.0 → (drill : DrillView) → ReadsDrill profile format plated s (Ok drill) → ReadsDrill profile format plated t (Ok drill)
  drill_same Strict format plated s t h silent drill k = (h.0, h.2, k.2 ∙ ap (drill_view plated) (same_commands s k.0 h.0 k.1 h.1))
  drill_same Wide format plated s t h silent drill k = (h.0, in_wide format plated t h.0 silent h.2, k.2 ∙ ap (drill_view plated) (same_wide format plated s k.0 h.0 silent k.1 h.1))

  holes_same : (profile : Profile) (plated : Bool) (said : Said) (s t : List ℕ) (h : HaveSameCommands kind.Drill s t) → IsSilent profile said.format plated h.0 → (answer : Result Content Fault) → ReadsHoles profile plated said s answer → ReadsHoles profile plated said t answer
  holes_same profile plated said s t h silent (Ok (content.Layer image)) k = absurd k
  holes_same profile plated said s t h silent (Ok (content.Mixed through holes)) k = absurd k
  holes_same profile plated said s t h silent (Ok (content.Drill has through drill)) k = (drill_same profile said.format plated s t h silent drill k.0, k.1, k.2)
  holes_same profile plated said s t h silent (Err f) k = absurd (no_drill_fault profile said.format plated s h.0 f silent h.1 k)

  -- what is asked of a file that is rewritten
  Uncontradicted : Role → Profile → Option CoordinateFormat → List ℕ → Type 0
  Uncontradicted r profile format s = profile ≡ Wide → (format ≡ None) × (r ≡ role.Unplated → (commands : List DrillCommand) → IsDrillText s commands → list_any calls_plated commands ≡ false)

  same_bytes : (r : Role) (name : List ℕ) (said : Said) (n : Setting) (s t : List ℕ) → is_mixed r ≡ false → Uncontradicted r n.profile said.format s → HaveSameCommands (kind_of r) s t → (answer : Result Content Fault)
      → ReadsBytes (record { role = r; name = name; said = said; bytes = s; setting = n }) answer ↔ ReadsBytes (record { role = r; name = name; said = said; bytes = t; setting = n }) answer
  unfolding IsSilent Uncontradicted other_drill
  same_bytes role.Copper name said n s t other silent h answer = (copper_same n.profile s t h answer, copper_same n.profile t s (other_kind s t h) answer)
  same_bytes role.Plated name said n s t other silent h answer =
      let plated : IsSilent n.profile said.format true h.0 = λ wide. ((silent wide).0, λ unplated. absurd (false≢true (sym unplated))) in
      (holes_same n.profile true said s t h plated answer, holes_same n.profile true said t s (other_drill s t h) plated answer)
  same_bytes role.Unplated name said n s t other silent h answer =
      let unplated : IsSilent n.profile said.format false h.0 = λ wide. ((silent wide).0, λ is. (silent wide).1 refl h.0 h.1) in
      (holes_same n.profile false said s t h unplated answer, holes_same n.profile false said t s (other_drill s t h) unplated answer)
  same_bytes role.Mixed name said n s t other silent h answer = absurd cc

  -- a span that is refused is refused on both sides
  same_text : (x : FileView) (text : List ℕ) → is_mixed x.role ≡ false → Uncontradicted x.role x.setting.profile x.said.format x.bytes → HaveSameCommands (kind_of x.role) x.bytes text → ReadAlike x (with_bytes x text)
  same_text x text other silent h answer = by (is_bad_span x.role x.said.span x.setting.layers) (same_bytes x.role x.name x.said x.setting x.bytes text other silent h answer)
    where
      by : (t : Bool) → (ReadsBytes x answer ↔ ReadsBytes (with_bytes x text) answer)
          → ReadsUnlessBadSpan t x answer ↔ ReadsUnlessBadSpan t (with_bytes x text) answer
      by true same = (λ h. h, λ h. h)
      by false same = same

  one_file : (x y : FileView) → IsRewritten x y → ReadAlike x y
  unfolding Uncontradicted
  one_file x y (inl e) = subst (λ (z : FileView). ReadAlike x z) (sym e) (λ answer. (λ h. h, λ h. h))
  one_file x y (inr h) = subst (λ (z : FileView). ReadAlike x z) (sym h.4) (same_text x h.0 h.1 h.2 (keeps (kind_of x.role) x.bytes h.0 h.3))

  all_files : (xs ys : List FileView) → AreRewritten xs ys → AllReadAlike xs ys
  all_files [] [] h = tt
  all_files [] (y ∷ ys) h = absurd h
  all_files (x ∷ xs) [] h = absurd h
  all_files (x ∷ xs) (y ∷ ys) h = (one_file x y h.0, all_files xs ys h.1)

  pub rewriting_keeps_answers : SameAnswers → RewritingKeepsAnswers
  rewriting_keeps_answers same xs ys rules answer h = same xs ys rules answer (all_files xs ys h)
