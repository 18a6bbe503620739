-- A file has one content or one fault.
use Rattle.package_check.proofs.Common.{◌≡◌, ◌↔◌, ℕ, Bool, true, false, List, Result, Ok, Err, sym, ap, ◌∙◌, inl, inr, Fault, CoordinateFormat, DrillCommand, IsDrillText, Kind, ReadsBy, Drilled, Profile, Strict, Wide, without_places, LayerSpan, Role, Said, DrillView, LayerView, Content, ReadsLayer, ReadsDrill, drill_kind, drill_view, layer_view, mixed_holes, mixed_kind, Setting, ReadsBytes, ReadsUnlessBadSpan, ReadsCopper, ReadsHoles, ReadsMixedHoles, is_bad_span, ReadingIsUnique, both_ways}
use Rattle.drill_text.specs.Profiles as drills
use Rattle.layer_image.specs.Layers as layers
use Rattle.std.specs.Prelude.{Option}
use Rattle.manifest.specs.declared.Role.TheVariants as role
use Rattle.package_check.specs.declared.contents.Content.TheVariants as content
use Rattle.package_check.proofs.FlashReadingLemmas.{err_same, ok_or_err, ok_same}

abbrev answered : {A : Type 0} → A → Result A Fault
answered x = Ok x

abbrev refused : {A : Type 0} → Fault → Result A Fault
refused f = Err f

module _ (layer_once : layers.ReadingIsUniqueIn)
    (drill_once : (text : List ℕ) (a b : Result (List DrillCommand) Fault) → drills.Reads text a → drills.Reads text b → a ≡ b)
    (texts : (text : List ℕ) (commands : List DrillCommand) → (drills.Reads text (Ok commands)) ↔ (IsDrillText text commands))
    (kinds_once : (kind : Kind) (text : List ℕ) (a b : Result (List DrillCommand) Fault) → ReadsBy kind text a → ReadsBy kind text b → a ≡ b) where
  one_image : (profile : Profile) (bytes : List ℕ) (a b : LayerView) → ReadsLayer profile bytes (Ok a) → ReadsLayer profile bytes (Ok b) → a ≡ b
  one_image profile bytes a b h k = h.2 ∙ (ap (λ (l : layers.LayerImage). layer_view profile (without_places l.commands)) (ok_same (layer_once profile bytes (Ok h.0) (Ok k.0) h.1 k.1)) ∙ sym k.2)

  no_layer : (profile : Profile) (bytes : List ℕ) (a : LayerView) (f : Fault) → ReadsLayer profile bytes (Ok a) → ReadsLayer profile bytes (Err f) → ⊥
  no_layer profile bytes a f h k = ok_or_err (layer_once profile bytes (Ok h.0) (Err f) h.1 k)

  module _ (profile : Profile) where
    copper_or_not : (bytes : List ℕ) (a : LayerView) (f : Fault) → ReadsCopper profile bytes (Ok (content.Layer a)) → ReadsCopper profile bytes (Err f) → ⊥
    copper_or_not bytes a f h (inl k) = no_layer profile bytes a f h.0 k
    copper_or_not bytes a f h (inr k) = both_ways a.is_copper (ap (λ (i : LayerView). i.is_copper) (one_image profile bytes a k.0 h.0 k.1) ∙ k.2) h.1

    one_copper_fault : (bytes : List ℕ) (f g : Fault) → ReadsCopper profile bytes (Err f) → ReadsCopper profile bytes (Err g) → f ≡ g
    one_copper_fault bytes f g (inl h) (inl k) = err_same (layer_once profile bytes (Err f) (Err g) h k)
    one_copper_fault bytes f g (inl h) (inr k) = absurd (no_layer profile bytes k.0 f k.1 h)
    one_copper_fault bytes f g (inr h) (inl k) = absurd (no_layer profile bytes h.0 g h.1 k)
    one_copper_fault bytes f g (inr h) (inr k) = h.3 ∙ sym k.3

    one_copper : (bytes : List ℕ) (a b : Result Content Fault) → ReadsCopper profile bytes a → ReadsCopper profile bytes b → a ≡ b
    one_copper bytes (Ok (content.Layer a)) (Ok (content.Layer b)) h k = ap (λ (i : LayerView). answered (content.Layer i)) (one_image profile bytes a b h.0 k.0)
    one_copper bytes (Ok (content.Layer a)) (Err g) h k = absurd (copper_or_not bytes a g h k)
    one_copper bytes (Err f) (Ok (content.Layer b)) h k = absurd (copper_or_not bytes b f k h)
    one_copper bytes (Err f) (Err g) h k = ap refused (one_copper_fault bytes f g h k)
    one_copper bytes (Ok (content.Layer a)) b h k = absurd k
    one_copper bytes (Err f) b h k = absurd k
    one_copper bytes a b h k = absurd h

  one_drill : (profile : Profile) (format : Option CoordinateFormat) (plated : Bool) (bytes : List ℕ) (a b : DrillView) → ReadsDrill profile format plated bytes (Ok a) → ReadsDrill profile format plated bytes (Ok b) → a ≡ b
  one_drill Strict format plated bytes a b h k = h.2 ∙ (ap (drill_view plated) (ok_same (drill_once bytes (Ok h.0) (Ok k.0) ((texts bytes h.0).1 h.1) ((texts bytes k.0).1 k.1))) ∙ sym k.2)
  one_drill Wide format plated bytes a b h k = h.2 ∙ (ap (drill_view plated) (ok_same (kinds_once (drill_kind Wide format plated) bytes (Ok h.0) (Ok k.0) h.1 k.1)) ∙ sym k.2)

  no_drill : (profile : Profile) (format : Option CoordinateFormat) (plated : Bool) (bytes : List ℕ) (a : DrillView) (f : Fault) → ReadsDrill profile format plated bytes (Ok a) → ReadsDrill profile format plated bytes (Err f) → ⊥
  no_drill Strict format plated bytes a f h k = ok_or_err (drill_once bytes (Ok h.0) (Err f) ((texts bytes h.0).1 h.1) k)
  no_drill Wide format plated bytes a f h k = ok_or_err (kinds_once (drill_kind Wide format plated) bytes (Ok h.0) (Err f) h.1 k)

  one_drill_fault : (profile : Profile) (format : Option CoordinateFormat) (plated : Bool) (bytes : List ℕ) (f g : Fault) → ReadsDrill profile format plated bytes (Err f) → ReadsDrill profile format plated bytes (Err g) → f ≡ g
  one_drill_fault Strict format plated bytes f g h k = err_same (drill_once bytes (Err f) (Err g) h k)
  one_drill_fault Wide format plated bytes f g h k = err_same (kinds_once (drill_kind Wide format plated) bytes (Err f) (Err g) h k)

  one_holes : (profile : Profile) (plated : Bool) (said : Said) (bytes : List ℕ) (a b : Result Content Fault) → ReadsHoles profile plated said bytes a → ReadsHoles profile plated said bytes b → a ≡ b
  one_holes profile plated said bytes (Ok (content.Drill p v d)) (Ok (content.Drill q w e)) h k =
      ap (λ (t : Bool). answered (content.Drill t v d)) (h.1 ∙ sym k.1)
      ∙ (ap (λ (s : Option LayerSpan). answered (content.Drill q s d)) (h.2 ∙ sym k.2) ∙ ap (λ (l : DrillView). answered (content.Drill q w l)) (one_drill profile said.format plated bytes d e h.0 k.0))
  one_holes profile plated said bytes (Ok (content.Drill p v d)) (Err g) h k = absurd (no_drill profile said.format plated bytes d g h.0 k)
  one_holes profile plated said bytes (Err f) (Ok (content.Drill q w e)) h k = absurd (no_drill profile said.format plated bytes e f k.0 h)
  one_holes profile plated said bytes (Err f) (Err g) h k = ap refused (one_drill_fault profile said.format plated bytes f g h k)
  one_holes profile plated said bytes (Ok (content.Drill p v d)) b h k = absurd k
  one_holes profile plated said bytes (Err f) b h k = absurd k
  one_holes profile plated said bytes a b h k = absurd h

  one_mixed : (profile : Profile) (said : Said) (bytes : List ℕ) (a b : Result Content Fault) → ReadsMixedHoles profile said bytes a → ReadsMixedHoles profile said bytes b → a ≡ b
  one_mixed profile said bytes (Ok (content.Mixed v d)) (Ok (content.Mixed w e)) h k =
      ap (λ (s : Option LayerSpan). answered (content.Mixed s d)) (h.1 ∙ sym k.1)
      ∙ ap (λ (l : List Drilled). answered (content.Mixed w l)) (h.0.2 ∙ (ap (mixed_holes said.span) (ok_same (kinds_once (mixed_kind profile said.format) bytes (Ok h.0.0) (Ok k.0.0) h.0.1 k.0.1)) ∙ sym k.0.2))
  one_mixed profile said bytes (Ok (content.Mixed v d)) (Err g) h k = absurd (ok_or_err (kinds_once (mixed_kind profile said.format) bytes (Ok h.0.0) (Err g) h.0.1 k))
  one_mixed profile said bytes (Err f) (Ok (content.Mixed w e)) h k = absurd (ok_or_err (kinds_once (mixed_kind profile said.format) bytes (Ok k.0.0) (Err f) k.0.1 h))
  one_mixed profile said bytes (Err f) (Err g) h k = ap refused (err_same (kinds_once (mixed_kind profile said.format) bytes (Err f) (Err g) h k))
  one_mixed profile said bytes (Ok (content.Mixed v d)) b h k = absurd k
  one_mixed profile said bytes (Err f) b h k = absurd k
  one_mixed profile said bytes a b h k = absurd h

  by_role : (r : Role) (name : List ℕ) (said : Said) (bytes : List ℕ) (n : Setting) (a b : Result Content Fault) → ReadsBytes (record { role = r; name = name; said = said; bytes = bytes; setting = n }) a → ReadsBytes (record { role = r; name = name; said = said; bytes = bytes; setting = n }) b → a ≡ b
  by_role role.Copper name said bytes n a b h k = one_copper n.profile bytes a b h k
  by_role role.Plated name said bytes n a b h k = one_holes n.profile true said bytes a b h k
  by_role role.Unplated name said bytes n a b h k = one_holes n.profile false said bytes a b h k
  by_role role.Mixed name said bytes n a b h k = one_mixed n.profile said bytes a b h k

  pub unique_reading : ReadingIsUnique
  unique_reading source a b h k = by (is_bad_span source.role source.said.span source.setting.layers) h k
    where
      by : (t : Bool) → ReadsUnlessBadSpan t source a → ReadsUnlessBadSpan t source b → a ≡ b
      by true h k = h ∙ sym k
      by false h k = by_role source.role source.name source.said source.bytes source.setting a b h k
