-- Each file has a content or a fault, and so each package has an answer.
use Rattle.package_check.proofs.Common.{◌≡◌, ◌↔◌, ℕ, Bool, true, false, suc, List, [], ◌∷◌, Result, Ok, Err, refl, arith, ◌⊎◌, inl, inr, GridRules, Fault, Kind, ReadsBy, DrillCommand, without_places, Profile, Strict, Wide, Role, Said, Content, ReadingExists, AnswerExists, LayerView, FileView, Setting, Reads, ReadsBytes, ReadsUnlessBadSpan, ReadsCopper, ReadsHoles, ReadsMixedHoles, HasContent, HaveContents, IsFirstRefused, IsAnswer, is_bad_span, bad_span, not_copper, report_on, ReadsLayer, drill_kind, drill_view, layer_view, mixed_holes, mixed_kind, ReportView}
use Rattle.drill_text.specs.Faults.{HasAnswer, IsFirstFault}
use Rattle.drill_text.specs.Profiles as drills
use Rattle.layer_image.specs.Layers as layers
use Rattle.manifest.specs.declared.Role.TheVariants as role
use Rattle.package_check.specs.declared.contents.Content.TheVariants as content
use Rattle.package_check.proofs.ContentIsReading.{content_read}

module _ (each_layer : layers.EachTextAnswersIn) (each_drill : (text : List ℕ) → HasAnswer text)
    (first : (text : List ℕ) (f : Fault) → drills.Reads text (Err f) ↔ IsFirstFault text f)
    (each_kind : (kind : Kind) (text : List ℕ) → (answer : Result (List DrillCommand) Fault) × ReadsBy kind text answer) where
  -- a layer is copper, or is refused as NotCopper
  of_image : (profile : Profile) (bytes : List ℕ) (image : LayerView) → ReadsLayer profile bytes (Ok image) → (copper : Bool) → image.is_copper ≡ copper → (answer : Result Content Fault) × ReadsCopper profile bytes answer
  of_image profile bytes image h true e = (Ok (content.Layer image), (h, e))
  of_image profile bytes image h false e = (Err not_copper, inr (image, h, e, refl))

  of_layer : (profile : Profile) (bytes : List ℕ) (answer : Result layers.LayerImage Fault) → layers.ReadsLayerIn profile bytes answer → (answer : Result Content Fault) × ReadsCopper profile bytes answer
  of_layer profile bytes (Ok layer) h =
      let view = layer_view profile (without_places layer.commands) in
      of_image profile bytes view (layer, h, refl) view.is_copper refl
  of_layer profile bytes (Err f) h = (Err f, inl h)

  some_copper : (profile : Profile) (bytes : List ℕ) → (answer : Result Content Fault) × ReadsCopper profile bytes answer
  some_copper profile bytes = let read = each_layer profile bytes in of_layer profile bytes read.0 read.1

  of_drill : (plated : Bool) (said : Said) (bytes : List ℕ) → HasAnswer bytes → (answer : Result Content Fault) × ReadsHoles Strict plated said bytes answer
  of_drill plated said bytes (inl h) = (Ok (content.Drill plated said.span (drill_view plated h.0)), ((h.0, h.1, refl), refl, refl))
  of_drill plated said bytes (inr h) = (Err h.0, (first bytes h.0).1 h.1)

  of_wide_drill : (plated : Bool) (said : Said) (bytes : List ℕ) (answer : Result (List DrillCommand) Fault) → ReadsBy (drill_kind Wide said.format plated) bytes answer → (answer : Result Content Fault) × ReadsHoles Wide plated said bytes answer
  of_wide_drill plated said bytes (Ok commands) h = (Ok (content.Drill plated said.span (drill_view plated commands)), ((commands, h, refl), refl, refl))
  of_wide_drill plated said bytes (Err f) h = (Err f, h)

  some_holes : (profile : Profile) (plated : Bool) (said : Said) (bytes : List ℕ) → (answer : Result Content Fault) × ReadsHoles profile plated said bytes answer
  some_holes Strict plated said bytes = of_drill plated said bytes (each_drill bytes)
  some_holes Wide plated said bytes = let read = each_kind (drill_kind Wide said.format plated) bytes in of_wide_drill plated said bytes read.0 read.1

  of_mixed : (profile : Profile) (said : Said) (bytes : List ℕ) (answer : Result (List DrillCommand) Fault) → ReadsBy (mixed_kind profile said.format) bytes answer → (answer : Result Content Fault) × ReadsMixedHoles profile said bytes answer
  of_mixed profile said bytes (Ok commands) h = (Ok (content.Mixed said.span (mixed_holes said.span commands)), ((commands, h, refl), refl))
  of_mixed profile said bytes (Err f) h = (Err f, h)

  some_mixed : (profile : Profile) (said : Said) (bytes : List ℕ) → (answer : Result Content Fault) × ReadsMixedHoles profile said bytes answer
  some_mixed profile said bytes = let read = each_kind (mixed_kind profile said.format) bytes in of_mixed profile said bytes read.0 read.1

  by_role : (r : Role) (name : List ℕ) (said : Said) (bytes : List ℕ) (n : Setting)
      → (answer : Result Content Fault) × ReadsBytes (record { role = r; name = name; said = said; bytes = bytes; setting = n }) answer
  by_role role.Copper name said bytes n = some_copper n.profile bytes
  by_role role.Plated name said bytes n = some_holes n.profile true said bytes
  by_role role.Unplated name said bytes n = some_holes n.profile false said bytes
  by_role role.Mixed name said bytes n = some_mixed n.profile said bytes

  some_bytes : (source : FileView) → (answer : Result Content Fault) × ReadsBytes source answer
  some_bytes source = by_role source.role source.name source.said source.bytes source.setting

  some_unless : (bad : Bool) (source : FileView) → (answer : Result Content Fault) × ReadsUnlessBadSpan bad source answer
  some_unless true source = (Err bad_span, refl)
  some_unless false source = some_bytes source

  pub reading_exists : ReadingExists
  reading_exists source = some_unless (is_bad_span source.role source.said.span source.setting.layers) source

module _ (some : ReadingExists) where
  -- what follows a file that is read is all read, or its first refused file is that of all files, one place further on
  after : (source : FileView) (sources : List FileView) (c : Content) → HasContent source c
      → ((contents : List Content) × HaveContents sources contents) ⊎ ((index : ℕ) × (fault : Fault) × IsFirstRefused sources index fault)
      → ((contents : List Content) × HaveContents (source ∷ sources) contents) ⊎ ((index : ℕ) × (fault : Fault) × IsFirstRefused (source ∷ sources) index fault)
  after source sources c h (inl rest) = inl (c ∷ rest.0, (h, rest.1))
  after source sources c h (inr rest) = inr (
    suc rest.0,
    rest.1,
    record {
      contents = c ∷ rest.2.contents;
      read = (h, rest.2.read);
      inside = let inside = rest.2.inside in omega arith;
      refused = rest.2.refused;
    },
  )

  begun : (source : FileView) (sources : List FileView) (answer : Result Content Fault) → Reads source answer
      → ((contents : List Content) × HaveContents sources contents) ⊎ ((index : ℕ) × (fault : Fault) × IsFirstRefused sources index fault)
      → ((contents : List Content) × HaveContents (source ∷ sources) contents) ⊎ ((index : ℕ) × (fault : Fault) × IsFirstRefused (source ∷ sources) index fault)
  begun source sources (Ok c) h rest = after source sources c (content_read source c h) rest
  begun source sources (Err f) h rest = inr (0, f, record { contents = []; read = tt; inside = omega arith; refused = λ d. h })

  all_or_first : (sources : List FileView) → ((contents : List Content) × HaveContents sources contents) ⊎ ((index : ℕ) × (fault : Fault) × IsFirstRefused sources index fault)
  all_or_first [] = inl ([], tt)
  all_or_first (source ∷ sources) = let read = some source in begun source sources read.0 read.1 (all_or_first sources)

  answer_of : (sources : List FileView) (rules : GridRules) → ((contents : List Content) × HaveContents sources contents) ⊎ ((index : ℕ) × (fault : Fault) × IsFirstRefused sources index fault)
      → (answer : Result ReportView (ℕ × Fault)) × IsAnswer sources rules answer
  answer_of sources rules (inl all) = (Ok (report_on rules all.0), record { contents = all.0; read = all.1; is = refl })
  answer_of sources rules (inr refused) = (Err (refused.0, refused.1), refused.2)

  pub answer_exists : AnswerExists
  answer_exists sources rules = answer_of sources rules (all_or_first sources)
