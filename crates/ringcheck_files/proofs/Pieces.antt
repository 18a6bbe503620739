-- Texts that are read in pieces, for flashes or holes alone.
use Rattle.ringcheck_files.proofs.Common.{◌≡◌, ◌∙◌, ℕ, List, [], ◌++◌, Result, Ok, Err, IfOk, ap, refl, subst, append-nil, Vec, Fault, Strict, Wide, Answers, IfFault, ReadsAsIn, ReadsIn, ShowsIn, without_places, ShowsLayerFaultIn, KeptLayer, ReadsKeptIn, LayerImage, ReadsLayerIn, StrictLayers, WidePad, ReadsDrill, ShowsDrill, ShowsLayer, drill_table, Fail, Profile, Stated, DrillFile, file_of, features_of, view_in, wide_features_of}
use Rattle.grid_units.specs.declared.fault.Fail.TheVariants as fails
use Rattle.drill_text.specs.declared.kept.Keep.{Keep as DrillKeep}
use Rattle.drill_text.proofs.SpellsTextLemmas.{reads_drill_text}
use Rattle.layer_features.specs.declared.keep.Keep.{Keep as LayerKeep}

-- ---- layers

-- the fault that a layer's text shows so far is that of the whole text, whatever is kept of it
pub layer_joined : (profile : Profile) (keep : LayerKeep) (left : List WidePad) → ((text more : List ℕ) (f : Fault) → ShowsLayerFaultIn profile text f → ReadsLayerIn profile (text ++ more) (Err f)) → (text more whole : List ℕ) (e : Fail) → text ++ more ≡ whole
    → IfFault (ShowsLayerFaultIn profile text) e → Answers {T = KeptLayer} (λ layer. layer) (ReadsKeptIn profile keep left whole) (Err e)
layer_joined profile keep left law text more whole fails.Memory is h = tt
layer_joined profile keep left law text more whole (fails.Refused f) is h = subst (λ (t : List ℕ). ReadsLayerIn profile t (Err f)) is (law text more f h)

pub layer_refused : (profile : Profile) (keep : LayerKeep) (left : List WidePad) (bytes : List ℕ) (e : Fail) → Answers {T = KeptLayer} (λ layer. layer) (ReadsKeptIn profile keep left bytes) (Err e) → Answers (λ (text : Vec ℕ). text.items) (ShowsLayer profile bytes) (Err e)
layer_refused profile keep left bytes fails.Memory h = tt
layer_refused profile keep left bytes (fails.Refused f) h = h

-- what the profile has of the flashes and contours of the wide one
pub viewed : StrictLayers → (profile : Profile) (text : List ℕ) (layer : LayerImage) → ReadsLayerIn profile text (Ok layer) → view_in profile (wide_features_of (without_places layer.commands)) ≡ features_of profile (without_places layer.commands)
viewed law Strict text layer h = (law text layer h).features
viewed law Wide text layer h = refl

-- what follows of a success
pub ok_more : {T E : Type 0} (P Q : T → Type 0) → ((t : T) → P t → Q t) → (r : Result T E) → IfOk r P → IfOk r Q
ok_more P Q more (Ok t) h = more t h
ok_more P Q more (Err e) h = tt

-- ---- drill files

shown_alone : (profile : Profile) → ((profile : Profile) (text more : List ℕ) (f : Fault) → ShowsIn profile text (Err f) → ReadsIn profile (text ++ more) (Err f)) → (text : List ℕ) (f : Fault)
    → ShowsIn profile text (Err f) → ReadsIn profile text (Err f)
shown_alone profile law text f h = subst (λ (t : List ℕ). ReadsIn profile t (Err f)) (append-nil text) (law profile text [] f h)

-- the fault that a drill file shows is the one that it has
pub drill_shown : (profile : Profile) (keep : DrillKeep) → ((profile : Profile) (text more : List ℕ) (f : Fault) → ShowsIn profile text (Err f) → ReadsIn profile (text ++ more) (Err f)) → (text : List ℕ) (e : Fail)
    → IfFault (λ f. ShowsIn profile text (Err f)) e → Answers {T = DrillFile} (λ drill. drill) (ReadsDrill profile (file_of Stated keep) text) (Err e)
drill_shown profile keep law text fails.Memory h = tt
drill_shown Strict keep law text (fails.Refused f) h = shown_alone Strict law text f h
drill_shown Wide keep law text (fails.Refused f) h = shown_alone Wide law text f h

-- what a reader answers in a profile is what is read in it
pub drill_answered : (profile : Profile) (keep : DrillKeep) (text : List ℕ) (answer : Result DrillFile Fail) → Answers {T = DrillFile} (λ drill. drill) (ReadsAsIn profile (file_of Stated keep) text) answer
    → Answers {T = DrillFile} (λ drill. drill) (ReadsDrill profile (file_of Stated keep) text) answer
drill_answered profile keep text (Err fails.Memory) h = tt
drill_answered Strict keep text (Err (fails.Refused f)) h = h
drill_answered Strict keep text (Ok drill) h = (h.0, reads_drill_text text h.0 h.1, h.2)
drill_answered Wide keep text (Err (fails.Refused f)) h = h
drill_answered Wide keep text (Ok drill) h = h

pub drill_refused : (profile : Profile) (keep : DrillKeep) (bytes : List ℕ) (e : Fail) → Answers {T = DrillFile} (λ drill. drill) (ReadsDrill profile (file_of Stated keep) bytes) (Err e)
    → Answers (λ (text : Vec ℕ). text.items) (ShowsDrill profile bytes) (Err e)
drill_refused profile keep bytes fails.Memory h = tt
drill_refused Strict keep bytes (fails.Refused f) h = h
drill_refused Wide keep bytes (fails.Refused f) h = h

-- the table of the holes of what is kept of a drill file
pub drill_told : (profile : Profile) (keep : DrillKeep) (bytes text : List ℕ) (drill : DrillFile) → ReadsDrill profile (file_of Stated keep) bytes (Ok drill) → text ≡ drill_table drill.holes → ShowsDrill profile bytes (Ok text)
drill_told Strict keep bytes text drill h is = (h.0, h.1, is ∙ ap (λ (d : DrillFile). drill_table d.holes) h.2)
drill_told Wide keep bytes text drill h is = (h.0, h.1, is ∙ ap (λ (d : DrillFile). drill_table d.holes) h.2)
