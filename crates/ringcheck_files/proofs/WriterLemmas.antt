-- A legal layer that is read again, and rewritten as it is read.
use Rattle.ringcheck_files.proofs.Common.{◌≡◌, ℕ, List, ◌++◌, Result, Ok, Err, sym, ap, subst, append-nil, [], ◌∙◌, inl, inr, Vec, Fault, Answers, AnswersAlways, IfFault, ReadsAs, Strict, Entries, entries_after, canonical_text, without_places, LayerImage, ReadsLayer, KeptLayer, ReadsKeptIn, WidePad, ShowsLayerFaultIn, RewritesDrill, RewritesLayer, ShowsReadFault, Fail, DrillFile, file_of, Stated, FailsWithIn, spells_reads}
use Rattle.grid_units.specs.declared.fault.Fail.TheVariants as fails
use Rattle.drill_text.specs.Profiles as drills
use Rattle.drill_text.specs.Writing.{vec_bytes}
use Rattle.drill_text.specs.declared.kept.Keep.TheVariants as drill_keep
use Rattle.gerber_text.specs.Reading.{ReadsIn}
use Rattle.gerber_text.proofs.UniqueReading.{one_read}
use Rattle.gerber_text.proofs.FinishLemmas.{shows_reads}
use Rattle.gerber_text.proofs.FaultsStay.{fails_longer}
use Rattle.layer_features.specs.declared.keep.Keep.{Keep}

pub stops : (text : List ℕ) (cs : Entries) (e : Fail) → FailsWithIn Strict text cs e → IfFault (ShowsReadFault text) e
stops text cs fails.Memory h = tt
stops text cs (fails.Refused f) h = (cs, h)

-- a text that spells commands has no fault
no_fault : (text : List ℕ) (cs : Entries) (f : Fault) → ReadsIn Strict text (Ok cs) → ReadsIn Strict text (Err f) → ⊥
no_fault text cs f h k = let e : (let x : Result Entries Fault = Ok cs in let y : Result Entries Fault = Err f in x ≡ y) = one_read Strict text (Ok cs) (Err f) h k in cc

-- reading gives the commands of a layer's text
pub layer_read : (text : List ℕ) (image : LayerImage) → ReadsLayer text (Ok image) → ReadsIn Strict text (Ok image.commands)
layer_read text image h = spells_reads Strict text image.commands h.0.spells

pub same_commands : (text : List ℕ) (cs ds : Entries) → ReadsIn Strict text (Ok cs) → ReadsIn Strict text (Ok ds) → cs ≡ ds
same_commands text cs ds h k = let e : (let x : Result Entries Fault = Ok cs in let y : Result Entries Fault = Ok ds in x ≡ y) = one_read Strict text (Ok cs) (Ok ds) h k in cc

pub legal_ends : {T V : Type 0} (view : T → V) (P : Result V Fault → Type 0) (text : List ℕ) (gone : Entries) (image : LayerImage) (e : Fail) → ReadsLayer text (Ok image)
    → AnswersAlways (entries_after gone) (λ answer. ReadsIn Strict text answer) (Err e) → Answers view P (Err e)
legal_ends view P text gone image fails.Memory h k = tt
legal_ends view P text gone image (fails.Refused f) h k = absurd (no_fault text image.commands f (layer_read text image h) k)

pub legal_goes_on : {T V : Type 0} (view : T → V) (P : Result V Fault → Type 0) (text more whole : List ℕ) (image : LayerImage) (e : Fail) → text ++ more ≡ whole → ReadsLayer whole (Ok image)
    → IfFault (ShowsReadFault text) e → Answers view P (Err e)
legal_goes_on view P text more whole image fails.Memory is h k = tt
legal_goes_on view P text more whole image (fails.Refused f) is h k =
    let on = fails_longer Strict text more k.0 (fails.Refused f) k.1 in
    absurd (no_fault whole image.commands f (layer_read whole image h) (subst (λ (t : List ℕ). ReadsIn Strict t (Err f)) is (shows_reads Strict (text ++ more) f on.reported)))

pub from_always : {T V : Type 0} (view : T → V) (P : Result V Fault → Type 0) (r : Result T Fail) → AnswersAlways view P r → Answers view P r
from_always view P (Ok x) h = h
from_always view P (Err fails.Memory) h = tt
from_always view P (Err (fails.Refused f)) h = h

-- the fault that a layer's text shows so far is that of the whole text
pub joined : ((text more : List ℕ) (f : Fault) → ShowsLayerFaultIn Strict text f → ReadsLayer (text ++ more) (Err f)) → (text more whole : List ℕ) (e : Fail) → text ++ more ≡ whole → IfFault (ShowsLayerFaultIn Strict text) e
    → IfFault (λ f. ReadsLayer whole (Err f)) e
joined law text more whole fails.Memory is h = tt
joined law text more whole (fails.Refused f) is h = subst (λ (t : List ℕ). ReadsLayer t (Err f)) is (law text more f h)

-- a layer is rewritten as the canonical text of its commands
pub layer_written : (bytes : List ℕ) (image : LayerImage) (r : Result (Vec ℕ) Fail) → ReadsLayer bytes (Ok image) → Answers (λ (v : Vec ℕ). v.items) (λ answer. answer ≡ canonical_text (without_places image.commands)) r
    → Answers (λ (v : Vec ℕ). v.items) (RewritesLayer bytes) r
layer_written bytes image (Ok v) h is = (image, h, sym is)
layer_written bytes image (Err fails.Memory) h is = tt
layer_written bytes image (Err (fails.Refused f)) h is = inr (image, h, sym is)

pub layer_refused : (bytes : List ℕ) (e : Fail) → IfFault (λ f. ReadsLayer bytes (Err f)) e → Answers (λ (v : Vec ℕ). v.items) (RewritesLayer bytes) (Err e)
layer_refused bytes fails.Memory h = tt
layer_refused bytes (fails.Refused f) h = inl h

-- the fault that a drill text shows is the one that it has
pub drill_shown : ((text more : List ℕ) (f : Fault) → drills.Shows text (Err f) → drills.Reads (text ++ more) (Err f)) → (text : List ℕ) (e : Fail) → IfFault (λ f. drills.Shows text (Err f)) e
    → Answers {T = DrillFile} (λ drill. drill) (ReadsAs (file_of Stated drill_keep.Text) text) (Err e)
drill_shown law text fails.Memory h = tt
drill_shown law text (fails.Refused f) h = subst (λ (t : List ℕ). drills.Reads t (Err f)) (append-nil text) (law text [] f h)

pub drill_refused : (bytes : List ℕ) (e : Fail) → Answers {T = DrillFile} (λ drill. drill) (ReadsAs (file_of Stated drill_keep.Text) bytes) (Err e) → Answers (λ (v : Vec ℕ). v.items) (RewritesDrill bytes) (Err e)
drill_refused bytes fails.Memory h = tt
drill_refused bytes (fails.Refused f) h = inl h

-- a drill file is rewritten as the canonical text of its commands, unless that is too long
pub drill_written : (bytes : List ℕ) (file : DrillFile) (r : Result (Vec ℕ) Fail) → ReadsAs (file_of Stated drill_keep.Text) bytes (Ok file) → AnswersAlways vec_bytes (λ answer. answer ≡ file.text) r
    → Answers (λ (v : Vec ℕ). v.items) (RewritesDrill bytes) r
drill_written bytes file (Ok v) h is = (h.0, h.1, sym (is ∙ ap (λ (d : DrillFile). d.text) h.2))
drill_written bytes file (Err fails.Memory) h is = tt
drill_written bytes file (Err (fails.Refused f)) h is = inr (h.0, h.1, sym (is ∙ ap (λ (d : DrillFile). d.text) h.2))

pub layer_fault : (keep : Keep) (left : List WidePad) (bytes : List ℕ) (e : Fail) → Answers {T = KeptLayer} (λ layer. layer) (ReadsKeptIn Strict keep left bytes) (Err e) → IfFault (λ f. ReadsLayer bytes (Err f)) e
layer_fault keep left bytes fails.Memory h = tt
layer_fault keep left bytes (fails.Refused f) h = h
