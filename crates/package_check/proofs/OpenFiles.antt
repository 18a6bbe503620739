-- Files of a package that are read piece by piece.
use Rattle.package_check.proofs.Common.{◌≡◌, ◌++◌, ℕ, Bool, true, false, List, [], Ok, Err, Option, Result, OnOk, IfErr, ap, inl, subst, sym, ◌∙◌, append-nil, false≢true, Answers, IfFault, Fault, Fail, CoordinateFormat, DrillCommand, says_otherwise, Kind, ReadsAsBy, ReadsBy, ShowsBy, Profile, Strict, Wide, ShowsLayerFaultIn, KeptLayer, ReadsKeptIn, WidePad, Keep, Role, Said, Drilled, DrillView, LayerView, ReadsDrill, ReadsLayer, ReadsMixed, drill_kind, drill_view, holes_with_platings, mixed_kind, plating_in, TakesFile, is_wanted, setting_of, HasFailed, HasOpened, HasReadText, drill_role, FileView, Setting, Reads, ReadsBytes, ReadsCopper, ReadsHoles, ReadsMixedHoles, ReadsUnlessBadSpan, is_bad_span, is_copper, unnamed_file, Content, PackageReader, AllocError}
use Rattle.grid_units.specs.declared.fault.Fail.TheVariants as fails
use Rattle.drill_text.specs.Outcome.{DrillFile, file_of}
use Rattle.drill_text.proofs.SpellsTextLemmas.{reads_drill_text}
use Rattle.drill_text.specs.declared.kept.Keep.TheVariants as drill_keep
use Rattle.drill_text.specs.declared.platings.PlatingKind.{PlatingKind}
use Rattle.drill_text.specs.declared.platings.PlatingKind.TheVariants as plating
use Rattle.layer_image.specs.Layers as layers
use Rattle.manifest.specs.declared.Role.TheVariants as role
use Rattle.package_check.specs.declared.open_file.OpenFile.{OpenFile}

-- a span that is not bad
pub by_bytes : (t : Bool) (s : FileView) (r : Result Content Fail) → t ≡ false → Answers {T = Content} (λ x. x) (ReadsBytes s) r → Answers {T = Content} (λ x. x) (ReadsUnlessBadSpan t s) r
by_bytes true s r e h = absurd (false≢true (sym e))
by_bytes false s r e h = h

-- what is read of a copper file is read by its bytes
pub read_as_copper : (of : Role) (said : Said) (setting : Setting) (bytes : List ℕ) (r : Result Content Fail) → of ≡ role.Copper → is_bad_span of said.span setting.layers ≡ false → Answers {T = Content} (λ x. x) (ReadsCopper setting.profile bytes) r
    → Answers {T = Content} (λ x. x) (Reads (unnamed_file of said setting bytes)) r
read_as_copper role.Copper said setting bytes r is good h = by_bytes (is_bad_span role.Copper said.span setting.layers) (unnamed_file role.Copper said setting bytes) r good h
read_as_copper of said setting bytes r is good h = absurd (false≢true (ap is_copper is))

-- and of a drill file
as_drill : (plated : Bool) (said : Said) (setting : Setting) (bytes : List ℕ) (r : Result Content Fail) → is_bad_span (drill_role plated) said.span setting.layers ≡ false → Answers {T = Content} (λ x. x) (ReadsHoles setting.profile plated said bytes) r
    → Answers {T = Content} (λ x. x) (Reads (unnamed_file (drill_role plated) said setting bytes)) r
as_drill true said setting bytes r good h = by_bytes (is_bad_span role.Plated said.span setting.layers) (unnamed_file role.Plated said setting bytes) r good h
as_drill false said setting bytes r good h = by_bytes (is_bad_span role.Unplated said.span setting.layers) (unnamed_file role.Unplated said setting bytes) r good h

pub read_as_drill : (of : Role) (plated : Bool) (said : Said) (setting : Setting) (bytes : List ℕ) (r : Result Content Fail) → of ≡ drill_role plated → is_bad_span of said.span setting.layers ≡ false → Answers {T = Content} (λ x. x) (ReadsHoles setting.profile plated said bytes) r
    → Answers {T = Content} (λ x. x) (Reads (unnamed_file of said setting bytes)) r
read_as_drill of plated said setting bytes r is good h =
    subst (λ (q : Role). Answers {T = Content} (λ x. x) (Reads (unnamed_file q said setting bytes)) r) (sym is)
    (as_drill plated said setting bytes r (ap (λ (q : Role). is_bad_span q said.span setting.layers) (sym is) ∙ good) h)

-- and of a mixed one
pub read_as_mixed : (of : Role) (said : Said) (setting : Setting) (bytes : List ℕ) (r : Result Content Fail) → of ≡ role.Mixed → is_bad_span of said.span setting.layers ≡ false → Answers {T = Content} (λ x. x) (ReadsMixedHoles setting.profile said bytes) r
    → Answers {T = Content} (λ x. x) (Reads (unnamed_file of said setting bytes)) r
read_as_mixed of said setting bytes r is good h =
    subst (λ (q : Role). Answers {T = Content} (λ x. x) (Reads (unnamed_file q said setting bytes)) r) (sym is)
    (by_bytes (is_bad_span role.Mixed said.span setting.layers) (unnamed_file role.Mixed said setting bytes) r (ap (λ (q : Role). is_bad_span q said.span setting.layers) (sym is) ∙ good) h)

-- ---- faults

-- the fault of a drill text is that of its file
drill_refused : (profile : Profile) (plated : Bool) (said : Said) (text : List ℕ) (f : Fault) → ReadsBy (drill_kind profile said.format plated) text (Err f) → ReadsHoles profile plated said text (Err f)
drill_refused Strict plated said text f h = h
drill_refused Wide plated said text f h = h

-- a file that has failed is refused in the end
pub failed_read : (of : Role) (said : Said) (setting : Setting) (text : List ℕ) (e : Fail) → HasFailed of said setting e text → Answers {T = Content} (λ x. x) (Reads (unnamed_file of said setting text)) (Err e)
failed_read of said setting text fails.Memory h = tt
failed_read of said setting text (fails.Refused f) h = subst (λ (t : List ℕ). Reads (unnamed_file of said setting t) (Err f)) (append-nil text) (h [])

-- ---- steps

-- why the next piece of a file was refused: its fault is one of the file, however the text goes on
errs : (Shows : Fault → Type 0) (of : Role) (said : Said) (setting : Setting) (text : List ℕ) → ((f : Fault) → Shows f → (more : List ℕ) → Reads (unnamed_file of said setting (text ++ more)) (Err f)) → (r : Result (Unit {0}) Fail)
    → IfErr r (IfFault Shows) → IfErr r (λ fail. HasFailed of said setting fail text)
errs Shows of said setting text stays (Ok u) h = tt
errs Shows of said setting text stays (Err fails.Memory) h = tt
errs Shows of said setting text stays (Err (fails.Refused f)) h = stays f h

pub layer_errs : ((profile : Profile) (text more : List ℕ) (f : Fault) → ShowsLayerFaultIn profile text f → layers.ReadsLayerIn profile (text ++ more) (Err f)) → (of : Role) (said : Said) (setting : Setting) (text : List ℕ) (r : Result (Unit {0}) Fail)
    → of ≡ role.Copper → is_bad_span of said.span setting.layers ≡ false → IfErr r (IfFault (ShowsLayerFaultIn setting.profile text)) → IfErr r (λ fail. HasFailed of said setting fail text)
layer_errs law of said setting text r is good h =
    errs (ShowsLayerFaultIn setting.profile text) of said setting text (λ f shown more. read_as_copper of said setting (text ++ more) (Err (fails.Refused f)) is good (inl (law setting.profile text more f shown))) r h

pub drill_errs : ((kind : Kind) (text more : List ℕ) (f : Fault) → ShowsBy kind text (Err f) → ReadsBy kind (text ++ more) (Err f)) → (of : Role) (plated : Bool) (said : Said) (setting : Setting) (text : List ℕ) (r : Result (Unit {0}) Fail)
    → of ≡ drill_role plated → is_bad_span of said.span setting.layers ≡ false → IfErr r (IfFault (λ f. ShowsBy (drill_kind setting.profile said.format plated) text (Err f))) → IfErr r (λ fail. HasFailed of said setting fail text)
drill_errs law of plated said setting text r is good h =
    errs (λ f. ShowsBy (drill_kind setting.profile said.format plated) text (Err f)) of said setting text
    (λ f shown more. read_as_drill of plated said setting (text ++ more) (Err (fails.Refused f)) is good (drill_refused setting.profile plated said (text ++ more) f (law (drill_kind setting.profile said.format plated) text more f shown))) r h

pub mixed_errs : ((kind : Kind) (text more : List ℕ) (f : Fault) → ShowsBy kind text (Err f) → ReadsBy kind (text ++ more) (Err f)) → (of : Role) (said : Said) (setting : Setting) (text : List ℕ) (r : Result (Unit {0}) Fail)
    → of ≡ role.Mixed → is_bad_span of said.span setting.layers ≡ false → IfErr r (IfFault (λ f. ShowsBy (mixed_kind setting.profile said.format) text (Err f))) → IfErr r (λ fail. HasFailed of said setting fail text)
mixed_errs law of said setting text r is good h =
    errs (λ f. ShowsBy (mixed_kind setting.profile said.format) text (Err f)) of said setting text (λ f shown more. read_as_mixed of said setting (text ++ more) (Err (fails.Refused f)) is good (law (mixed_kind setting.profile said.format) text more f shown)) r h

-- the fault of a text is that of what is kept of it
pub layer_fault : (profile : Profile) (keep : Keep) (left : List WidePad) (text : List ℕ) (e : Fail) → Answers {T = KeptLayer} (λ layer. layer) (ReadsKeptIn profile keep left text) (Err e) → Answers {T = LayerView} (λ x. x) (ReadsLayer profile text) (Err e)
layer_fault profile keep left text fails.Memory h = tt
layer_fault profile keep left text (fails.Refused f) h = h

pub drill_fault : (profile : Profile) (format : Option CoordinateFormat) (plated : Bool) (text : List ℕ) (e : Fail) → Answers {T = DrillFile} (λ drill. drill) (ReadsAsBy (drill_kind profile format plated) (file_of (plating_in profile plated) drill_keep.Holes) text) (Err e) → Answers {T = DrillView} (λ x. x) (ReadsDrill profile format plated text) (Err e)
drill_fault profile format plated text fails.Memory h = tt
drill_fault Strict format plated text (fails.Refused f) h = h
drill_fault Wide format plated text (fails.Refused f) h = h

-- the view of a drill file is that of its commands
viewed : (known : PlatingKind) (plated : Bool) (d : DrillFile) (commands : List DrillCommand) → d ≡ file_of known drill_keep.Holes commands
    → (let v : DrillView = record { holes = d.holes; contradicted = says_otherwise plated d.calls_plated d.calls_unplated } in v) ≡ drill_view plated commands
viewed known plated d commands e = ap (λ (d : DrillFile). let v : DrillView = record { holes = d.holes; contradicted = says_otherwise plated d.calls_plated d.calls_unplated } in v) e

-- the view of a text is that of what is kept of it
pub drill_read : (profile : Profile) (format : Option CoordinateFormat) (plated : Bool) (text : List ℕ) (d : DrillFile) → ReadsAsBy (drill_kind profile format plated) (file_of (plating_in profile plated) drill_keep.Holes) text (Ok d) → ReadsDrill profile format plated text (Ok (record { holes = d.holes; contradicted = says_otherwise plated d.calls_plated d.calls_unplated }))
drill_read Strict format plated text d h = (h.0, reads_drill_text text h.0 h.1, viewed (plating_in Strict plated) plated d h.0 h.2)
drill_read Wide format plated text d h = (h.0, h.1, viewed (plating_in Wide plated) plated d h.0 h.2)

pub holes_fault : (profile : Profile) (plated : Bool) (said : Said) (text : List ℕ) (e : Fail) → Answers {T = DrillView} (λ x. x) (ReadsDrill profile said.format plated text) (Err e) → Answers {T = Content} (λ x. x) (ReadsHoles profile plated said text) (Err e)
holes_fault profile plated said text fails.Memory h = tt
holes_fault profile plated said text (fails.Refused f) h = h

-- the holes of a mixed text, each plated or not, are those of what is kept of it
pub mixed_fault : (profile : Profile) (said : Said) (text : List ℕ) (e : Fail) → Answers {T = DrillFile} (λ drill. drill) (ReadsAsBy (mixed_kind profile said.format) (file_of plating.Mixed drill_keep.Holes) text) (Err e) → Answers {T = List Drilled} (λ x. x) (ReadsMixed profile said text) (Err e)
mixed_fault profile said text fails.Memory h = tt
mixed_fault profile said text (fails.Refused f) h = h

pub mixed_read : (profile : Profile) (said : Said) (text : List ℕ) (d : DrillFile) → ReadsAsBy (mixed_kind profile said.format) (file_of plating.Mixed drill_keep.Holes) text (Ok d) → ReadsMixed profile said text (Ok (holes_with_platings said.span d.holes d.plated))
mixed_read profile said text d h = (h.0, h.1, ap (λ (d : DrillFile). holes_with_platings said.span d.holes d.plated) h.2)

pub mixed_holes_fault : (profile : Profile) (said : Said) (text : List ℕ) (e : Fail) → Answers {T = List Drilled} (λ x. x) (ReadsMixed profile said text) (Err e) → Answers {T = Content} (λ x. x) (ReadsMixedHoles profile said text) (Err e)
mixed_holes_fault profile said text fails.Memory h = tt
mixed_holes_fault profile said text (fails.Refused f) h = h

-- ---- open files

-- an open file has read its text as the file that it is
pub own_reads : (reader : PackageReader) (file : OpenFile) (index : ℕ) (of : Role) (said : Said) (text : List ℕ) → HasOpened reader index of said file text → is_wanted reader.stopped file.index ≡ true
    → HasReadText reader.keep file.role file.said (setting_of reader) file.reading text
own_reads reader file index of said text h on =
    subst (λ (q : Role). HasReadText reader.keep q file.said (setting_of reader) file.reading text) (sym h.same_role)
    (subst (λ (s : Said). HasReadText reader.keep of s (setting_of reader) file.reading text) (sym h.same_said) (h.reads (ap (λ (k : ℕ). is_wanted reader.stopped k) (sym h.same_index) ∙ on)))

-- and is taken as that
pub opened_takes : (old new : PackageReader) (file : OpenFile) (index : ℕ) (of : Role) (said : Said) (text name : List ℕ) (r : Result (Unit {0}) AllocError) → HasOpened old index of said file text
    → OnOk r (TakesFile old new file.index (record { role = file.role; name = name; said = file.said; bytes = text; setting = setting_of old }))
    → OnOk r (TakesFile old new index (record { role = of; name = name; said = said; bytes = text; setting = setting_of old }))
opened_takes old new file index of said text name r h takes =
    subst (λ (k : ℕ). OnOk r (TakesFile old new k (record { role = of; name = name; said = said; bytes = text; setting = setting_of old }))) h.same_index
    (subst (λ (q : Role). OnOk r (TakesFile old new file.index (record { role = q; name = name; said = said; bytes = text; setting = setting_of old }))) h.same_role
    (subst (λ (s : Said). OnOk r (TakesFile old new file.index (record { role = file.role; name = name; said = s; bytes = text; setting = setting_of old }))) h.same_said takes))
