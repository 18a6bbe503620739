use Rattle.package_check.proofs.Common.{◌≡◌, ◌∙◌, ap, inl, inr, refl, subst, sym, ℕ, List, [], Ok, Err, err_from_is_err_and, Answers, Fail, Profile, WidePad, has_forgotten, left_pads, ReadsKeptIn, ReadsLayer, LayerView, ReadsCopper, Content, Draws, HasLayerView, HasShown, copper_keep}
use Rattle.grid_units.specs.declared.fault.Fail.TheVariants as fails
use Rattle.layer_image.proofs.Pieces.{none_left}
use Rattle.package_check.proofs.OpenFiles.{layer_fault}
use Rattle.package_check.proofs.contents.read_copper.Goals as goal

-- the fault of a layer's text is one of a copper file
copper_fault : (profile : Profile) (bytes : List ℕ) (why : Fail) → Answers {T = LayerView} (λ x. x) (ReadsLayer profile bytes) (Err why) → Answers {T = Content} (λ x. x) (ReadsCopper profile bytes) (Err why)
copper_fault profile bytes fails.Memory h = tt
copper_fault profile bytes (fails.Refused fault) h = inl h

pub returns-in_err-image-clause-copper : goal.returns-in_err-image-clause-copper
returns-in_err-image-clause-copper c = λ profile text stands.
    let p = err_from_is_err_and c.from_residual.result c.from_residual.ensures.1 in
    let e = c.in_err-image.field-0.0 in
    rw (p.1, p.2) (copper_fault profile text e (layer_fault profile (copper_keep c.args.keep) (left_pads c.args.reader []) text e (c.in_err-image.ensures.exact profile (copper_keep c.args.keep) [] text stands)))

pub returns-else-layer-clause-copper : goal.returns-else-layer-clause-copper
returns-else-layer-clause-copper c = λ profile text stands.
    let of = copper_keep c.args.keep in
    let same : c.profile-profile.result ≡ profile = c.profile-profile.ensures profile of [] text stands in
    let none = none_left (has_forgotten c.args.reader) in
    let read = subst (λ (left : List WidePad). ReadsKeptIn profile of left text (Ok c.in_ok-image.image)) (sym none) (c.in_ok-image.ensures.exact profile of [] text stands) in
    let has = subst (λ (q : Profile). HasLayerView q text c.in-Ok.layer) same (c.in-Ok.ensures.view text (subst (λ (q : Profile). ReadsKeptIn q of [] text (Ok c.in_ok-image.image)) (sym same) read)) in
    subst (λ (e : Fail). Answers {T = Content} (λ x. x) (ReadsCopper profile text) (Err e)) (sym c.refusal.ensures) (inr (c.in-Ok.layer, has, sym (ap (λ (v : LayerView). v.is_copper) c.layer.view_is) ∙ c.if-layer.false, refl))

pub returns-then-layer-clause-copper : goal.returns-then-layer-clause-copper
returns-then-layer-clause-copper c = λ profile text stands.
    let of = copper_keep c.args.keep in
    let same : c.profile-profile.result ≡ profile = c.profile-profile.ensures profile of [] text stands in
    let none = none_left (has_forgotten c.args.reader) in
    let read = subst (λ (left : List WidePad). ReadsKeptIn profile of left text (Ok c.in_ok-image.image)) (sym none) (c.in_ok-image.ensures.exact profile of [] text stands) in
    (subst (λ (q : Profile). HasLayerView q text c.in-Ok.layer) same (c.in-Ok.ensures.view text (subst (λ (q : Profile). ReadsKeptIn q of [] text (Ok c.in_ok-image.image)) (sym same) read)), sym (ap (λ (v : LayerView). v.is_copper) c.layer.view_is) ∙ c.if-layer.true)

pub returns-then-layer-clause-flashes : goal.returns-then-layer-clause-flashes
returns-then-layer-clause-flashes c = λ profile text stands keeps.
    let of = copper_keep c.args.keep in
    let same : c.profile-profile.result ≡ profile = c.profile-profile.ensures profile of [] text stands in
    let none = none_left (has_forgotten c.args.reader) in
    let read = subst (λ (left : List WidePad). ReadsKeptIn profile of left text (Ok c.in_ok-image.image)) (sym none) (c.in_ok-image.ensures.exact profile of [] text stands) in
    subst (λ (q : Profile). HasShown q text c.view.new.shown) same (c.in-Ok.ensures.rows text (subst (λ (q : Profile). ReadsKeptIn q of [] text (Ok c.in_ok-image.image)) (sym same) read) keeps)

pub returns-then-layer-clause-drawn : goal.returns-then-layer-clause-drawn
returns-then-layer-clause-drawn c = λ profile text stands draws.
    let of = copper_keep c.args.keep in
    let same : c.profile-profile.result ≡ profile = c.profile-profile.ensures profile of [] text stands in
    let none = none_left (has_forgotten c.args.reader) in
    let read = subst (λ (left : List WidePad). ReadsKeptIn profile of left text (Ok c.in_ok-image.image)) (sym none) (c.in_ok-image.ensures.exact profile of [] text stands) in
    subst (λ (q : Profile). Draws q text c.view.new.shown.drawn.items) same (c.in-Ok.ensures.drawn text (subst (λ (q : Profile). ReadsKeptIn q of [] text (Ok c.in_ok-image.image)) (sym same) read) draws)
