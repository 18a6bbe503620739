-- The words are all met, so what is kept is that of the layer of the commands that are gone.
use Rattle.layer_image.proofs.Common.{◌≡◌, ◌++◌, Ok, refl, ap, sym, subst, ◌∙◌, append-nil, err_from_is_err_and, Profile, Entries, ReadsIn, SpellsBeforeFaultIn, held_entries, IsKeptOf, HasContent, image_of}
use Rattle.layer_image.specs.Holding.{left_pads}
use Rattle.layer_image.proofs.Reading.{legal_layer}
use Rattle.layer_image.proofs.Pieces.{end_err, legal_content}
use Rattle.layer_image.proofs.reader.LayerReader.finish.Goals as goal

pub returns-in_err-finish-clause-exact : goal.returns-in_err-finish-clause-exact
returns-in_err-finish-clause-exact c profile keep taken text h =
    let p = err_from_is_err_and c.from_residual.result c.from_residual.ensures.1 in
    let e = c.in_err-finish.field-0.0 in
    let none : h.gone ++ held_entries c.args.self.words ≡ h.gone = ap (λ (x : Entries). h.gone ++ x) h.none ∙ append-nil h.gone in
    rw (p.1, p.2) (end_err profile text h.gone keep (left_pads c.args.self taken) e (c.in_err-finish.ensures.exact profile h.gone text h.words) (subst (SpellsBeforeFaultIn profile text e) none (c.in_err-finish.ensures.kept profile h.gone text h.words)) (legal_content profile keep taken c.args.self.content h.gone h.content))

pub returns-clause-exact : goal.returns-clause-exact
returns-clause-exact c profile keep taken text h =
    let none : h.gone ++ c.in_ok-finish.field-0.items ≡ h.gone = ap (λ (x : Entries). h.gone ++ x) (c.in_ok-finish.ensures.held ∙ h.none) ∙ append-nil h.gone in
    let reads = subst (λ (x : Entries). ReadsIn profile text (Ok x)) none (c.in_ok-finish.ensures.exact profile h.gone text h.words) in (
      image_of h.gone,
      legal_layer profile text h.gone (image_of h.gone) reads (legal_content profile keep taken c.args.self.content h.gone h.content) refl,
      subst (λ (q : Profile). IsKeptOf q keep (left_pads c.args.self taken) h.gone c.in_ok-finish-2.field-0) h.same_profile
          (c.in_ok-finish-2.ensures keep taken h.gone (subst (λ (q : Profile). HasContent q keep taken c.args.self.content h.gone) (sym h.same_profile) h.content) h.kept),
    )
