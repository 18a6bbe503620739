-- The part of the operation is added, since a region is open.
use Rattle.layer_features.proofs.Common.{◌≡◌, ◌++◌, [], Bool, Option, None, OnOk, Some, ap, subst, sym, true, ◌∙◌, if◌then◌else◌, cons_option, pencil_state, Part, part_of, plot_state, MakeSameContour}
use Rattle.layer_features.proofs.part.add_operation.Goals as goal

pub returns : goal.returns
returns c =
    let s = pencil_state c.args.pencil.now in
    let o = c.args.operation.now in
    let one : Option Part = Some (part_of (plot_state s) o.action o.x o.y o.i o.j) in
    let inside : c.args.pencil.now.setting.now.current.now.in_region ≡ true = c.if-not-pencil.false in
    let part : Some c.part_of-part.result ≡ (if c.args.pencil.now.setting.now.current.now.in_region then one else None) =
    ap Some (c.part_of-part.ensures ∙ (λ k. part_of (plot_state s) o.action (c.get.ensures k) (c.get-2.ensures k) (c.get-3.ensures k) (c.get-4.ensures k))) ∙ ap (λ (b : Bool). if b then one else None) (sym inside) in
    subst (λ (p : Option Part). OnOk c.add_part.result (MakeSameContour c.add_part.new.parts.items (c.args.parts.now.items ++ cons_option p []))) part c.add_part.ensures
