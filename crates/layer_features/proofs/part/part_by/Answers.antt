-- The coordinates of an operation are those of its command, and a part is added inside of a region alone.
use Rattle.layer_features.proofs.Common.{◌≡◌, ◌∙◌, Bool, None, Option, Some, ap, false, if◌then◌else◌, sym, true, pencil_state, Part, part_by, part_of, plot_state}
use Rattle.layer_features.proofs.part.part_by.Goals as goal

pub returns-then-not-pencil : goal.returns-then-not-pencil
returns-then-not-pencil c =
    let p = c.in-Operate in
    let s = plot_state (pencil_state c.args.pencil.now) in
    let one : Option Part = Some (part_of s p.action p.x p.y p.i p.j) in
    let outside : s.in_region ≡ false = c.if-not-pencil.true in
    ap (λ (b : Bool). if b then one else None) (sym outside) ∙ ap (part_by s) (sym p.is)

pub returns-else-not-pencil : goal.returns-else-not-pencil
returns-else-not-pencil c =
    let p = c.in-Operate in
    let s = plot_state (pencil_state c.args.pencil.now) in
    let one : Option Part = Some (part_of s p.action p.x p.y p.i p.j) in
    let inside : s.in_region ≡ true = c.if-not-pencil.false in
    ap Some (c.part_of.ensures ∙ (λ k. part_of s p.action (c.get.ensures k) (c.get-in-Operate.ensures k) (c.get-in-Operate-2.ensures k) (c.get-in-Operate-3.ensures k)))
    ∙ ap (λ (b : Bool). if b then one else None) (sym inside) ∙ ap (part_by s) (sym p.is)
