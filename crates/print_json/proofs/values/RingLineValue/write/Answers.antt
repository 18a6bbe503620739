use Rattle.print_json.proofs.Common.{◌+◌, ◌∷◌, [], ℕ, ℤ, Option, append_assoc, ap₂, codes, has_written_of_eq, escape_byte, or_null, picometres, row_value, value_text, whole}
use Rattle.print_json.specs.Values.{object_of}
use Rattle.print_json.proofs.values.RingLineValue.write.Goals as goal

pub returns : goal.returns
unfolding row_value escape_byte
returns g c = λ plain ok.
    let line = c.args.self.now in
    has_written_of_eq _ _ _ _ _
    (ap₂ (λ (least : Option ℤ) (hole : Option ℕ). value_text (object_of ((codes "layer", whole (line.layer + 1)) ∷ (codes "drill", whole (line.drill + 1))
    ∷ (codes "diameter_pm", picometres line.diameter) ∷ (codes "holes", whole line.holes) ∷ (codes "bare", whole line.bare) ∷ (codes "least_pm", or_null picometres least)
    ∷ (codes "hole", or_null whole hole) ∷ []))) c.least_ring-least.ensures c.least_hole-hole.ensures)
    (has_written_of_eq _ _ _ _ _ (simp append_assoc) (c.write.ensures.writes plain ok))
