-- The values of an outline, one by one.
use Rattle.macro_shapes.proofs.Common.{◌≡◌, ℤ, pos, ◌-◌, ◌<◌, List, [], ◌∷◌, length, take, drop, get_or, Option, ◌∙◌, arith, take_all, get_or_default, outline_at, Primitive}
use Rattle.macro_shapes.specs.Primitives.{primitive_by_code}
use Rattle.grid_units.specs.declared.lengths.Unit.{Unit as Units}
use Rattle.macro_shapes.specs.declared.piece.Code.TheVariants as code

-- the values after the first two are cut at the last one
pub outline_made : (unit : Units) (values rest : List ℤ) (exposure count last : ℤ) (coordinates : List ℤ) (answer : Option Primitive) → 2 < length values → exposure ≡ get_or values 0 exposure → count ≡ get_or values 1 count → rest ≡ take (length values - 2) (drop 2 values)
    → coordinates ≡ take (length rest - 1) rest → last ≡ get_or rest (length rest - 1) last → answer ≡ outline_at unit exposure count coordinates last → answer ≡ primitive_by_code code.Outline unit values
outline_made unit [] rest exposure count last coordinates answer whole is_exposure is_count is_rest are is_last made = absurd (omega (arith, whole))
outline_made unit (v ∷ []) rest exposure count last coordinates answer whole is_exposure is_count is_rest are is_last made = absurd (omega (arith, whole))
outline_made unit (v ∷ w ∷ others) rest exposure count last coordinates answer whole is_exposure is_count is_rest are is_last made =
    let same : rest ≡ others = is_rest ∙ take_all (length (v ∷ w ∷ others) - 2) others (omega arith) in
    let within : length others - 1 < length others = omega (arith, whole) in
    let between : coordinates ≡ take (length others - 1) others = are ∙ (λ i. take (length (same i) - 1) (same i)) in
    let end : last ≡ get_or others (length others - 1) (pos 0) = is_last ∙ ((λ i. get_or (same i) (length (same i) - 1) last) ∙ get_or_default others (length others - 1) last (pos 0) within) in
    let parts : outline_at unit exposure count coordinates last ≡ outline_at unit v w (take (length others - 1) others) (get_or others (length others - 1) (pos 0)) = λ i. outline_at unit (is_exposure i) (is_count i) (between i) (end i) in
    made ∙ parts
