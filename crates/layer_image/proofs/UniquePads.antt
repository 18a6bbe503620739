-- Commands make at most one list of pads.
use Rattle.layer_image.proofs.Common.{◌≡◌, ℤ, List, [], ◌∷◌, ◌++◌, Option, sym, ◌∙◌, filter_map, Pad, Command, GraphicsState, state_after, PadsAreUnique, AreFlashPads, ArePadsFrom, ArePadsOf, copies_in, flashed_at}
use Rattle.gerber_commands.specs.declared.command.Action.TheVariants as action
use Rattle.gerber_commands.specs.declared.command.Command.TheVariants as command
use Rattle.layer_features.proofs.UniqueWidePads.{same_value}

pub flash_once : (s : GraphicsState) (x y : Option ℤ) (a b : List Pad) → AreFlashPads s x y a → AreFlashPads s x y b → a ≡ b
flash_once s x y a b p q =
    let unit : p.0 ≡ q.0 = same_value s.unit p.0 q.0 p.3.in_unit q.3.in_unit in
    let format : p.1 ≡ q.1 = same_value s.format p.1 q.1 p.3.in_format q.3.in_format in
    let shape : p.2 ≡ q.2 = same_value _ p.2 q.2 p.3.selected q.3.selected in
    p.4 ∙ (λ i. filter_map (flashed_at (unit i) s (shape i)) (copies_in (unit i) (format i) s x y)) ∙ sym q.4

made_once : (before : List Command) (c : Command) (a b : List Pad) → ArePadsOf before c a → ArePadsOf before c b → a ≡ b
made_once before (command.Operate action.Flash x y i j) a b p q = flash_once (state_after before) x y a b p q
made_once before c a b p q = p ∙ sym q

once_from : (before cs : List Command) (a b : List Pad) → ArePadsFrom before cs a → ArePadsFrom before cs b → a ≡ b
once_from before [] a b p q = p ∙ sym q
once_from before (c ∷ cs) a b p q = p.2 ∙ (λ i. made_once before c p.0 q.0 p.3 q.3 i ++ once_from (before ++ c ∷ []) cs p.1 q.1 p.4 q.4 i) ∙ sym q.2

pub unique_pads : PadsAreUnique
unique_pads commands a b = once_from [] commands a b
