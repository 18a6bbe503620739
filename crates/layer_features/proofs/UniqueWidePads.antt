-- Commands make at most one list of pads in the wide profile.
use Rattle.layer_features.proofs.Common.{◌≡◌, ◌∙◌, ℕ, ℤ, Bool, true, false, List, [], ◌∷◌, ◌++◌, Option, None, Some, sym, ap, subst, filter_map, last_set, with_prefixes, GridRounded, WidePad, Command, aperture_selected, current_aperture, state_after, unit_set, copies_in, is_clear_after, positions_after_clearing, WidePadsAreUnique, macro_named, primitives_shape, within_limits, AreDarkPads, AreWideFlashPads, AreWidePadsAt, AreWidePadsOf, IsMacroShape, IsSelectedShape, IsTemplateShape, template_set, wide_pad_at}
use Rattle.std.specs.Bool.{MatchBool}
use Rattle.grid_units.specs.declared.lengths.Unit.{Unit as Units}
use Rattle.macro_shapes.proofs.OneAnswer.{fields_are}
use Rattle.gerber_commands.specs.declared.command.Action.TheVariants as action
use Rattle.gerber_commands.specs.declared.command.Command.TheVariants as command
use Rattle.gerber_commands.specs.declared.command.Template.{Template}
use Rattle.gerber_commands.specs.declared.command.Template.TheVariants as template

-- an option has one value
pub same_value : {A : Type 0} (o : Option A) (a b : A) → o ≡ Some a → o ≡ Some b → a ≡ b
same_value o a b p q = cc

-- ---- the shape of an aperture

macro_once : (unit : Option Units) (pieces : Option (List (List ℕ))) (parameters : Option (List ℕ)) (a b : Option GridRounded) → IsMacroShape unit pieces parameters a → IsMacroShape unit pieces parameters b → a ≡ b
macro_once (Some unit) (Some pieces) parameters a b p q =
    let same : p.0.primitives ≡ q.0.primitives = fields_are pieces parameters p.0.primitives p.0.exact ∙ sym (fields_are pieces parameters q.0.primitives q.0.exact) in
    p.1 ∙ ap (primitives_shape unit) same ∙ sym q.1
macro_once (Some unit) None parameters a b p q = p ∙ sym q
macro_once None pieces parameters a b p q = p ∙ sym q

template_once : (number : ℕ) (d : Option (List Command × Template)) (a b : Option GridRounded) → IsTemplateShape number d a → IsTemplateShape number d b → a ≡ b
template_once number (Some (before, template.Named name parameters)) a b p q = macro_once (last_set unit_set before) (within_limits number (macro_named before name)) parameters a b p q
template_once number (Some (before, template.Standard which sizes)) a b p q = p ∙ sym q
template_once number None a b p q = p ∙ sym q

shape_once : (before : List Command) (a b : Option GridRounded) → IsSelectedShape before a → IsSelectedShape before b → a ≡ b
shape_once before a b p q =
    let number : p.0 ≡ q.0 = same_value (last_set aperture_selected before) p.0 q.0 p.1 q.1 in
    template_once q.0 (last_set (template_set q.0) (with_prefixes before)) a b (subst (λ (n : ℕ). IsTemplateShape n (last_set (template_set n) (with_prefixes before)) a) number p.2) q.2

-- ---- the pads of a list

flash_once : (before : List Command) (x y : Option ℤ) (a b : List WidePad) → AreWideFlashPads before x y a → AreWideFlashPads before x y b → a ≡ b
flash_once before x y a b p q =
    let s = state_after before in
    let unit : p.0 ≡ q.0 = same_value s.unit p.0 q.0 p.4.in_unit q.4.in_unit in
    let format : p.1 ≡ q.1 = same_value s.format p.1 q.1 p.4.in_format q.4.in_format in
    let selected : p.2 ≡ q.2 = same_value (current_aperture s) p.2 q.2 p.4.selected q.4.selected in
    let shape : p.3 ≡ q.3 = shape_once before p.3 q.3 p.5 q.5 in
    p.6 ∙ (λ i. filter_map (wide_pad_at (unit i) before (selected i) (shape i)) (copies_in (unit i) (format i) s x y)) ∙ sym q.6

dark_once : (before : List Command) (c : Command) (a b : List WidePad) → AreDarkPads before c a → AreDarkPads before c b → a ≡ b
dark_once before (command.Operate action.Flash x y i j) a b p q = flash_once before x y a b p q
dark_once before command.RegionEnd a b p q = p ∙ sym q
dark_once before c a b p q = p ∙ sym q

pads_once : (before : List Command) (c : Command) (a b : List WidePad) → AreWidePadsOf before c a → AreWidePadsOf before c b → a ≡ b
pads_once before c a b = by (is_clear_after before)
  where
    by : (t : Bool) → MatchBool t (a ≡ []) (AreDarkPads before c a) → MatchBool t (b ≡ []) (AreDarkPads before c b) → a ≡ b
    by true p q = p ∙ sym q
    by false p q = dark_once before c a b p q

once_at : (ps : List (List Command × Command)) (a b : List WidePad) → AreWidePadsAt ps a → AreWidePadsAt ps b → a ≡ b
once_at [] a b p q = p ∙ sym q
once_at (one ∷ ps) a b p q = p.2 ∙ (λ i. pads_once one.0 one.1 p.0 q.0 p.3 q.3 i ++ once_at ps p.1 q.1 p.4 q.4 i) ∙ sym q.2

pub unique_wide_pads : WidePadsAreUnique
unique_wide_pads commands a b = once_at (positions_after_clearing commands) a b
