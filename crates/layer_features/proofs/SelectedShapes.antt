-- The shape that the selected aperture has is that of its template.
use Rattle.layer_features.proofs.Common.{◌≡◌, ◌∙◌, ◌==◌, ℕ, Bool, true, false, List, [], ◌∷◌, Option, None, Some, refl, sym, ap, subst, arith, if◌then◌else◌, option_and_then, option_map, option_or, last_set, with_prefixes, GridRounded, Command, aperture_selected, unit_set, defined_numbered, macro_named, within_limits, selected_shape, draw_state_after, IsMacroShape, IsSelectedShape, IsTemplateShape, template_set}
use Rattle.std.proofs.lemmas.Bool.Decides.{nat_tests}
use Rattle.grid_units.specs.declared.lengths.Unit.{Unit as Units}
use Rattle.macro_shapes.specs.Macros.{fields_of}
use Rattle.macro_shapes.specs.Pieces.{MacroAnswer}
use Rattle.macro_shapes.proofs.OneAnswer.{read_exactly}
use Rattle.gerber_commands.specs.declared.command.Template.{Template}
use Rattle.gerber_commands.specs.declared.command.Template.TheVariants as template
use Rattle.gerber_commands.specs.declared.command.Command.TheVariants as command
use Rattle.layer_state.specs.declared.tables.Defined.{Defined}
use Rattle.layer_state.specs.Lookback.{aperture_of}
use Rattle.layer_state.specs.Shapes.{inner_shape, by_macro, defined_set}

-- ---- what a list names last

or_mapped : {A B : Type 0} (g : A → B) (o p : Option A) → option_or (option_map g o) (option_map g p) ≡ option_map g (option_or o p)
or_mapped g None p = refl
or_mapped g (Some x) p = refl

-- where each element names what another name gives, so does the list
pub last_mapped : {C A B : Type 0} (names : C → Option A) (g : A → B) (others : C → Option B) → ((c : C) → others c ≡ option_map g (names c)) → (cs : List C) → last_set others cs ≡ option_map g (last_set names cs)
last_mapped names g others same [] = refl
last_mapped names g others same (c ∷ cs) = (λ i. option_or (last_mapped names g others same cs i) (same c i)) ∙ or_mapped g (last_set names cs) (names c)

-- ---- the aperture of a number

-- what a template defines
abbrev defined_of_template : ℕ → List Command × Template → Defined
defined_of_template number d = record { aperture = aperture_of d.1; shape = inner_shape (last_set unit_set d.0) (macro_named d.0) number d.1 }

equal_numbers : (x y : ℕ) → (x == y) ≡ true → x ≡ y
equal_numbers x y e = grind (arith, nat_tests, e)

one_template : (number : ℕ) (p : List Command × Command) → defined_set (last_set unit_set p.0) (macro_named p.0) number p.1 ≡ option_map (defined_of_template number) (template_set number p)
one_template number (before, command.Define other t) = by (number == other) refl
  where
    by : (b : Bool) → (number == other) ≡ b
        → (if b then Some (defined_of_template other (before, t)) else None) ≡ option_map (defined_of_template number) (if b then Some (before, t) else None)
    by true e = ap (λ (n : ℕ). Some (defined_of_template n (before, t))) (sym (equal_numbers number other e))
    by false e = refl
one_template number (before, c) = refl

numbered_is : (before : List Command) (number : ℕ) → defined_numbered before number ≡ option_map (defined_of_template number) (last_set (template_set number) (with_prefixes before))
numbered_is before number =
    last_mapped (template_set number) (defined_of_template number) (λ p. defined_set (last_set unit_set p.0) (macro_named p.0) number p.1) (one_template number) (with_prefixes before)

-- ---- its shape

of_macro : (unit : Option Units) (pieces : Option (List (List ℕ))) (parameters : Option (List ℕ)) → IsMacroShape unit pieces parameters (by_macro unit pieces parameters)
of_macro (Some unit) (Some pieces) parameters =
    let answer : MacroAnswer pieces parameters = record { primitives = fields_of pieces parameters; exact = read_exactly pieces parameters } in (answer, refl)
of_macro (Some unit) None parameters = refl
of_macro None pieces parameters = refl

-- the shape of an aperture
abbrev shape_of : Option Defined → Option GridRounded
shape_of o = option_and_then (λ (d : Defined). d.shape) o

of_template : (number : ℕ) (d : Option (List Command × Template)) → IsTemplateShape number d (shape_of (option_map (defined_of_template number) d))
of_template number None = refl
of_template number (Some (before, template.Named name parameters)) = of_macro (last_set unit_set before) (within_limits number (macro_named before name)) parameters
of_template number (Some (before, template.Standard which sizes)) = refl

-- the shape of the selected aperture is that of its template
pub shape_is_selected : (before : List Command) (number : ℕ) → last_set aperture_selected before ≡ Some number → IsSelectedShape before (selected_shape (draw_state_after before))
shape_is_selected before number selected =
    let last : Option (List Command × Template) = last_set (template_set number) (with_prefixes before) in
    let same : selected_shape (draw_state_after before) ≡ shape_of (option_map (defined_of_template number) last) =
    ap (λ (o : Option ℕ). shape_of (option_and_then (defined_numbered before) o)) selected ∙ ap shape_of (numbered_is before number) in
    (number, selected, subst (IsTemplateShape number last) (sym same) (of_template number last))
