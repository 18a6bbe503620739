-- The macros that the commands of a layer define, and the shapes of its apertures (docs/FORMATS.md, Further copper).
use Rattle.std.specs.Prelude.{ℕ, nat_eq, nat_le, ◌+◌, ℤ, pos, ◌&&◌, ◌==◌, List, [], ◌∷◌, length, sum_by, Option, None, Some, if◌then◌else◌}
use Rattle.std.specs.Option.{option_and_then}
use Rattle.std.specs.Cmp.Lexicographic.{pointwise}
use Rattle.grid_units.specs.Lists.{last_set, with_prefixes}
use Rattle.grid_units.specs.declared.lengths.Unit.{Unit as Units}
use Rattle.pad_shapes.specs.Rounded.{GridRounded}
use Rattle.macro_shapes.specs.Primitives.{polygon_at, primitives_of, turned_rectangle}
use Rattle.macro_shapes.specs.Shapes.{shape_of}
use Rattle.macro_shapes.specs.Macros.{fields_of}
use Rattle.macro_shapes.specs.declared.fields.Fields.{Fields}
use Rattle.macro_shapes.specs.declared.primitive.Primitive.{Primitive}
use Rattle.gerber_commands.specs.declared.command.Standard.{Standard}
use Rattle.gerber_commands.specs.declared.command.Standard.TheVariants as standard
use Rattle.gerber_commands.specs.declared.command.Template.{Template}
use Rattle.gerber_commands.specs.declared.command.Template.TheVariants as template
use Rattle.gerber_commands.specs.declared.command.Command.{Command}
use Rattle.gerber_commands.specs.declared.command.Command.TheVariants as command
use Rattle.layer_state.specs.Lookback.{aperture_of, aperture_selected, has_hole, size_at, unit_set}
use Rattle.layer_state.specs.declared.tables.Defined.{Defined}

-- the pieces of the macro that a command defines under this name: `%AMROUND*1,1,$1,0,0*%` (Gerber format, Aperture macro AM)
abbrev pub macro_set : List ℕ → Command → Option (List (List ℕ))
macro_set name (command.Macro other pieces) = if pointwise nat_eq other name then Some pieces else None
macro_set name _ = None

-- the macro of a name is the last one that was defined under it (Gerber format, Aperture macro AM)
abbrev pub macro_named : List Command → List ℕ → Option (List (List ℕ))
macro_named before name = last_set (macro_set name) before

-- the macro that an aperture names, unless it takes too long to read: of a number up to 9999, and 4096 bytes, each piece with the `*` that ends it
abbrev pub within_limits : ℕ → Option (List (List ℕ)) → Option (List (List ℕ))
within_limits number named =
    option_and_then (λ pieces. if nat_le number 9999 && nat_le (sum_by (λ piece. length piece + 1) pieces) 4096 then Some pieces else None) named

-- the shape of the primitives that fields spell in this unit, where they spell some that have one (Gerber format, Aperture macro AM)
abbrev pub primitives_shape : Units → Option (List Fields) → Option GridRounded
primitives_shape unit fields = option_and_then shape_of (option_and_then (primitives_of unit) fields)

-- the shape of a macro of these pieces with the parameters of an aperture, about the point of a flash, where it has one and a unit was named before it
abbrev pub by_macro : Option Units → Option (List (List ℕ)) → Option (List ℕ) → Option GridRounded
by_macro (Some unit) (Some pieces) parameters = primitives_shape unit (fields_of pieces parameters)
by_macro _ _ parameters = None

-- the dark primitive inside of a standard aperture without a hole, however it is turned: of an obround as of a rectangle (Gerber format, Rectangle;
-- Obround; Polygon)
unfoldable pub inner_primitive : Units → Standard → List ℤ → Option Primitive
inner_primitive unit standard.Circle sizes = None
inner_primitive unit standard.Polygon sizes =
    if has_hole sizes 3 then None else polygon_at unit (pos 100000000) (size_at sizes 1) (pos 0) (pos 0) (size_at sizes 0)
inner_primitive unit _ sizes = if has_hole sizes 2 then None else turned_rectangle unit (size_at sizes 0) (size_at sizes 1) (pos 0) (pos 0)

-- the shape of a standard aperture: that of the primitive inside of it, where it has one and a unit was named before it
abbrev pub standard_shape : Option Units → Standard → List ℤ → Option GridRounded
standard_shape unit which sizes = option_and_then (λ q. shape_of (q ∷ [])) (option_and_then (λ u. inner_primitive u which sizes) unit)

-- the shape inside of the aperture of a number, by the unit and the macros before it (Gerber format, Aperture definition AD)
abbrev pub inner_shape : Option Units → (List ℕ → Option (List (List ℕ))) → ℕ → Template → Option GridRounded
inner_shape unit macros number (template.Named name parameters) = by_macro unit (within_limits number (macros name)) parameters
inner_shape unit macros number (template.Standard which sizes) = standard_shape unit which sizes

-- the aperture that a command gives this number, with its shape: `%ADD10C,0.5*%` gives one to 10 (Gerber format, Aperture definition AD)
abbrev pub defined_set : Option Units → (List ℕ → Option (List (List ℕ))) → ℕ → Command → Option Defined
defined_set unit macros n (command.Define m t) = if n == m then Some (record { aperture = aperture_of t; shape = inner_shape unit macros m t }) else None
defined_set unit macros n _ = None

-- the aperture of a number is that of its last definition, and its macro the one that its name had there (Gerber format, Aperture definition AD)
abbrev pub defined_numbered : List Command → ℕ → Option Defined
defined_numbered before number = last_set (λ p. defined_set (last_set unit_set p.0) (macro_named p.0) number p.1) (with_prefixes before)

-- the aperture of the number that was selected last (Gerber format, Current aperture Dnn)
abbrev pub selected_after : List Command → Option Defined
selected_after before = option_and_then (defined_numbered before) (last_set aperture_selected before)
