-- The canonical item of a command (docs/FORMATS.md, The canonical Gerber text).
use Rattle.std.specs.Prelude.{ℕ, Bool, true, false, List, [], ◌∷◌, ◌++◌, map, Option, None, Some, codes, decimal, ℤ, unsigned_abs}
use Rattle.std.specs.List.{flat_map, join_with_byte}
use Rattle.grid_units.specs.declared.lengths.Unit.{Unit as Units}
use Rattle.grid_units.specs.declared.lengths.Unit.TheVariants.{Inch, Millimetre}
use Rattle.grid_units.specs.Spellings.{minus, canonical as canonical_dec}
use Rattle.gerber_commands.specs.declared.command.Command.{Command}
use Rattle.gerber_commands.specs.declared.command.Command.TheVariants.{Comment, Mode, Quadrant, RegionStart, RegionEnd, UnitIs, FormatIs, Define, Macro, Select, Operate, Dark, Clear, Mirror, Turn, Scale, Repeat, RepeatEnd, Attribute, Remove, Finish}
use Rattle.gerber_commands.specs.declared.command.Interpolation.{Interpolation}
use Rattle.gerber_commands.specs.declared.command.Interpolation.TheVariants.{Linear, Clockwise, Counterclockwise}
use Rattle.gerber_commands.specs.declared.command.QuadrantMode.{QuadrantMode}
use Rattle.gerber_commands.specs.declared.command.QuadrantMode.TheVariants.{Single, Multi}
use Rattle.gerber_commands.specs.declared.command.Action.{Action}
use Rattle.gerber_commands.specs.declared.command.Action.TheVariants.{Plot, Move, Flash}
use Rattle.gerber_commands.specs.declared.command.AttributeKind.{AttributeKind}
use Rattle.gerber_commands.specs.declared.command.AttributeKind.TheVariants as kinds
use Rattle.gerber_commands.specs.declared.command.Standard.{Standard}
use Rattle.gerber_commands.specs.declared.command.Standard.TheVariants.{Circle, Rectangle, Obround, Polygon}
use Rattle.gerber_commands.specs.declared.command.Template.{Template}
use Rattle.gerber_commands.specs.declared.command.Template.TheVariants as templates
use Rattle.grid_units.specs.Ascii as ascii

-- a whole number without leading zeros, with `-` below zero: `-500` (docs/FORMATS.md, How numbers are written)
abbrev pub integer : ℤ → List ℕ
integer z = minus z ++ decimal (unsigned_abs z)

-- the word of an interpolation: `G01*` for a line
abbrev pub mode_word : Interpolation → List ℕ
mode_word Linear = codes "G01*"
mode_word Clockwise = codes "G02*"
mode_word Counterclockwise = codes "G03*"

-- the word of a quadrant mode: `G75*` for arcs in several quadrants
abbrev pub quadrant_word : QuadrantMode → List ℕ
quadrant_word Single = codes "G74*"
quadrant_word Multi = codes "G75*"

-- the item of a unit: `%MOMM*%` for millimetres
abbrev pub unit_item : Units → List ℕ
unit_item Inch = codes "%MOIN*%"
unit_item Millimetre = codes "%MOMM*%"

-- the D code of an operation, and the `*` of its word: `D03*` for a flash
abbrev pub action_code : Action → List ℕ
action_code Plot = codes "D01*"
action_code Move = codes "D02*"
action_code Flash = codes "D03*"

-- a coordinate after its letter, as `X-500`; nothing where it is left out
abbrev pub coordinate_text : ℕ → Option ℤ → List ℕ
coordinate_text letter None = []
coordinate_text letter (Some n) = letter ∷ integer n

-- the digits of one axis: `46` for 4 whole digits and 6 decimals
abbrev pub digits_text : ℕ → ℕ → List ℕ
digits_text whole decimals = decimal whole ++ decimal decimals

-- the item of a mirroring: `%LMXY*%` for both axes
abbrev pub mirror_item : Bool → Bool → List ℕ
mirror_item false false = codes "%LMN*%"
mirror_item true false = codes "%LMX*%"
mirror_item false true = codes "%LMY*%"
mirror_item true true = codes "%LMXY*%"

-- the letter of a standard aperture, and a comma: `C,` for a circle
abbrev pub standard_name : Standard → List ℕ
standard_name Circle = codes "C,"
standard_name Rectangle = codes "R,"
standard_name Obround = codes "O,"
standard_name Polygon = codes "P,"

-- the parameters, joined by `X`: `2X0.7`
abbrev pub sizes_text : List ℤ → List ℕ
sizes_text sizes = join_with_byte ascii.upper_x (map canonical_dec sizes)

-- a template with its parameters: `C,0.65`, or `THERMAL80` and `DONUT,0.5` for macros
abbrev pub template_text : Template → List ℕ
template_text (templates.Standard aperture sizes) = standard_name aperture ++ sizes_text sizes
template_text (templates.Named name None) = name
template_text (templates.Named name (Some text)) = name ++ ascii.comma ∷ text

-- how the item of an attribute begins: `%TF` for a file attribute
abbrev pub attribute_prefix : AttributeKind → List ℕ
attribute_prefix kinds.File = codes "%TF"
attribute_prefix kinds.Aperture = codes "%TA"
attribute_prefix kinds.Object = codes "%TO"

-- the pieces of a macro, each between an LF and a `*`
abbrev pub pieces_text : List (List ℕ) → List ℕ
pieces_text pieces = flat_map (λ piece. ascii.line_feed ∷ (piece ++ codes "*")) pieces

-- The canonical item of a command, without the LF after it: `%ADD10C,0.65*%`, `X10Y20D01*`, `M02*`.
unfoldable pub canonical : Command → List ℕ
canonical (Comment text) = codes "G04" ++ (text ++ codes "*")
canonical (Mode mode) = mode_word mode
canonical (Quadrant mode) = quadrant_word mode
canonical RegionStart = codes "G36*"
canonical RegionEnd = codes "G37*"
canonical (UnitIs unit) = unit_item unit
canonical (FormatIs format) = codes "%FSLAX" ++ (digits_text format.whole format.decimals ++ (codes "Y" ++ (digits_text format.whole format.decimals ++ codes "*%")))
canonical (Define number template) = codes "%ADD" ++ (decimal number ++ (template_text template ++ codes "*%"))
canonical (Macro name pieces) = codes "%AM" ++ (name ++ (codes "*" ++ (pieces_text pieces ++ codes "%")))
canonical (Select number) = codes "D" ++ (decimal number ++ codes "*")
canonical (Operate action x y i j) = coordinate_text ascii.upper_x x ++ (coordinate_text ascii.upper_y y ++ (coordinate_text ascii.upper_i i ++ (coordinate_text ascii.upper_j j ++ action_code action)))
canonical Dark = codes "%LPD*%"
canonical Clear = codes "%LPC*%"
canonical (Mirror x y) = mirror_item x y
canonical (Turn degrees) = codes "%LR" ++ (canonical_dec degrees ++ codes "*%")
canonical (Scale factor) = codes "%LS" ++ (canonical_dec factor ++ codes "*%")
canonical (Repeat block) = codes "%SRX" ++ (decimal block.columns ++ (codes "Y" ++ (decimal block.rows ++ (codes "I" ++ (canonical_dec block.step_x ++ (codes "J" ++ (canonical_dec block.step_y ++ codes "*%")))))))
canonical RepeatEnd = codes "%SR*%"
canonical (Attribute kind text) = attribute_prefix kind ++ (text ++ codes "*%")
canonical (Remove text) = codes "%TD" ++ (text ++ codes "*%")
canonical Finish = codes "M02*"
