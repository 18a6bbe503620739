-- The grammar of extended items: what is written between `%` and `*%` for which commands. The rows of Pieces say why any other text is refused.
use Rattle.std.specs.Prelude.{◌≡◌, ◌≢◌, ◌≤◌, ◌<◌, ◌+◌, ◌⊎◌, ℕ, ℤ, pos, true, false, ◌==◌, List, [], ◌∷◌, ◌++◌, length, map, Option, None, Some, Ok, codes, decimal}
use Rattle.std.specs.List.{Contains, All, list_any, join_with_byte}
use Rattle.std.specs.Option.{option_map}
use Rattle.grid_units.specs.Numbers.{parse_decimal}
use Rattle.grid_units.specs.declared.lengths.Unit.TheVariants.{Inch, Millimetre}
use Rattle.gerber_commands.specs.declared.command.Command.{Command}
use Rattle.gerber_commands.specs.declared.command.Command.TheVariants.{UnitIs, FormatIs, Define, Macro, Dark, Mirror, Turn, Scale, Repeat, RepeatEnd, Attribute, Remove}
use Rattle.gerber_commands.specs.declared.command.AttributeKind.TheVariants as kinds
use Rattle.gerber_commands.specs.declared.command.Standard.{Standard}
use Rattle.gerber_commands.specs.declared.command.Standard.TheVariants.{Circle, Rectangle, Obround, Polygon}
use Rattle.gerber_commands.specs.declared.command.Template.{Template}
use Rattle.gerber_commands.specs.declared.command.Template.TheVariants as templates
use Rattle.gerber_commands.specs.Numbers.{nat_of}
use Rattle.gerber_commands.specs.Negative.{is_negative_image}
use Rattle.gerber_commands.specs.Pieces.{is_name}
use Rattle.grid_units.specs.Ascii as ascii

-- ---- fields

-- a letter and the run after it, or nothing: `A0` is the field of `A` and `0`
abbrev pub field : List ℕ → Option (List ℕ) → List ℕ
field letter None = []
field letter (Some run) = letter ++ run

-- a text without this byte: `MOMM` has no `*`
abbrev pub HasNo : ℕ → List ℕ → Type 0
HasNo byte text = list_any (λ b. b == byte) text ≡ false

-- ---- pieces that are always written alike

-- these pieces, and what each spells (Gerber format, Unit MO, Load polarity LP, Step and repeat SR, Load mirroring LM, Deprecated commands): `MOMM`
abbrev pub fixed_pieces : List (List ℕ × List Command)
fixed_pieces =
    (codes "MOIN", UnitIs Inch ∷ []) ∷ (codes "MOMM", UnitIs Millimetre ∷ []) ∷ (codes "LPD", Dark ∷ []) ∷ (codes "SR", RepeatEnd ∷ [])
    ∷ (codes "LMN", Mirror false false ∷ []) ∷ (codes "LMX", Mirror true false ∷ []) ∷ (codes "LMY", Mirror false true ∷ []) ∷ (codes "LMXY", Mirror true true ∷ [])
    ∷ (codes "IPPOS", []) ∷ (codes "ASAXBY", []) ∷ []

-- ---- apertures and macros

-- the letter of a standard aperture, and the least and the greatest number of its parameters (Gerber format, Standard aperture templates): `C` has 1 to 3
abbrev pub standards : List (List ℕ × Standard × ℕ × ℕ)
standards = (codes "C", Circle, 1, 3) ∷ (codes "R", Rectangle, 2, 4) ∷ (codes "O", Obround, 2, 4) ∷ (codes "P", Polygon, 2, 5) ∷ []

-- a name that is no letter of a standard aperture (Gerber format, Aperture macro AM): `THERMAL80`
abbrev pub IsMacroName : List ℕ → Type 0
IsMacroName name = (is_name name ≡ true) × All (λ s. s.0 ≢ name) standards

-- what stands after `ADD` and a number: a standard aperture with as many runs as it takes, or the name of a macro and a text after a comma, if any (Gerber format, Aperture definition AD): `C,0.5`
abbrev pub IsTemplate : List ℕ → Template → Type 0
IsTemplate text (templates.Standard aperture sizes) =
    (letter : List ℕ) × (least most : ℕ) × (runs : List (List ℕ)) × Contains standards (letter, aperture, least, most) × (text ≡ letter ++ codes "," ++ join_with_byte ascii.upper_x runs)
    × (least ≤ length runs) × (length runs ≤ most) × (map parse_decimal runs ≡ map Ok sizes)
IsTemplate text (templates.Named name parameters) = IsMacroName name × (text ≡ name ++ field (codes ",") parameters)

-- a macro: its name and its pieces, divided by `*` (Gerber format, Aperture macro AM): `AMDONUT*1,1,0.5,0,0`
abbrev pub IsMacro : List ℕ → List Command → Type 0
IsMacro text spelled =
    (name : List ℕ) × (pieces : List (List ℕ)) × IsMacroName name × All (HasNo ascii.asterisk) pieces
    × (text ≡ codes "AM" ++ join_with_byte ascii.asterisk (name ∷ pieces)) × (spelled ≡ Macro name pieces ∷ [])

-- ---- pieces of one command

-- how other pieces are written that spell one command each: `LR90` is a turn by 90 degrees
abbrev pub SpellsOne : List ℕ → Command → Type 0
-- as `FSLAX46Y46`, at most 6 digits before and after the point, at least one, alike on both axes (Gerber format, Format specification FS)
SpellsOne text (FormatIs f) =
    (f.whole ≤ 6) × (f.decimals ≤ 6) × (0 < f.whole + f.decimals) × (text ≡ codes "FSLAX" ++ decimal f.whole ++ decimal f.decimals ++ codes "Y" ++ decimal f.whole ++ decimal f.decimals)
-- as `ADD10C,0.5`, with a number from 10 on (Gerber format, Aperture definition AD)
SpellsOne text (Define n template) = (digits rest : List ℕ) × (nat_of digits ≡ Ok n) × (10 ≤ n) × IsTemplate rest template × (text ≡ codes "ADD" ++ digits ++ rest)
-- as `LR90` (Gerber format, Load rotation LR)
SpellsOne text (Turn v) = (run : List ℕ) × (text ≡ codes "LR" ++ run) × (parse_decimal run ≡ Ok v)
-- as `LS0.5` (Gerber format, Load scaling LS)
SpellsOne text (Scale v) = (run : List ℕ) × (text ≡ codes "LS" ++ run) × (parse_decimal run ≡ Ok v)
-- as `SRX2Y1I5J0` (Gerber format, Step and repeat SR)
SpellsOne text (Repeat b) =
    (x y i j : List ℕ) × (text ≡ codes "SRX" ++ x ++ codes "Y" ++ y ++ codes "I" ++ i ++ codes "J" ++ j)
    × (nat_of x ≡ Ok b.columns) × (nat_of y ≡ Ok b.rows) × (parse_decimal i ≡ Ok b.step_x) × (parse_decimal j ≡ Ok b.step_y)
-- as `TF.Part,Single`, but no attribute of a negative image (Gerber format, File attributes TF)
SpellsOne text (Attribute kinds.File value) = (text ≡ codes "TF" ++ value) × (is_negative_image value ≡ false)
-- as `TA.AperFunction,ViaPad` (Gerber format, Aperture attributes TA)
SpellsOne text (Attribute kinds.Aperture value) = text ≡ codes "TA" ++ value
-- as `TO.N,GND` (Gerber format, Object attributes TO)
SpellsOne text (Attribute kinds.Object value) = text ≡ codes "TO" ++ value
-- as `TD.AperFunction` or `TD` (Gerber format, Delete TD)
SpellsOne text (Remove value) = text ≡ codes "TD" ++ value
SpellsOne text _ = ⊥

-- ---- pieces without effect

-- a run that is left out, or a decimal of this value in units of 10^-8: `1.0` has the value 100,000,000
abbrev pub IsOmittedOr : ℤ → Option (List ℕ) → Type 0
IsOmittedOr v run = (run ≡ None) ⊎ (option_map parse_decimal run ≡ Some (Ok v))

-- the older parameters of both axes, and the value in units of 10^-8 with which each has no effect (Gerber format, Deprecated commands): `SF` and 1
abbrev pub neutral_values : List (List ℕ × ℤ)
neutral_values = (codes "OF", pos 0) ∷ (codes "MI", pos 0) ∷ (codes "SF", pos 100000000) ∷ []

-- a name, a rotation of 0, or a neutral value on each axis that is named (Gerber format, Deprecated commands): `INTop`, `IR0`, `OFA0B0`
abbrev pub HasNoEffect : List ℕ → Type 0
HasNoEffect text =
    ((name : List ℕ) × ((text ≡ codes "IN" ++ name) ⊎ (text ≡ codes "LN" ++ name)))
    ⊎ (((run : List ℕ) × (text ≡ codes "IR" ++ run) × (parse_decimal run ≡ Ok (pos 0)))
    ⊎ ((letters : List ℕ) × (v : ℤ) × (a b : Option (List ℕ)) × Contains neutral_values (letters, v)
    × (text ≡ letters ++ field (codes "A") a ++ field (codes "B") b) × IsOmittedOr v a × IsOmittedOr v b))

-- ---- all pieces

-- what stands between `%` and `*%`, and what it spells: a macro, or a piece without `*`, such as `MOMM`
abbrev pub IsPiece : List ℕ → List Command → Type 0
IsPiece text spelled =
    IsMacro text spelled
    ⊎ (HasNo ascii.asterisk text
    × (Contains fixed_pieces (text, spelled) ⊎ (((c : Command) × SpellsOne text c × (spelled ≡ c ∷ [])) ⊎ (HasNoEffect text × (spelled ≡ [])))))
