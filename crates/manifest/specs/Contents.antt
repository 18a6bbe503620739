-- What the text of a file says of itself: its kind, its file function and the plating that its lines name
-- (docs/FORMATS.md, Proposals).
use Rattle.std.specs.Prelude.{ℕ, zero, suc, ◌+◌, ◌++◌, Bool, ◌||◌, ◌&&◌, ◌==◌, List, [], ◌∷◌, Option, is_some, length, take, drop, codes, if◌then◌else◌}
use Rattle.std.specs.List.{list_all, list_any, slice_split, before_first, after_first}
use Rattle.std.specs.Option.{option_map}
use Rattle.std.specs.Str.{bytes_eq}
use Rattle.memchr.specs.Find.{matches, rmatches, first_of}
use Rattle.manifest.specs.declared.contents.FileKind.{FileKind}
use Rattle.manifest.specs.declared.contents.FileKind.TheVariants.{Gerber, Drill, Empty, Archive, Neither}
use Rattle.grid_units.specs.Ascii as ascii

-- ---- lines

-- a space, a tab or CR
abbrev pub is_blank : ℕ → Bool
is_blank b = (b == ascii.space) || ((b == ascii.tab) || (b == ascii.carriage_return))

-- the line is this word and then nothing but spaces, tabs and CR
abbrev pub is_line_of : List ℕ → List ℕ → Bool
is_line_of word line = bytes_eq (take (length word) line) word && list_all is_blank (drop (length word) line)

-- the runs of bytes before, between and after the line feeds
abbrev pub lines : List ℕ → List (List ℕ)
lines text = slice_split (λ b. b == ascii.line_feed) text

-- some line is this word, as `M48` is a line of a drill file
abbrev pub has_line : List ℕ → List ℕ → Bool
has_line word text = list_any (is_line_of word) (lines text)

-- the line has no hole: it is empty, `M30` or `%`
abbrev pub has_no_hole : List ℕ → Bool
has_no_hole line = is_line_of [] line || (is_line_of (codes "M30") line || is_line_of (codes "%") line)

-- ---- the kind of a file

-- whether bytes begin as a zip archive that holds a file does: with `PK` and the bytes 3 and 4
abbrev pub is_archive : List ℕ → Bool
is_archive bytes = bytes_eq (take 4 bytes) (codes "PK" ++ 3 ∷ 4 ∷ [])

-- the bytes of `part` stand somewhere in the text
abbrev pub contains : List ℕ → List ℕ → Bool
contains text part = is_some (first_of (matches text part 0))

-- the text of a Gerber file: it contains `%FS`, `D02*`, `D03*` or `M02*`
abbrev pub is_gerber : List ℕ → Bool
is_gerber text = contains text (codes "%FS") || (contains text (codes "D02*") || (contains text (codes "D03*") || contains text (codes "M02*")))

-- the kind of a text without a line `M48`: with a line `M30` a drill file, or one without holes; else neither kind
abbrev pub kind_without_m48 : List ℕ → FileKind
kind_without_m48 text = if has_line (codes "M30") text then (if list_all has_no_hole (lines text) then Empty else Drill) else Neither

-- the kind of a text that is no archive; Gerber is asked first, then a line `M48`, then a line `M30`
abbrev pub kind_of_text : List ℕ → FileKind
kind_of_text text = if is_gerber text then Gerber else if has_line (codes "M48") text then Drill else kind_without_m48 text

-- the kind of a file by its bytes
abbrev pub kind_of : List ℕ → FileKind
kind_of text = if is_archive text then Archive else kind_of_text text

-- ---- the file function

-- the mark before the fields of a file function
abbrev pub function_prefix : List ℕ
function_prefix = codes ".FileFunction,"

-- a byte that ends a file function: an asterisk, a percent sign, CR or LF
abbrev pub ends_function : ℕ → Bool
ends_function b = (b == ascii.asterisk) || ((b == ascii.percent) || ((b == ascii.carriage_return) || (b == ascii.line_feed)))

-- the fields of a text's last file function, if it has one: `Copper,L1,Top` of `%TF.FileFunction,Copper,L1,Top*%`
abbrev pub function_of : List ℕ → Option (List ℕ)
function_of text = option_map (λ at. before_first ends_function (drop (at + 14) text)) (first_of (rmatches text function_prefix (length text)))

-- a comma, which separates the fields of a file function
abbrev pub is_comma : ℕ → Bool
is_comma b = b == ascii.comma

-- the field at a place, counted from 0, empty where there is none: field 1 of `Copper,L1,Top` is `L1`
abbrev pub field : ℕ → List ℕ → List ℕ
field zero function = before_first is_comma function
field (suc k) function = field k (after_first is_comma function)

-- ---- plating by the text

-- the line that says that the holes are plated
abbrev pub plated_line : List ℕ
plated_line = codes ";TYPE=PLATED"

-- the line that says that the holes are not plated
abbrev pub unplated_line : List ℕ
unplated_line = codes ";TYPE=NON_PLATED"

-- the text says that holes are plated: in a file function, in a line, or in the function of a tool
abbrev pub says_plated_holes : List ℕ → Bool
says_plated_holes text = contains text (codes ".FileFunction,Plated") || (has_line plated_line text || contains text (codes "TA.AperFunction,Plated"))

-- the text says that holes are not plated, likewise
abbrev pub says_unplated_holes : List ℕ → Bool
says_unplated_holes text = contains text (codes ".FileFunction,NonPlated") || (has_line unplated_line text || contains text (codes "TA.AperFunction,NonPlated"))
