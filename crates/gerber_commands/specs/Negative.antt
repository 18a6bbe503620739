-- Which attributes make the image of a layer negative (docs/FORMATS.md, Names, first fields, negative images).
use Rattle.std.specs.Prelude.{ℕ, Bool, false, not, ◌==◌, List, drop, unwrap_or, codes}
use Rattle.std.specs.Option.{option_map}
use Rattle.std.specs.List.{prefix_len, take_while}
use Rattle.std.specs.Str.{bytes_eq}
use Rattle.grid_units.specs.Rows.{strip_prefix}
use Rattle.grid_units.specs.Ascii as ascii

-- the text up to the first comma: `.FileFunction` of `.FileFunction,Copper,L1,Top` (Gerber format, Attributes)
abbrev pub first_field : List ℕ → List ℕ
first_field text = take_while (λ b. not (b == ascii.comma)) text

-- a file attribute that makes the image negative: `.FilePolarity,Negative` (Gerber format, .FilePolarity)
abbrev pub is_negative_image : List ℕ → Bool
is_negative_image attribute = unwrap_or (option_map (λ value. bytes_eq (first_field value) (codes "Negative")) (strip_prefix (codes ".FilePolarity,") attribute)) false

-- the text without the spaces at its start
abbrev pub after_spaces : List ℕ → List ℕ
after_spaces text = drop (prefix_len (λ b. b == ascii.space) text) text

-- a comment with an attribute that makes the image negative: ` #@! TF.FilePolarity,Negative` (Gerber format, Attributes in comments)
abbrev pub is_negative_comment : List ℕ → Bool
is_negative_comment text = unwrap_or (option_map is_negative_image (strip_prefix (codes "#@! TF") (after_spaces text))) false
