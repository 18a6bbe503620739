-- How the bytes of a Gerber text are cut into items (docs/FORMATS.md, Cutting).
use Rattle.std.specs.Prelude.{◌≡◌, ℕ, Bool, true, false, not, List, [], ◌∷◌, ◌++◌, map, filter}
use Rattle.std.specs.List.{enumerate_from, flat_map, list_any}
use Rattle.gerber_text.specs.Items.{is_line_break, IsUnfinished, IsItem, is_end_item}

-- a byte of a text, paired with its offset: (0, 37) is a `%` at the start of the text
abbrev pub OffsetByte : Type 0
OffsetByte = ℕ × ℕ

-- the bytes that are not line breaks, with their offsets, where the first byte of all has this one
abbrev pub offset_bytes_from : ℕ → List ℕ → List OffsetByte
offset_bytes_from at bytes = filter (λ m. not (is_line_break m.1)) (enumerate_from at bytes)

-- the bytes of a text that are not line breaks: those of `M`, LF, `0` have the offsets 0 and 2
abbrev pub offset_bytes : List ℕ → List OffsetByte
offset_bytes text = offset_bytes_from 0 text

-- the bytes alone, without their offsets
abbrev pub bytes_of : List OffsetByte → List ℕ
bytes_of ms = map (λ m. m.1) ms

-- the offset of the first byte, or 0 where there is none
abbrev pub first_offset : List OffsetByte → ℕ
first_offset [] = 0
first_offset (m ∷ ms) = m.0

-- the end of the text, `M02*` or `M2*`, is among the items (Gerber format, End-of-file M02)
abbrev pub has_end : List (List OffsetByte) → Bool
has_end items = list_any (λ item. is_end_item (bytes_of item)) items

-- each is an item, and only the last of them may be the end of the text
abbrev pub AreItems : List (List OffsetByte) → Type 0
AreItems [] = Unit {0}
AreItems (item ∷ items) = IsItem (bytes_of item) × (is_end_item (bytes_of item) ≡ true → items ≡ []) × AreItems items

-- A text is its items and a rest: any bytes after the end of the text, or, without that end, the beginning of an item.
pub record Splits (ms : List OffsetByte) (items : List (List OffsetByte)) (rest : List OffsetByte) : Type 0 where
  pub whole : ms ≡ flat_map (λ item. item) items ++ rest
  pub each : AreItems items
  pub partial : has_end items ≡ false → IsUnfinished (bytes_of rest)
