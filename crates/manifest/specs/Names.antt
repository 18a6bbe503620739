-- What the name of a file says: its words, and the words that exporters use (docs/FORMATS.md, Proposals).
use Rattle.std.specs.Prelude.{ℕ, ◌-◌, Bool, false, ◌||◌, ◌&&◌, ◌==◌, not, nat_le, ◌++◌, List, [], ◌∷◌, Option, Some, None, is_some, length, take, drop, map, reverse, unwrap_or, slice_get, codes, if◌then◌else◌}
use Rattle.std.specs.List.{list_any, slice_split, filter, find, before_first, after_last, position_or_len}
use Rattle.std.specs.Char.{to_ascii_lowercase}
use Rattle.std.specs.Str.{bytes_eq}
use Rattle.grid_units.specs.Numbers.{is_digit, is_digits, value}
use Rattle.grid_units.specs.Ascii as ascii
use Rattle.manifest.specs.Contents.{contains}

-- ---- words

-- what follows the last slash of a name, or the whole name without one: `top.gbr` of `out/top.gbr`
abbrev pub base_name : List ℕ → List ℕ
base_name name = after_last (λ b. b == ascii.slash) name

-- a small letter
abbrev pub is_small_letter : ℕ → Bool
is_small_letter b = nat_le ascii.lower_a b && nat_le b ascii.lower_z

-- a capital that follows a small letter, as the `M` of `SolderMask` does: it begins a word
abbrev pub begins_word : ℕ → ℕ → Bool
begins_word before b = is_small_letter before && (nat_le ascii.upper_a b && nat_le b ascii.upper_z)

-- a byte after the byte before it: where it begins a word, a space stands between the two
abbrev pub parted_byte : ℕ → ℕ → List ℕ
parted_byte before b = if begins_word before b then ascii.space ∷ b ∷ [] else b ∷ []

-- the bytes after the byte before them, with a space before each that begins a word: `Solder Mask Top` of `SolderMaskTop`
abbrev pub spaced_words : ℕ → List ℕ → List ℕ
spaced_words before [] = []
spaced_words before (b ∷ bs) = parted_byte before b ++ spaced_words b bs

-- a small letter or a digit
abbrev pub is_word_byte : ℕ → Bool
is_word_byte b = is_digit b || is_small_letter b

-- the runs of small letters and digits: `f`, `cu` of `f_cu`
abbrev pub word_runs : List ℕ → List (List ℕ)
word_runs name = filter (λ run. not (length run == 0)) (slice_split (λ b. not (is_word_byte b)) name)

-- what follows the last slash of a name, cut before the capitals that begin words, in lower case: `top layer.gbr` of `out/TopLayer.gbr`
abbrev pub lower_base_name : List ℕ → List ℕ
lower_base_name name = map to_ascii_lowercase (spaced_words 0 (base_name name))

-- the words of a name, the runs of letters and digits after its last slash, cut before the capitals that begin words, in lower case:
-- `b`, `f`, `cu`, `gbr` of `out/b-F_Cu.gbr`, and `solder`, `mask`, `top`, `gbr` of `SolderMaskTop.gbr`
abbrev pub words_of : List ℕ → List (List ℕ)
words_of name = word_runs (lower_base_name name)

-- the name has a point after its last slash
abbrev pub has_dot : List ℕ → Bool
has_dot name = list_any (λ b. b == ascii.point) (base_name name)

-- the last of these words, empty where there is none
abbrev pub last_word_or_empty : List (List ℕ) → List ℕ
last_word_or_empty words = unwrap_or (slice_get words (length words - 1)) []

-- the end of a name: where it has a point, the last of its words (`gbr` of `b.gbr`), else empty
abbrev pub extension_of : Bool → List (List ℕ) → List ℕ
extension_of point words = if point then last_word_or_empty words else []

-- the stem of a name: its words without its end, `b`, `f`, `cu` of `b-F_Cu.gbr`
abbrev pub stem_of : Bool → List (List ℕ) → List (List ℕ)
stem_of point words = if point then take (length words - 1) words else words

-- the word is one of these
abbrev pub is_one_of : List ℕ → List (List ℕ) → Bool
is_one_of word these = list_any (λ one. bytes_eq one word) these

-- the words of sides that may stand after the point of a name: `bot` in `silk.bot`
abbrev pub side_ends : List (List ℕ)
side_ends = codes "top" ∷ codes "bot" ∷ []

-- the name has an end: it has a point, and the last of its words is not that of a side
abbrev pub has_end : Bool → List (List ℕ) → Bool
has_end point words = point && not (is_one_of (last_word_or_empty words) side_ends)

-- ---- words with a number

-- one digit or more, up to so many
abbrev pub is_number_within : ℕ → List ℕ → Bool
is_number_within limit text = is_digits text && nat_le (length text) limit

-- the number that a text spells, None where it is not one to so many digits
abbrev pub number_within : ℕ → List ℕ → Option ℕ
number_within limit text = if is_number_within limit text then Some (value text) else None

-- a word before its first digit: `in` of `in2`
abbrev pub letters_of : List ℕ → List ℕ
letters_of word = before_first is_digit word

-- a word from its first digit on: `2` of `in2`
abbrev pub digits_of : List ℕ → List ℕ
digits_of word = drop (position_or_len is_digit word) word

-- the number of a word that is one of these and then one or two digits: 2 of `in2`
abbrev pub number_suffix : List (List ℕ) → List ℕ → Option ℕ
number_suffix these word = if is_one_of (letters_of word) these then number_within 2 (digits_of word) else None

-- ---- the words of exporters

-- the ends of planes, followed by a number: `b.gp1`
abbrev pub plane_extensions : List (List ℕ)
plane_extensions = codes "gp" ∷ []

-- the ends of layers without copper: `b.gts`
abbrev pub other_extensions : List (List ℕ)
other_extensions = codes "gts" ∷ codes "gtp" ∷ codes "gto" ∷ codes "gbs" ∷ codes "gbp" ∷ codes "gbo" ∷ codes "gko" ∷ codes "gpt" ∷ codes "gpb" ∷ codes "gm" ∷ codes "gml"
    ∷ codes "stc" ∷ codes "sts" ∷ codes "plc" ∷ codes "pls" ∷ codes "crc" ∷ codes "crs" ∷ []

-- the ends of layers without copper that are followed by a number: `b.gm1`
abbrev pub numbered_other_extensions : List (List ℕ)
numbered_other_extensions = codes "gm" ∷ codes "gd" ∷ []

-- the ends of top layers: `b.gtl`
abbrev pub top_extensions : List (List ℕ)
top_extensions = codes "gtl" ∷ codes "cmp" ∷ []

-- the ends of bottom layers: `b.gbl`
abbrev pub bottom_extensions : List (List ℕ)
bottom_extensions = codes "gbl" ∷ codes "sol" ∷ []

-- the ends of inner layers, followed by a number: `b.g1`
abbrev pub inner_extensions : List (List ℕ)
inner_extensions = codes "g" ∷ codes "gl" ∷ codes "ly" ∷ []

-- the words for copper, dropped at the end of a stem: `cu` in `b-F_Cu.gbr`
abbrev pub copper_words : List (List ℕ)
copper_words = codes "cu" ∷ codes "copper" ∷ codes "layer" ∷ []

-- the parts of words that occur in the names of layers without copper: `mask` in `soldermask_top.gbr`
abbrev pub other_parts : List (List ℕ)
other_parts = codes "mask" ∷ codes "paste" ∷ codes "silk" ∷ codes "legend" ∷ codes "overlay" ∷ codes "outline" ∷ codes "contour" ∷ codes "courtyard"
    ∷ codes "crtyd" ∷ codes "adhes" ∷ codes "keepout" ∷ codes "stencil" ∷ codes "stiffen" ∷ codes "mechanic" ∷ codes "dimension" ∷ codes "document"
    ∷ codes "drawing" ∷ codes "assembl" ∷ codes "placement" ∷ codes "profile" ∷ codes "cream" ∷ codes "milling" ∷ codes "drillmap" ∷ codes "vcut" ∷ []

-- the words of layers without copper, with or without a number: `edge` and `cuts` in `b-Edge_Cuts.gbr`, `user` in `b-User_1.gbr`
abbrev pub other_words : List (List ℕ)
other_words = codes "crt" ∷ codes "yd" ∷ codes "cover" ∷ codes "edge" ∷ codes "edges" ∷ codes "cut" ∷ codes "cuts" ∷ codes "border" ∷ codes "fab" ∷ codes "fabrication" ∷ codes "user"
    ∷ codes "margin" ∷ codes "comments" ∷ codes "cmts" ∷ codes "dwg" ∷ codes "dwgs" ∷ codes "eco" ∷ codes "note" ∷ codes "notes"
    ∷ codes "doc" ∷ codes "docu" ∷ codes "dim" ∷ codes "dims" ∷ codes "mech" ∷ codes "assy" ∷ codes "asm" ∷ codes "place"
    ∷ codes "glue" ∷ codes "tglue" ∷ codes "bglue" ∷ codes "stop" ∷ codes "tstop" ∷ codes "bstop" ∷ codes "resist" ∷ codes "keep"
    ∷ codes "map" ∷ codes "guide" ∷ codes "marking" ∷ codes "ident" ∷ codes "score" ∷ codes "vscore" ∷ codes "sm" ∷ codes "smt"
    ∷ codes "smb" ∷ codes "ss" ∷ codes "sst" ∷ codes "ssb" ∷ codes "sp" ∷ codes "spt" ∷ codes "spb" ∷ codes "tsm"
    ∷ codes "bsm" ∷ codes "tss" ∷ codes "bss" ∷ codes "tsp" ∷ codes "bsp" ∷ []

-- the words of layers that may be copper or not, with or without a number: `solder` in `solder_side.gbr` and in `top_solder.gbr`
abbrev pub unclear_words : List (List ℕ)
unclear_words = codes "solder" ∷ codes "pad" ∷ codes "pads" ∷ codes "plane" ∷ codes "planes" ∷ codes "drill" ∷ codes "drills" ∷ codes "hole"
    ∷ codes "holes" ∷ codes "via" ∷ codes "vias" ∷ codes "slot" ∷ codes "slots" ∷ codes "route" ∷ codes "routing" ∷ codes "rout" ∷ []

-- the words of top layers: `top` in `copper_top.gbr`
abbrev pub top_words : List (List ℕ)
top_words = codes "top" ∷ codes "front" ∷ codes "toplayer" ∷ codes "coppertop" ∷ codes "topcopper" ∷ []

-- the words of bottom layers: `bottom` in `copper_bottom.gbr`
abbrev pub bottom_words : List (List ℕ)
bottom_words = codes "bottom" ∷ codes "bot" ∷ codes "back" ∷ codes "bottomlayer" ∷ codes "copperbottom" ∷ codes "bottomcopper" ∷ []

-- the words of inner layers, followed by a number: `in2` in `b-In2_Cu.gbr`
abbrev pub inner_words : List (List ℕ)
inner_words = codes "in" ∷ codes "inner" ∷ codes "innerlayer" ∷ codes "l" ∷ codes "layer" ∷ codes "group" ∷ codes "signal" ∷ []

-- the words that each say that holes are not plated: `npth` in `b-NPTH.drl`
abbrev pub unplated_words : List (List ℕ)
unplated_words = codes "npth" ∷ codes "unplated" ∷ codes "nonplated" ∷ codes "nplt" ∷ []

-- the word `non` stands right before the word `plated`: `b-non-plated.drl`
abbrev pub has_non_plated : List (List ℕ) → Bool
has_non_plated [] = false
has_non_plated (word ∷ []) = false
has_non_plated (word ∷ next ∷ rest) = (bytes_eq word (codes "non") && bytes_eq next (codes "plated")) || has_non_plated (next ∷ rest)

-- the words of a name say that holes are not plated, by one word or by `non` and `plated`
abbrev pub says_unplated : List (List ℕ) → Bool
says_unplated words = list_any (λ word. is_one_of word unplated_words) words || has_non_plated words

-- the words that each say that holes are plated, unless `non` stands right before it: `pth` in `b-PTH.drl`
abbrev pub plated_words : List (List ℕ)
plated_words = codes "pth" ∷ codes "plated" ∷ codes "plt" ∷ codes "via" ∷ codes "vias" ∷ []

-- the word says that holes are plated; `after_non` says whether `non` stands right before it
abbrev pub is_plated_word : Bool → List ℕ → Bool
is_plated_word after_non word = is_one_of word plated_words && not after_non

-- a word that says that holes are plated stands among these, the first of which stands right after `non` or not
abbrev pub has_plated : Bool → List (List ℕ) → Bool
has_plated after_non [] = false
has_plated after_non (word ∷ rest) = is_plated_word after_non word || has_plated (bytes_eq word (codes "non")) rest

-- the words of a name say that holes are plated
abbrev pub says_plated : List (List ℕ) → Bool
says_plated words = has_plated false words

-- ---- what a word says of a layer

-- the word contains one of these parts
abbrev pub has_part : List ℕ → List (List ℕ) → Bool
has_part word parts = list_any (λ part. contains word part) parts

-- a word of a layer without copper, by a part of it or up to its first digit: `soldermask`, `user`, `user1`
abbrev pub is_other_word : List ℕ → Bool
is_other_word word = has_part word other_parts || is_one_of (letters_of word) other_words

-- a word that may be of a layer without copper, up to its first digit: `plane2`
abbrev pub is_unclear_word : List ℕ → Bool
is_unclear_word word = is_one_of (letters_of word) unclear_words

-- a word that names copper: `cu`, `coppertop`, `in2`
abbrev pub names_copper : List ℕ → Bool
names_copper word = has_part word (codes "copper" ∷ []) || (bytes_eq word (codes "cu") || is_some (number_suffix inner_words word))

-- ---- the last word of a stem

-- a word for copper: `cu`, `copper` or `layer`
abbrev pub is_copper_word : List ℕ → Bool
is_copper_word word = is_one_of word copper_words

-- the stem ends in a word for copper
abbrev pub ends_in_copper : List (List ℕ) → Bool
ends_in_copper stem = is_copper_word (last_word_or_empty stem)

-- the last word of a stem without the words for copper at its end, empty where there is none: `f` of `b`, `f`, `cu`
abbrev pub last_other_word : List (List ℕ) → List ℕ
last_other_word stem = unwrap_or (find (λ word. not (is_copper_word word)) (reverse stem)) []
