-- Which Gerber files may be left out of a manifest.
use Rattle.std.specs.Prelude.{ℕ, Bool, ◌||◌, ◌&&◌, not, List, unwrap_or, codes}
use Rattle.std.specs.List.{list_any}
use Rattle.std.specs.Option.{option_map}
use Rattle.std.specs.Str.{bytes_eq}
use Rattle.manifest.specs.Contents.{field, function_of}
use Rattle.manifest.specs.Names.{extension_of, has_dot, has_end, is_other_word, names_copper, stem_of, words_of}
use Rattle.manifest.specs.Decisions.{is_drill_function, is_other_extension}

-- a file function of neither copper nor holes: `Soldermask,Top`
abbrev pub is_other_function : List ℕ → Bool
is_other_function function = not (bytes_eq (field 0 function) (codes "Copper")) && not (is_drill_function (field 0 function))

-- a stem with a word of a layer without copper and none that names copper: that of `soldermask_top.gbr`
abbrev pub is_other_stem : List (List ℕ) → Bool
is_other_stem stem = list_any is_other_word stem && not (list_any names_copper stem)

-- the words of the name of a layer without copper, by their end or by the stem
abbrev pub are_other_words : Bool → List (List ℕ) → Bool
are_other_words point words = is_other_extension (extension_of point words) || is_other_stem (stem_of point words)

-- the file function is of neither copper nor holes, or there is none and the name is that of a layer without copper
abbrev pub names_no_copper : List ℕ → List ℕ → Bool
names_no_copper name text = unwrap_or (option_map is_other_function (function_of text)) (are_other_words (has_end (has_dot name) (words_of name)) (words_of name))
