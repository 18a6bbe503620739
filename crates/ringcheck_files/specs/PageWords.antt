-- The words that have a page (docs/FORMATS.md, Explanations).
use Rattle.std.specs.Prelude.{◌≡◌, ◌≤◌, ◌⊎◌, ◌+◌, ◌++◌, ◌==◌, ℕ, Bool, List, [], ◌∷◌, codes, length, map, take}
use Rattle.std.specs.List.{before_first, AllByRecursion, Contains}
use Rattle.std.specs.Str.Lines.{lines}
use Rattle.grid_units.specs.declared.fault.Reason.{Reason}
use Rattle.grid_units.specs.declared.fault.Reason.TheVariants as reasons
use Rattle.grid_units.specs.Reasons.{reason_name}
use Rattle.grid_units.specs.Ascii as ascii

-- the words of the findings, of their causes and of the wide profile: `RING` is a finding, `small` a cause of one
abbrev pub topic_words : List (List ℕ)
topic_words = codes "RING" ∷ codes "GAP" ∷ codes "OBLIQUE" ∷ codes "ring" ∷ codes "small" ∷ codes "off" ∷ codes "edge" ∷ codes "none" ∷ codes "macro" ∷ codes "polygon"
    ∷ codes "holed" ∷ codes "scaled" ∷ codes "turned" ∷ codes "clear" ∷ codes "cleared" ∷ codes "oblique" ∷ codes "plane" ∷ codes "wide" ∷ []

-- a word that has a page: the name of a reason (`TooLong`), or one of the other words (`RING`)
abbrev pub IsExplained : List ℕ → Type 0
IsExplained word = ((reason : Reason) × (reason_name reason ≡ word)) ⊎ Contains topic_words word

-- a page begins with its word, a colon and a space: `TooLong: `
abbrev pub HasHeading : List ℕ → List ℕ → Type 0
HasHeading word page = take (length word + 2) page ≡ word ++ codes ": "

-- a page has at most 12 lines, each of at most 78 columns
abbrev pub FitsScreen : List ℕ → Type 0
FitsScreen page = (length (lines page) ≤ 12) × AllByRecursion (λ line. length line ≤ 78) (lines page)

-- all 48 reasons, in the order of their numbers
abbrev pub all_reasons : List Reason
all_reasons = reasons.TooLong ∷ reasons.AfterEnd ∷ reasons.Truncated ∷ reasons.SeveralInOne ∷ reasons.ClearPolarity ∷ reasons.BlockAperture ∷ reasons.NegativeImage ∷ reasons.TrailingZeros ∷ reasons.Incremental ∷ reasons.OldParameter ∷ reasons.OldFormat ∷ reasons.Routed ∷ reasons.Repeat ∷ reasons.BadWord ∷ reasons.BadLine ∷ reasons.BadNumber ∷ reasons.NoZeros ∷ reasons.TooManyDigits ∷ reasons.TooFine ∷ reasons.TooFar ∷ reasons.BareCoordinate ∷ reasons.InRegion ∷ reasons.NotInRegion ∷ reasons.NoFormat ∷ reasons.NoUnit ∷ reasons.UnitConflict ∷ reasons.FormatConflict ∷ reasons.Redefined ∷ reasons.UnknownMacro ∷ reasons.UnknownAperture ∷ reasons.UnknownTool ∷ reasons.NoAperture ∷ reasons.NoTool ∷ reasons.BadSize ∷ reasons.BadRepeat ∷ reasons.TooManyPads ∷ reasons.TooManyHoles ∷ reasons.BadRule ∷ reasons.BadManifest ∷ reasons.BadRole ∷ reasons.EmptyName ∷ reasons.RepeatedName ∷ reasons.NoCopper ∷ reasons.NoDrill ∷ reasons.NotCopper ∷ reasons.BadSpan ∷ reasons.NoPlating ∷ reasons.PlatingConflict ∷ []

-- the words that are listed: the names of the reasons, then the other words
abbrev pub all_words : List (List ℕ)
all_words = map reason_name all_reasons ++ topic_words

-- a colon
abbrev pub is_colon : ℕ → Bool
is_colon b = b == ascii.colon

-- the lines of a text, each of at most 78 columns, have all words in order before their colons: `NoDrill: the manifest names no drill file`
abbrev pub ListsWords : List ℕ → Type 0
ListsWords text = (map (before_first is_colon) (lines text) ≡ all_words) × AllByRecursion (λ line. length line ≤ 78) (lines text)

-- each word that has a page is listed
abbrev pub EachWordIsListed : Type 0
EachWordIsListed = (word : List ℕ) → IsExplained word → Contains all_words word
