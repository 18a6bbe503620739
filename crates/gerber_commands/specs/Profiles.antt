-- What extended items spell in a profile (docs/FORMATS.md, The wide profile).
use Rattle.std.specs.Prelude.{◌≡◌, ◌⊎◌, ℕ, List, [], ◌∷◌, ◌++◌, map, if◌then◌else◌, is_some, unwrap_or, None, Ok, Err, codes}
use Rattle.std.specs.List.{join_with_byte}
use Rattle.std.specs.Str.{bytes_eq}
use Rattle.grid_units.specs.Results.{◌>>=◌}
use Rattle.grid_units.specs.Rows.{literal_row, strip_prefix, split_by}
use Rattle.grid_units.specs.declared.fault.Reason.TheVariants.{BadWord}
use Rattle.gerber_commands.specs.declared.command.Command.{Command}
use Rattle.gerber_commands.specs.declared.command.Command.TheVariants.{Clear}
use Rattle.grid_units.specs.declared.profile.Profile.{Profile}
use Rattle.grid_units.specs.declared.profile.Profile.TheVariants.{Strict, Wide}
use Rattle.gerber_commands.specs.Rows.{Meaning, Row, first_match}
use Rattle.gerber_commands.specs.Pieces.{before_last, extended_meaning, has_several_pieces, last_byte, pieces}
use Rattle.gerber_commands.specs.PieceGrammar.{HasNo, IsPiece}
use Rattle.grid_units.specs.Ascii as ascii

-- ---- what is read

-- the pieces that only the wide profile reads: `LPC` is clear polarity (Gerber format, Load polarity LP), and `ICAS`, an older word, spells nothing
abbrev pub wide_row : List ℕ → Row
wide_row text = literal_row ((codes "LPC", Ok (Clear ∷ [])) ∷ (codes "ICAS", Ok []) ∷ []) text

-- a piece that stands alone in the wide profile: each but those two is read as in the strict profile
unfoldable pub wide_piece : List ℕ → Meaning
wide_piece text = unwrap_or (wide_row text) (first_match (pieces text))

-- a piece among others is read as if it stood alone, but defines no macro
unfoldable pub piece_among : List ℕ → Meaning
piece_among text = if is_some (strip_prefix (codes "AM") text) then Err BadWord else wide_piece text

-- what is spelled one after the other, or the first reason
abbrev pub spelled_in_turn : List Meaning → Meaning
spelled_in_turn [] = Ok []
spelled_in_turn (first ∷ others) = first >>= λ commands. spelled_in_turn others >>= λ more. Ok (commands ++ more)

-- the contents of an item without its last `*`: pieces one after the other, as `FSLAX24Y24*MOIN`, a macro with its pieces, or one piece
unfoldable pub wide_pieces : List ℕ → Meaning
wide_pieces text = if has_several_pieces text then spelled_in_turn (map piece_among (split_by ascii.asterisk text)) else wide_piece text

-- an extended item between its two `%`, as `LPC*`, in the profile
abbrev pub extended_in : Profile → List ℕ → Meaning
extended_in Strict text = extended_meaning text
extended_in Wide text = if bytes_eq (last_byte text) (codes "*") then wide_pieces (before_last text) else Err BadWord

-- ---- what is so written

-- a piece of the wide profile and what it spells: `LPC` and `ICAS` too (Gerber format, Load polarity LP)
abbrev pub IsWidePiece : List ℕ → List Command → Type 0
IsWidePiece text spelled = ((text ≡ codes "LPC") × (spelled ≡ Clear ∷ [])) ⊎ (((text ≡ codes "ICAS") × (spelled ≡ [])) ⊎ IsPiece text spelled)

-- pieces, none of which defines a macro, and what they spell one after the other
abbrev pub SpellInTurn : List (List ℕ) → List Command → Type 0
SpellInTurn [] spelled = spelled ≡ []
SpellInTurn (piece ∷ pieces) spelled =
    (first others : List Command) × (spelled ≡ first ++ others) × HasNo ascii.asterisk piece × (strip_prefix (codes "AM") piece ≡ None)
    × IsWidePiece piece first × SpellInTurn pieces others

-- what stands between `%` and `*%` in the profile, and what it spells: in the wide one also pieces with `*` between them, as `FSLAX24Y24*MOIN`
abbrev pub IsPieceIn : Profile → List ℕ → List Command → Type 0
IsPieceIn Strict text spelled = IsPiece text spelled
IsPieceIn Wide text spelled =
    IsWidePiece text spelled
    ⊎ ((first : List ℕ) × (others : List (List ℕ)) × (text ≡ join_with_byte ascii.asterisk (first ∷ others)) × SpellInTurn (first ∷ others) spelled)

-- ---- laws

-- what stands between two `%` and spells commands in a profile is a piece so written there, and `*`
abbrev pub ItemsAreWrittenIn : Type 0
ItemsAreWrittenIn = (profile : Profile) (item : List ℕ) (commands : List Command) → extended_in profile item ≡ Ok commands → (text : List ℕ) × (item ≡ text ++ codes "*") × IsPieceIn profile text commands

-- a piece so written in a profile, and `*`, spells its commands there
abbrev pub ItemsAreAnsweredIn : Type 0
ItemsAreAnsweredIn = (profile : Profile) (text : List ℕ) (commands : List Command) → IsPieceIn profile text commands → extended_in profile (text ++ codes "*") ≡ Ok commands

-- an item that spells commands in the strict profile spells the same ones in the wide one
abbrev pub WideReadsMore : Type 0
WideReadsMore = (item : List ℕ) (commands : List Command) → extended_meaning item ≡ Ok commands → extended_in Wide item ≡ Ok commands
