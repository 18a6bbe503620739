-- The grammar of Gerber texts: the bytes that are written for a list of commands in a profile (docs/FORMATS.md, Cutting; The wide profile). Reading says why and where any other text is refused.
use Rattle.std.specs.Prelude.{◌≡◌, ◌≢◌, ◌≤◌, ◌⊎◌, ℕ, true, List, [], ◌∷◌, ◌++◌, length, Option, None, codes}
use Rattle.std.specs.List.{All, concat}
use Rattle.std.specs.Option.{option_or}
use Rattle.grid_units.specs.Lists.{last_set}
use Rattle.grid_units.specs.Limits.{text_limit, item_limit}
use Rattle.gerber_commands.specs.declared.command.Action.{Action}
use Rattle.gerber_commands.specs.declared.command.Command.{Command}
use Rattle.gerber_commands.specs.declared.command.Command.TheVariants.{Finish}
use Rattle.grid_units.specs.declared.profile.Profile.{Profile}
use Rattle.gerber_commands.specs.WordGrammar.{IsWord}
use Rattle.gerber_commands.specs.PieceGrammar.{HasNo}
use Rattle.gerber_commands.specs.Profiles.{IsPieceIn}
use Rattle.gerber_text.specs.CutItems.{without_breaks}
use Rattle.gerber_text.specs.Meaning.{repeated_in}
use Rattle.gerber_text.specs.Reading.{action_of, may_follow}
use Rattle.grid_units.specs.Ascii as ascii

-- ---- items

-- an item for these commands after this last operation, or after none: a word and `*`, as `D10*`, or a piece between `%` and `*%`, as `%MOMM*%` (Gerber format, Commands)
abbrev pub IsItemIn : Profile → Option Action → List ℕ → List Command → Type 0
IsItemIn profile latest item commands =
    ((text : List ℕ) × (item ≡ text ++ codes "*") × HasNo ascii.asterisk text × IsWord (repeated_in profile latest) text commands)
    ⊎ ((text : List ℕ) × (item ≡ codes "%" ++ text ++ codes "*%") × HasNo ascii.percent text × IsPieceIn profile text commands)

-- items for these commands in order after this last operation, or after none, each at most 1,048,576 bytes long: `D10*`, `X5D03*` (docs/FORMATS.md, Cutting)
abbrev pub AreItemsIn : Profile → Option Action → List (List ℕ) → List Command → Type 0
AreItemsIn profile latest [] commands = commands ≡ []
AreItemsIn profile latest (item ∷ items) commands =
    (first others : List Command) × (commands ≡ first ++ others) × (length item ≤ item_limit) × IsItemIn profile latest item first × AreItemsIn profile (option_or (last_set action_of first) latest) items others

-- ---- texts

-- the end of the text: `M02*` or `M2*` (Gerber format, End-of-file M02)
abbrev pub IsEnd : List ℕ → Type 0
IsEnd item = (item ≡ codes "M02*") ⊎ (item ≡ codes "M2*")

-- A text for these commands in the profile, the last of which is Finish and no other: without CR and LF it is items, the end of the text, and then spaces, tabs and `*`.
-- It is at most 268,435,456 bytes long: `G75*`, LF, `M02*`, LF is a text for Quadrant(Multi) and Finish (docs/FORMATS.md, Cutting).
pub record IsTextIn (profile : Profile) (text : List ℕ) (commands : List Command) : Type 0 where
  pub items : List (List ℕ)
  pub end : List ℕ
  pub tail : List ℕ
  pub before : List Command
  pub written : without_breaks text ≡ concat items ++ end ++ tail
  pub spelled : AreItemsIn profile None items before
  pub not_ended : All (λ c. c ≢ Finish) before
  pub ends : IsEnd end
  pub follows : All (λ b. may_follow b ≡ true) tail
  pub is : commands ≡ before ++ Finish ∷ []
  pub short : length text ≤ text_limit
