-- Which texts have which commands in a profile: the grammar of drill texts, over that of lines (docs/FORMATS.md, Drill lines; The wide profile).
use Rattle.std.specs.Prelude.{◌≡◌, ◌⊎◌, ◌==◌, ℕ, IsTrue, List, [], ◌∷◌, ◌++◌, map, Option, Some}
use Rattle.std.specs.List.{Contains, flat_map, slice_split}
use Rattle.std.specs.Option.{option_to_list}
use Rattle.drill_lines.specs.declared.command.Settings.{Settings}
use Rattle.drill_lines.specs.declared.command.DrillCommand.{DrillCommand}
use Rattle.drill_lines.specs.declared.command.DrillCommand.TheVariants.{Slot, Finish}
use Rattle.drill_lines.specs.declared.command.Repeat.{Repeat}
use Rattle.drill_lines.specs.Lines.{without_end_blanks}
use Rattle.drill_lines.specs.Grammar.{IsLine}
use Rattle.drill_lines.specs.Repeats.{IsRepeatLine, drills_on}
use Rattle.drill_lines.specs.Routes.{machine_after}
use Rattle.drill_lines.specs.RouteGrammar.{IsAlone, IsRoute}
use Rattle.drill_lines.specs.declared.command.CoordinateFormat.{CoordinateFormat}
use Rattle.drill_text.specs.Lookback.{settings_after}
use Rattle.drill_text.specs.Profiles.{said_first}
use Rattle.drill_text.specs.Repeats.{ends_in_hit, further_hits}
use Rattle.grid_units.specs.Ascii as ascii
use Rattle.grid_units.specs.declared.profile.Profile.{Profile}
use Rattle.grid_units.specs.declared.profile.Profile.TheVariants.{Strict, Wide}

-- the lines of a text, cut at each LF: `M48` and `%` of `M48`, LF, `%`
abbrev pub lines_of : List ℕ → List (List ℕ)
lines_of text = slice_split (λ b. b == ascii.line_feed) text

-- in the wide profile, after these lines, lines that spell at most one command together, without the blanks at their ends: one by itself, or four of a route
abbrev pub IsWideEntry : List (List ℕ) → Settings → List (List ℕ) → Option DrillCommand → Type 0
IsWideEntry earlier settings (line ∷ []) spelled = IsAlone settings (machine_after (map without_end_blanks earlier)) (without_end_blanks line) spelled
IsWideEntry earlier settings (a ∷ b ∷ c ∷ d ∷ []) (Some (Slot from to)) =
    IsRoute settings (machine_after (map without_end_blanks earlier)) (without_end_blanks a) (without_end_blanks b) (without_end_blanks c) (without_end_blanks d) from to
IsWideEntry earlier settings lines spelled = ⊥

-- in the wide profile a line that repeats a hit spells its further hits: right after the hit, where no line of a route is due and the machine drills
abbrev pub IsRepeated : List (List ℕ) → List DrillCommand → List (List ℕ) → List DrillCommand → Type 0
IsRepeated earlier before (line ∷ []) spelled = (repeat : Repeat) × IsTrue (ends_in_hit before) × IsTrue (drills_on (map without_end_blanks earlier))
    × IsRepeatLine (settings_after before) (without_end_blanks line) repeat × (spelled ≡ further_hits before repeat)
IsRepeated earlier before entry spelled = ⊥

-- after these lines and commands an entry spells these: a line at most one command, or in the wide profile lines of one entry, or the further hits of a repeat
abbrev pub Spells : Profile → List (List ℕ) → List DrillCommand → List (List ℕ) → List DrillCommand → Type 0
Spells Strict earlier before (line ∷ []) cs = (one : Option DrillCommand) × IsLine (settings_after before) (without_end_blanks line) one × (cs ≡ option_to_list one)
Spells Wide earlier before entry cs =
    ((one : Option DrillCommand) × IsWideEntry earlier (settings_after before) entry one × (cs ≡ option_to_list one)) ⊎ IsRepeated earlier before entry cs
Spells profile earlier before entry cs = ⊥

-- The commands that stand before, and then those that the entries spell in order, each by the lines and commands before it.
abbrev pub AreEntries : Profile → List (List ℕ) → List DrillCommand → List (List (List ℕ)) → List DrillCommand → Type 0
AreEntries profile earlier before [] commands = commands ≡ before
AreEntries profile earlier before (entry ∷ entries) commands = (spelled : List DrillCommand)
    × Spells profile earlier before entry spelled × AreEntries profile (earlier ++ entry) (before ++ spelled) entries commands

-- A text of these commands in a profile, after what is said of its coordinates beside it: its lines are entries that spell them in order, and the end of the file, `M30`, is
-- among them.
pub record IsText (profile : Profile) (format : Option CoordinateFormat) (text : List ℕ) (commands : List DrillCommand) : Type 0 where
  pub entries : List (List (List ℕ))
  pub lines : flat_map (λ entry. entry) entries ≡ lines_of text
  pub spells : AreEntries profile [] (said_first format) entries commands
  pub ends : Contains commands Finish
