-- A hit at the start of the bytes of a file (docs/FORMATS.md, Drill lines).
use Rattle.std.specs.Prelude.{◌≡◌, ◌≤◌, ℕ, ℤ, true, not, ◌==◌, List, ◌∷◌, ◌++◌, length, replicate, Option, Some, None, Ok}
use Rattle.std.specs.List.{list_all}
use Rattle.grid_units.specs.Numbers.{is_number_char}
use Rattle.drill_lines.specs.Lines.{without_end_blanks}
use Rattle.drill_lines.specs.HoleLines.{coordinate_of}
use Rattle.drill_lines.specs.Meaning.{meaning}
use Rattle.drill_lines.specs.declared.command.Coordinates.{Coordinates}
use Rattle.drill_lines.specs.declared.command.Part.TheVariants as part
use Rattle.drill_lines.specs.declared.command.Settings.{Settings}
use Rattle.drill_lines.specs.declared.command.DrillCommand.TheVariants as command
use Rattle.grid_units.specs.Ascii as ascii

-- The bytes are the run of a coordinate, at most 16, which by the settings is this, and this rest: `1.0Y2.0` is 1 and `Y2.0`.
pub record IsLeadingRun (settings : Settings) (v : ℤ) (rest bytes : List ℕ) : Type 0 where
  pub run : List ℕ
  pub whole : bytes ≡ run ++ rest
  pub numbers : list_all is_number_char run ≡ true
  pub reads : coordinate_of settings run ≡ Ok v
  pub short : length run ≤ 16

-- the bytes are this letter, such a run and this rest; or the coordinate is left out, and the rest is all of them
abbrev pub MayLead : Settings → ℕ → Option ℤ → List ℕ → List ℕ → Type 0
MayLead settings letter None rest bytes = rest ≡ bytes
MayLead settings letter (Some v) rest bytes = (tail : List ℕ) × (bytes ≡ letter ∷ tail) × IsLeadingRun settings v rest tail

-- the bytes are so many CRs, none or one, then an LF, and more bytes
abbrev pub HasLineEnd : ℕ → List ℕ → Type 0
HasLineEnd n bytes = (n ≤ 1) × (more : List ℕ) × (bytes ≡ replicate n ascii.carriage_return ++ ascii.line_feed ∷ more)

-- The bytes are a line of this length, at most 64, then its LF, and more. In the body the line spells this hit by `meaning`.
pub record HasLeadingHit (settings : Settings) (point : Coordinates) (len : ℕ) (bytes : List ℕ) : Type 0 where
  pub line : List ℕ
  pub more : List ℕ
  pub whole : bytes ≡ line ++ ascii.line_feed ∷ more
  pub count : length line ≡ len
  pub short : len ≤ 64
  pub inside : list_all (λ b. not (b == ascii.line_feed)) line ≡ true
  pub spells : settings.part ≡ part.Body → meaning settings (without_end_blanks line) ≡ Ok (Some (command.Hit point))
