-- The blanks at the end of a line (docs/FORMATS.md, Drill lines).
use Rattle.std.specs.Prelude.{ℕ, Bool, ◌||◌, ◌&&◌, ◌==◌, List, [], ◌∷◌, length, if◌then◌else◌}
use Rattle.grid_units.specs.Ascii as ascii

-- a space, a tab or CR
abbrev pub is_blank : ℕ → Bool
is_blank b = (b == ascii.space) || ((b == ascii.tab) || (b == ascii.carriage_return))

-- a line without the blanks at its end: `M30` of `M30`, CR. Blanks at its start stay
abbrev pub without_end_blanks : List ℕ → List ℕ
without_end_blanks [] = []
without_end_blanks (b ∷ bs) = if is_blank b && (length (without_end_blanks bs) == 0) then [] else b ∷ without_end_blanks bs
