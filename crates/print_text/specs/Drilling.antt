-- What drilling may leave of the rules of a sound package (docs/FORMATS.md, Report for people). Lengths are whole picometres.
use Rattle.std.specs.Prelude.{ℕ, ℤ, pos, ◌+◌, ◌-◌, ◌*◌, ◌++◌, ◌&&◌, Bool, List, [], ◌∷◌, codes, Option, Some, None, Result, Ok, Err, nat_le, int_le, unsigned_abs, if◌then◌else◌}
use Rattle.grid_units.specs.Ascii as ascii
use Rattle.grid_units.specs.Holes.{GridRules}
use Rattle.grid_units.specs.LengthWords.{short_millimetres}
use Rattle.grid_units.specs.Points.{max_coordinate}
use Rattle.grid_units.specs.declared.fault.Reason.{Reason}
use Rattle.grid_units.specs.declared.fault.Reason.TheVariants.{BadRule}

-- how far off its place each hole may be drilled, and how much wider in radius
pub record DrillBounds : Type 0 where
  pub off : ℕ
  pub wide : ℕ

-- whether a length is 0 to 10^13 pm
abbrev pub is_bound : ℤ → Bool
is_bound length = int_le (pos 0) length && int_le length (pos max_coordinate)

-- drilling up to one length off the place and up to the other wider in radius, or BadRule
unfoldable pub drilling_of : ℤ → ℤ → Result DrillBounds Reason
drilling_of off wide = if is_bound off && is_bound wide then Ok (record { off = unsigned_abs off; wide = unsigned_abs wide }) else Err BadRule

-- what is left of a rule where this much is taken from it; nothing where that is less than `least`
abbrev pub left_of : ℕ → ℕ → ℕ → Option ℤ
left_of least rule taken = if nat_le (taken + least) rule then Some (pos (rule - taken)) else None

-- the ring that is left, 0 or more: a hole takes from it what it is off and what it is wider
abbrev pub ring_left : GridRules → DrillBounds → Option ℤ
ring_left rules drilling = left_of 0 rules.ring (drilling.off + drilling.wide)

-- the gap that is left, more than 0: each of two holes takes from it what it is off and what it is wider
abbrev pub gap_left : GridRules → DrillBounds → Option ℤ
gap_left rules drilling = left_of 1 rules.gap (2 * (drilling.off + drilling.wide))

-- what is left, after its word: `ring 0.075`, or `no ring`
abbrev pub left_words : List ℕ → Option ℤ → List ℕ
left_words word (Some left) = word ++ (codes " " ++ short_millimetres left)
left_words word None = codes "no " ++ word

-- the line of what drilling leaves of the rules: `drilled up to 0.05 off and 0.025 wider in radius: ring 0.075, gap 0.1`
unfoldable pub drilling_line : GridRules → DrillBounds → List ℕ
drilling_line rules drilling =
    codes "drilled up to " ++ (short_millimetres (pos drilling.off) ++ (codes " off and " ++ (short_millimetres (pos drilling.wide)
    ++ (codes " wider in radius: " ++ (left_words (codes "ring") (ring_left rules drilling) ++ (codes ", "
    ++ (left_words (codes "gap") (gap_left rules drilling) ++ ascii.line_feed ∷ [])))))))

-- that line, where a report says what drilling leaves; else no line
abbrev pub drilling_text : GridRules → Option DrillBounds → List ℕ
drilling_text rules None = []
drilling_text rules (Some drilling) = drilling_line rules drilling
