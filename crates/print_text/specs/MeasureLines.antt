-- The lines of a measure (docs/FORMATS.md, Measure). Files are numbered from 1, by their place in the package.
use Rattle.std.specs.Prelude.{ℕ, ◌+◌, ◌++◌, List, [], ◌∷◌, codes, decimal, Option, Some, None}
use Rattle.std.specs.List.{flat_map}
use Rattle.grid_units.specs.Spellings.{millimetres}
use Rattle.board.specs.declared.met.Met.{Met}
use Rattle.board.specs.declared.met.Met.TheVariants as mets
use Rattle.report.specs.declared.GapLine.{GapLine}
use Rattle.report.specs.declared.HolePlace.{HolePlace}
use Rattle.report.specs.declared.LeastRing.{LeastRing}
use Rattle.report.specs.declared.Meets.{Meets}
use Rattle.report.specs.declared.RingLine.{RingLine}
use Rattle.report.specs.UnitMistakes.{factor_word}
use Rattle.report.specs.declared.UnitMistake.{UnitMistake}
use Rattle.grid_units.specs.Ascii as ascii

-- the least ring and the first hole that has it, `0.125000000 hole=3`; or `none` where each hole is bare
abbrev pub least_ring_words : Option LeastRing → List ℕ
least_ring_words None = codes "none"
least_ring_words (Some least) = millimetres least.ring ++ (codes " hole=" ++ decimal least.hole)

-- the start of a line of rings, with its files: `ring layer=1 drill=3 diameter=`
abbrev pub ring_files : ℕ → ℕ → List ℕ
ring_files layer drill = codes "ring layer=" ++ (decimal layer ++ (codes " drill=" ++ (decimal drill ++ codes " diameter=")))

-- how many holes need a ring, and how many of them are bare: ` holes=12 bare=0 least=`
abbrev pub ring_counts : ℕ → ℕ → List ℕ
ring_counts holes bare = codes " holes=" ++ (decimal holes ++ (codes " bare=" ++ (decimal bare ++ codes " least=")))

-- the rings on one layer of one drill file and diameter: `ring layer=1 drill=3 diameter=0.800000000 holes=12 bare=0 least=0.125000000 hole=3`
unfoldable pub ring_line : RingLine → List ℕ
ring_line line =
    ring_files (line.layer + 1) (line.drill + 1) ++ (millimetres line.diameter ++ (ring_counts line.holes line.bare ++ (least_ring_words line.least ++ ascii.line_feed ∷ [])))

-- a line of scales, by the number of its file, the bare holes, the word of its factor, and the holes that would be bare by it
abbrev pub scale_words : ℕ → ℕ → List ℕ → ℕ → List ℕ
scale_words drill bare factor then =
    codes "scale drill=" ++ (decimal drill ++ (codes " bare=" ++ (decimal bare ++ (codes " factor=" ++ (factor ++ (codes " then=" ++ (decimal then ++ ascii.line_feed ∷ [])))))))

-- the line of a drill file whose coordinates seem to be off by a factor: `scale drill=3 bare=40 factor=25.4 then=0`
unfoldable pub scale_line : UnitMistake → List ℕ
scale_line line = scale_words (line.drill + 1) line.bare (factor_word line.factor) line.then

-- the file of a hole and its number there: ` drill=3 hole=1`
abbrev pub hole_words : HolePlace → List ℕ
hole_words place = codes " drill=" ++ (decimal (place.drill + 1) ++ (codes " hole=" ++ decimal place.number))

-- the line of the least gap: `gap least=0.250000000 drill=3 hole=1 drill=4 hole=2`
unfoldable pub gap_line : GapLine → List ℕ
gap_line line = codes "gap least=" ++ (millimetres line.gap ++ (hole_words line.first ++ (hole_words line.second ++ ascii.line_feed ∷ [])))

-- the greatest rule that is met, `any` where nothing is asked, or `none` where no rule is met
abbrev pub met_words : Met → List ℕ
met_words mets.Any = codes "any"
met_words (mets.UpTo length) = millimetres length
met_words mets.None = codes "none"

-- the last line: `meets ring=0.125000000 gap=0.250000000 held=0.125000000`
unfoldable pub meets_line : Meets → List ℕ
meets_line meets = codes "meets ring=" ++ (met_words meets.ring ++ (codes " gap=" ++ (met_words meets.gap ++ (codes " held=" ++ (met_words meets.in_pads ++ ascii.line_feed ∷ [])))))

-- the line of the least gap, if there are two holes
abbrev pub gap_lines : Option GapLine → List ℕ
gap_lines None = []
gap_lines (Some line) = gap_line line

-- the text of a measure, without the lines of the files at its start
abbrev pub measure_text : List RingLine → List UnitMistake → Option GapLine → Meets → List ℕ
measure_text rings scales gap meets = (flat_map ring_line rings ++ flat_map scale_line scales) ++ (gap_lines gap ++ meets_line meets)
