-- Packages whose files say the same.
use Rattle.std.specs.Prelude.{◌≡◌, ◌↔◌, ℕ, List, [], ◌∷◌, Result, ⊤}
use Rattle.grid_units.specs.Holes.{GridRules}
use Rattle.grid_units.specs.declared.fault.Fault.{Fault}
use Rattle.package_check.specs.declared.contents.Content.{Content}
use Rattle.package_check.specs.Reports.{ReportView}
use Rattle.package_check.specs.Package.{FileView, Reads, IsAnswer}

-- two files say the same: they have just the same contents and faults
abbrev pub ReadAlike : FileView → FileView → Type 0
ReadAlike x y = (answer : Result Content Fault) → Reads x answer ↔ Reads y answer

-- two lists of files say the same, file by file
abbrev pub AllReadAlike : List FileView → List FileView → Type 0
AllReadAlike [] [] = ⊤
AllReadAlike (x ∷ xs) (y ∷ ys) = ReadAlike x y × AllReadAlike xs ys
AllReadAlike _ _ = ⊥

-- packages whose files say the same have the same answer
abbrev pub SameAnswers : Type 0
SameAnswers = (xs ys : List FileView) (rules : GridRules) (answer : Result ReportView (ℕ × Fault)) → AllReadAlike xs ys
    → IsAnswer xs rules answer ↔ IsAnswer ys rules answer

-- a file has at most one reading: one content or one fault, and not both
abbrev pub ReadingIsUnique : Type 0
ReadingIsUnique = (source : FileView) (a b : Result Content Fault) → Reads source a → Reads source b → a ≡ b

-- each file has a reading: a content or a fault
abbrev pub ReadingExists : Type 0
ReadingExists = (source : FileView) → (answer : Result Content Fault) × Reads source answer

-- each package has an answer: a report, or the first file that is refused
abbrev pub AnswerExists : Type 0
AnswerExists = (sources : List FileView) (rules : GridRules) → (answer : Result ReportView (ℕ × Fault)) × IsAnswer sources rules answer

-- a package has at most one answer
abbrev pub AnswerIsUnique : Type 0
AnswerIsUnique = (sources : List FileView) (rules : GridRules) (a b : Result ReportView (ℕ × Fault)) → IsAnswer sources rules a
    → IsAnswer sources rules b → a ≡ b
