-- Packages whose files are rewritten.
use Rattle.std.specs.Prelude.{◌≡◌, ◌⊎◌, ◌↔◌, ℕ, Bool, true, false, List, [], ◌∷◌, None, Result, Ok, ⊤}
use Rattle.grid_units.specs.Holes.{GridRules}
use Rattle.grid_units.specs.declared.fault.Fault.{Fault}
use Rattle.grid_units.specs.declared.profile.Profile.TheVariants.{Wide}
use Rattle.manifest.specs.declared.Role.{Role}
use Rattle.manifest.specs.declared.Role.TheVariants as role
use Rattle.ringcheck_files.specs.declared.rewrite.Kind.{Kind}
use Rattle.ringcheck_files.specs.declared.rewrite.Kind.TheVariants as kind
use Rattle.ringcheck_files.specs.Rewriting.{Rewrites}
use Rattle.package_check.specs.Reports.{ReportView}
use Rattle.package_check.specs.Package.{FileView, IsAnswer}
use Rattle.package_check.specs.WiderProfile.{IsUncontradicted}

-- the kind of text that a file of this role has: a layer, or a drill file
abbrev pub kind_of : Role → Kind
kind_of role.Copper = kind.Layer
kind_of role.Plated = kind.Drill
kind_of role.Unplated = kind.Drill
kind_of role.Mixed = kind.Drill

-- a file with these bytes in place of its own
abbrev pub with_bytes : FileView → List ℕ → FileView
with_bytes source bytes = record { role = source.role; name = source.name; said = source.said; bytes = bytes; setting = source.setting }

-- whether a role is that of a mixed file
abbrev pub is_mixed : Role → Bool
is_mixed role.Mixed = true
is_mixed _ = false

-- A file is left as it was, or its text is rewritten; a text that is rewritten is one of the strict profile. A mixed file is left as it was, and so is one of the wide profile
-- that contradicts its role, as the place where it is refused for what it says of its platings may change, or of whose coordinates something is said beside its text.
abbrev pub IsRewritten : FileView → FileView → Type 0
IsRewritten x y = (y ≡ x) ⊎ ((text : List ℕ) × (is_mixed x.role ≡ false) × (x.setting.profile ≡ Wide → (x.said.format ≡ None) × IsUncontradicted x)
    × Rewrites (kind_of x.role) x.bytes (Ok text) × (y ≡ with_bytes x text))

-- two lists of files: of the first any files, all or none, are rewritten in the second
abbrev pub AreRewritten : List FileView → List FileView → Type 0
AreRewritten [] [] = ⊤
AreRewritten [] (y ∷ ys) = ⊥
AreRewritten (x ∷ xs) [] = ⊥
AreRewritten (x ∷ xs) (y ∷ ys) = IsRewritten x y × AreRewritten xs ys

-- a package in which any files are rewritten has the same answer, in whatever profiles its files are read
abbrev pub RewritingKeepsAnswers : Type 0
RewritingKeepsAnswers = (xs ys : List FileView) (rules : GridRules) (answer : Result ReportView (ℕ × Fault)) → AreRewritten xs ys
    → IsAnswer xs rules answer ↔ IsAnswer ys rules answer
