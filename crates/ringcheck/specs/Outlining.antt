-- The outline of a board that a loader has under a name, or why it is refused (docs/FORMATS.md, The program).
use Rattle.std.specs.Prelude.{◌≡◌, ◌<◌, ◌≤◌, ◌⊎◌, ◌++◌, ◌∷◌, [], ℕ, List, Option, Some, None, Result, Ok, Err, codes, decimal, length}
use Rattle.std.specs.Io.KnownBytes.{Appends}
use Rattle.grid_units.specs.Ascii as ascii
use Rattle.grid_units.specs.Reasons.{reason_name}
use Rattle.grid_units.specs.declared.fault.Fault.{Fault}
use Rattle.grid_units.specs.declared.profile.Profile.TheVariants.{Strict}
use Rattle.layer_image.specs.Layers.{ReadsLayer}
use Rattle.pad_shapes.specs.declared.drawn.Drawn.{Drawn}
use Rattle.package_check.specs.FileTexts.{Draws}
use Rattle.ringcheck_files.specs.LoaderRelation.{Relation, file_limit, too_long, within}
use Rattle.ringcheck_files.specs.Writers.{IsSilent, Written}
use Rattle.ringcheck_files.specs.declared.Status.{Status}
use Rattle.ringcheck_files.specs.declared.Status.TheVariants as status

-- in the strict profile a text is that of a layer, which draws these parts; or it has this fault
abbrev pub ReadsOutline : List ℕ → Result (List Drawn) Fault → Type 0
ReadsOutline text (Ok outline) = Draws Strict text outline
ReadsOutline text (Err why) = ReadsLayer text (Err why)

-- the loader has under this name a layer's text that draws these parts, not above the limit of files
abbrev pub HasOutline : Relation → List ℕ → List Drawn → Type 0
HasOutline has file outline = (text : List ℕ) × within file_limit has file text × ReadsOutline text (Ok outline)

-- a text is refused: it is above the limit of files, or it is not, and has this fault
abbrev pub RefusesOutline : List ℕ → Fault → Type 0
RefusesOutline text why = ((file_limit < length text) × (why ≡ too_long)) ⊎ ((length text ≤ file_limit) × ReadsOutline text (Err why))

-- the loader has under this name a text that is refused
abbrev pub RefusedOutline : Relation → List ℕ → Fault → Type 0
RefusedOutline has file why = (text : List ℕ) × has file text × RefusesOutline text why

-- the line of this refusal: `refused outline place=3 byte=22 reason=NoAperture`
abbrev pub outline_line : Fault → List ℕ
outline_line why =
    codes "refused outline place=" ++ (decimal why.place ++ (codes " byte=" ++ (decimal why.byte ++ (codes " reason=" ++ (reason_name why.reason ++ ascii.line_feed ∷ [])))))

-- a file of an outline is refused, and just the line of the refusal was written
abbrev pub PrintsOutlineRefusal : Relation → List ℕ → Written → Written → Type 0
PrintsOutlineRefusal has file before after = (why : Fault) × RefusedOutline has file why × Appends before.0 after.0 (outline_line why) × IsSilent before after

-- what a status says where the file of an outline may be named, and `Says` says it of an outline: without a file this has no parts; with one
-- that file is refused, or the status is Device, or the file has an outline
abbrev pub IsOutlinedStatus : Relation → Option (List ℕ) → (List Drawn → Status → Type 0) → Written → Written → Status → Type 0
IsOutlinedStatus has None Says before after s = Says [] s
IsOutlinedStatus has (Some file) Says before after s =
    ((s ≡ status.Refused) × PrintsOutlineRefusal has file before after) ⊎ ((s ≡ status.Device) ⊎ ((outline : List Drawn) × HasOutline has file outline × Says outline s))
