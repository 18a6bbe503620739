-- What a loader has under names, and its limits.
use Rattle.std.specs.Prelude.{◌≤◌, ◌++◌, ◌∷◌, ◌==◌, ◌&&◌, [], ℕ, Bool, false, not, List, Option, Some, None, length, if◌then◌else◌}
use Rattle.grid_units.specs.Ascii as ascii
use Rattle.grid_units.specs.Results.{fault}
use Rattle.grid_units.specs.declared.fault.Fault.{Fault}
use Rattle.grid_units.specs.declared.fault.Reason.TheVariants.{TooLong}
use Rattle.ringcheck_files.specs.Containers.{slash_after}

-- for a name and some bytes, whether a loader may have these bytes under that name
abbrev pub Relation : Type 1
Relation = List ℕ → List ℕ → Type 0

-- the most bytes of a file, 2^28 (docs/FORMATS.md, Limits)
abbrev pub file_limit : ℕ
file_limit = 268435456

-- a loader may have these bytes under a name, and they are within the limit
abbrev pub within : ℕ → Relation → Relation
within limit has name bytes = has name bytes × (length bytes ≤ limit)

-- the fault of bytes above their limit: TooLong at place 0 and byte 0 (docs/FORMATS.md, The program)
abbrev pub too_long : Fault
too_long = fault 0 0 TooLong

-- whether a name is taken from a folder: it is not empty, and does not begin with a slash, as an absolute name does
abbrev pub is_relative : List ℕ → Bool
is_relative [] = false
is_relative (x ∷ xs) = not (x == ascii.slash)

-- the name under which a file is looked for that is named in a folder: `boards` and `top.gbr` make `boards/top.gbr`; an empty folder changes no name
abbrev pub path_in : List ℕ → List ℕ → List ℕ
path_in folder name = if not (length folder == 0) && is_relative name then folder ++ (slash_after folder ++ name) else name

-- what a loader has under names that are taken from a folder, if there is one
abbrev pub in_folder : Option (List ℕ) → Relation → Relation
in_folder None has = has
in_folder (Some folder) has = λ name bytes. has (path_in folder name) bytes
