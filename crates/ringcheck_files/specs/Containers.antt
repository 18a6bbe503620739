-- Folders and zip archives: what stands where a file is wanted, and holds files (docs/FORMATS.md, Sentences).
use Rattle.std.specs.Prelude.{◌++◌, [], ℕ, List, codes, nat_eq, if◌then◌else◌}
use Rattle.std.specs.List.{ends_with}
use Rattle.ringcheck_files.specs.declared.containers.Container.{Container}
use Rattle.ringcheck_files.specs.declared.containers.Container.TheVariants as container

-- the slash between a folder's path and what stands in the folder; none after a path that ends with one
abbrev pub slash_after : List ℕ → List ℕ
slash_after path = if ends_with nat_eq path (codes "/") then [] else codes "/"

-- what is said of a folder: `boards is a folder, but ringcheck reads files: name the files in it, as in ringcheck manifest boards/*`
abbrev pub folder_sentence : List ℕ → List ℕ
folder_sentence path =
    path ++ (codes " is a folder, but ringcheck reads files: name the files in it, as in ringcheck manifest " ++ (path ++ (slash_after path ++ codes "*")))

-- what is said of a zip archive: `package.zip is a zip archive: unpack it, and name the files in it`
abbrev pub archive_sentence : List ℕ → List ℕ
archive_sentence path = path ++ codes " is a zip archive: unpack it, and name the files in it"

-- what is said of a folder or a zip archive
abbrev pub container_sentence : Container → List ℕ
container_sentence (container.Folder path) = folder_sentence path.now
container_sentence (container.Archive path) = archive_sentence path.now
