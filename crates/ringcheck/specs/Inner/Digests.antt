-- The digests of files, which are taken while the files are loaded.
use Rattle.std.specs.Prelude.{◌≡◌, ◌<◌, ◌++◌, ℕ, Bool, true, List, [], Some, IfSome, get_or, is_some, length, slice_get}
use Rattle.sha2.specs.Hashers.{Holds256}
use Rattle.sha2.specs.Sha256.{sha256}
use Rattle.package_check.specs.Package.{FileView}
use Rattle.ringcheck.specs.declared.digests.FileHasher.{FileHasher}

-- a hasher has taken just this text, where it hashes
abbrev pub Hashes : Bool → FileHasher → List ℕ → Type 0
Hashes on hasher text = (is_some hasher.hasher ≡ on) × IfSome hasher.hasher (λ it. Holds256 it text)

-- between two states a hasher has taken just these bytes
abbrev pub HashesOn : FileHasher → FileHasher → List ℕ → Type 0
HashesOn start now bytes = (on : Bool) (text : List ℕ) → Hashes on start text → Hashes on now (text ++ bytes)

-- of the files at the indexes that `done` is true of each has its digest in its place, where there are places for digests
abbrev pub AreDigestsOf : List (List ℕ) → List FileView → (ℕ → Bool) → Type 0
AreDigestsOf digests files done =
    (i : ℕ) (file : FileView) → done i ≡ true → slice_get files i ≡ Some file → i < length digests → get_or digests i [] ≡ sha256 file.bytes
