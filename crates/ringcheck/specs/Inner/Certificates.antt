-- What is printed of a certificate before it is checked anew.
use Rattle.std.specs.Prelude.{◌≡◌, ◌<◌, ℕ, Bool, true, false, List, Option, length}
use Rattle.std.specs.Io.KnownBytes.{Appends}
use Rattle.ringcheck.specs.CertificateStatus.{differs_lines}

-- whether there are files that have changed: lines on the files of some numbers were written, which have, as `AreOther` says; or where there is none, nothing
pub record ListsOthers (AreOther : List ℕ → Type 0) (before after : Option (List ℕ)) (any : Bool) : Type 0 where
  pub numbers : List ℕ
  pub written : Appends before after (differs_lines numbers)
  pub other : any ≡ true → AreOther numbers × (0 < length numbers)
  pub none : any ≡ false → after ≡ before
