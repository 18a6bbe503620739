-- Bytes that are handed on as they are read.
use Rattle.ringcheck_files.proofs.Common.{◌≡◌, ◌<◌, ◌≤◌, ◌+◌, ◌++◌, ℕ, List, [], length, Option, None, Some, Ok, arith, ap, subst, sym, ◌∙◌, append-nil, length-append, Consumes, HasHandedOn}
use Rattle.std.proofs.KnownBytes.{Consumes-trans}
use Rattle.std.specs.Prelude.{Vec}
use Rattle.std.specs.declared.alloc.Global.{Global}
use Rattle.ringcheck_files.specs.ReaderBytes.{HandsAll, ReadsAll}

-- and one more piece
pub handed_more : (a b c : Option (List ℕ)) (Before After : List ℕ → Type 0) (total sum : ℕ) (piece : List ℕ) → HasHandedOn a b Before total → Consumes b c piece → sum ≡ total + length piece
    → ((bytes : List ℕ) → Before bytes → After (bytes ++ piece)) → HasHandedOn a c After sum
handed_more a b c Before After total sum piece h read is takes = record {
  bytes = h.bytes ++ piece;
  size = let size = h.size in omega (arith, length-append h.bytes piece, size, is);
  read = Consumes-trans a b c h.bytes piece h.read read;
  taken = takes h.bytes h.taken;
}

-- what is read in front of the end is all
all_of : (left bytes rest : List ℕ) → left ≡ bytes ++ rest → rest ≡ [] → left ≡ bytes
all_of left bytes rest is none = is ∙ (ap (λ (t : List ℕ). bytes ++ t) none ∙ append-nil bytes)

-- there are more than the limit
too_many : (left bytes rest piece after : List ℕ) (total limit : ℕ) → left ≡ bytes ++ rest → rest ≡ piece ++ after → length bytes ≡ total → limit < total + length piece → limit < length left
too_many left bytes rest piece after total limit is more size long =
    let one = ap length is in let two = ap length more in omega (arith, one, two, size, long, length-append bytes rest, length-append piece after)

-- ---- a vector

-- a vector that was empty has just the bytes that it has taken
pub appended : (start v : Vec ℕ Global) (bytes : List ℕ) → start.items ≡ [] → ((before : Vec ℕ Global) (text : List ℕ) → start.items ≡ before.items ++ text → v.items ≡ before.items ++ (text ++ bytes)) → v.items ≡ bytes
appended start v bytes none takes = takes start [] (sym (append-nil start.items)) ∙ ap (λ (t : List ℕ). t ++ bytes) none

-- and so all that was read
pub read_whole : (left : Option (List ℕ)) (limit : ℕ) (start v : Vec ℕ Global) (u : Unit {0}) → start.items ≡ []
    → HandsAll left limit (λ bytes. (before : Vec ℕ Global) (text : List ℕ) → start.items ≡ before.items ++ text → v.items ≡ before.items ++ (text ++ bytes)) (Ok u) → ReadsAll left limit (Ok v)
read_whole None limit start v u none h = subst (λ (t : List ℕ). length t ≤ limit) (sym (appended start v h.0 none h.2)) h.1
read_whole (Some left) limit start v u none h = (appended start v left none h.1, h.0)
