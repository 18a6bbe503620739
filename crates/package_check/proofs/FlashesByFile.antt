-- Flashes, and what is drawn, that are kept file by file.
use Rattle.package_check.proofs.Common.{◌<◌, ◌∷◌, ℕ, zero, suc, List, [], Ok, length, get_or, arith, refl, ap, ◌∙◌, without_places, drawn_in, LayerImage, ReadingIsUniqueIn, Drawn, Draws, FileView, AreDrawnOf, AreFileLists}
use Rattle.package_check.proofs.FlashReadingLemmas.{ok_same}

-- what a text draws is what each layer draws that it reads as
pub drawn_read : ReadingIsUniqueIn → (source : FileView) (drawn : List Drawn) → Draws source.setting.profile source.bytes drawn → AreDrawnOf source drawn
drawn_read one source drawn read = λ copper image reads.
    read.2 ∙ ap (λ (i : LayerImage). drawn_in source.setting.profile (without_places i.commands)) (ok_same (one source.setting.profile source.bytes (Ok read.0) (Ok image) read.1 reads))

-- no file
pub no_lists : {X : Type 0} (IsOf : FileView → List X → Type 0) → AreFileLists IsOf [] []
no_lists IsOf = record { size = refl; each = λ i d lt. absurd (omega (arith, lt)) }

-- a file and those after it
pub lists_first : {X : Type 0} (IsOf : FileView → List X → Type 0) (s : FileView) (sources : List FileView) (list : List X) (lists : List (List X)) → IsOf s list → AreFileLists IsOf sources lists → AreFileLists IsOf (s ∷ sources) (list ∷ lists)
lists_first IsOf s sources list lists here h = record {
  size = ap suc h.size;
  each = by;
}
  where
    by : (i : ℕ) (d : FileView) → i < length (s ∷ sources) → IsOf (get_or (s ∷ sources) i d) (get_or (list ∷ lists) i [])
    by zero d lt = here
    by (suc i) d lt = h.each i d (omega (arith, lt))
