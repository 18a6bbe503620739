-- The smallest length so far, with one more; the places of the rings of a layer; and the lines of the findings so far.
use Rattle.std.specs.Prelude.{◌≡◌, ◌<◌, ◌≤◌, ◌-◌, ◌==◌, ℕ, ℤ, List, length, get_or, Option, Some, None}
use Rattle.std.specs.Borrow.{Bor}
use Rattle.std.specs.Int.{int_min}
use Rattle.std.specs.List.{filter, flat_map}
use Rattle.grid_units.specs.Holes.{GridRules}
use Rattle.report.specs.declared.GapLack.{GapLack}
use Rattle.report.specs.declared.RingLack.{RingLack}
use Rattle.print_text.specs.declared.runs.Run.{Run}
use Rattle.print_text.specs.Texts.{gap_line, group_line, is_first_alike, is_shown, number_of, ring_line}
use Rattle.report.specs.Acceptances.{acceptance_at}

-- the smallest of some lengths and one more, if there is one
abbrev pub smaller : Option ℤ → Option ℤ → Option ℤ
smaller least None = least
smaller None (Some length) = Some length
smaller (Some least) (Some length) = Some (int_min least length)

-- the run of a layer lies within the rings; of the first `count` rings, those on the layer have places in it
pub record IsRun (rings : List RingLack) (count layer : ℕ) (run : Run) : Type 0 where
  pub own : run.layer ≡ layer
  pub ordered : run.first ≤ run.end
  pub inside : run.end ≤ length rings
  pub holds : (i : ℕ) (d : RingLack) → i < count → (get_or rings i d).layer ≡ layer → (run.first ≤ i) × (i < run.end)

-- the runs of all layers, for the first `count` rings
abbrev pub AreRuns : List RingLack → ℕ → List Run → Type 0
AreRuns rings count runs = (layer : ℕ) (d : Run) → layer < length runs → IsRun rings count layer (get_or runs layer d)

-- of some rings with their places, the lines of those on a layer that are shown
abbrev pub ring_lines : List (List ℕ) → GridRules → List (Option (Bor (List ℕ))) → Option ℕ → ℕ → List (ℕ × RingLack) → List ℕ
ring_lines names rules accepted limit layer findings =
    flat_map (λ finding. ring_line names rules (number_of finding.0) finding.1 (acceptance_at accepted finding.0)) (filter (λ finding. is_shown limit finding.0) (filter (λ finding. finding.1.layer == layer) findings))

-- of some gaps with their positions, which come after those of this many rings, the lines of those that are shown
abbrev pub gap_lines : List (List ℕ) → GridRules → List (Option (Bor (List ℕ))) → Option ℕ → ℕ → List (ℕ × GapLack) → List ℕ
gap_lines names rules accepted limit rings findings =
    flat_map (λ finding. gap_line names rules (number_of finding.0) finding.1 (acceptance_at accepted (finding.0 - rings))) (filter (λ finding. is_shown limit finding.0) findings)

-- of some rings with their places, the lines of those that are the first of their diameter on a layer, by the layer's name
abbrev pub group_lines : List ℕ → List RingLack → ℕ → List (ℕ × RingLack) → List ℕ
group_lines name rings layer findings =
    flat_map (λ finding. group_line name rings finding.1) (filter (is_first_alike rings) (filter (λ finding. finding.1.layer == layer) findings))
