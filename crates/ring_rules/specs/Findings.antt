-- What the rules find at the holes of a board, in order (docs/FORMATS.md, The check). Layers and holes are named by their places from 0.
use Rattle.std.specs.Prelude.{ℕ, Bool, false, not, ◌&&◌, ◌||◌, nat_lt, List, map, if◌then◌else◌}
use Rattle.std.specs.Ordering.{int_eq}
use Rattle.std.specs.List.{filter, flat_map, enumerate_from, list_any}
use Rattle.grid_units.specs.Points.{GridPoint}
use Rattle.grid_units.specs.Holes.{GridHole}
use Rattle.grid_units.specs.declared.profile.Profile.{Profile}
use Rattle.grid_units.specs.declared.profile.Profile.TheVariants.{Strict, Wide}
use Rattle.pad_shapes.specs.Holding.{covers_hole}
use Rattle.ring_rules.specs.Cores.{are_clear}
use Rattle.grid_units.specs.Spans.{is_in_span}
use Rattle.ring_rules.specs.declared.finding.Drilled.{Drilled}
use Rattle.ring_rules.specs.declared.finding.Finding.{Finding}
use Rattle.ring_rules.specs.declared.finding.Finding.TheVariants.{Ring, Oblique, Gap}

-- the ends of a hole differ in x and in y: a slot from (0, 0) to (1, 2), say
abbrev pub is_oblique : GridHole → Bool
is_oblique h = not (int_eq h.from.x h.to.x) && not (int_eq h.from.y h.to.y)

-- a profile refuses a slot as such, whatever copper there is round it: the strict profile an oblique one, the wide profile none
abbrev pub is_refused_slot : Profile → GridHole → Bool
is_refused_slot Strict h = is_oblique h
is_refused_slot Wide h = false

-- a slot that the profile refuses, or a hole that no single pad covers with the ring round it
abbrev pub lacks_ring : {S : Type 0} → (S → GridPoint → ℕ → Bool) → Profile → ℕ → List S → GridHole → Bool
lacks_ring covers profile ring pads h = is_refused_slot profile h || not (list_any (covers_hole covers ring h) pads)

-- a plated hole that goes through the layer and lacks its ring among the pads
abbrev pub is_ring_finding : {S : Type 0} → (S → GridPoint → ℕ → Bool) → Profile → ℕ → ℕ → List S → Drilled → Bool
is_ring_finding covers profile ring layer pads d = (d.plated && is_in_span layer d.span) && lacks_ring covers profile ring pads d.hole

-- the finding at a hole that lacks its ring on a layer: `Oblique` for a slot that the profile refuses, else `Ring`
abbrev pub finding_of : Profile → ℕ → ℕ × Drilled → Finding
finding_of profile layer hole = if is_refused_slot profile hole.1.hole then Oblique layer hole.0 else Ring layer hole.0

-- the findings of rings on one layer, by hole
abbrev pub layer_findings : {S : Type 0} → (S → GridPoint → ℕ → Bool) → Profile → ℕ → List Drilled → ℕ → List S → List Finding
layer_findings covers profile ring holes layer pads =
    map (finding_of profile layer) (filter (λ hole. is_ring_finding covers profile ring layer pads hole.1) (enumerate_from 0 holes))

-- the findings of rings on all layers, by layer and then by hole
abbrev pub ring_findings : {S : Type 0} → (S → GridPoint → ℕ → Bool) → Profile → ℕ → List (List S) → List Drilled → List Finding
ring_findings covers profile ring layers holes =
    flat_map (λ layer. layer_findings covers profile ring holes layer.0 layer.1) (enumerate_from 0 layers)

-- the findings of gaps between one hole and those after it in the list
abbrev pub hole_findings : ℕ → List Drilled → ℕ → Drilled → List Finding
hole_findings gap holes first a =
    map (λ hole. Gap first hole.0) (filter (λ hole. nat_lt first hole.0 && not (are_clear gap a.hole hole.1.hole)) (enumerate_from 0 holes))

-- the pairs of holes that are not clear, by the first and then by the second hole; plated or not, all holes count, one drilled twice as two
abbrev pub gap_findings : ℕ → List Drilled → List Finding
gap_findings gap holes = flat_map (λ hole. hole_findings gap holes hole.0 hole.1) (enumerate_from 0 holes)
