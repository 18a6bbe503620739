-- Each finding names places of the lists.
use Rattle.ring_rules.proofs.Common.{◌≡◌, ℕ, ◌<◌, Bool, true, false, refl, length, subst, All, All-map, All-weaker, GridPoint, Profile, is_refused_slot, finding_of, NamesPlaces, RingsNamePlaces, GapsNamePlaces, Drilled, Gap, IsClash}
use Rattle.ring_rules.proofs.ClashLemmas.{gap_pairs, gap_pairs_listed, gap_pairs_clash}
use Rattle.ring_rules.proofs.RingLists.{all_found}

-- the finding at a hole names the hole and the layer, whatever its kind
finding_names : (profile : Profile) (layers holes layer : ℕ) (hole : ℕ × Drilled) → layer < layers → hole.0 < holes → NamesPlaces layers holes (finding_of profile layer hole)
finding_names profile layers holes layer hole h k = by_kind (is_refused_slot profile hole.1.hole) refl where
  by_kind : (b : Bool) → is_refused_slot profile hole.1.hole ≡ b → NamesPlaces layers holes (finding_of profile layer hole)
  by_kind true e = rw e (h, k)
  by_kind false e = rw e (h, k)

pub rings_name_places : {S : Type 0} (covers : S → GridPoint → ℕ → Bool) → RingsNamePlaces covers
rings_name_places covers profile ring layers holes =
    all_found covers profile ring layers holes (NamesPlaces (length layers) (length holes))
    (λ layer hole in_layers same placed wants. finding_names profile (length layers) (length holes) layer.0 hole in_layers placed.0)

pub gaps_name_places : GapsNamePlaces
gaps_name_places gap layers holes =
    subst (All (NamesPlaces layers (length holes))) (gap_pairs_listed gap holes) (All-map (NamesPlaces layers (length holes)) (λ (p : ℕ × ℕ). Gap p.0 p.1) (gap_pairs gap holes)
    (All-weaker (IsClash gap holes) (λ (p : ℕ × ℕ). (p.0 < p.1) × (p.1 < length holes)) (λ p clash. (clash.ordered, clash.inside)) (gap_pairs gap holes) (gap_pairs_clash gap holes)))
