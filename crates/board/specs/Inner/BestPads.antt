-- The best pads of holes, where shapes are tried in any order.
use Rattle.std.specs.Prelude.{◌≡◌, ℕ, ◌+◌, ◌<◌, ◌≤◌, ◌⊎◌, Bool, true, false, nat_lt, if◌then◌else◌, Option, Some, None, List, length, get_or, IfSome}
use Rattle.std.specs.List.{All, Contains}
use Rattle.grid_units.specs.Points.{GridPoint}
use Rattle.grid_units.specs.Holes.{GridHole}
use Rattle.pad_shapes.specs.Shapes.{max_reach, covers_both_ends}
use Rattle.ring_rules.specs.Places.{hole_at}
use Rattle.ring_rules.specs.declared.finding.Drilled.{Drilled}
use Rattle.board.specs.Hulls.{IsDeepIn, IsHullOf}
use Rattle.board.specs.declared.best.BestPad.{BestPad}
use Rattle.board.specs.declared.hull.Hull.{Hull}
use Rattle.board.specs.declared.large.Group.{Group}
use Rattle.board.specs.declared.large.Level.{Level}

-- 0 for a place before another one, else 1
abbrev pub one_unless_before : ℕ → ℕ → ℕ
one_unless_before place other = if nat_lt place other then 0 else 1

-- how deep a hole must lie at least in the shape at a place that is better than its best so far, in pm: deeper than there, or as deep where
-- the shape comes before it; 0 where it has none
abbrev pub required_depth : Option BestPad → ℕ → ℕ
required_depth None place = 0
required_depth (Some best) place = best.depth + one_unless_before place best.pad

-- the shape at a place is no better for a hole than its best so far
abbrev pub IsNoBetter : {S : Type 0} → (S → GridPoint → ℕ → Bool) → List S → ℕ → GridHole → Option BestPad → Type 0
IsNoBetter {S} covers pads place h best = (s : S) (reach : ℕ) → covers_both_ends covers (get_or pads place s) h.from h.to reach ≡ true → reach < required_depth best place

-- a shape of the list, and a depth of the hole in it, less than twenty metres
pub record IsDepthInPad {S : Type 0} (covers : S → GridPoint → ℕ → Bool) (pads : List S) (h : GridHole) (best : BestPad) : Type 0 where
  pub inside : best.pad < length pads
  pub in_range : best.depth < max_reach
  pub covered : (s : S) → covers_both_ends covers (get_or pads best.pad s) h.from h.to best.depth ≡ true

-- the best so far, if there is one, is such a shape
abbrev pub IsHeld : {S : Type 0} → (S → GridPoint → ℕ → Bool) → List S → GridHole → Option BestPad → Type 0
IsHeld covers pads h None = Unit {0}
IsHeld covers pads h (Some best) = IsDepthInPad covers pads h best

-- the best of a hole is still one of the shapes, and no shape that was no better before is better now
pub record Improves {S : Type 0} (covers : S → GridPoint → ℕ → Bool) (pads : List S) (h : GridHole) (before after : Option BestPad) : Type 0 where
  pub more : (place : ℕ) → required_depth before place ≤ required_depth after place
  pub held : IsHeld covers pads h before → IsHeld covers pads h after

-- the shape at a place was tried at a hole
pub record IsTriedAt {S : Type 0} (covers : S → GridPoint → ℕ → Bool) (pads : List S) (place : ℕ) (h : GridHole) (before after : Option BestPad) : Type 0 where
  pub improves : Improves covers pads h before after
  pub below : IsNoBetter covers pads place h after

-- the best of each hole is as good as before
pub record AllImprove {S : Type 0} (covers : S → GridPoint → ℕ → Bool) (pads : List S) (holes : List Drilled) (before after : List (Option BestPad)) : Type 0 where
  pub size : length after ≡ length before
  pub each : (k : ℕ) → Improves covers pads (hole_at holes k) (get_or before k None) (get_or after k None)

-- the shape at a place is no better for the holes at the first `count` of some places
abbrev pub IsNoBetterAt : {S : Type 0} → (S → GridPoint → ℕ → Bool) → List S → ℕ → List Drilled → List ℕ → ℕ → List (Option BestPad) → Type 0
IsNoBetterAt covers pads place holes near count bests = (i : ℕ) → i < count → IsNoBetter covers pads place (hole_at holes (get_or near i 0)) (get_or bests (get_or near i 0) None)

-- the shape at a place is no better for any of the holes
abbrev pub IsNoBetterForAll : {S : Type 0} → (S → GridPoint → ℕ → Bool) → List S → ℕ → List Drilled → List (Option BestPad) → Type 0
IsNoBetterForAll covers pads place holes bests = (k : ℕ) → k < length holes → IsNoBetter covers pads place (hole_at holes k) (get_or bests k None)

-- each of the first `count` shapes is listed as a large one, or is no better for any of the holes
abbrev pub AreTriedOrLarge : {S : Type 0} → (S → GridPoint → ℕ → Bool) → List S → ℕ → List Drilled → List ℕ → List (Option BestPad) → Type 0
AreTriedOrLarge covers pads count holes large bests = (place : ℕ) → place < count → Contains large place ⊎ IsNoBetterForAll covers pads place holes bests

-- the holes at some places are all those that a shape covers with some reach at their entry point
abbrev pub AreAllCovered : {S : Type 0} → (S → GridPoint → ℕ → Bool) → S → List Drilled → List ℕ → Type 0
AreAllCovered covers s holes near = (k reach : ℕ) → k < length holes → covers s (hole_at holes k).from reach ≡ true → Contains near k

-- the shape at a place does not come before the first one of a group, and the hull of the group, if there is one, is a hull of it
pub record IsInGroup {S : Type 0} (covers : S → GridPoint → ℕ → Bool) (pads : List S) (place first : ℕ) (hull : Option Hull) : Type 0 where
  pub late : first ≤ place
  pub within : IfSome hull (λ outer. (s : S) → IsHullOf covers (get_or pads place s) outer)

-- such a group has the shapes of an order from its start to its end
pub record IsGroup {S : Type 0} (covers : S → GridPoint → ℕ → Bool) (pads : List S) (order : List ℕ) (group : Group) : Type 0 where
  pub end : group.end ≤ length order
  pub each : (i : ℕ) → group.start ≤ i → i < group.end → IsInGroup covers pads (get_or order i 0) group.first group.hull

-- each group of a level is one of this order
abbrev pub AreGroups : {S : Type 0} → (S → GridPoint → ℕ → Bool) → List S → List ℕ → Level → Type 0
AreGroups covers pads order level = All (IsGroup covers pads order) level.groups.items

-- a hull, if there is one, does not hold both ends of a hole so deep; without a hull nothing is known
abbrev pub HoldsNone : Option Hull → ℕ → GridHole → Type 0
HoldsNone None depth h = ⊥
HoldsNone (Some hull) depth h = (reach : ℕ) → depth ≤ reach → IsDeepIn hull h.from reach → IsDeepIn hull h.to reach → ⊥

-- the shapes of an order from one of its places to another are no better for a hole
abbrev pub AreNoBetter : {S : Type 0} → (S → GridPoint → ℕ → Bool) → List S → List ℕ → ℕ → ℕ → GridHole → Option BestPad → Type 0
AreNoBetter covers pads order start end h best = (i : ℕ) → start ≤ i → i < end → IsNoBetter covers pads (get_or order i 0) h best
