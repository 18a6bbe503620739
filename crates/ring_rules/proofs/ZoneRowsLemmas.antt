-- Points of a zone are in its rows and columns.
use Rattle.ring_rules.proofs.Common.{◌≡◌, ℕ, ℤ, ◌<◌, ◌≤◌, ◌≤ℤ◌, Bool, true, false, inl, inr, arith, GridPoint, place_of, IsInRegion, Axis, either}
use Rattle.ring_rules.proofs.PlacesLemmas.{place-le}

pub in_rows : (x y : Axis) (top bottom left right : ℕ) (p : GridPoint) (low high first last : ℤ) → low ≤ℤ p.y → p.y ≤ℤ high → first ≤ℤ p.x → p.x ≤ℤ last
    → top ≤ place_of y low → place_of y high < bottom → left ≤ place_of x first → place_of x last < right → IsInRegion x y top bottom left right p
in_rows x y top bottom left right p low high first last a b c d e f g h = record {
  row_from = (let o = place-le y low p.y a in omega (arith, o, e));
  row_below = (let o = place-le y p.y high b in omega (arith, o, f));
  column_from = (let o = place-le x first p.x c in omega (arith, o, g));
  column_below = (let o = place-le x p.x last d in omega (arith, o, h));
}

-- a test that fails wherever it could pass
pub fails : (b : Bool) → (b ≡ true → b ≡ false) → b ≡ false
fails b h = elim (either b) [ inl e ↦ h e | inr e ↦ e ]
