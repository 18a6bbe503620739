-- The least ring of some holes, hole by hole.
use Rattle.std.specs.Prelude.{◌≡◌, ℕ, ℤ, ◌≤ℤ◌, ◌<ℤ◌, ◌⊎◌, Option, Some}
use Rattle.board.specs.declared.row.RowLeast.{RowLeast}

-- the least ring so far is kept: the next hole has no ring that is less
pub record IsSameLeast (least : Option RowLeast) (ring : Option ℤ) (result : Option RowLeast) : Type 0 where
  pub same : result ≡ least
  pub no_less : (r : ℤ) → ring ≡ Some r → (held : RowLeast) × (least ≡ Some held) × (held.ring ≤ℤ r)

-- the next hole has a ring that is less, and is the first with the least ring now
pub record IsNewLeast (least : Option RowLeast) (hole : ℕ) (ring : Option ℤ) (result : Option RowLeast) : Type 0 where
  pub now : RowLeast
  pub is : result ≡ Some now
  pub at : now.hole ≡ hole
  pub has : ring ≡ Some now.ring
  pub less : (held : RowLeast) → least ≡ Some held → now.ring <ℤ held.ring

-- the lesser of the least ring so far and the ring of the next hole
abbrev pub IsLesser : Option RowLeast → ℕ → Option ℤ → Option RowLeast → Type 0
IsLesser least hole ring result = IsSameLeast least ring result ⊎ IsNewLeast least hole ring result
