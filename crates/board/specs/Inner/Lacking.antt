-- Which holes lack their ring, by their best pads.
use Rattle.std.specs.Prelude.{ℕ, ℤ, pos, Bool, true, ◌&&◌, int_lt, Option, Some, None}
use Rattle.grid_units.specs.declared.profile.Profile.{Profile}
use Rattle.ring_rules.specs.declared.finding.Drilled.{Drilled}
use Rattle.board.specs.Meets.{needs_ring}
use Rattle.board.specs.Rows.{ring_from_best}
use Rattle.board.specs.declared.best.BestPad.{BestPad}

-- a hole has no ring, or one below the rule
abbrev pub is_short : ℕ → Option ℤ → Bool
is_short rule None = true
is_short rule (Some ring) = int_lt ring (pos rule)

-- a hole needs a ring on a layer, and its best pad there gives it none or less than the rule
abbrev pub falls_short : Profile → ℕ → ℕ → Drilled → Option BestPad → Bool
falls_short profile rule layer d best = needs_ring layer d && is_short rule (ring_from_best profile best d.hole)
