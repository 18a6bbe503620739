use Rattle.waivers.proofs.Common.{◌≡◌, ◌||◌, ℕ, take, list_any, has_place, is_waived_by}
use Rattle.waivers.proofs.waiving.add_used.Given as goal

abbrev pub invariant-loop-by : goal.invariant-loop-by
invariant-loop-by l = (place : ℕ) → has_place l.used place ≡ (has_place l.initial.used place || list_any (is_waived_by place) (take l.by-index l.places))
