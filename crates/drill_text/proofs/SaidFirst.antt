-- What is said of a file's coordinates stands before its first line: it breaks no rule, and a reader that has read nothing takes it in.
use Rattle.drill_text.proofs.Common.{◌≡◌, ℕ, List, [], ◌∷◌, Option, None, Some, refl, sym, ◌∙◌, option_or, IsLegal, violations-more, Profile, Strict, Wide, CoordinateFormat, DrillCommand, UnitLine, Settings, broken_rule_in, first_broken, own_rule, rule_in, PlatingKind, said_first, Splits, DrillState, Keep}
use Rattle.grid_units.specs.declared.lengths.Unit.{Unit as Units}
use Rattle.grid_units.specs.declared.zero_filling.Zeros.{Zeros}
use Rattle.drill_lines.specs.Formats.{Digits}
use Rattle.drill_lines.specs.LineReading.{IsRouteIn}
use Rattle.drill_lines.specs.declared.route.Route.{Route}
use Rattle.drill_lines.specs.declared.route.Route.TheVariants as route
use Rattle.drill_text.specs.declared.kept.KeptCommands.{KeptCommands}
use Rattle.drill_text.specs.declared.platings.PlatingKind.TheVariants as platings
use Rattle.drill_text.specs.Keeping.{HasRead}
use Rattle.drill_text.proofs.PlatingLemmas.{rules_are}

-- ---- it breaks no rule

strictly_unbroken : (unit : Units) (zeros : Option Zeros) (digits : Option Digits) → broken_rule_in Strict [] (UnitLine unit zeros digits) ≡ None
unfolding first_broken
strictly_unbroken unit None None = refl
strictly_unbroken unit None (Some d) = refl
strictly_unbroken unit (Some z) None = refl
strictly_unbroken unit (Some z) (Some d) = refl

unbroken : (profile : Profile) (unit : Units) (zeros : Option Zeros) (digits : Option Digits) → broken_rule_in profile [] (UnitLine unit zeros digits) ≡ None
unbroken Strict unit zeros digits = strictly_unbroken unit zeros digits
unbroken Wide unit zeros digits = strictly_unbroken unit zeros digits

own_unbroken : (plating : PlatingKind) (unit : Units) (zeros : Option Zeros) (digits : Option Digits) → own_rule plating [] (UnitLine unit zeros digits) ≡ None
own_unbroken platings.Stated unit zeros digits = refl
own_unbroken platings.Unplated unit zeros digits = refl
own_unbroken platings.Mixed unit zeros digits = refl

pub first_is_legal : (profile : Profile) (plating : PlatingKind) (unit : Units) (zeros : Option Zeros) (digits : Option Digits) → rule_in profile plating [] (UnitLine unit zeros digits) ≡ None
first_is_legal profile plating unit zeros digits = rules_are profile plating [] (UnitLine unit zeros digits) ∙ (λ i. option_or (unbroken profile unit zeros digits i) (own_unbroken plating unit zeros digits i))

pub said_is_legal : (profile : Profile) (format : Option CoordinateFormat) → IsLegal (broken_rule_in profile) (said_first format)
said_is_legal profile None = refl
said_is_legal profile (Some f) = violations-more (broken_rule_in profile) [] (UnitLine f.unit f.zeros f.digits) refl (unbroken profile f.unit f.zeros f.digits)

pub said_is_own : (plating : PlatingKind) (format : Option CoordinateFormat) → IsLegal (own_rule plating) (said_first format)
said_is_own plating None = refl
said_is_own plating (Some f) = violations-more (own_rule plating) [] (UnitLine f.unit f.zeros f.digits) refl (own_unbroken plating f.unit f.zeros f.digits)

-- ---- a reader that has read nothing

pub nothing_read : (lines : List (List ℕ)) (rest : List ℕ) → Splits [] lines rest → (lines ≡ []) × (rest ≡ [])
nothing_read [] rest s = (refl, sym s.whole)
nothing_read ([] ∷ lines) rest s = let e = s.whole in absurd cc
nothing_read ((b ∷ line) ∷ lines) rest s = let e = s.whole in absurd cc

-- no route has begun, whatever the settings are
pub none_begun : (profile : Profile) (r : Route) (before after : Settings) → IsRouteIn profile r before [] → IsRouteIn profile r after []
none_begun Strict r before after h = h
none_begun Wide (route.Free now) before after h = h
none_begun Wide (route.Started from) before after h = let e = h.0 in absurd cc
none_begun Wide (route.Lowered from) before after h = let e = h.0 in absurd cc
none_begun Wide (route.Cut from to) before after h = let e = h.2 in absurd cc

-- the state does not know what was said
pub read_alike_of : (state : DrillState) (kept : KeptCommands) (profile : Profile) (plating : PlatingKind) (a b : Option CoordinateFormat) (keep : Keep) (commands : List DrillCommand)
    → HasRead state kept (record { profile = profile; plating = plating; format = a }) keep commands → HasRead state kept (record { profile = profile; plating = plating; format = b }) keep commands
read_alike_of state kept profile plating a b keep commands h =
    let s = h.is_state in
    let w = s.words in
    record {
      is_state = record {
        state_after = s.state_after;
        holes = s.holes;
        tools = s.tools;
        words = record { profile_is = w.profile_is; kind_is = w.kind_is; said = w.said; calls_plated = w.calls_plated; calls_unplated = w.calls_unplated };
        platings = s.platings;
        plated = s.plated;
      };
      keeps = h.keeps;
      after_hit = h.after_hit;
    }
