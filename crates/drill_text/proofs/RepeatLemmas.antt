-- The further hits of a repeat, one by one.
use Rattle.drill_text.proofs.Common.{◌≡◌, ◌⊎◌, inl, inr, ℕ, zero, suc, ◌+◌, ◌<◌, ◌||◌, option_and_then, Bool, true, false, cond, List, [], ◌∷◌, ◌++◌, map, ℤ, pos, Option, None, Some, unwrap_or, Result, Ok, Err, unsigned_abs, refl, sym, ap, subst, ◌∙◌, arith, ints, append_assoc, append-nil, last_or-more, last_set, IsLegal, TooFar, ◌>>=◌, bind_ok, Profile, Millimetre, Inch, is_too_far, Coordinates, DrillCommand, Hit, StateView, points_of, x_set, y_set, coordinate_in, broken_rule_in, add_unless, checked_by, hole_in, no_point, point_in, unit_or, width_with, lt-ltb, ◌-◌, option_or, length, with_place, Fail, IfFault, IsStateAfter, state_of, hole_of, path_between, DrillState, Kind, Keep, rule_in, false≢true, Reason, ltb-false, ltb-true, IsSome, IfSome, IfOk, ok_or, ◌≤◌, ltb}
use Rattle.std.specs.Prelude.{◌+ℤ◌, ◌*ℤ◌, IfErr}
use Rattle.std.proofs.Common.{FitsSigned, w64}
use Rattle.std.proofs.lemmas.Int.{fits_signed_from_abs}
use Rattle.std.specs.List.{range_with_len}
use Rattle.grid_units.specs.Points.{GridPoint}
use Rattle.grid_units.specs.Numbers.{max_units}
use Rattle.grid_units.specs.declared.fault.Fail.TheVariants as fails
use Rattle.grid_units.specs.declared.item_fail.ItemFail.TheVariants as stops
use Rattle.grid_units.specs.declared.lengths.Unit.{Unit as Units}
use Rattle.drill_text.specs.Inner.StateSteps.{hole_between, next_point}
use Rattle.drill_text.specs.declared.kept.KeptCommands.{KeptCommands}
use Rattle.drill_text.specs.Keeping.{HasRead}
use Rattle.drill_text.specs.Profiles.{checked_all}
use Rattle.drill_text.specs.Repeats.{ends_in_hit, hit_on, is_hit, steps_on}
use Rattle.drill_text.proofs.AppliedHoles.{judges_drilled}
use Rattle.drill_text.proofs.HoleLines.{hit_rule, ok_unless, same_rules}
use Rattle.drill_text.proofs.Lookbacks.{coordinate-more, moved_one}
use Rattle.drill_text.proofs.SpellsTextLemmas.{judged_ok, keeps_judged, legal_start}

-- ---- the last command

pub ends_more : (cs : List DrillCommand) (c : DrillCommand) → ends_in_hit (cs ++ c ∷ []) ≡ is_hit c
unfolding ends_in_hit
ends_more cs c = last_or-more (λ (d : DrillCommand). Some (is_hit d)) false cs c

pub ends_empty : ends_in_hit [] ≡ false
unfolding ends_in_hit
ends_empty = refl

-- ---- one step

pub one_step : (at step : Option ℤ) → steps_on 1 at step ≡ unwrap_or at (pos 0) +ℤ unwrap_or step (pos 0)
one_step at step = omega (arith, ints)

step_more : (n : ℕ) (a s : ℤ) → (a +ℤ pos 1 *ℤ s) +ℤ pos n *ℤ s ≡ a +ℤ pos (n + 1) *ℤ s
step_more n a s = omega (arith, ints)

-- so many steps from the first further hit are one more from the last hit
hit_more : (before : List DrillCommand) (step : Coordinates) (n : ℕ) → hit_on (before ++ hit_on before step 1 ∷ []) step n ≡ hit_on before step (n + 1)
hit_more before step n =
    let next = hit_on before step 1 in λ i. Hit (record {
      x = Some ((ap (λ at. steps_on n at step.x) (coordinate-more x_set before next) ∙ step_more n (unwrap_or (last_set x_set (points_of before)) (pos 0)) (unwrap_or step.x (pos 0))) i);
      y = Some ((ap (λ at. steps_on n at step.y) (coordinate-more y_set before next) ∙ step_more n (unwrap_or (last_set y_set (points_of before)) (pos 0)) (unwrap_or step.y (pos 0))) i);
    })

hits_more : (before : List DrillCommand) (step : Coordinates) (a n : ℕ) → map (hit_on (before ++ hit_on before step 1 ∷ []) step) (range_with_len a n) ≡ map (hit_on before step) (range_with_len (a + 1) n)
hits_more before step a zero = refl
hits_more before step a (suc n) = λ i. hit_more before step a i ∷ hits_more before step (a + 1) n i

-- so many further hits, each by the commands before it
unfoldable pub following : List DrillCommand → Coordinates → ℕ → List DrillCommand
following before step zero = []
following before step (suc n) = hit_on before step 1 ∷ following (before ++ hit_on before step 1 ∷ []) step n

pub hits_follow : (before : List DrillCommand) (step : Coordinates) (n : ℕ) → map (hit_on before step) (range_with_len 1 n) ≡ following before step n
unfolding following
hits_follow before step zero = refl
hits_follow before step (suc n) = ap (λ (hs : List DrillCommand). hit_on before step 1 ∷ hs) (sym (hits_more before step 1 n) ∙ hits_follow (before ++ hit_on before step 1 ∷ []) step n)

-- ---- further commands

pub all_ok : (profile : Profile) (before cs new : List DrillCommand) → checked_all (broken_rule_in profile) before cs ≡ Ok new → (before ++ cs ≡ new) × (IsLegal (broken_rule_in profile) before → IsLegal (broken_rule_in profile) new)
all_ok profile before [] new e = let same : before ≡ new = cc in (append-nil before ∙ same, λ legal. subst (IsLegal (broken_rule_in profile)) same legal)
all_ok profile before (c ∷ cs) new e =
    let b = bind_ok (checked_by (broken_rule_in profile) before (Some c)) (λ taken. checked_all (broken_rule_in profile) taken cs) new e in
    let first = judged_ok profile before (Some c) b.0 b.1 in
    let rest = all_ok profile b.0 cs new b.2 in
    (sym (append_assoc before (c ∷ []) cs) ∙ (ap (λ (x : List DrillCommand). x ++ cs) first.0 ∙ rest.0), λ legal. rest.1 (first.1 legal))

pub keeps_all : (profile : Profile) (before cs : List DrillCommand) → IsLegal (broken_rule_in profile) (before ++ cs) → checked_all (broken_rule_in profile) before cs ≡ Ok (before ++ cs)
keeps_all profile before [] legal = ap (λ (x : List DrillCommand). Ok x) (sym (append-nil before))
keeps_all profile before (c ∷ cs) legal =
    let rule = broken_rule_in profile in
    let whole = append_assoc before (c ∷ []) cs in
    let all : IsLegal rule ((before ++ c ∷ []) ++ cs) = subst (IsLegal rule) (sym whole) legal in
    ap (λ r. r >>= λ taken. checked_all rule taken cs) (keeps_judged profile before (Some c) (legal_start rule (before ++ c ∷ []) cs all))
    ∙ (keeps_all profile (before ++ c ∷ []) cs all ∙ ap (λ (x : List DrillCommand). Ok x) whole)

-- ---- a step beyond all decimals

pub sum_fits : (a b : ℤ) → unsigned_abs a ≤ max_units → unsigned_abs b ≤ max_units → FitsSigned w64 (a +ℤ b)
sum_fits a b h k = fits_signed_from_abs w64 (a +ℤ b) (omega (arith, ints, h, k))

-- a coordinate one step on, of the whole number that it is
pub stepped : (r : Option ℤ) (at step : Option ℤ) (z : ℤ) → z ≡ unwrap_or at (pos 0) +ℤ unwrap_or step (pos 0) → (IsSome r → unsigned_abs z ≤ max_units) × (unsigned_abs z ≤ max_units → IsSome r) → IfSome r (λ d. d ≡ z)
    → IfOk (ok_or r TooFar) (λ d. d ≡ steps_on 1 at step) × IfErr (ok_or r TooFar) (λ broken. (broken ≡ TooFar) × (max_units < unsigned_abs (steps_on 1 at step)))
stepped (Some d) at step z e valid is = (is ∙ (e ∙ sym (one_step at step)), tt)
stepped None at step z e valid is = (tt, (refl, subst (λ (v : ℤ). max_units < unsigned_abs v) (e ∙ sym (one_step at step)) (by (ltb max_units (unsigned_abs z)) refl)))
  where
    by : (t : Bool) → ltb max_units (unsigned_abs z) ≡ t → max_units < unsigned_abs z
    by true k = ltb-true _ _ k
    by false k = let some : IsSome {T = ℤ} None = valid.1 (ltb-false _ _ k) in absurd cc

far_length : (unit : Units) (v : ℤ) → max_units < unsigned_abs v → is_too_far (coordinate_in unit (Some v)) ≡ true
far_length Inch v h = lt-ltb _ _ (omega (arith, ints, h))
far_length Millimetre v h = lt-ltb _ _ (omega (arith, ints, h))

too_far : (unit : Units) (x y : ℤ) → ((max_units < unsigned_abs x) ⊎ (max_units < unsigned_abs y)) → point_in unit (Some x) (Some y) ≡ Err TooFar
too_far unit x y far = by (is_too_far (coordinate_in unit (Some x))) (is_too_far (coordinate_in unit (Some y))) refl refl
  where
    at : Result GridPoint Reason
    at = Ok (record { x = coordinate_in unit (Some x); y = coordinate_in unit (Some y) })

    neither : is_too_far (coordinate_in unit (Some x)) ≡ false → is_too_far (coordinate_in unit (Some y)) ≡ false → ⊥
    neither a b = elim far [ inl h ↦ false≢true (sym a ∙ far_length unit x h) | inr h ↦ false≢true (sym b ∙ far_length unit y h) ]

    by : (t u : Bool) → is_too_far (coordinate_in unit (Some x)) ≡ t → is_too_far (coordinate_in unit (Some y)) ≡ u → cond (t || u) (Err TooFar) at ≡ Err TooFar
    by true u a b = refl
    by false true a b = refl
    by false false a b = absurd (neither a b)

-- its hit is TooFar, once the tool is known
pub far_hole : (s : StateView) (count : ℕ) (width x y : ℤ) → width_with (unit_or s.settings.unit) s.tool (option_and_then s.diameter s.tool) ≡ Ok width → ((max_units < unsigned_abs x) ⊎ (max_units < unsigned_abs y))
    → hole_in s count (record { x = Some x; y = Some y }) no_point ≡ Err TooFar
far_hole s count width x y e far =
    let unit = unit_or s.settings.unit in
    ap (λ w. w >>= λ width. (point_in unit (Some x) (Some y) >>= λ from. (point_in unit (Some x) (Some y) >>= λ to. hole_between count width from to))) e
    ∙ ap (λ p. p >>= λ from. (point_in unit (Some x) (Some y) >>= λ to. hole_between count width from to)) (too_far unit x y far)

-- nor does a hit make one without a diameter
pub no_width : (s : StateView) (count : ℕ) (p : Coordinates) (why : Reason) → width_with (unit_or s.settings.unit) s.tool (option_and_then s.diameter s.tool) ≡ Err why → hole_in s count p no_point ≡ Err why
no_width s count p why e =
    let unit = unit_or s.settings.unit in
    ap (λ w. w >>= λ width. (point_in unit (option_or p.x s.x) (option_or p.y s.y) >>= λ from. (point_in unit (option_or p.x s.x) (option_or p.y s.y) >>= λ to. hole_between count width from to))) e

-- ---- the hits that are kept one by one

-- so many of the further hits are left to be judged
pub record IsKeptUpTo (state : DrillState) (kept : KeptCommands) (kind : Kind) (keep : Keep) (before : List DrillCommand) (step : Coordinates) (count left : ℕ) : Type 0 where
  pub now : List DrillCommand
  pub has_read : HasRead state kept kind keep now
  pub rest : checked_all (rule_in kind.profile kind.plating) before (following before step count) ≡ checked_all (rule_in kind.profile kind.plating) now (following now step left)

-- the hit one step on from the last point of the state
pub next_is : (state : DrillState) (kind : Kind) (before : List DrillCommand) (step : Coordinates) → IsStateAfter state kind before → Hit (next_point (state_of state) step) ≡ hit_on before step 1
next_is state kind before step h = ap (λ (s : StateView). Hit (next_point s step)) h.state_after

-- a hit that makes no hole breaks just this rule
pub refused_hit : (state : DrillState) (kind : Kind) (before : List DrillCommand) (p : Coordinates) (why : Reason) → IsStateAfter state kind before → hole_in (state_of state) (length state.holes.items) p no_point ≡ Err why → rule_in kind.profile kind.plating before (Hit p) ≡ Some why
refused_hit state kind before p why is_state made =
    let s = state_of state in
    judges_drilled state state kind before (Hit p) p no_point (path_between s p no_point) (Err (stops.Refused why)) is_state
    (record { path = refl; rule = hit_rule s (length state.holes.items) p ∙ ap (λ o. ok_unless o (hole_of (path_between s p no_point))) (sym (same_rules state.words.profile s (length state.holes.items) (Some (path_between s p no_point)) (Hit p) refl)); moves = moved_one p s; defines = refl; otherwise = refl; makes = λ number. refl; drilled = refl; silent = refl; unheard = refl; hears = refl }) (inl made)

-- a refusal of the first is that of them all
pub first_refused : {A : Type 0} (place byte : ℕ) (r : Result A Reason) (rest : A → Result A Reason) (e : Fail) → IfFault (λ f. with_place place byte r ≡ Err f) e → IfFault (λ f. with_place place byte (r >>= rest) ≡ Err f) e
first_refused place byte r rest fails.Memory h = tt
first_refused place byte (Ok x) rest (fails.Refused f) h = absurd cc
first_refused place byte (Err why) rest (fails.Refused f) h = h

-- one hit less is left once it is kept
pub next_left : (rule : List DrillCommand → DrillCommand → Option Reason) (now new : List DrillCommand) (step : Coordinates) (left : ℕ) → 0 < left → checked_by rule now (Some (hit_on now step 1)) ≡ Ok new
    → checked_all rule now (following now step left) ≡ checked_all rule new (following new step (left - 1))
unfolding following
next_left rule now new step zero some e = absurd (omega (arith, some))
next_left rule now new step (suc n) some e =
    let hit = hit_on now step 1 in
    let less : n ≡ suc n - 1 = omega arith in
    ap (λ r. r >>= λ taken. checked_all rule taken (following (now ++ hit ∷ []) step n)) e
    ∙ (ap (λ (cs : List DrillCommand). checked_all rule new (following cs step n)) (added (rule now hit) e) ∙ ap (λ k. checked_all rule new (following new step k)) less)
  where
    added : (o : Option Reason) → add_unless o now (hit_on now step 1) ≡ Ok new → now ++ hit_on now step 1 ∷ [] ≡ new
    added None k = cc
    added (Some why) k = absurd cc

-- none is left
pub none_left : (rule : List DrillCommand → DrillCommand → Option Reason) (now : List DrillCommand) (step : Coordinates) (left : ℕ) → left ≡ 0 → checked_all rule now (following now step left) ≡ Ok now
unfolding following
none_left rule now step zero e = refl
none_left rule now step (suc n) e = absurd (omega (arith, e))

-- the next is refused
pub next_refused : (place byte : ℕ) (rule : List DrillCommand → DrillCommand → Option Reason) (all : Result (List DrillCommand) Reason) (now : List DrillCommand) (step : Coordinates) (left : ℕ) (e : Fail) → 0 < left → all ≡ checked_all rule now (following now step left)
    → IfFault (λ f. with_place place byte (checked_by rule now (Some (hit_on now step 1))) ≡ Err f) e → IfFault (λ f. with_place place byte all ≡ Err f) e
unfolding following
next_refused place byte rule all now step zero e some same h = absurd (omega (arith, some))
next_refused place byte rule all now step (suc n) e some same h =
    subst (λ r. IfFault (λ f. with_place place byte r ≡ Err f) e) (sym same)
    (first_refused place byte (checked_by rule now (Some (hit_on now step 1))) (λ taken. checked_all rule taken (following (now ++ hit_on now step 1 ∷ []) step n)) e h)
