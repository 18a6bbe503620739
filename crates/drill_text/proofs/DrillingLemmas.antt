-- The holes that are listed of commands, and those that the commands drill.
use Rattle.drill_text.proofs.Common.{◌≡◌, ℕ, ℤ, ◌*◌, ◌/◌, pos, unsigned_abs, Bool, true, false, List, [], ◌∷◌, ◌++◌, length, Option, None, Some, is_some, is_none, refl, sym, ap, subst, ◌∙◌, arith, int_le, list_any, filter, filter_map, flat_map, AllZip, option_and_then, ints, BadSize, Inch, Millimetre, picometres, last_set, with_prefixes_from, violation_at, IsLegal, Profile, Strict, GridHole, both_true, Coordinates, Part, DrillCommand, is_sayable, StateView, state_after, part_after, header, ends_header, unit_set, tool_set, diameter_set, points_of, DrillPath, unit_or, unit_after, coordinate_in, point_at, diameter_after, path_at, hole_of, holes_at, holes_of, drills, applies, defines_alike, first_broken, first_broken_in, broken_rule_in, lacks_unit, has_bad_size, part_with, part_from, are_sayable, is_after_end, ListedHolesAreDrilled, DrilledHolesAreListed, DrillsAtMostOneList, given_last}
use Rattle.grid_units.specs.declared.lengths.Unit.{Unit as Units}
use Rattle.drill_lines.specs.declared.command.Part.TheVariants as part
use Rattle.drill_lines.specs.declared.command.DrillCommand.TheVariants as command
use Rattle.drill_text.specs.Rules.{rules}
use Rattle.drill_text.specs.Drilling.{IsPath, IsHoleOf, AreHoles}
use Rattle.drill_text.proofs.Lookbacks.{header-more}
use Rattle.drill_text.proofs.HoleLines.{none_found, same_rules}
use Rattle.drill_text.proofs.SpellsTextLemmas.{legal_parts}
use Rattle.drill_text.proofs.RoundTrip.{part_more}
use Rattle.drill_text.proofs.TextIsSayable.{text_sayable}

-- ---- holes that are drilled are listed

-- what is drilled between points, as it is listed
path : List DrillCommand → List Coordinates → List Coordinates → DrillPath
path before start end = record {
  from = point_at (unit_after before) (points_of before ++ start);
  to = point_at (unit_after before) (points_of before ++ end);
  diameter = coordinate_in (unit_after before) (diameter_after before);
}

half : (r : ℕ) (w : ℤ) → pos (2 * r) ≡ w → r ≡ unsigned_abs w / 2
half r w e = let same : r ≡ unsigned_abs (pos (2 * r)) / 2 = omega arith in same ∙ ap (λ z. unsigned_abs z / 2) e

diameter_of : (before : List DrillCommand) (tool : ℕ) (d : ℤ) → last_set tool_set before ≡ Some tool → last_set (diameter_set tool) before ≡ Some d → diameter_after before ≡ Some d
diameter_of before tool d picked given = ap (option_and_then (λ number. last_set (diameter_set number) before)) picked ∙ given

width_of : (before : List DrillCommand) (unit : Units) (d : ℤ) → last_set unit_set (header before) ≡ Some unit → diameter_after before ≡ Some d → picometres unit 8 d ≡ coordinate_in (unit_after before) (diameter_after before)
width_of before unit d named given = λ i. coordinate_in (unit_or (sym named i)) (sym given i)

drilled_is : (before : List DrillCommand) (c : DrillCommand) (start end : List Coordinates) (hole : GridHole) (h : IsHoleOf before c hole) → hole.from ≡ point_at h.unit (points_of before ++ start) → hole.to ≡ point_at h.unit (points_of before ++ end) → hole ≡ hole_of (path before start end)
unfolding path
drilled_is before c start end hole h from to =
    let unit : h.unit ≡ unit_after before = ap unit_or (sym h.unit_named) in
    let width = width_of before h.unit h.diameter h.unit_named (diameter_of before h.tool h.diameter h.tool_picked h.diameter_given) in
    λ i. record {
      from = (from ∙ ap (λ u. point_at u (points_of before ++ start)) unit) i;
      to = (to ∙ ap (λ u. point_at u (points_of before ++ end)) unit) i;
      radius = half hole.radius (coordinate_in (unit_after before) (diameter_after before)) (h.radius ∙ width) i;
    }

hit_is : (before : List DrillCommand) (p : Coordinates) (hole : GridHole) → IsHoleOf before (command.Hit p) hole → hole ≡ hole_of (path before (p ∷ []) (p ∷ []))
hit_is before p hole h = drilled_is before (command.Hit p) (p ∷ []) (p ∷ []) hole h h.path.0 (h.path.1 ∙ h.path.0)

slot_is : (before : List DrillCommand) (p q : Coordinates) (hole : GridHole) → IsHoleOf before (command.Slot p q) hole → hole ≡ hole_of (path before (p ∷ []) (p ∷ q ∷ []))
slot_is before p q hole h = drilled_is before (command.Slot p q) (p ∷ []) (p ∷ q ∷ []) hole h h.path.0 h.path.1

-- the holes of the commands that are left
AreHolesAfter : List DrillCommand → List DrillCommand → List GridHole → Type 0
AreHolesAfter before cs holes = AllZip (λ (p : List DrillCommand × DrillCommand) (hole : GridHole). IsHoleOf p.0 p.1 hole) (filter (λ (p : List DrillCommand × DrillCommand). drills p.1) (with_prefixes_from before cs)) holes

listed_after : List DrillCommand → List DrillCommand → List GridHole
listed_after before cs = flat_map (λ (p : List DrillCommand × DrillCommand). holes_at p.0 p.1) (with_prefixes_from before cs)

drilled_after : (before cs : List DrillCommand) (holes : List GridHole) → AreHolesAfter before cs holes → holes ≡ listed_after before cs
unfolding AreHolesAfter listed_after path
drilled_after before [] [] h = refl
drilled_after before [] (hole ∷ holes) h = absurd h
drilled_after before (command.Hit p ∷ cs) [] h = absurd h
drilled_after before (command.Hit p ∷ cs) (hole ∷ holes) h =
    λ i. hit_is before p hole h.0 i ∷ drilled_after (before ++ command.Hit p ∷ []) cs holes h.1 i
drilled_after before (command.Slot p q ∷ cs) [] h = absurd h
drilled_after before (command.Slot p q ∷ cs) (hole ∷ holes) h =
    λ i. slot_is before p q hole h.0 i ∷ drilled_after (before ++ command.Slot p q ∷ []) cs holes h.1 i
drilled_after before (c ∷ cs) holes h = drilled_after (before ++ c ∷ []) cs holes h

pub drilled_holes_are_listed : DrilledHolesAreListed
unfolding AreHolesAfter listed_after
drilled_holes_are_listed commands holes h = drilled_after [] commands holes h

pub drills_at_most_one_list : DrillsAtMostOneList
drills_at_most_one_list commands holes other h k = drilled_holes_are_listed commands holes h ∙ sym (drilled_holes_are_listed commands other k)

-- ---- a unit is named in the body

some_unless : {A : Type 0} (o : Option A) → is_none o ≡ false → is_some o ≡ true
some_unless None e = absurd cc
some_unless (Some x) e = refl

some_is : {A : Type 0} (o : Option A) → is_some o ≡ true → (x : A) × (o ≡ Some x)
some_is None e = absurd cc
some_is (Some x) e = (x, refl)

-- a unit that is named stays or is named again
stays_named : (ended : Bool) (n o : Option Units) → is_some o ≡ true → is_some (given_last ended n o) ≡ true
stays_named ended n None e = absurd cc
stays_named ended None (Some x) e = refl
stays_named true (Some y) (Some x) e = refl
stays_named false (Some y) (Some x) e = refl

in_body : (p : Part) (o : Option Units) (c : DrillCommand) → (p ≡ part.Body → is_some o ≡ true) → (ends_header c ≡ true → is_some o ≡ true) → part_with p c ≡ part.Body → is_some o ≡ true
in_body p o command.HeaderEnd h k e = k refl
in_body p o command.Start h k e = absurd cc
in_body p o command.Finish h k e = absurd cc
in_body p o c h k e = h e

-- each command that drills stands in the body, of commands whose first stands in this part
abbrev pub AreInBody : Part → List DrillCommand → Type 0
AreInBody p [] = Unit {0}
AreInBody p (c ∷ cs) = (drills c ≡ true → p ≡ part.Body) × AreInBody (part_with p c) cs

-- what stands before the commands that are left, and what is known of these
record IsLeft (profile : Profile) (before cs : List DrillCommand) : Type 0 where
  unit : part_after before ≡ part.Body → is_some (last_set unit_set (header before)) ≡ true
  legal : filter_map (violation_at (broken_rule_in profile)) (with_prefixes_from before cs) ≡ []
  stands : AreInBody (part_after before) cs

legal_now : (profile : Profile) (before cs : List DrillCommand) (c : DrillCommand) → IsLeft profile before (c ∷ cs) → (broken_rule_in profile before c ≡ None) × (filter_map (violation_at (broken_rule_in profile)) (with_prefixes_from (before ++ c ∷ []) cs) ≡ [])
legal_now profile before cs c left = legal_parts (length before) (broken_rule_in profile before c) (filter_map (violation_at (broken_rule_in profile)) (with_prefixes_from (before ++ c ∷ []) cs)) left.legal

-- a command that breaks no rule does not end a header without a unit, and what it drills has a size
has_unit : (s : StateView) (count : ℕ) (o : Option DrillPath) (c : DrillCommand) → first_broken s count o c ≡ None → lacks_unit s c ≡ false
unfolding first_broken
has_unit s count o c e = (none_found (applies s count o c) rules e).0

has_size : (s : StateView) (count : ℕ) (o : Option DrillPath) (c : DrillCommand) → first_broken s count o c ≡ None → applies s count o c BadSize ≡ false
unfolding first_broken
has_size s count o c e = (none_found (applies s count o c) rules e).1.1.1.1.1.1.0

-- the header ends only where a unit is named
unit_at_end : (profile : Profile) (s : StateView) (count : ℕ) (o : Option DrillPath) (c : DrillCommand) → first_broken_in profile s count o c ≡ None → ends_header c ≡ true → is_some s.settings.unit ≡ true
unit_at_end profile s count o command.HeaderEnd legal ends = some_unless s.settings.unit (has_unit s count o command.HeaderEnd (sym (same_rules profile s count o command.HeaderEnd refl) ∙ legal))
unit_at_end profile s count o c legal ends = absurd cc

next : (profile : Profile) (before cs : List DrillCommand) (c : DrillCommand) → IsLeft profile before (c ∷ cs) → IsLeft profile (before ++ c ∷ []) cs
next profile before cs c left =
    let legal = legal_now profile before cs c left in
    record {
      unit = λ body. ap is_some (header-more unit_set refl before c) ∙ stays_named (list_any ends_header before) (unit_set c) (last_set unit_set (header before))
          (in_body (part_after before) (last_set unit_set (header before)) c left.unit (unit_at_end profile (state_after before) (length (holes_of before)) (path_at before c) c legal.0) (sym (part_more before c) ∙ body));
      legal = legal.1;
      stands = subst (λ (p : Part). AreInBody p cs) (sym (part_more before c)) left.stands.1;
    }

-- ---- holes that are listed are drilled

drills_in_body : (p : Part) (c : DrillCommand) → drills c ≡ true → is_sayable p c ≡ true → p ≡ part.Body
drills_in_body part.Body c d e = refl
drills_in_body p (command.Hit q) d e = absurd cc
drills_in_body p (command.Slot q r) d e = absurd cc
drills_in_body p c d e = absurd cc

no_width : (unit : Units) → int_le (coordinate_in unit None) (pos 0) ≡ false → ⊥
no_width Inch e = cc
no_width Millimetre e = cc

-- a tool that has a size was picked, and its diameter was given
sized : (unit : Units) (o : Option ℕ) (diameters : ℕ → Option ℤ) → int_le (coordinate_in unit (option_and_then diameters o)) (pos 0) ≡ false → (tool : ℕ) × (o ≡ Some tool) × (d : ℤ) × (diameters tool ≡ Some d)
sized unit None diameters e = absurd (no_width unit e)
sized unit (Some tool) diameters e = by (diameters tool) refl e
  where
    by : (o : Option ℤ) → diameters tool ≡ o → int_le (coordinate_in unit o) (pos 0) ≡ false → (n : ℕ) × (Some tool ≡ Some n) × (d : ℤ) × (diameters n ≡ Some d)
    by None is k = absurd (no_width unit k)
    by (Some d) is k = (tool, refl, d, is)

-- twice the radius is the diameter, since a unit of 10^-8 is an even number of pm
twice : (unit : Units) (v : ℤ) → int_le (picometres unit 8 v) (pos 0) ≡ false → pos (2 * (unsigned_abs (picometres unit 8 v) / 2)) ≡ picometres unit 8 v
twice Inch v e = omega (arith, ints, e)
twice Millimetre v e = omega (arith, ints, e)

drilled : (before : List DrillCommand) (c : DrillCommand) (start end : List Coordinates) → is_some (last_set unit_set (header before)) ≡ true → has_bad_size (path before start end) ≡ false
    → ((unit : Units) → IsPath unit before c (point_at unit (points_of before ++ start)) (point_at unit (points_of before ++ end))) → IsHoleOf before c (hole_of (path before start end))
unfolding path
drilled before c start end named size runs =
    let unit = some_is (last_set unit_set (header before)) named in
    let tool = sized (unit_after before) (last_set tool_set before) (λ number. last_set (diameter_set number) before) size in
    let same : unit.0 ≡ unit_after before = ap unit_or (sym unit.1) in
    let width : coordinate_in (unit_after before) (diameter_after before) ≡ picometres unit.0 8 tool.2 = sym (width_of before unit.0 tool.2 unit.1 (diameter_of before tool.0 tool.2 tool.1 tool.3)) in
    record {
      unit = unit.0;
      unit_named = unit.1;
      tool = tool.0;
      tool_picked = tool.1;
      diameter = tool.2;
      diameter_given = tool.3;
      path = subst (λ u. IsPath unit.0 before c (point_at u (points_of before ++ start)) (point_at u (points_of before ++ end))) same (runs unit.0);
      radius = ap (λ z. pos (2 * (unsigned_abs z / 2))) width ∙ twice unit.0 tool.2 (ap (λ z. int_le z (pos 0)) (sym width) ∙ size);
    }

-- a hit or a slot that is left is in the body, where a unit is named, and what it drills has a size
drilled_now : (profile : Profile) (before cs : List DrillCommand) (c : DrillCommand) → IsLeft profile before (c ∷ cs) → drills c ≡ true → defines_alike (state_after before) c ≡ false → (is_some (last_set unit_set (header before)) ≡ true) × (applies (state_after before) (length (holes_of before)) (path_at before c) c BadSize ≡ false)
drilled_now profile before cs c left d fresh = (
  left.unit (left.stands.0 d),
  has_size (state_after before) (length (holes_of before)) (path_at before c) c (sym (same_rules profile (state_after before) (length (holes_of before)) (path_at before c) c fresh) ∙ (legal_now profile before cs c left).0),
)

listed_drilled : (profile : Profile) (before cs : List DrillCommand) → IsLeft profile before cs → AreHolesAfter before cs (listed_after before cs)
unfolding AreHolesAfter listed_after path
listed_drilled profile before [] left = tt
listed_drilled profile before (command.Hit p ∷ cs) left =
    let now = drilled_now profile before cs (command.Hit p) left refl refl in
    (drilled before (command.Hit p) (p ∷ []) (p ∷ []) now.0 now.1 (λ unit. (refl, refl)), listed_drilled profile (before ++ command.Hit p ∷ []) cs (next profile before cs (command.Hit p) left))
listed_drilled profile before (command.Slot p q ∷ cs) left =
    let now = drilled_now profile before cs (command.Slot p q) left refl refl in
    (drilled before (command.Slot p q) (p ∷ []) (p ∷ q ∷ []) now.0 now.1 (λ unit. (refl, refl)), listed_drilled profile (before ++ command.Slot p q ∷ []) cs (next profile before cs (command.Slot p q) left))
listed_drilled profile before (c ∷ cs) left = listed_drilled profile (before ++ c ∷ []) cs (next profile before cs c left)

-- legal commands that drill in the body alone drill the holes that are listed of them
pub legal_are_drilled : (profile : Profile) (commands : List DrillCommand) → IsLegal (broken_rule_in profile) commands → AreInBody part.Before commands → AreHoles commands (holes_of commands)
unfolding AreHolesAfter listed_after
legal_are_drilled profile commands legal stand = listed_drilled profile [] commands (record { unit = λ e. absurd cc; legal = legal; stands = stand })

-- sayable commands drill in the body alone
sayable_in_body : (p : Part) (cs : List DrillCommand) → are_sayable p cs ≡ true → AreInBody p cs
sayable_in_body p [] e = tt
sayable_in_body p (c ∷ cs) e =
    let both = both_true (is_sayable p c) (are_sayable (part_with p c) cs) e in
    ((λ d. drills_in_body p c d both.0), sayable_in_body (part_with p c) cs both.1)

pub listed_holes_are_drilled : ListedHolesAreDrilled
listed_holes_are_drilled text commands d =
    legal_are_drilled Strict commands d.legal (sayable_in_body part.Before commands (both_true (are_sayable part.Before commands) (is_after_end (part_from part.Before commands)) (text_sayable text commands d.spells)).0)
