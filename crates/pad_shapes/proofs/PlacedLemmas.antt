-- Points that stay near.
use Rattle.std.proofs.Common.{◌≡◌, ◌∙◌, ℕ, ℤ, pos, ◌≤◌, ◌<◌, ◌+ℤ◌, ◌-ℤ◌, unsigned_abs, [], ◌∷◌, arith, true, false, not, List, map, length, get_or, sym, ap, subst}
use Rattle.std.specs.List.{fold, list_all}
use Rattle.std.specs.Int.{int_min, int_max}
use Rattle.std.proofs.lemmas.Int.{clamps, ints}
use Rattle.std.proofs.lemmas.List.{length-map}
use Rattle.std.proofs.lemmas.List.Folds.{list_all-map}
use Rattle.std.proofs.lemmas.List.Sums.{AllPass-from_list_all}
use Rattle.grid_units.proofs.BoolLemmas.{both_true, not_true}
use Rattle.grid_units.specs.Numbers.{is_too_far}
use Rattle.std.proofs.lemmas.Grind.{common_steps}
use Rattle.grid_units.specs.Points.{GridPoint, IsCoordinate}
use Rattle.pad_shapes.specs.Shapes.{IsPadRadius}
use Rattle.pad_shapes.specs.Rounded.{GridRounded, IsRounded, corners, is_outline, max_corners}
use Rattle.pad_shapes.specs.Zones.{IsBoxOf, IsWithin}
use Rattle.pad_shapes.specs.declared.zone.Zone.{Zone}
use Rattle.pad_shapes.specs.Placed.{is_near, moved_point}
use Rattle.pad_shapes.proofs.MovedShapes.{outline-moved}

near : (z : ℤ) → is_too_far z ≡ false → IsCoordinate z
near z h = grind (arith, common_steps)

pub near_x : (p : GridPoint) → is_near p ≡ true → IsCoordinate p.x
near_x p h = near p.x (not_true (is_too_far p.x) ((both_true (not (is_too_far p.x)) (not (is_too_far p.y)) h).0))

pub near_y : (p : GridPoint) → is_near p ≡ true → IsCoordinate p.y
near_y p h = near p.y (not_true (is_too_far p.y) ((both_true (not (is_too_far p.x)) (not (is_too_far p.y)) h).1))

pub near_each : (o : GridPoint) (points : List GridPoint) → list_all is_near (map (moved_point o) points) ≡ true → (k : ℕ) (d : GridPoint) → k < length points → is_near (moved_point o (get_or points k d)) ≡ true
near_each o points h k d lt = AllPass-from_list_all (λ (v : GridPoint). is_near (moved_point o v)) points (sym (list_all-map is_near (moved_point o) points) ∙ h) k d lt

-- corners that are moved are those of a rounded polygon as they were
pub rounded_there : (o : GridPoint) (s : GridRounded) (first : GridPoint) (others : List GridPoint) (radius : ℤ) → first ≡ moved_point o s.first → others ≡ map (moved_point o) s.others → radius ≡ pos s.radius
    → IsRounded s.first s.others (pos s.radius) → IsRounded first others radius
rounded_there o s first others radius e f g h = record {
  few = subst (λ (n : ℕ). n < max_corners) (sym (ap length f ∙ length-map s.others (moved_point o))) h.few;
  in_range = subst IsPadRadius (sym g) h.in_range;
  outline = (λ i. is_outline (e i) (f i)) ∙ outline-moved o s.first s.others ∙ h.outline;
}

-- ---- how far the box of near corners reaches

pub least_near : (f : GridPoint → ℤ) → ((v : GridPoint) → is_near v ≡ true → IsCoordinate (f v)) → (vs : List GridPoint) (a : ℤ) → IsCoordinate a → list_all is_near vs ≡ true → IsCoordinate (fold (λ least v. int_min least (f v)) a vs)
least_near f near_f [] a h all = h
least_near f near_f (v ∷ vs) a h all =
    let both = both_true (is_near v) (list_all is_near vs) all in
    least_near f near_f vs (int_min a (f v)) (lesser a (f v) h (near_f v both.0)) both.1
  where
    lesser : (p q : ℤ) → IsCoordinate p → IsCoordinate q → IsCoordinate (int_min p q)
    lesser p q h k = omega (arith, ints, clamps)

pub greatest_near : (f : GridPoint → ℤ) → ((v : GridPoint) → is_near v ≡ true → IsCoordinate (f v)) → (vs : List GridPoint) (a : ℤ) → IsCoordinate a → list_all is_near vs ≡ true → IsCoordinate (fold (λ greatest v. int_max greatest (f v)) a vs)
greatest_near f near_f [] a h all = h
greatest_near f near_f (v ∷ vs) a h all =
    let both = both_true (is_near v) (list_all is_near vs) all in
    greatest_near f near_f vs (int_max a (f v)) (greater a (f v) h (near_f v both.0)) both.1
  where
    greater : (p q : ℤ) → IsCoordinate p → IsCoordinate q → IsCoordinate (int_max p q)
    greater p q h k = omega (arith, ints, clamps)

pub box_within : (s : GridRounded) (zone : Zone) → list_all is_near (corners s) ≡ true → s.radius ≤ 5000000000000 → IsBoxOf s zone → IsWithin 15000000000000 zone
box_within s zone near small box =
    let both = both_true (is_near s.first) (list_all is_near s.others) near in
    record {
      left = below _ s.radius zone.left box.left (least_near (λ v. v.x) near_x s.others s.first.x (near_x s.first both.0) both.1) small;
      right = above _ s.radius zone.right box.right (greatest_near (λ v. v.x) near_x s.others s.first.x (near_x s.first both.0) both.1) small;
      bottom = below _ s.radius zone.bottom box.bottom (least_near (λ v. v.y) near_y s.others s.first.y (near_y s.first both.0) both.1) small;
      top = above _ s.radius zone.top box.top (greatest_near (λ v. v.y) near_y s.others s.first.y (near_y s.first both.0) both.1) small;
    }
  where
    below : (z : ℤ) (radius : ℕ) (side : ℤ) → side ≡ z -ℤ pos radius → IsCoordinate z → radius ≤ 5000000000000 → unsigned_abs side ≤ 15000000000000
    below z radius side e h k = omega (arith, ints, e)

    above : (z : ℤ) (radius : ℕ) (side : ℤ) → side ≡ z +ℤ pos radius → IsCoordinate z → radius ≤ 5000000000000 → unsigned_abs side ≤ 15000000000000
    above z radius side e h k = omega (arith, ints, e)
