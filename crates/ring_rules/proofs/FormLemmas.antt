-- Entries with their forms: what they stand for, and that more forms and more entries change nothing of it.
use Rattle.ring_rules.proofs.Common.{◌≡◌, ℕ, ℤ, ◌<◌, ◌≤◌, List, [], ◌∷◌, ◌++◌, length, get_or, map, sym, ap, subst, ◌∙◌, arith, ints, w64, to_z, of_z, get_or-map, length-map, map_push, same_lists, GridPoint, IsCoordinate, GridHole, hole_of_form, form_at, spot_with, spot_of, HasForm, default_entry, HaveForms, Spot, Entry}
use Rattle.std.specs.Prelude.{◌+ℤ◌, ◌-ℤ◌}
use Rattle.std.specs.Int.Signed.{mag}

abbrev pub hole_of : GridPoint → ℤ → ℤ → ℕ → GridHole
hole_of from x y radius = record { from = from; to = record { x = x; y = y }; radius = radius }

-- a hole of a form, by its second end
pub moved_to : (form : GridHole) (from to : GridPoint) → to.x ≡ (hole_of_form form from).to.x → to.y ≡ (hole_of_form form from).to.y → hole_of from to.x to.y form.radius ≡ hole_of_form form from
moved_to form from to x y = ap (λ (v : ℤ). hole_of from v to.y form.radius) x ∙ ap (λ (v : ℤ). hole_of from (hole_of_form form from).to.x v form.radius) y

reaches : (a b c d : ℤ) → (b -ℤ a) ≡ (d -ℤ c) → (c +ℤ (b -ℤ a)) ≡ d
reaches a b c d same = omega (arith, ints, same)

-- a hole with the ways and the radius of a form
pub like : (form hole : GridHole) → (form.to.x -ℤ form.from.x) ≡ (hole.to.x -ℤ hole.from.x) → (form.to.y -ℤ form.from.y) ≡ (hole.to.y -ℤ hole.from.y) → form.radius ≡ hole.radius → hole_of_form form hole.from ≡ hole
like form hole x y radius = λ i. hole_of hole.from (reaches form.from.x form.to.x hole.from.x hole.to.x x i) (reaches form.from.y form.to.y hole.from.y hole.to.y y i) (radius i)

-- numbers that calls pass on alike
pub passed_alike : (a b : ℤ) → mag a < 9223372036854775808 → mag b < 9223372036854775808 → of_z w64 a ≡ of_z w64 b → a ≡ b
passed_alike a b fits fits' same = (let e : a ≡ to_z w64 (of_z w64 a) = omega (arith, ints) in e) ∙ (ap (to_z w64) same ∙ (let e : to_z w64 (of_z w64 b) ≡ b = omega (arith, ints) in e))

abbrev spot_made : GridHole → ℕ → Spot
spot_made hole place = record { hole = hole; place = place }

-- the spot that an entry stands for, by its parts
pub entry_is : (forms : List GridHole) (e : Entry) (s : Spot) → hole_of_form (form_at forms e.form) e.from ≡ s.hole → e.place ≡ s.place → spot_of forms e ≡ s
entry_is forms e s hole place = ap (λ (h : GridHole). spot_made h e.place) hole ∙ ap (spot_made s.hole) place

module _ (forms more : List GridHole) (longer : length forms ≤ length more) (kept : (n : ℕ) → n < length forms → form_at more n ≡ form_at forms n) where
  same_spot : (e : Entry) → HasForm forms e → spot_of more e ≡ spot_of forms e
  same_spot e has = ap (λ (form : GridHole). spot_with form e) (kept e.form has.listed)

  still_has : (e : Entry) → HasForm forms e → HasForm more e
  still_has e has = record {
    listed = omega (arith, has.listed, longer);
    x = subst (λ (s : Spot). IsCoordinate s.hole.to.x) (sym (same_spot e has)) has.x;
    y = subst (λ (s : Spot). IsCoordinate s.hole.to.y) (sym (same_spot e has)) has.y;
  }

  module _ (entries : List Entry) (have : HaveForms forms entries) where
    pub same_spots : map (spot_of more) entries ≡ map (spot_of forms) entries
    same_spots = same_lists (map (spot_of more) entries) (map (spot_of forms) entries) (length-map entries (spot_of more) ∙ sym (length-map entries (spot_of forms))) (λ k d h.
        let inside : k < length entries = omega (arith, h, length-map entries (spot_of more)) in
        get_or-map (spot_of more) entries k default_entry d inside ∙ (same_spot (get_or entries k default_entry) (have k inside) ∙ sym (get_or-map (spot_of forms) entries k default_entry d inside)))

    pub spots_more : (e : Entry) → map (spot_of more) (entries ++ e ∷ []) ≡ map (spot_of forms) entries ++ spot_of more e ∷ []
    spots_more e = map_push (spot_of more) entries e ∙ ap (λ (ss : List Spot). ss ++ spot_of more e ∷ []) same_spots
