-- Copper files and drill files, and their contents.
use Rattle.package_check.proofs.Common.{◌≡◌, ℕ, Bool, true, false, not, cond, List, [], ◌∷◌, ◌++◌, ap, sym, refl, subst, ◌∙◌, flat_map, flat_map-cons, Drilled, Role, Said, drill_files, Setting, BytesHaveContent, FileView, HasContent, HaveContents, is_copper, drilled_in, Content}
use Rattle.manifest.specs.declared.Role.TheVariants as role
use Rattle.package_check.specs.declared.contents.Content.TheVariants as content

-- whether a content is that of a layer
abbrev pub is_layer : Content → Bool
is_layer (content.Layer image) = true
is_layer _ = false

kind_role : (q : Role) (name : List ℕ) (said : Said) (bytes : List ℕ) (n : Setting) (c : Content) → BytesHaveContent (record { role = q; name = name; said = said; bytes = bytes; setting = n }) c → is_copper q ≡ is_layer c
kind_role role.Copper name said bytes n (content.Layer image) h = refl
kind_role role.Plated name said bytes n (content.Drill plated through drill) h = refl
kind_role role.Unplated name said bytes n (content.Drill plated through drill) h = refl
kind_role role.Mixed name said bytes n (content.Mixed through holes) h = refl
kind_role q name said bytes n c h = absurd h

-- a file that is read as a layer is copper, and no other is
pub file_kind : (s : FileView) (c : Content) → HasContent s c → is_copper s.role ≡ is_layer c
file_kind s c h = kind_role s.role s.name s.said s.bytes s.setting c h.1

-- the role of a copper file
pub role_copper : (q : Role) → is_copper q ≡ true → q ≡ role.Copper
role_copper role.Copper is = refl
role_copper q is = absurd cc

-- one of two cases of a test
pub either : {P : Type 0} (t : Bool) → (t ≡ true → P) → (t ≡ false → P) → P
either true first second = first refl
either false first second = second refl

-- one more file, whose content is among those of the drill files just where it is a drill file
pub drill_files_more : (s : FileView) (ss : List FileView) (cs rest : List Content) → (is_copper s.role ≡ true → cs ≡ rest) → (is_copper s.role ≡ false → (c : Content) × HasContent s c × (cs ≡ c ∷ rest)) → HaveContents (drill_files ss) rest
    → HaveContents (drill_files (s ∷ ss)) cs
drill_files_more s ss cs rest copper drill all = either (is_copper s.role)
    (λ t. subst (λ (b : Bool). HaveContents (cond (not b) (s ∷ drill_files ss) (drill_files ss)) cs) (sym t) (subst (λ (xs : List Content). HaveContents (drill_files ss) xs) (sym (copper t)) all))
    (λ t.
    let one = drill t in
    subst (λ (b : Bool). HaveContents (cond (not b) (s ∷ drill_files ss) (drill_files ss)) cs) (sym t) (subst (λ (xs : List Content). HaveContents (s ∷ drill_files ss) xs) (sym one.2) (one.1, all)))

-- the drill files among files with these contents drill the same holes
pub drills_among : (sources : List FileView) (contents : List Content) → HaveContents sources contents → (drills : List Content) × HaveContents (drill_files sources) drills × (flat_map drilled_in contents ≡ flat_map drilled_in drills)
drills_among [] [] h = ([], tt, refl)
drills_among (s ∷ ss) (content.Layer image ∷ cs) h =
    let rest = drills_among ss cs h.1 in
    (rest.0, subst (λ (b : Bool). HaveContents (cond (not b) (s ∷ drill_files ss) (drill_files ss)) rest.0) (sym (file_kind s (content.Layer image) h.0)) rest.1, flat_map-cons drilled_in (content.Layer image) cs ∙ rest.2)
drills_among (s ∷ ss) (c ∷ cs) h =
    let rest = drills_among ss cs h.1 in (
      c ∷ rest.0,
      subst (λ (b : Bool). HaveContents (cond (not b) (s ∷ drill_files ss) (drill_files ss)) (c ∷ rest.0)) (sym (file_kind s c h.0)) (h.0, rest.1),
      flat_map-cons drilled_in c cs ∙ (ap (λ (ds : List Drilled). drilled_in c ++ ds) rest.2 ∙ sym (flat_map-cons drilled_in c rest.0)),
    )
drills_among sources contents h = absurd h
