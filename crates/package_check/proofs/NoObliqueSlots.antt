-- A sound package has no oblique plated slot in the strict profile.
use Rattle.package_check.proofs.Common.{◌≡◌, ◌<◌, ◌≤◌, ◌+◌, ◌-◌, ℕ, zero, suc, Bool, true, false, not, cond, ◌&&◌, leb, List, [], ◌∷◌, Option, Some, None, length, get_or, arith, refl, sym, ap, subst, ◌∙◌, AllZip, Contains, count_by, filter, flat_map, le-leb, sum_by-cons, GridHole, Profile, Strict, Wide, LayerSpan, is_in_span, Drilled, DrillCommand, Role, FileView, is_copper, AreDrilledBy, HolesAreSaidOnce, IsRun, SoundIsStraight, LiesAsAllowed, SaysHoles, SaysPads, both_ways, AllZip-long, flat_map_at}
use Rattle.pad_shapes.specs.Shapes.{IsAxisAligned}
use Rattle.manifest.specs.declared.Role.TheVariants as role
use Rattle.package_check.proofs.MarkedLemmas.{marked_span}
use Rattle.package_check.proofs.WrittenPackages.{hole_among}

-- some layer lies in a span that is a run of layers
some_layer : (span : Option LayerSpan) (n : ℕ) → 0 < n → IsRun n span → (l : ℕ) × (l < n) × (is_in_span l span ≡ true)
some_layer None n some run = (0, some, refl)
some_layer (Some s) n some run =
    let first : 1 ≤ s.first = run.0 in
    let order : s.first ≤ s.last = run.1 in
    let last : s.last ≤ n = run.2 in
    let back : s.first - 1 + 1 ≡ s.first = omega (arith, first) in
    (s.first - 1, omega (arith, first, order, last), ap (λ k. leb s.first k && leb k s.last) back ∙ (λ i. le-leb s.first s.first (omega arith) i && le-leb s.first s.last order i))

-- a plated hole is one of a drill file, and has its span
plated_is_drill : (q : Role) (span : Option LayerSpan) (commands : List DrillCommand) (holes : List GridHole) (drilled : List Drilled) (d : Drilled) → AreDrilledBy q span commands holes drilled → Contains drilled d → d.plated ≡ true
    → (not (is_copper q) ≡ true) × (d.span ≡ span)
plated_is_drill role.Copper span commands holes drilled d is h plated = absurd (both_ways d.plated (hole_among false span holes d (subst (λ (ds : List Drilled). Contains ds d) is h)).1 plated)
plated_is_drill role.Plated span commands holes drilled d is h plated = (refl, (hole_among true span holes d (subst (λ (ds : List Drilled). Contains ds d) is h)).2)
plated_is_drill role.Unplated span commands holes drilled d is h plated = (refl, (hole_among false span holes d (subst (λ (ds : List Drilled). Contains ds d) is h)).2)
plated_is_drill role.Mixed span commands holes drilled d is h plated = (refl, marked_span span holes is.0 d (subst (λ (ds : List Drilled). Contains ds d) is.2 h))

kept_count : {Y : Type 0} (b : Bool) (y : Y) (ys : List Y) → length (cond b (y ∷ ys) ys) ≡ cond b 1 0 + length ys
kept_count true y ys = omega arith
kept_count false y ys = omega arith

-- an element that passes a test is among those that do
kept : {Y : Type 0} (p : Y → Bool) (ys : List Y) (y : Y) (k : ℕ) → k < length ys → get_or ys k y ≡ y → p y ≡ true → Contains (filter p ys) y
kept p [] y k lt e passes = absurd (omega arith)
kept {Y} p (x ∷ xs) y zero lt e passes =
    subst (λ (b : Bool). Contains (cond b (x ∷ filter p xs) (filter p xs)) y) (sym (ap p e ∙ passes)) (0, omega arith, e)
kept {Y} p (x ∷ xs) y (suc k) lt e passes = later (p x) (kept p xs y k (omega arith) e passes)
  where
    later : (b : Bool) → Contains (filter p xs) y → Contains (cond b (x ∷ filter p xs) (filter p xs)) y
    later true h = (suc h.0, (let inside = h.1 in omega arith), h.2)
    later false h = h

-- what one of these files says is among what they all say
said_by : (files : List FileView) (drills : List (List Drilled)) → AllZip SaysHoles files drills → (file : FileView) (k : ℕ) → k < length files → get_or files k file ≡ file
    → (drilled : List Drilled) × Contains drills drilled × SaysHoles file drilled
said_by [] drills all file k lt e = absurd (omega arith)
said_by (f ∷ fs) [] all file k lt e = absurd all
said_by (f ∷ fs) (d ∷ ds) all file zero lt e = (d, (0, omega arith, refl), subst (λ (y : FileView). SaysHoles y d) e all.0)
said_by (f ∷ fs) (d ∷ ds) all file (suc k) lt e =
    let more = said_by fs ds all.1 file k (omega arith) e in
    (more.0, (suc more.1.0, (let inside = more.1.1 in omega arith), more.1.2), more.2)

-- a hole that lies as the strict profile allows lies along an axis
along : (profile : Profile) (d : Drilled) → profile ≡ Strict → LiesAsAllowed profile d.hole → IsAxisAligned d.hole.from d.hole.to
along Strict d is h = h
along Wide d is h = absurd cc

counted : (sources : List FileView) → length (filter (λ file. is_copper file.role) sources) ≡ count_by (λ one. is_copper one.role) sources
counted [] = refl
counted (x ∷ xs) =
    kept_count (is_copper x.role) x (filter (λ file. is_copper file.role) xs)
    ∙ ((λ i. cond (is_copper x.role) 1 0 + counted xs i) ∙ sym (sum_by-cons (λ y. cond (is_copper y.role) 1 0) x xs))

pub sound_is_straight : HolesAreSaidOnce → SoundIsStraight
sound_is_straight once sources rules strict layered some sound file drilled d among said inside plated =
    let from = plated_is_drill file.role file.said.span said.commands said.holes drilled d said.is inside plated in
    let is_drill : not (is_copper file.role) ≡ true = from.0 in
    let files = filter (λ (f : FileView). not (is_copper f.role)) sources in
    let place = kept (λ (f : FileView). not (is_copper f.role)) sources file among.0 among.1 among.2 is_drill in
    let other = said_by files sound.drills sound.holes file place.0 place.1 place.2 in
    let listed : Contains other.0 d = subst (λ (ds : List Drilled). Contains ds d) (once file drilled other.0 said other.2) inside in
    let at = other.1 in
    let far : at.0 < length sound.drills = at.1 in
    let spot : get_or sound.drills at.0 other.0 ≡ other.0 = at.2 in
    let whole : Contains (flat_map (λ (one : List Drilled). one) sound.drills) d = flat_map_at (λ (one : List Drilled). one) sound.drills other.0 d at.0 far spot listed in
    let layers_are : file.setting.layers ≡ count_by (λ (one : FileView). is_copper one.role) sources = layered file among in
    let layer = some_layer file.said.span file.setting.layers (subst (λ m. 0 < m) (sym layers_are) some) said.run in
    let below : layer.0 < file.setting.layers = layer.1 in
    let long : length sound.layers ≡ length (filter (λ (f : FileView). is_copper f.role) sources) = AllZip-long SaysPads (filter (λ (f : FileView). is_copper f.role) sources) sound.layers sound.pads in
    let within : layer.0 < length sound.layers = omega (arith, below, layers_are, counted sources, long) in
    along rules.profile d strict (sound.held layer.0 d within whole plated (ap (is_in_span layer.0) from.1 ∙ layer.2)).0
