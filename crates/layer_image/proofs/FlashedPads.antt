-- The list of the pads of some commands has just the pads that one of them makes.
use Rattle.layer_image.proofs.Common.{◌≡◌, ◌⊎◌, inl, inr, ℕ, zero, suc, ◌<◌, ℤ, List, [], ◌∷◌, ◌++◌, map, Option, None, Some, refl, sym, ap, subst, ◌∙◌, arith, append_assoc, append-nil, ◌≤◌, Contains, filter_map, flat_map, cons_option, flat_map-cons, Contains-append_left, Contains-append_right, Contains-append_cases, GridPoint, Pad, Command, numbers_below, GraphicsState, state_after, PadsAreFlashed, AreFlashPads, ArePadsFrom, ArePadsOf, IsFlashPad, IsPadOf, copies_in, copy_in, flashed_at, cases_lt}
use Rattle.gerber_commands.specs.declared.command.Action.TheVariants as action
use Rattle.gerber_commands.specs.declared.command.Command.TheVariants as command
use Rattle.layer_image.proofs.UniquePads.{flash_once}
use Rattle.layer_features.proofs.UnclearedPositions.{head_or_tail, none_contained, tail_contained}
use Rattle.grid_units.proofs.ListLemmas.{flat_map_at, map_contains}

-- ---- elements of lists

head_contained : {A : Type 0} (x : A) (xs : List A) → Contains (x ∷ xs) x
head_contained x xs = (0, omega arith, refl)

contained_map : {A B : Type 0} (f : A → B) (xs : List A) (y : B) → Contains (map f xs) y → (x : A) × Contains xs x × (f x ≡ y)
contained_map f [] y h = absurd (none_contained y h)
contained_map {A} {B} f (z ∷ zs) y h = by (contained_map f zs y) (head_or_tail (f z) (map f zs) y h)
  where
    by : (Contains (map f zs) y → (x : A) × Contains zs x × (f x ≡ y)) → (f z ≡ y) ⊎ Contains (map f zs) y → (x : A) × Contains (z ∷ zs) x × (f x ≡ y)
    by rest (inl e) = (z, head_contained z zs, e)
    by rest (inr k) = let found = rest k in (found.0, tail_contained z zs found.0 found.1, found.2)

contained_flat_map : {A B : Type 0} (f : A → List B) (xs : List A) (y : B) → Contains (flat_map f xs) y → (x : A) × Contains xs x × Contains (f x) y
contained_flat_map f [] y h = absurd (none_contained y h)
contained_flat_map {A} {B} f (z ∷ zs) y h =
    by (contained_flat_map f zs y) (Contains-append_cases (f z) (flat_map f zs) y (subst (λ (l : List B). Contains l y) (flat_map-cons f z zs) h))
  where
    by : (Contains (flat_map f zs) y → (x : A) × Contains zs x × Contains (f x) y) → Contains (f z) y ⊎ Contains (flat_map f zs) y → (x : A) × Contains (z ∷ zs) x × Contains (f x) y
    by rest (inl k) = (z, head_contained z zs, k)
    by rest (inr k) = let found = rest k in (found.0, tail_contained z zs found.0 found.1, found.2)

contained_filter_map : {A B : Type 0} (f : A → Option B) (xs : List A) (y : B) → Contains (filter_map f xs) y → (x : A) × Contains xs x × (f x ≡ Some y)
contained_filter_map f [] y h = absurd (none_contained y h)
contained_filter_map {A} {B} f (z ∷ zs) y h = by (f z) refl (contained_filter_map f zs y)
  where
    later : (x : A) × Contains zs x × (f x ≡ Some y) → (x : A) × Contains (z ∷ zs) x × (f x ≡ Some y)
    later found = (found.0, tail_contained z zs found.0 found.1, found.2)

    here : (w : B) → f z ≡ Some w → (Contains (filter_map f zs) y → (x : A) × Contains zs x × (f x ≡ Some y)) → (w ≡ y) ⊎ Contains (filter_map f zs) y → (x : A) × Contains (z ∷ zs) x × (f x ≡ Some y)
    here w e rest (inl same) = (z, head_contained z zs, e ∙ ap (λ (v : B). Some v) same)
    here w e rest (inr k) = later (rest k)

    by : (o : Option B) → f z ≡ o → (Contains (filter_map f zs) y → (x : A) × Contains zs x × (f x ≡ Some y)) → (x : A) × Contains (z ∷ zs) x × (f x ≡ Some y)
    by None e rest = later (rest (subst (λ (o : Option B). Contains (cons_option o (filter_map f zs)) y) e h))
    by (Some w) e rest = here w e rest (head_or_tail w (filter_map f zs) y (subst (λ (o : Option B). Contains (cons_option o (filter_map f zs)) y) e h))

with_option : {B : Type 0} (o : Option B) (ys : List B) (y : B) → Contains ys y → Contains (cons_option o ys) y
with_option None ys y h = h
with_option (Some w) ys y h = tail_contained w ys y h

filter_map_contains : {A B : Type 0} (f : A → Option B) (xs : List A) (x : A) (y : B) → Contains xs x → f x ≡ Some y → Contains (filter_map f xs) y
filter_map_contains f [] x y h e = absurd (none_contained x h)
filter_map_contains {A} {B} f (z ∷ zs) x y h e = by (λ k. filter_map_contains f zs x y k e) (head_or_tail z zs x h)
  where
    by : (Contains zs x → Contains (filter_map f zs) y) → (z ≡ x) ⊎ Contains zs x → Contains (filter_map f (z ∷ zs)) y
    by rest (inl same) = subst (λ (o : Option B). Contains (cons_option o (filter_map f zs)) y) (sym (ap f same ∙ e)) (head_contained y (filter_map f zs))
    by rest (inr k) = with_option (f z) (filter_map f zs) y (rest k)

-- ---- numbers below another

contained_below : (n u : ℕ) → Contains (numbers_below n) u → u < n
contained_below zero u h = absurd (none_contained u h)
contained_below (suc n) u h = by (contained_below n u) (Contains-append_cases (numbers_below n) (n ∷ []) u h)
  where
    last : (n ≡ u) ⊎ Contains [] u → u < suc n
    last (inl e) = omega arith
    last (inr k) = absurd (none_contained u k)

    by : (Contains (numbers_below n) u → u < n) → Contains (numbers_below n) u ⊎ Contains (n ∷ []) u → u < suc n
    by rest (inl k) = let lt : u < n = rest k in omega arith
    by rest (inr k) = last (head_or_tail n [] u k)

below_contained : (n u : ℕ) → u < n → Contains (numbers_below n) u
below_contained zero u lt = absurd (omega arith)
below_contained (suc n) u lt = by (below_contained n u) (cases_lt u n)
  where
    by : (u < n → Contains (numbers_below n) u) → (u < n) ⊎ (n ≤ u) → Contains (numbers_below (suc n)) u
    by rest (inl k) = Contains-append_left (numbers_below n) (n ∷ []) u (rest k)
    by rest (inr k) = let e : n ≡ u = omega arith in Contains-append_right (numbers_below n) (n ∷ []) u (0, omega arith, e)

-- ---- one command

flash_in : (s : GraphicsState) (x y : Option ℤ) (made : List Pad) (pad : Pad) → AreFlashPads s x y made → Contains made pad → IsFlashPad s x y pad
flash_in s x y made pad left h =
    let row : ℕ → List GridPoint = λ u. map (copy_in left.0 left.1 s x y u) (numbers_below s.block.rows) in
    let found = contained_filter_map (flashed_at left.0 s left.2) (copies_in left.0 left.1 s x y) pad (subst (λ (l : List Pad). Contains l pad) left.4 h) in
    let column = contained_flat_map row (numbers_below s.block.columns) found.0 found.1 in
    let place = contained_map (copy_in left.0 left.1 s x y column.0) (numbers_below s.block.rows) found.0 column.2 in (
      left.0,
      left.1,
      left.2,
      left.3,
      column.0,
      place.0,
      contained_below s.block.columns column.0 column.1,
      contained_below s.block.rows place.0 place.1,
      ap (flashed_at left.0 s left.2) place.2 ∙ found.2,
    )

in_flash : (s : GraphicsState) (x y : Option ℤ) (made : List Pad) (pad : Pad) → AreFlashPads s x y made → IsFlashPad s x y pad → Contains made pad
in_flash s x y made pad left is =
    let all : List Pad = filter_map (flashed_at is.0 s is.2) (copies_in is.0 is.1 s x y) in
    let row : ℕ → List GridPoint = λ u. map (copy_in is.0 is.1 s x y u) (numbers_below s.block.rows) in
    let column : Contains (numbers_below s.block.columns) is.4 = below_contained s.block.columns is.4 is.6 in
    let place : Contains (row is.4) (copy_in is.0 is.1 s x y is.4 is.5) = map_contains (copy_in is.0 is.1 s x y is.4) (numbers_below s.block.rows) is.5 (below_contained s.block.rows is.5 is.7) in
    subst (λ (l : List Pad). Contains l pad) (flash_once s x y all made (is.0, is.1, is.2, is.3, refl) left)
    (filter_map_contains (flashed_at is.0 s is.2) (copies_in is.0 is.1 s x y) (copy_in is.0 is.1 s x y is.4 is.5) pad
    (flat_map_at row (numbers_below s.block.columns) is.4 (copy_in is.0 is.1 s x y is.4 is.5) column.0 column.1 column.2 place) is.8)

made_in : (before : List Command) (c : Command) (made : List Pad) (pad : Pad) → ArePadsOf before c made → Contains made pad → IsPadOf before c pad
made_in before (command.Operate action.Flash x y i j) made pad are h = flash_in (state_after before) x y made pad are h
made_in before c made pad are h = none_contained pad (subst (λ (l : List Pad). Contains l pad) are h)

in_made : (before : List Command) (c : Command) (made : List Pad) (pad : Pad) → ArePadsOf before c made → IsPadOf before c pad → Contains made pad
in_made before (command.Operate action.Flash x y i j) made pad are is = in_flash (state_after before) x y made pad are is
in_made before c made pad are is = absurd is

-- ---- a whole list

some_command : (before cs : List Command) (made : List Pad) (pad : Pad) → ArePadsFrom before cs made → Contains made pad
    → (mid after : List Command) × (c : Command) × (cs ≡ mid ++ c ∷ after) × IsPadOf (before ++ mid) c pad
some_command before [] made pad are h = absurd (none_contained pad (subst (λ (l : List Pad). Contains l pad) are h))
some_command before (c ∷ cs) made pad are h =
    by (some_command (before ++ c ∷ []) cs are.1 pad are.4) (Contains-append_cases are.0 are.1 pad (subst (λ (l : List Pad). Contains l pad) are.2 h))
  where
    by : (Contains are.1 pad → (mid after : List Command) × (d : Command) × (cs ≡ mid ++ d ∷ after) × IsPadOf ((before ++ c ∷ []) ++ mid) d pad)
        → Contains are.0 pad ⊎ Contains are.1 pad → (mid after : List Command) × (d : Command) × (c ∷ cs ≡ mid ++ d ∷ after) × IsPadOf (before ++ mid) d pad
    by rest (inl k) = ([], cs, c, refl, subst (λ (l : List Command). IsPadOf l c pad) (sym (append-nil before)) (made_in before c are.0 pad are.3 k))
    by rest (inr k) =
        let found = rest k in
        (c ∷ found.0, found.1, found.2, ap (λ (l : List Command). c ∷ l) found.3, subst (λ (l : List Command). IsPadOf l found.2 pad) (append_assoc before (c ∷ []) found.0) found.4)

in_list : (before mid after : List Command) (c : Command) (made : List Pad) (pad : Pad) → ArePadsFrom before (mid ++ c ∷ after) made → IsPadOf (before ++ mid) c pad → Contains made pad
in_list before [] after c made pad are is =
    subst (λ (l : List Pad). Contains l pad) (sym are.2)
    (Contains-append_left are.0 are.1 pad (in_made before c are.0 pad are.3 (subst (λ (l : List Command). IsPadOf l c pad) (append-nil before) is)))
in_list before (d ∷ mid) after c made pad are is =
    subst (λ (l : List Pad). Contains l pad) (sym are.2)
    (Contains-append_right are.0 are.1 pad (in_list (before ++ d ∷ []) mid after c are.1 pad are.4 (subst (λ (l : List Command). IsPadOf l c pad) (sym (append_assoc before (d ∷ []) mid)) is)))

pub flashed_pads : PadsAreFlashed
flashed_pads commands made are pad = (
  λ h. some_command [] commands made pad are h,
  λ f. in_list [] f.0 f.1 f.2 made pad (subst (λ (l : List Command). ArePadsFrom [] l made) f.3 are) f.4,
)
