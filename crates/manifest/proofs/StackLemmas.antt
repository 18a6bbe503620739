-- Where a manifest names layers, its copper files are the layers 1, 2 and so on, in order.
use Rattle.manifest.proofs.Common.{◌≡◌, ◌∙◌, ◌≤◌, ◌+◌, ◌&&◌, ◌||◌, ℕ, Bool, true, false, not, List, [], ◌∷◌, length, map, cond, Option, Some, None, arith, refl, sym, ap, nat_le, if◌then◌else◌, list_all, list_any, filter, count_by, IsPermutation, IsNonDecreasingBy, false≢true, leb-true, le-leb, length-map, list_all-map, list_any-IsPermutation, sum_by-IsPermutation, length-filter, and_true, both_true, Profile, StackPosition, Numbered, Top, Inner, Unknown, Bottom, LayerRange, InputFile, Proposal, ProposedRole, Copper, Plated, Unplated, Mixed, Undecided, LeftOut, IsManifestOrder, is_copper, is_listed, is_copper_role, place_rank, rank, layers_of_role, is_listed_role, placed_proposals, proposals, AreLayersInOrder, is_copper_complete, are_within_count, are_clear, copper_layers, fit_kind, is_stack, layer_at_position, layer_of_role, names_layers, numbers_from, layers_checked_in}
use Rattle.std.proofs.Common.{is_some}
use Rattle.manifest.specs.declared.model.ProposalReason.TheVariants as because
use Rattle.manifest.proofs.DecisionCases.{is_low_place}
use Rattle.manifest.proofs.OneToN.{AreOnce, Ascends, all_follow, all_moves, ascends, both_follow, counts_up, each_once, in_range, is_number, is_within}
use Rattle.manifest.proofs.CountLemmas.{any_of_map, count_cons, count_hit, count_miss, count_of_map, one}
use Rattle.manifest.proofs.FunctionLayers.{all_kept, all_stay, is_small, names_short, shorts}

-- ---- lists

-- the values of the elements that pass a test
abbrev values_of : {A : Type 0} → (A → Bool) → (A → ℕ) → List A → List ℕ
values_of c f xs = map f (filter c xs)

module _ {A : Type 0} (c : A → Bool) (f : A → ℕ) where
  all_values : (p : ℕ → Bool) (xs : List A) → list_all p (values_of c f xs) ≡ list_all (λ x. not (c x) || p (f x)) xs
  all_values p [] = refl
  all_values p (x ∷ xs) = by (c x) (all_values p xs)
    where
      by : (b : Bool) → list_all p (values_of c f xs) ≡ list_all (λ y. not (c y) || p (f y)) xs
          → list_all p (map f (cond b (x ∷ filter c xs) (filter c xs))) ≡ ((not b || p (f x)) && list_all (λ y. not (c y) || p (f y)) xs)
      by true e = ap (λ t. p (f x) && t) e
      by false e = e

  count_values : (p : ℕ → Bool) (xs : List A) → count_by p (values_of c f xs) ≡ count_by (λ x. c x && p (f x)) xs
  count_values p [] = refl
  count_values p (x ∷ xs) = by (c x) (count_values p xs) ∙ sym (count_cons (λ y. c y && p (f y)) x xs)
    where
      by : (b : Bool) → count_by p (values_of c f xs) ≡ count_by (λ y. c y && p (f y)) xs
          → count_by p (map f (cond b (x ∷ filter c xs) (filter c xs))) ≡ one (b && p (f x)) + count_by (λ y. c y && p (f y)) xs
      by true e = count_cons p (f x) (values_of c f xs) ∙ ap (λ (n : ℕ). one (p (f x)) + n) e
      by false e = omega (arith, e)

  many_values : (xs : List A) → length (values_of c f xs) ≡ count_by c xs
  many_values xs = length-map (filter c xs) f ∙ length-filter c xs

module _ {A : Type 0} (good u v : A → Bool) (gives : (x : A) → good x ≡ true → u x ≡ true → v x ≡ true) where
  -- a test that implies another one passes no more often
  no_more : (xs : List A) → list_all good xs ≡ true → count_by u xs ≤ count_by v xs
  no_more [] h = omega arith
  no_more (x ∷ xs) h = let k = both_true (good x) (list_all good xs) h in by (u x) refl k.0 (no_more xs k.1)
    where
      by : (b : Bool) → u x ≡ b → good x ≡ true → count_by u xs ≤ count_by v xs → count_by u (x ∷ xs) ≤ count_by v (x ∷ xs)
      by true e g more = omega (arith, count_hit u x xs e, count_hit v x xs (gives x g e), more)
      by false e g more = omega (arith, count_miss u x xs e, count_cons v x xs, more)

module _ {A : Type 0} (p q : A → Bool) (gives : (x : A) → p x ≡ true → q x ≡ true) where
  -- a test that gives that by which elements are kept
  count_kept : (xs : List A) → count_by p (filter q xs) ≡ count_by p xs
  count_kept [] = refl
  count_kept (x ∷ xs) = by (q x) (p x) refl refl (count_kept xs)
    where
      by : (c b : Bool) → q x ≡ c → p x ≡ b → count_by p (filter q xs) ≡ count_by p xs → count_by p (cond c (x ∷ filter q xs) (filter q xs)) ≡ count_by p (x ∷ xs)
      by true b k e more = count_cons p x (filter q xs) ∙ ap (λ (n : ℕ). one (p x) + n) more ∙ sym (count_cons p x xs)
      by false true k e more = absurd (false≢true (sym k ∙ gives x e))
      by false false k e more = more ∙ sym (count_miss p x xs e)

module _ {A : Type 0} (p q : A → Bool) where
  any_kept : (xs : List A) → list_any p (filter q xs) ≡ true → list_any p xs ≡ true
  any_kept [] h = h
  any_kept (x ∷ xs) h = by (q x) (p x) refl h (any_kept xs)
    where
      by : (c b : Bool) → p x ≡ b → list_any p (cond c (x ∷ filter q xs) (filter q xs)) ≡ true → (list_any p (filter q xs) ≡ true → list_any p xs ≡ true) → (b || list_any p xs) ≡ true
      by c true e t more = refl
      by true false e t more = more (sym (ap (λ k. k || list_any p (filter q xs)) e) ∙ t)
      by false false e t more = more t

-- a fact that each element that passes gives
any_gives : {A : Type 0} (p : A → Bool) {b : Bool} → ((x : A) → p x ≡ true → b ≡ true) → (xs : List A) → list_any p xs ≡ true → b ≡ true
any_gives p gives [] h = absurd (false≢true h)
any_gives p {b} gives (x ∷ xs) h = by (p x) refl h (any_gives p gives xs)
  where
    by : (c : Bool) → p x ≡ c → (c || list_any p xs) ≡ true → (list_any p xs ≡ true → b ≡ true) → b ≡ true
    by true e t more = gives x e
    by false e t more = more t

-- ---- roles

-- the role of a proposal that is settled
abbrev settled_role : Bool → ℕ → ProposedRole → ProposedRole
settled_role stack count role = if are_clear stack count (layers_of_role role) then role else Undecided

role_is : (stack : Bool) (count : ℕ) (p : Proposal) → (layers_checked_in stack count p).role ≡ settled_role stack count p.role
role_is stack count p = by (are_clear stack count (layers_of_role p.role))
  where
    by : (b : Bool) → (if b then p else record { file = p.file; role = Undecided; because = because.UnclearLayers }).role ≡ (if b then p.role else Undecided)
    by true = refl
    by false = refl

same_kind : (stack : Bool) (count : ℕ) (role : ProposedRole) → is_copper_role (settled_role stack count role) ≡ is_copper_role role
same_kind stack count (Copper place) = refl
same_kind stack count (Plated span) = by (are_clear stack count span)
  where
    by : (b : Bool) → is_copper_role (if b then Plated span else Undecided) ≡ false
    by true = refl
    by false = refl
same_kind stack count (Unplated span) = by (are_clear stack count span)
  where
    by : (b : Bool) → is_copper_role (if b then Unplated span else Undecided) ≡ false
    by true = refl
    by false = refl
same_kind stack count (Mixed span) = by (are_clear stack count span)
  where
    by : (b : Bool) → is_copper_role (if b then Mixed span else Undecided) ≡ false
    by true = refl
    by false = refl
same_kind stack count Undecided = refl
same_kind stack count LeftOut = refl

-- a copper file is settled as it is
same_layer : (stack : Bool) (count : ℕ) (role : ProposedRole) → is_copper_role (settled_role stack count role) ≡ true → settled_role stack count role ≡ role
same_layer stack count role h = by (are_clear stack count (layers_of_role role)) h
  where
    by : (b : Bool) → is_copper_role (if b then role else Undecided) ≡ true → (if b then role else Undecided) ≡ role
    by true k = refl
    by false k = absurd (false≢true k)

layer_stands : (role : ProposedRole) → is_copper_role role ≡ true → is_listed_role role ≡ true
layer_stands (Copper place) h = refl
layer_stands (Plated span) h = absurd (false≢true h)
layer_stands (Unplated span) h = absurd (false≢true h)
layer_stands (Mixed span) h = absurd (false≢true h)
layer_stands Undecided h = absurd (false≢true h)
layer_stands LeftOut h = absurd (false≢true h)

-- the layers that a settled role names are among those of the copper files
clear_among : (stack : Bool) (count : ℕ) (role : ProposedRole) → are_within_count count (layers_of_role (settled_role stack count role)) ≡ true
clear_among stack count role = by (are_clear stack count (layers_of_role role)) refl
  where
    among : (span : Option LayerRange) → are_clear stack count span ≡ true → are_within_count count span ≡ true
    among None e = refl
    among (Some layers) e = (both_true (are_within_count count (Some layers)) (fit_kind count layers) (both_true stack (are_within_count count (Some layers) && fit_kind count layers) e).1).0

    by : (b : Bool) → are_clear stack count (layers_of_role role) ≡ b → are_within_count count (layers_of_role (if b then role else Undecided)) ≡ true
    by true e = among (layers_of_role role) e
    by false e = refl

-- it names some only where these are a stack
clear_stack : (stack : Bool) (count : ℕ) (role : ProposedRole) → is_some (layers_of_role (settled_role stack count role)) ≡ true → stack ≡ true
clear_stack stack count role h = by (are_clear stack count (layers_of_role role)) refl h
  where
    named : (span : Option LayerRange) → is_some span ≡ true → are_clear stack count span ≡ true → stack ≡ true
    named None k e = absurd (false≢true k)
    named (Some layers) k e = (both_true stack (are_within_count count (Some layers) && fit_kind count layers) e).0

    by : (b : Bool) → are_clear stack count (layers_of_role role) ≡ b → is_some (layers_of_role (if b then role else Undecided)) ≡ true → stack ≡ true
    by true e k = named (layers_of_role role) k e
    by false e k = absurd (false≢true k)

-- ---- layers and ranks

-- a layer that is known where copper files may be lacking is the same where none is
known_at : (here : Bool) (count last : ℕ) (place : StackPosition) → is_within 1 last (layer_at_position here count place) ≡ true → layer_at_position true count place ≡ layer_at_position here count place
known_at here count last (Numbered n) h = refl
known_at here count last Top h = refl
known_at true count last (Inner n) h = refl
known_at false count last (Inner n) h = absurd (false≢true h)
known_at here count last Unknown h = refl
known_at true count last Bottom h = refl
known_at false count last Bottom h = absurd (false≢true h)

known : (here : Bool) (count last : ℕ) (role : ProposedRole) → is_within 1 last (layer_of_role here count role) ≡ true → layer_of_role true count role ≡ layer_of_role here count role
known here count last (Copper place) h = known_at here count last place h
known here count last (Plated span) h = refl
known here count last (Unplated span) h = refl
known here count last (Mixed span) h = refl
known here count last Undecided h = refl
known here count last LeftOut h = refl

low_rank : (rank layer : ℕ) → nat_le 4294967297 rank ≡ true → rank ≡ layer → nat_le layer 1000000000 ≡ true → ⊥
low_rank rank layer h e low =
    let a : 4294967297 ≤ rank = leb-true 4294967297 rank h in
    let b : layer ≤ 1000000000 = leb-true layer 1000000000 low in
    omega arith

next_low : (n : ℕ) → nat_le n 999999999 ≡ true → nat_le (n + 1) 1000000000 ≡ true
next_low n h = let a : n ≤ 999999999 = leb-true n 999999999 h in le-leb (n + 1) 1000000000 (omega arith)

this_low : (n : ℕ) → nat_le n 999999999 ≡ true → nat_le n 1000000000 ≡ true
this_low n h = let a : n ≤ 999999999 = leb-true n 999999999 h in le-leb n 1000000000 (omega arith)

-- of two places whose layers are known the one with the lower rank has the lower layer
lower_at : (count : ℕ) (a b : StackPosition) → is_within 1 count (layer_at_position true count a) ≡ true → is_within 1 count (layer_at_position true count b) ≡ true → is_low_place b ≡ true
    → nat_le (place_rank a) (place_rank b) ≡ true → nat_le (layer_at_position true count a) (layer_at_position true count b) ≡ true
lower_at count Unknown b h k low le = absurd (false≢true h)
lower_at count (Numbered n) Unknown h k low le = absurd (false≢true k)
lower_at count (Numbered n) (Numbered m) h k low le = le
lower_at count (Numbered n) Top h k low le = le
lower_at count (Numbered n) (Inner m) h k low le = le
lower_at count (Numbered n) Bottom h k low le = (both_true (nat_le 1 n) (nat_le n count) h).1
lower_at count Top Unknown h k low le = absurd (false≢true k)
lower_at count Top (Numbered m) h k low le = le
lower_at count Top Top h k low le = le
lower_at count Top (Inner m) h k low le = le
lower_at count Top Bottom h k low le = (both_true (nat_le 1 1) (nat_le 1 count) h).1
lower_at count (Inner n) Unknown h k low le = absurd (false≢true k)
lower_at count (Inner n) (Numbered m) h k low le = le
lower_at count (Inner n) Top h k low le = le
lower_at count (Inner n) (Inner m) h k low le = le
lower_at count (Inner n) Bottom h k low le = (both_true (nat_le 1 (n + 1)) (nat_le (n + 1) count) h).1
lower_at count Bottom Unknown h k low le = absurd (false≢true k)
lower_at count Bottom (Numbered m) h k low le = absurd (low_rank m m le refl (this_low m low))
lower_at count Bottom Top h k low le = absurd (low_rank 1 1 le refl refl)
lower_at count Bottom (Inner m) h k low le = absurd (low_rank (m + 1) (m + 1) le refl (next_low m low))
lower_at count Bottom Bottom h k low le = le-leb count count (omega arith)

-- a copper file with a layer from 1 to the last, whose number is low
abbrev is_good : ℕ → ProposedRole → Bool
is_good count role = (not (is_copper_role role) || is_within 1 count (layer_of_role true count role)) && is_small role

lower : (count : ℕ) (r s : ProposedRole) → is_copper_role r ≡ true → is_good count r ≡ true → is_good count s ≡ true → nat_le (rank r) (rank s) ≡ true
    → (not (is_copper_role s) || nat_le (layer_of_role true count r) (layer_of_role true count s)) ≡ true
lower count (Copper a) (Copper b) l h k le =
    let g = both_true (is_within 1 count (layer_at_position true count a)) (is_low_place a) h in
    let i = both_true (is_within 1 count (layer_at_position true count b)) (is_low_place b) k in
    lower_at count a b g.0 i.0 i.1 le
lower count (Copper a) (Plated span) l h k le = refl
lower count (Copper a) (Unplated span) l h k le = refl
lower count (Copper a) (Mixed span) l h k le = refl
lower count (Copper a) Undecided l h k le = refl
lower count (Copper a) LeftOut l h k le = refl
lower count (Plated span) s l h k le = absurd (false≢true l)
lower count (Unplated span) s l h k le = absurd (false≢true l)
lower count (Mixed span) s l h k le = absurd (false≢true l)
lower count Undecided s l h k le = absurd (false≢true l)
lower count LeftOut s l h k le = absurd (false≢true l)

-- the layers of copper files that stand by rank are in order
layers_ascend : (count : ℕ) (ps : List Proposal) → Ascends (λ (p : Proposal). rank p.role) ps → list_all (λ (p : Proposal). is_good count p.role) ps ≡ true
    → Ascends (λ n. n) (values_of is_copper (λ p. layer_of_role true count p.role) ps)
layers_ascend count [] up good = tt
layers_ascend count (p ∷ ps) up good =
    let k = both_true (is_good count p.role) (list_all (λ (q : Proposal). is_good count q.role) ps) good in
    by (is_copper p) refl k.0 k.1 (layers_ascend count ps up.1 k.1)
  where
    layer : Proposal → ℕ
    layer q = layer_of_role true count q.role

    by : (b : Bool) → is_copper p ≡ b → is_good count p.role ≡ true → list_all (λ (q : Proposal). is_good count q.role) ps ≡ true → Ascends (λ n. n) (values_of is_copper layer ps)
        → Ascends (λ n. n) (map layer (cond b (p ∷ filter is_copper ps) (filter is_copper ps)))
    by true e g all more = (
      all_values is_copper layer (nat_le (layer p)) ps
          ∙ both_follow (λ (q : Proposal). nat_le (rank p.role) (rank q.role)) (λ (q : Proposal). is_good count q.role) (λ (q : Proposal). not (is_copper q) || nat_le (layer p) (layer q))
          (λ q le h. lower count p.role q.role e g h le) ps up.0 all,
      more,
    )
    by false e g all more = more

-- ---- all files

module _ (profile : Profile) (files : List InputFile) (entries : List Proposal) (same : IsPermutation (filter is_listed (proposals profile files)) entries) where
  abbrev alone : List Proposal
  alone = placed_proposals profile files

  abbrev count : ℕ
  count = count_by is_copper alone

  abbrev stack : Bool
  stack = is_stack alone

  abbrev check_layers : Proposal → Proposal
  check_layers p = layers_checked_in stack count p

  -- a test that each settled proposal passes
  to_entries : (p : Proposal → Bool) → list_all p (map check_layers alone) ≡ true → list_all p entries ≡ true
  to_entries p h = all_moves p (filter is_listed (proposals profile files)) entries same ∙ all_kept p is_listed (proposals profile files) h

  -- how often a test of copper files passes
  count_copper : (p : Proposal → Bool) → ((q : Proposal) → p q ≡ true → is_copper q ≡ true) → count_by p entries ≡ count_by (λ q. p (check_layers q)) alone
  count_copper p gives =
      sum_by-IsPermutation (λ (q : Proposal). one (p q)) (filter is_listed (proposals profile files)) entries same
      ∙ count_kept p is_listed (λ q h. layer_stands q.role (gives q h)) (proposals profile files) ∙ count_of_map check_layers p alone

  kind_stays : (q : Proposal) → is_copper (check_layers q) ≡ is_copper q
  kind_stays q = ap is_copper_role (role_is stack count q) ∙ same_kind stack count q.role

  as_many : count_by is_copper entries ≡ count
  as_many = count_copper is_copper (λ q h. h) ∙ ap (λ (t : Proposal → Bool). count_by t alone) (λ i q. kind_stays q i)

  -- the layers that drill files name are among those of the copper files
  pub all_among : list_all (λ p. are_within_count (count_by is_copper entries) (layers_of_role p.role)) entries ≡ true
  all_among =
      ap (λ (n : ℕ). list_all (λ (p : Proposal). are_within_count n (layers_of_role p.role)) entries) as_many
      ∙ to_entries (λ p. are_within_count count (layers_of_role p.role))
      (list_all-map (λ (p : Proposal). are_within_count count (layers_of_role p.role)) check_layers alone ∙ each_among alone)
    where
      each_among : (ps : List Proposal) → list_all (λ (p : Proposal). are_within_count count (layers_of_role (check_layers p).role)) ps ≡ true
      each_among [] = refl
      each_among (p ∷ ps) =
          and_true (are_within_count count (layers_of_role (check_layers p).role)) (list_all (λ (q : Proposal). are_within_count count (layers_of_role (check_layers q).role)) ps)
          (ap (λ (r : ProposedRole). are_within_count count (layers_of_role r)) (role_is stack count p) ∙ clear_among stack count p.role) (each_among ps)

  -- where one names layers the copper files are a stack
  are_stack : list_any names_layers entries ≡ true → stack ≡ true
  are_stack h =
      any_gives (λ (p : Proposal). names_layers (check_layers p))
      (λ p k. clear_stack stack count p.role (ap (λ (r : ProposedRole). is_some (layers_of_role r)) (sym (role_is stack count p)) ∙ k)) alone
      (sym (any_of_map check_layers names_layers alone) ∙ any_kept names_layers is_listed (proposals profile files) (list_any-IsPermutation names_layers (filter is_listed (proposals profile files)) entries same ∙ h))

  module _ (whole : stack ≡ true) (up : IsNonDecreasingBy (λ (p : Proposal). rank p.role) entries) where
    abbrev here : Bool
    here = is_copper_complete alone

    -- the layer of a file, as it is known by itself, and as it is where no copper file is lacking
    abbrev before : Proposal → ℕ
    before p = layer_of_role here count p.role

    abbrev layer : Proposal → ℕ
    layer p = layer_of_role true count p.role

    many : length (copper_layers alone) ≡ count
    many = many_values is_copper before alone

    -- each copper file has a layer
    abbrev has_layer : Proposal → Bool
    has_layer p = not (is_copper p) || is_within 1 count (before p)

    each_has : list_all has_layer alone ≡ true
    each_has =
        sym (all_values is_copper before (is_within 1 count) alone)
        ∙ ap (λ (n : ℕ). list_all (is_within 1 n) (copper_layers alone)) (sym many) ∙ in_range (copper_layers alone) whole

    still_has : (p : Proposal) → has_layer p ≡ true → has_layer (check_layers p) ≡ true
    still_has p h = by (is_copper_role (settled_role stack count p.role)) refl
      where
        as_role : (r : ProposedRole) → r ≡ p.role → (not (is_copper_role r) || is_within 1 count (layer_of_role here count r)) ≡ true
        as_role r e = ap (λ (s : ProposedRole). not (is_copper_role s) || is_within 1 count (layer_of_role here count s)) e ∙ h

        by : (b : Bool) → is_copper_role (settled_role stack count p.role) ≡ b → has_layer (check_layers p) ≡ true
        by true e =
            ap (λ (s : ProposedRole). not (is_copper_role s) || is_within 1 count (layer_of_role here count s)) (role_is stack count p) ∙ as_role (settled_role stack count p.role) (same_layer stack count p.role e)
        by false e = ap (λ (s : ProposedRole). not (is_copper_role s) || is_within 1 count (layer_of_role here count s)) (role_is stack count p) ∙ ap (λ b. not b || is_within 1 count (layer_of_role here count (settled_role stack count p.role))) e

    -- a copper file that has a layer by itself has one where no copper file is lacking
    known_too : (p : Proposal) → has_layer p ≡ true → (not (is_copper p) || is_within 1 count (layer p)) ≡ true
    known_too p h = by (is_copper p) h
      where
        by : (b : Bool) → (not b || is_within 1 count (before p)) ≡ true → (not b || is_within 1 count (layer p)) ≡ true
        by true k = ap (is_within 1 count) (known here count count p.role k) ∙ k
        by false k = refl

    entries_have : list_all has_layer entries ≡ true
    entries_have = to_entries has_layer (all_stay has_layer check_layers still_has alone each_has)

    entries_good : list_all (λ (p : Proposal). is_good count p.role) entries ≡ true
    entries_good =
        both_follow has_layer names_short (λ (p : Proposal). is_good count p.role) (λ p h k. and_true (not (is_copper p) || is_within 1 count (layer p)) (is_small p.role) (known_too p h) k)
        entries entries_have (shorts profile files entries same)

    within : list_all (is_within 1 count) (values_of is_copper layer entries) ≡ true
    within =
        all_values is_copper layer (is_within 1 count) entries
        ∙ all_follow has_layer (λ (p : Proposal). not (is_copper p) || is_within 1 count (layer p)) known_too entries entries_have

    distinct : AreOnce (values_of is_copper layer entries)
    distinct n =
        let test = λ (p : Proposal). is_copper p && is_number n (layer p) in
        let was = λ (p : Proposal). is_copper p && is_number n (before p) in
        let all : count_by (is_number n) (values_of is_copper layer entries) ≡ count_by (λ p. test (check_layers p)) alone =
        count_values is_copper layer (is_number n) entries ∙ count_copper test (λ q h. (both_true (is_copper q) (is_number n (layer q)) h).0) in
        let most : count_by (λ p. test (check_layers p)) alone ≤ count_by was alone = no_more has_layer (λ p. test (check_layers p)) was gives alone each_has in
        let length_bound : count_by was alone ≤ 1 = omega (arith, count_values is_copper before (is_number n) alone, each_once (copper_layers alone) whole n) in
        omega (arith, all, most, length_bound)
      where
        gives : (p : Proposal) → has_layer p ≡ true → (is_copper (check_layers p) && is_number n (layer (check_layers p))) ≡ true → (is_copper p && is_number n (before p)) ≡ true
        gives p h k =
            let l = both_true (is_copper (check_layers p)) (is_number n (layer (check_layers p))) k in
            let copper : is_copper p ≡ true = sym (kind_stays p) ∙ l.0 in
            let role : (check_layers p).role ≡ p.role = role_is stack count p ∙ same_layer stack count p.role (sym (ap is_copper_role (role_is stack count p)) ∙ l.0) in
            let inside : is_within 1 count (before p) ≡ true = sym (ap (λ b. not b || is_within 1 count (before p)) copper) ∙ h in
            let is : layer (check_layers p) ≡ before p = ap (layer_of_role true count) role ∙ known here count count p.role inside in
            and_true (is_copper p) (is_number n (before p)) copper (sym (ap (is_number n) is) ∙ l.1)

    abbrev in_entries : List ℕ
    in_entries = values_of is_copper layer entries

    length_is : length in_entries ≡ count
    length_is = many_values is_copper layer entries ∙ as_many

    pub in_manifest_order : in_entries ≡ numbers_from 1 count
    in_manifest_order =
        counts_up 1 count in_entries (layers_ascend count entries (ascends (λ (p : Proposal). rank p.role) entries up) entries_good) within distinct (omega (arith, length_is)) ∙ ap (numbers_from 1) length_is

-- the copper files of a manifest in which a drill file names layers
pub in_place : (profile : Profile) (files : List InputFile) (entries : List Proposal) → IsManifestOrder (filter is_listed (proposals profile files)) entries → list_any names_layers entries ≡ true → AreLayersInOrder entries
in_place profile files entries sorted h =
    let same = sorted.permutation in
    let many = as_many profile files entries same in
    ap (λ (n : ℕ). map (λ (p : Proposal). layer_of_role true n p.role) (filter is_copper entries)) many ∙ in_manifest_order profile files entries same (are_stack profile files entries same h) sorted.ranked ∙ ap (numbers_from 1) (sym many)
