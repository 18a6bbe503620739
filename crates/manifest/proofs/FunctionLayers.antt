-- What is proposed names layers by nine digits at most, those of its file function.
use Rattle.manifest.proofs.Common.{◌≡◌, ◌∙◌, ◌&&◌, ℕ, Bool, true, false, List, [], ◌∷◌, map, cond, Option, Some, None, arith, refl, ap, nat_le, nat_lt, if◌then◌else◌, list_all, filter, count_by, IsPermutation, function_of, kind_of, number_within, and_true, both_true, LayerRange, InputFile, Proposal, ProposedRole, Copper, Plated, Unplated, Mixed, Undecided, LeftOut, Profile, decision_in, hole_kind, layers_of_fields, by_file_function, layers_of_function, is_copper, is_listed, layers_of_role, rank, count_ranked, has_known_place, place_checked, placed_proposals, separate_proposals, decision_for, name_of, distinct, proposal, proposals, are_clear, is_stack, layers_checked, layers_checked_in}
use Rattle.manifest.specs.Contents.{field}
use Rattle.manifest.specs.declared.model.HoleKind.{HoleKind}
use Rattle.manifest.specs.declared.model.FileContent.{FileContent}
use Rattle.manifest.specs.declared.model.FileContent.TheVariants as content
use Rattle.manifest.specs.declared.model.ProposalReason.TheVariants as because
use Rattle.manifest.proofs.DecisionCases.{is_low_if, is_low_place, number_low, of_kind}
use Rattle.manifest.proofs.MixedFileLemmas.{in_profile}
use Rattle.manifest.proofs.OneToN.{all_moves}

-- the last layer has nine digits at most
abbrev pub is_short : Option LayerRange → Bool
is_short None = true
is_short (Some layers) = nat_le layers.last 999999999

-- a role with numbers of nine digits at most
abbrev pub is_small : ProposedRole → Bool
is_small (Copper place) = is_low_place place
is_small (Plated span) = is_short span
is_small (Unplated span) = is_short span
is_small (Mixed span) = is_short span
is_small Undecided = true
is_small LeftOut = true

abbrev pub names_short : Proposal → Bool
names_short p = is_small p.role

pub span_short : (role : ProposedRole) → is_small role ≡ true → is_short (layers_of_role role) ≡ true
span_short (Copper place) h = refl
span_short (Plated span) h = h
span_short (Unplated span) h = h
span_short (Mixed span) h = h
span_short Undecided h = refl
span_short LeftOut h = refl

-- ---- one file

layers_short : (kind : HoleKind) (o p : Option ℕ) → is_low_if p ≡ true → is_short (layers_of_fields kind o p) ≡ true
layers_short kind None p h = refl
layers_short kind (Some n) None h = refl
layers_short kind (Some n) (Some m) h = h

short_of : (f : List ℕ) → is_short (layers_of_function f) ≡ true
short_of f = layers_short (hole_kind (field 3 f)) (number_within 9 (field 1 f)) (number_within 9 (field 2 f)) (number_low 9 (field 2 f) (omega arith))

of_decision : (profile : Profile) (name text : List ℕ) → is_small (decision_in profile name text).0 ≡ true
of_decision profile name text =
    in_profile (λ r. is_small r ≡ true) profile name text (of_kind (λ r. is_small r ≡ true) refl refl (λ place h. h) refl refl (kind_of text) name text (λ f e. (short_of f, short_of f))) refl refl (λ f e. short_of f)

of_content : (profile : Profile) (name : List ℕ) (c : FileContent) → is_small (decision_for profile name c).0 ≡ true
of_content profile name (content.Bytes bytes) = of_decision profile name bytes.now
of_content profile name content.NotRead = refl
of_content profile name content.Folder = refl
of_content profile name content.TooLong = refl

-- the layers are those of the function, if there is one
abbrev IsOwn : Option (List ℕ) → Option LayerRange → Type 0
IsOwn function None = Unit {0}
IsOwn function (Some span) = by_file_function layers_of_function function ≡ Some span

own_of : (o : Option (List ℕ)) (f : List ℕ) → o ≡ Some f → (s : Option LayerRange) → layers_of_function f ≡ s → IsOwn o s
own_of o f e None k = tt
own_of o f e (Some span) k = ap (by_file_function layers_of_function) e ∙ k

by_own : (o : Option (List ℕ)) (s : Option LayerRange) (span : LayerRange) → IsOwn o s → s ≡ Some span → by_file_function layers_of_function o ≡ Some span
by_own o None span h e = absurd cc
by_own o (Some layers) span h e = h ∙ e

-- what is proposed of a file by itself names the layers of its function
pub names_its_own : (profile : Profile) (name text : List ℕ) (span : LayerRange) → layers_of_role (decision_in profile name text).0 ≡ Some span → by_file_function layers_of_function (function_of text) ≡ Some span
names_its_own profile name text span e =
    by_own (function_of text) (layers_of_role (decision_in profile name text).0) span
    (in_profile (λ r. IsOwn (function_of text) (layers_of_role r)) profile name text
    (of_kind (λ r. IsOwn (function_of text) (layers_of_role r)) tt tt (λ place h. tt) tt tt (kind_of text) name text
    (λ f e. (own_of (function_of text) f e (layers_of_function f) refl, own_of (function_of text) f e (layers_of_function f) refl)))
    tt tt (λ f e. own_of (function_of text) f e (layers_of_function f) refl))
    e

-- ---- all files

each : (profile : Profile) (files : List InputFile) → list_all names_short (map (proposal profile) files) ≡ true
each profile [] = refl
each profile (file ∷ files) = and_true (names_short (proposal profile file)) (list_all names_short (map (proposal profile) files)) (of_content profile (name_of file) file.content) (each profile files)

still_short : (stack : Bool) (count : ℕ) (p : Proposal) → names_short p ≡ true → names_short (layers_checked_in stack count p) ≡ true
still_short stack count p h = by (are_clear stack count (layers_of_role p.role))
  where
    by : (b : Bool) → names_short (if b then p else record { file = p.file; role = Undecided; because = because.UnclearLayers }) ≡ true
    by true = h
    by false = refl

place_short : (ps : List Proposal) (p : Proposal) → names_short p ≡ true → names_short (place_checked ps p) ≡ true
place_short ps p h = by (has_known_place p.role && nat_lt 1 (count_ranked ps (rank p.role)))
  where
    by : (b : Bool) → names_short (if b then record { file = p.file; role = Undecided; because = because.RepeatedLayer } else p) ≡ true
    by true = refl
    by false = h

module _ {A : Type 0} (p : A → Bool) where
  pub all_kept : (q : A → Bool) (xs : List A) → list_all p xs ≡ true → list_all p (filter q xs) ≡ true
  all_kept q [] h = refl
  all_kept q (x ∷ xs) h = let k = both_true (p x) (list_all p xs) h in by (q x) k.0 (all_kept q xs k.1)
    where
      by : (b : Bool) → p x ≡ true → list_all p (filter q xs) ≡ true → list_all p (cond b (x ∷ filter q xs) (filter q xs)) ≡ true
      by true e more = and_true (p x) (list_all p (filter q xs)) e more
      by false e more = more

module _ {A : Type 0} (p : A → Bool) (f : A → A) (stays : (x : A) → p x ≡ true → p (f x) ≡ true) where
  pub all_stay : (xs : List A) → list_all p xs ≡ true → list_all p (map f xs) ≡ true
  all_stay [] h = refl
  all_stay (x ∷ xs) h = let k = both_true (p x) (list_all p xs) h in and_true (p (f x)) (list_all p (map f xs)) (stays x k.0) (all_stay xs k.1)

-- the files of a manifest in its order
pub shorts : (profile : Profile) (files : List InputFile) (entries : List Proposal) → IsPermutation (filter is_listed (proposals profile files)) entries → list_all names_short entries ≡ true
shorts profile files entries same =
    let alone = placed_proposals profile files in
    let check_layers = layers_checked alone in
    let check_places = place_checked (separate_proposals profile files) in
    let each_alone = all_stay names_short check_places (place_short (separate_proposals profile files)) (separate_proposals profile files) (each profile (distinct files)) in
    all_moves names_short (filter is_listed (proposals profile files)) entries same
    ∙ all_kept names_short is_listed (proposals profile files) (all_stay names_short check_layers (λ p. still_short (is_stack alone) (count_by is_copper alone) p) alone each_alone)
