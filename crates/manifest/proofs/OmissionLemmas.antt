-- What is not left out.
use Rattle.manifest.proofs.Common.{◌≡◌, ◌∙◌, ◌||◌, ◌&&◌, ℕ, Bool, true, false, not, List, Option, Some, None, unwrap_or, refl, ap, nat_lt, if◌then◌else◌, count_by, list_any, option_or, option_map, StackPosition, Top, Unknown, Bottom, LayerRange, Copper, Plated, Unplated, Undecided, LeftOut, function_of, kind_of, says_plated_holes, says_unplated_holes, extension_of, has_dot, has_end, stem_of, words_of, number_suffix, inner_extensions, inner_words, last_other_word, ends_in_copper, names_copper, says_plated, says_unplated, Decision, by_kind, copper_by_name, decision, drill_by_function, drill_by_name, drill_by_text, drill_by_words, gerber_by_function, gerber_by_words, inner_copper_by_name, lacks_layers, left_out_by_name, other_by_name, by_file_function, layers_of_function, stack_position, Profile, decision_in, is_copper, layers_of_role, is_listed_role, rank, count_ranked, has_known_place, place_checked, are_clear, is_stack, layers_checked, Proposal}
use Rattle.manifest.specs.declared.contents.FileKind.{FileKind}
use Rattle.manifest.specs.declared.contents.FileKind.TheVariants.{Gerber, Drill}
use Rattle.manifest.specs.declared.model.ProposalReason.TheVariants as because
use Rattle.manifest.specs.Contents.{field}
use Rattle.manifest.specs.Omission.{are_other_words, is_other_function, names_no_copper}
use Rattle.manifest.proofs.DecisionCases.{unless_lacking}
use Rattle.manifest.proofs.MixedFileLemmas.{in_profile}

-- ---- drill files

-- a decision that stands, if there is one
abbrev Stands : Option Decision → Type 0
Stands o = (d : Decision) → o ≡ Some d → is_listed_role d.0 ≡ true

by_name : (a b : Bool) → is_listed_role (drill_by_words a b).0 ≡ true
by_name true true = refl
by_name true false = refl
by_name false true = refl
by_name false false = refl

-- the first of two that stands, or a third
or_some : (o : Option Decision) (x d : Decision) → is_listed_role (unwrap_or o d).0 ≡ true → is_listed_role x.0 ≡ true → is_listed_role (unwrap_or (option_or o (Some x)) d).0 ≡ true
or_some None x d h k = k
or_some (Some y) x d h k = h

by_text : (a b : Bool) (o : Option Decision) (d : Decision) → is_listed_role (unwrap_or o d).0 ≡ true → is_listed_role (unwrap_or (drill_by_text a b o) d).0 ≡ true
by_text true true o d h = refl
by_text true false o d h = or_some o (Plated None, because.PlatedType) d h refl
by_text false true o d h = or_some o (Unplated None, because.UnplatedType) d h refl
by_text false false o d h = h

three : (a b c l : Bool) (s : Option LayerRange) (f : List ℕ) (d : Decision) → is_listed_role d.0 ≡ true
    → is_listed_role (unwrap_or (if a then unless_lacking l (Plated s) f else (if b then unless_lacking l (Unplated s) f else (if c then Some (Undecided, because.MixedHoles) else None))) d).0 ≡ true
three true b c true s f d h = refl
three true b c false s f d h = refl
three false true c true s f d h = refl
three false true c false s f d h = refl
three false false true l s f d h = refl
three false false false l s f d h = h

by_function : (o : Option (List ℕ)) (d : Decision) → is_listed_role d.0 ≡ true → is_listed_role (unwrap_or (by_file_function drill_by_function o) d).0 ≡ true
by_function None d h = h
by_function (Some f) d h = three _ _ _ (lacks_layers f) (layers_of_function f) (field 0 f) d h

alone_kept : (name text : List ℕ) → kind_of text ≡ Drill → is_listed_role (decision name text).0 ≡ true
alone_kept name text e =
    let last = by_name (says_plated (words_of name)) (says_unplated (words_of name)) in
    ap (λ (k : FileKind). is_listed_role (by_kind k name text).0) e
    ∙ by_text (says_plated_holes text) (says_unplated_holes text) (by_file_function drill_by_function (function_of text)) (drill_by_name name) (by_function (function_of text) (drill_by_name name) last)

pub drill_kept : (profile : Profile) (name text : List ℕ) → kind_of text ≡ Drill → is_listed_role (decision_in profile name text).0 ≡ true
drill_kept profile name text e = in_profile (λ r. is_listed_role r ≡ true) profile name text (alone_kept name text e) refl refl (λ f e. refl)

-- ---- Gerber files

function_kept : (a b : Bool) (p : StackPosition) (f : List ℕ)
    → (is_listed_role (if a then (let x : Decision = (Copper p, because.FileFunction f) in x) else (if b then (Undecided, because.DrillInGerber) else (LeftOut, because.FileFunction f))).0 || (not a && not b)) ≡ true
function_kept true b p f = refl
function_kept false true p f = refl
function_kept false false p f = refl

words_kept : (p o t b : Bool) (n : Option ℕ) (x c w u v : Bool) (m : Option ℕ) (d : Bool)
    → (is_listed_role (unwrap_or (option_or (if p then Some (let y : Decision = (Undecided, because.Plane) in y) else (if o then left_out_by_name else (if t then copper_by_name Top else (if b then copper_by_name Bottom else inner_copper_by_name n))))
    (if x then Some (other_by_name c) else (if w then None else (if u then copper_by_name Top else (if v then copper_by_name Bottom else option_or (inner_copper_by_name m) (if d then copper_by_name Unknown else None)))))) (Undecided, because.NothingSays)).0 || (o || (x && not c))) ≡ true
words_kept true o t b n x c w u v m d = refl
words_kept false true t b n x c w u v m d = refl
words_kept false false true b n x c w u v m d = refl
words_kept false false false true n x c w u v m d = refl
words_kept false false false false (Some k) x c w u v m d = refl
words_kept false false false false None true true w u v m d = refl
words_kept false false false false None true false w u v m d = refl
words_kept false false false false None false c true u v m d = refl
words_kept false false false false None false c false true v m d = refl
words_kept false false false false None false c false false true m d = refl
words_kept false false false false None false c false false false (Some k) d = refl
words_kept false false false false None false c false false false None true = refl
words_kept false false false false None false c false false false None false = refl

gerber_alone : (name text : List ℕ) → kind_of text ≡ Gerber → (is_listed_role (decision name text).0 || names_no_copper name text) ≡ true
gerber_alone name text e = ap (λ (k : FileKind). is_listed_role (by_kind k name text).0 || names_no_copper name text) e ∙ by (function_of text) (has_end (has_dot name) (words_of name)) (words_of name)
  where
    by : (o : Option (List ℕ)) (point : Bool) (words : List (List ℕ))
        → (is_listed_role (unwrap_or (option_map gerber_by_function o) (gerber_by_words point words)).0 || unwrap_or (option_map is_other_function o) (are_other_words point words)) ≡ true
    by None point words = words_kept _ _ _ _ (number_suffix inner_extensions (extension_of point words)) _ (list_any names_copper (stem_of point words)) _ _ _ (number_suffix inner_words (last_other_word (stem_of point words))) (ends_in_copper (stem_of point words))
    by (Some f) point words = function_kept _ _ (stack_position (field 1 f)) (field 0 f)

pub gerber_kept : (profile : Profile) (name text : List ℕ) → kind_of text ≡ Gerber → (is_listed_role (decision_in profile name text).0 || names_no_copper name text) ≡ true
gerber_kept profile name text e = in_profile (λ r. (is_listed_role r || names_no_copper name text) ≡ true) profile name text (gerber_alone name text e) refl refl (λ f e. refl)

-- ---- among others

pub others_kept : (ps : List Proposal) (p : Proposal) → is_listed_role p.role ≡ true → is_listed_role (layers_checked ps p).role ≡ true
others_kept ps p h = by (are_clear (is_stack ps) (count_by is_copper ps) (layers_of_role p.role))
  where
    by : (b : Bool) → is_listed_role (if b then p else record { file = p.file; role = Undecided; because = because.UnclearLayers }).role ≡ true
    by true = h
    by false = refl

pub places_kept : (ps : List Proposal) (p : Proposal) → is_listed_role p.role ≡ true → is_listed_role (place_checked ps p).role ≡ true
places_kept ps p h = by (has_known_place p.role && nat_lt 1 (count_ranked ps (rank p.role)))
  where
    by : (b : Bool) → is_listed_role (if b then record { file = p.file; role = Undecided; because = because.RepeatedLayer } else p).role ≡ true
    by true = refl
    by false = h
