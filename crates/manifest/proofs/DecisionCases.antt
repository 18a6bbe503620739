-- What is proposed of a file by itself, case by case.
use Rattle.manifest.proofs.Common.{◌≡◌, ◌≤◌, ℕ, Bool, true, false, List, length, take, drop, codes, Option, Some, None, unwrap_or, arith, refl, nat_le, if◌then◌else◌, list_any, option_or, option_map, bytes_eq, leb-true, le-leb, is_digits, value, both_true, nine_digits, function_of, says_plated_holes, says_unplated_holes, digits_of, extension_of, ends_in_copper, has_dot, has_end, inner_extensions, inner_words, is_one_of, is_number_within, last_other_word, letters_of, names_copper, says_plated, says_unplated, number_within, number_suffix, stem_of, words_of, StackPosition, Numbered, Top, Inner, Bottom, Unknown, LayerRange, ProposedRole, Copper, Plated, Unplated, Undecided, LeftOut, Decision, by_kind, copper_by_name, drill_by_function, drill_by_name, drill_by_text, drill_by_words, gerber_by_function, gerber_by_words, inner_copper_by_name, lacks_layers, left_out_by_name, other_by_name, by_file_function, layers_of_function, stack_position}
use Rattle.manifest.specs.Contents.{field}
use Rattle.manifest.specs.declared.contents.FileKind.{FileKind}
use Rattle.manifest.specs.declared.contents.FileKind.TheVariants.{Gerber, Drill, Empty, Archive, Neither}
use Rattle.manifest.specs.declared.model.ProposalReason.TheVariants as because

-- ---- numbers of nine digits at most

abbrev pub is_low : ℕ → Bool
is_low n = nat_le n 999999999

abbrev pub is_low_if : Option ℕ → Bool
is_low_if None = true
is_low_if (Some n) = is_low n

pub number_low : (most : ℕ) (text : List ℕ) → most ≤ 9 → is_low_if (number_within most text) ≡ true
number_low most text m = by (is_number_within most text) refl
  where
    by : (b : Bool) → is_number_within most text ≡ b → is_low_if (if b then Some (value text) else None) ≡ true
    by true e =
        let k = both_true (is_digits text) (nat_le (length text) most) e in
        let short : length text ≤ most = leb-true (length text) most k.1 in
        le-leb (value text) 999999999 (nine_digits text k.0 (omega arith))
    by false e = refl

pub numbered_low : (these : List (List ℕ)) (word : List ℕ) → is_low_if (number_suffix these word) ≡ true
numbered_low these word = by (is_one_of (letters_of word) these)
  where
    by : (b : Bool) → is_low_if (if b then number_within 2 (digits_of word) else None) ≡ true
    by true = number_low 2 (digits_of word) (omega arith)
    by false = refl

-- a place whose number, if it has one, has nine digits at most
abbrev pub is_low_place : StackPosition → Bool
is_low_place (Numbered n) = is_low n
is_low_place Top = true
is_low_place (Inner n) = is_low n
is_low_place Unknown = true
is_low_place Bottom = true

stack_low : (o : Option ℕ) → is_low_if o ≡ true → is_low_place (unwrap_or (option_map (λ n. Numbered n) o) Unknown) ≡ true
stack_low None h = refl
stack_low (Some n) h = h

place_low : (b : Bool) (digits : List ℕ) → is_low_place (unwrap_or (option_map (λ n. Numbered n) (if b then number_within 9 digits else None)) Unknown) ≡ true
place_low true digits = stack_low (number_within 9 digits) (number_low 9 digits (omega arith))
place_low false digits = refl

-- ---- the cases

-- a role by a file function, undecided where layers are lacking
abbrev pub unless_lacking : Bool → ProposedRole → List ℕ → Option Decision
unless_lacking lacking role f = Some (if lacking then (Undecided, because.UnclearLayers) else (role, because.FileFunction f))

-- what holds of each role that a file may have by itself
module _ (Q : ProposedRole → Type 0) (left_out : Q LeftOut) (undecided : Q Undecided) (copper : (place : StackPosition) → is_low_place place ≡ true → Q (Copper place)) (plated : Q (Plated None)) (unplated : Q (Unplated None)) where
  drill_function : (a b c l : Bool) (s : Option LayerRange) (f : List ℕ) (d : Decision) → Q (Plated s) → Q (Unplated s) → Q d.0
      → Q (unwrap_or (if a then unless_lacking l (Plated s) f else (if b then unless_lacking l (Unplated s) f else (if c then Some (Undecided, because.MixedHoles) else None))) d).0
  drill_function true b c true s f d p u k = undecided
  drill_function true b c false s f d p u k = p
  drill_function false true c true s f d p u k = undecided
  drill_function false true c false s f d p u k = u
  drill_function false false true l s f d p u k = undecided
  drill_function false false false l s f d p u k = k

  by_function : (o : Option (List ℕ)) (d : Decision) → ((f : List ℕ) → o ≡ Some f → Q (Plated (layers_of_function f)) × Q (Unplated (layers_of_function f))) → Q d.0 → Q (unwrap_or (by_file_function drill_by_function o) d).0
  by_function None d h k = k
  by_function (Some f) d h k = let g = h f refl in drill_function _ _ _ (lacks_layers f) (layers_of_function f) (field 0 f) d g.0 g.1 k

  or_some : (o : Option Decision) (x d : Decision) → Q (unwrap_or o d).0 → Q x.0 → Q (unwrap_or (option_or o (Some x)) d).0
  or_some None x d h k = k
  or_some (Some y) x d h k = h

  by_text : (a b : Bool) (o : Option Decision) (d : Decision) → Q (unwrap_or o d).0 → Q (unwrap_or (drill_by_text a b o) d).0
  by_text true true o d k = undecided
  by_text true false o d k = or_some o (Plated None, because.PlatedType) d k plated
  by_text false true o d k = or_some o (Unplated None, because.UnplatedType) d k unplated
  by_text false false o d k = k

  by_name : (a b : Bool) → Q (drill_by_words a b).0
  by_name true true = undecided
  by_name true false = plated
  by_name false true = unplated
  by_name false false = plated

  gerber_function : (a b : Bool) (p : StackPosition) (f : List ℕ) → is_low_place p ≡ true
      → Q (if a then (let x : Decision = (Copper p, because.FileFunction f) in x) else (if b then (Undecided, because.DrillInGerber) else (LeftOut, because.FileFunction f))).0
  gerber_function true b p f h = copper p h
  gerber_function false true p f h = undecided
  gerber_function false false p f h = left_out

  gerber_words : (p o t b : Bool) (n : Option ℕ) (x c w u v : Bool) (m : Option ℕ) (d : Bool) → is_low_if n ≡ true → is_low_if m ≡ true
      → Q (unwrap_or (option_or (if p then Some (let y : Decision = (Undecided, because.Plane) in y) else (if o then left_out_by_name else (if t then copper_by_name Top else (if b then copper_by_name Bottom else inner_copper_by_name n))))
      (if x then Some (other_by_name c) else (if w then None else (if u then copper_by_name Top else (if v then copper_by_name Bottom else option_or (inner_copper_by_name m) (if d then copper_by_name Unknown else None)))))) (Undecided, because.NothingSays)).0
  gerber_words true o t b n x c w u v m d h k = undecided
  gerber_words false true t b n x c w u v m d h k = left_out
  gerber_words false false true b n x c w u v m d h k = copper Top refl
  gerber_words false false false true n x c w u v m d h k = copper Bottom refl
  gerber_words false false false false (Some i) x c w u v m d h k = copper (Inner i) h
  gerber_words false false false false None true true w u v m d h k = undecided
  gerber_words false false false false None true false w u v m d h k = left_out
  gerber_words false false false false None false c true u v m d h k = undecided
  gerber_words false false false false None false c false true v m d h k = copper Top refl
  gerber_words false false false false None false c false false true m d h k = copper Bottom refl
  gerber_words false false false false None false c false false false (Some i) d h k = copper (Inner i) k
  gerber_words false false false false None false c false false false None true h k = copper Unknown refl
  gerber_words false false false false None false c false false false None false h k = undecided

  gerber : (o : Option (List ℕ)) (point : Bool) (words : List (List ℕ)) → Q (unwrap_or (option_map gerber_by_function o) (gerber_by_words point words)).0
  gerber None point words =
      gerber_words _ _ _ _ (number_suffix inner_extensions (extension_of point words)) _ (list_any names_copper (stem_of point words)) _ _ _ (number_suffix inner_words (last_other_word (stem_of point words))) (ends_in_copper (stem_of point words))
      (numbered_low inner_extensions (extension_of point words)) (numbered_low inner_words (last_other_word (stem_of point words)))
  gerber (Some f) point words = gerber_function _ _ (stack_position (field 1 f)) (field 0 f) (place_low (bytes_eq (take 1 (field 1 f)) (codes "L")) (drop 1 (field 1 f)))

  pub of_kind : (k : FileKind) (name text : List ℕ) → ((f : List ℕ) → function_of text ≡ Some f → Q (Plated (layers_of_function f)) × Q (Unplated (layers_of_function f))) → Q (by_kind k name text).0
  of_kind Gerber name text h = gerber (function_of text) (has_end (has_dot name) (words_of name)) (words_of name)
  of_kind Drill name text h =
      let last = by_name (says_plated (words_of name)) (says_unplated (words_of name)) in
      by_text (says_plated_holes text) (says_unplated_holes text) (by_file_function drill_by_function (function_of text)) (drill_by_name name) (by_function (function_of text) (drill_by_name name) h last)
  of_kind Empty name text h = left_out
  of_kind Archive name text h = left_out
  of_kind Neither name text h = left_out
