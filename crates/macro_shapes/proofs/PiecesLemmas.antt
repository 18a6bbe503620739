-- The primitives that are read are just those that the pieces spell.
use Rattle.std.proofs.Common.{◌≡◌, ◌↔◌, ℕ, ◌+◌, ◌≤◌, inl, inr, ℤ, Bool, true, false, cond, leb, List, [], ◌∷◌, ◌++◌, length, map, Option, Some, None, refl, sym, ap, subst, ◌∙◌, arith, append_assoc}
use Rattle.std.specs.Prelude.{option_map, option_and_then, Result, Ok, Err, MatchOption}
use Rattle.std.specs.Bool.{MatchBool}
use Rattle.std.specs.Result.{result_ok}
use Rattle.std.specs.Option.{option_or}
use Rattle.std.proofs.lemmas.Bool.{leb-true, leb-false, le-leb}
use Rattle.std.proofs.lemmas.List.{length-map}
use Rattle.std.proofs.lemmas.Option.{cond_some, same_Some}
use Rattle.grid_units.specs.Numbers.{parse_decimal}
use Rattle.grid_units.specs.declared.fault.Reason.{Reason}
use Rattle.grid_units.specs.Ascii as ascii
use Rattle.macro_shapes.specs.Values.{Environment, lookup, with_value, IsDiameter, IsRoundedProduct, IsValue}
use Rattle.macro_shapes.specs.Pieces.{AreFields, AreParameters, is_comment, is_diameter, definition, code_of, SpellsFields, SpellPrimitives, IsMacro}
use Rattle.macro_shapes.specs.Inner.Pieces.{value_of, diameter_of, field_value, all_values, parts_fields, piece_fields, on_definition, fields_from, all_decimals, if_few, parameters_of}
use Rattle.macro_shapes.specs.declared.fields.Fields.{Fields}
use Rattle.macro_shapes.specs.declared.piece.Code.{Code}
use Rattle.macro_shapes.proofs.BytesLemmas.{comment_is, definition_is}
use Rattle.macro_shapes.proofs.ReadingLemmas.{bind_some, map_some, read_exactly, product_exactly}
use Rattle.grid_units.specs.Rows.{split_by}

-- ---- values

none_some : {A : Type 0} (x : A) → None ≡ Some x → ⊥
none_some x e = cc

-- what is asked of a text of at most 1000 bytes
when_short : (text : List ℕ) (o : Option ℤ) (v : ℤ) (P : Type 0) → (o ≡ Some v) ↔ P → (cond (leb (length text) 1000) o None ≡ Some v) ↔ ((length text ≤ 1000) × P)
when_short text o v P exactly = by (leb (length text) 1000) refl
  where
    by : (t : Bool) → leb (length text) 1000 ≡ t → (cond t o None ≡ Some v) ↔ ((length text ≤ 1000) × P)
    by true e = (λ h. (leb-true (length text) 1000 e, exactly.0 h), λ h. exactly.1 h.1)
    by false e = (λ h. absurd cc, λ h. absurd (omega (arith, h.0, leb-false (length text) 1000 e)))

pub value_exactly : (variables : Environment) (text : List ℕ) (v : ℤ) → (value_of variables text ≡ Some v) ↔ IsValue variables text v
unfolding value_of
value_exactly variables text v = when_short text _ v _ (read_exactly variables text v)

diameter_exactly : (variables : Environment) (text : List ℕ) (v : ℤ) → (diameter_of variables text ≡ Some v) ↔ IsDiameter variables text v
diameter_exactly variables text v = by (value_of variables text) refl (when_short text _ v _ (product_exactly variables text v))
  where
    by : (o : Option ℤ) {product : Option ℤ} → value_of variables text ≡ o → (product ≡ Some v) ↔ ((length text ≤ 1000) × IsRoundedProduct variables text v) → (option_or o product ≡ Some v) ↔ IsDiameter variables text v
    by (Some u) e rounded = (λ h. inl ((value_exactly variables text v).0 (e ∙ h)), λ h. elim h [ inl value ↦ sym e ∙ (value_exactly variables text v).1 value | inr product ↦ absurd (product.0 u ((value_exactly variables text u).0 e)) ])
    by None e rounded = (
      λ h. let is = rounded.0 h in inr (λ u value. none_some u (sym e ∙ (value_exactly variables text u).1 value), is.0, is.1),
      λ h. elim h [ inl value ↦ absurd (none_some v (sym e ∙ (value_exactly variables text v).1 value)) | inr product ↦ rounded.1 (product.1, product.2) ],
    )

field_exactly : (variables : Environment) (c : Code) (n : ℕ) (text : List ℕ) (v : ℤ) → (field_value variables c n text ≡ Some v) ↔ MatchBool (is_diameter c n) (IsDiameter variables text v) (IsValue variables text v)
field_exactly variables c n text v = by (is_diameter c n)
  where
    by : (t : Bool) → (cond t (diameter_of variables text) (value_of variables text) ≡ Some v) ↔ MatchBool t (IsDiameter variables text v) (IsValue variables text v)
    by true = diameter_exactly variables text v
    by false = value_exactly variables text v

values_found : (variables : Environment) (c : Code) (n : ℕ) (texts : List (List ℕ)) (vs : List ℤ) → all_values variables c n texts ≡ Some vs → AreFields variables c n texts vs
values_found variables c n [] [] e = tt
values_found variables c n [] (v ∷ vs) e = absurd cc
values_found variables c n (text ∷ texts) vs e =
    let w = bind_some (λ v. option_map (λ us. v ∷ us) (all_values variables c (n + 1) texts)) (field_value variables c n text) vs e in
    let u = map_some (λ us. w.0 ∷ us) (all_values variables c (n + 1) texts) vs w.2 in
    subst (λ l. AreFields variables c n (text ∷ texts) l) u.2 ((field_exactly variables c n text w.0).0 w.1, values_found variables c (n + 1) texts u.0 u.1)

values_given : (variables : Environment) (c : Code) (n : ℕ) (texts : List (List ℕ)) (vs : List ℤ) → AreFields variables c n texts vs → all_values variables c n texts ≡ Some vs
values_given variables c n [] [] h = refl
values_given variables c n (text ∷ texts) (v ∷ vs) h =
    ap (option_and_then (λ w. option_map (λ us. w ∷ us) (all_values variables c (n + 1) texts))) ((field_exactly variables c n text v).1 h.0)
    ∙ ap (option_map (λ us. v ∷ us)) (values_given variables c (n + 1) texts vs h.1)
values_given variables c n _ _ h = absurd h

-- ---- primitives

pub fields_found : (variables : Environment) (piece : List ℕ) (f : Fields) → piece_fields variables piece ≡ Some f → SpellsFields variables piece f
unfolding piece_fields
fields_found variables piece f e = by (split_by ascii.comma piece) refl e
  where
    by : (parts : List (List ℕ)) → split_by ascii.comma piece ≡ parts → parts_fields variables parts ≡ Some f → SpellsFields variables piece f
    by [] p h = absurd cc
    by (c ∷ texts) p h =
        let w = bind_some (λ k. option_map (λ vs. record { code = k; values = vs }) (all_values variables k 0 texts)) (code_of c) f h in
        let u = map_some (λ vs. record { code = w.0; values = vs }) (all_values variables w.0 0 texts) f w.2 in
        subst (λ g. SpellsFields variables piece g) u.2 (record { code_text = c; texts = texts; parts = p; judged = w.1; valued = values_found variables w.0 0 texts u.0 u.1 })

pub fields_given : (variables : Environment) (piece : List ℕ) (f : Fields) → SpellsFields variables piece f → piece_fields variables piece ≡ Some f
unfolding piece_fields
fields_given variables piece f h =
    ap (parts_fields variables) h.parts
    ∙ (ap (option_and_then (λ k. option_map (λ vs. record { code = k; values = vs }) (all_values variables k 0 h.texts))) h.judged
    ∙ ap (option_map (λ vs. record { code = f.code; values = vs })) (values_given variables f.code 0 h.texts f.values h.valued))

-- ---- pieces

taken : (piece : List ℕ) (pieces : List (List ℕ)) (variables : Environment)
    → fields_from variables (piece ∷ pieces) ≡ cond (is_comment piece) (fields_from variables pieces) (on_definition (definition piece) variables piece (λ later. fields_from later pieces))
taken piece pieces variables = λ i. cond (comment_is piece i) (fields_from variables pieces) (on_definition (definition_is piece i) variables piece (λ later. fields_from later pieces))

pub pieces_found : (pieces : List (List ℕ)) (variables : Environment) (found : List Fields) → fields_from variables pieces ≡ Some found → SpellPrimitives variables pieces found
pieces_found [] variables found e = sym (same_Some [] found e)
pieces_found (piece ∷ pieces) variables found e = by (is_comment piece) (definition piece) (sym (taken piece pieces variables) ∙ e) (pieces_found pieces)
  where
    by : (t : Bool) (d : Option (ℕ × List ℕ)) → cond t (fields_from variables pieces) (on_definition d variables piece (λ later. fields_from later pieces)) ≡ Some found
        → ((later : Environment) (others : List Fields) → fields_from later pieces ≡ Some others → SpellPrimitives later pieces others)
        → MatchBool t (SpellPrimitives variables pieces found) (MatchOption d
        ((fields : Fields) × (others : List Fields) × SpellsFields variables piece fields × SpellPrimitives variables pieces others × (found ≡ fields ∷ others))
        (λ d. (v : ℤ) × IsValue variables d.1 v × SpellPrimitives (with_value variables d.0 v) pieces found))
    by true d h again = again variables found h
    by false None h again =
        let w = bind_some (λ f. option_map (λ fs. f ∷ fs) (fields_from variables pieces)) (piece_fields variables piece) found h in
        let u = map_some (λ fs. w.0 ∷ fs) (fields_from variables pieces) found w.2 in
        (w.0, u.0, fields_found variables piece w.0 w.1, again variables u.0 u.1, sym u.2)
    by false (Some d) h again =
        let w = bind_some (λ v. fields_from (with_value variables d.0 v) pieces) (value_of variables d.1) found h in
        (w.0, (value_exactly variables d.1 w.0).0 w.1, again (with_value variables d.0 w.0) found w.2)

pub pieces_given : (pieces : List (List ℕ)) (variables : Environment) (found : List Fields) → SpellPrimitives variables pieces found → fields_from variables pieces ≡ Some found
pieces_given [] variables found h = ap Some (sym h)
pieces_given (piece ∷ pieces) variables found h = taken piece pieces variables ∙ by (is_comment piece) (definition piece) h (pieces_given pieces)
  where
    by : (t : Bool) (d : Option (ℕ × List ℕ)) → MatchBool t (SpellPrimitives variables pieces found) (MatchOption d
        ((fields : Fields) × (others : List Fields) × SpellsFields variables piece fields × SpellPrimitives variables pieces others × (found ≡ fields ∷ others))
        (λ d. (v : ℤ) × IsValue variables d.1 v × SpellPrimitives (with_value variables d.0 v) pieces found))
        → ((later : Environment) (others : List Fields) → SpellPrimitives later pieces others → fields_from later pieces ≡ Some others)
        → cond t (fields_from variables pieces) (on_definition d variables piece (λ later. fields_from later pieces)) ≡ Some found
    by true d h again = again variables found h
    by false None h again =
        ap (option_and_then (λ f. option_map (λ fs. f ∷ fs) (fields_from variables pieces))) (fields_given variables piece h.0 h.2)
        ∙ (ap (option_map (λ fs. h.0 ∷ fs)) (again variables h.1 h.3) ∙ ap Some (sym h.4))
    by false (Some d) h again =
        ap (option_and_then (λ v. fields_from (with_value variables d.0 v) pieces)) ((value_exactly variables d.1 h.0).1 h.1)
        ∙ again (with_value variables d.0 h.0) found h.2

-- ---- parameters

ok_is : (r : Result ℤ Reason) (v : ℤ) → result_ok r ≡ Some v → r ≡ Ok v
ok_is (Ok w) v e = ap Ok (same_Some w v e)
ok_is (Err r) v e = absurd cc

decimals_found : (texts : List (List ℕ)) (values : List (Option ℤ)) → all_decimals texts ≡ Some values → (decimals : List ℤ) × (map parse_decimal texts ≡ map Ok decimals) × (values ≡ map Some decimals)
decimals_found [] values e = ([], refl, sym (same_Some [] values e))
decimals_found (text ∷ texts) values e =
    let w = bind_some (λ v. option_map (λ vs. Some v ∷ vs) (all_decimals texts)) (result_ok (parse_decimal text)) values e in
    let u = map_some (λ vs. Some w.0 ∷ vs) (all_decimals texts) values w.2 in
    let d = decimals_found texts u.0 u.1 in
    (w.0 ∷ d.0, (λ i. ok_is (parse_decimal text) w.0 w.1 i ∷ d.1 i), sym u.2 ∙ ap (λ l. Some w.0 ∷ l) d.2)

decimals_given : (texts : List (List ℕ)) (decimals : List ℤ) → map parse_decimal texts ≡ map Ok decimals → all_decimals texts ≡ Some (map Some decimals)
decimals_given [] [] e = refl
decimals_given [] (d ∷ ds) e = absurd cc
decimals_given (text ∷ texts) [] e = absurd cc
decimals_given (text ∷ texts) (d ∷ ds) e =
    let first : parse_decimal text ≡ Ok d = cc in
    let others : map parse_decimal texts ≡ map Ok ds = cc in
    ap (λ r. option_and_then (λ v. option_map (λ vs. Some v ∷ vs) (all_decimals texts)) (result_ok r)) first ∙ ap (option_map (λ vs. Some d ∷ vs)) (decimals_given texts ds others)

few_is : (values w : List (Option ℤ)) → if_few values ≡ Some w → (length values ≤ 999) × (values ≡ w)
few_is values w e = let both = cond_some (leb (length values) 999) values w e in (leb-true (length values) 999 both.0, both.1)

pub parameters_found : (parameters : Option (List ℕ)) (values : List (Option ℤ)) → parameters_of parameters ≡ Some values → AreParameters parameters values
unfolding parameters_of
parameters_found None values e = sym (same_Some [] values e)
parameters_found (Some text) values e =
    let w = bind_some if_few (all_decimals (split_by ascii.upper_x text)) values e in
    let few = few_is w.0 values w.2 in
    let d = decimals_found (split_by ascii.upper_x text) w.0 w.1 in
    let same : length w.0 ≡ length d.0 = ap length d.2 ∙ length-map d.0 Some in
    (d.0, omega (arith, same, few.0), d.1, sym few.1 ∙ d.2)

pub parameters_given : (parameters : Option (List ℕ)) (values : List (Option ℤ)) → AreParameters parameters values → parameters_of parameters ≡ Some values
unfolding parameters_of
parameters_given None values h = ap Some (sym h)
parameters_given (Some text) values h =
    ap (option_and_then if_few) (decimals_given (split_by ascii.upper_x text) h.0 h.2)
    ∙ (ap (λ t. cond t (Some (map Some h.0)) None) (le-leb (length (map Some h.0)) 999 (omega (arith, h.1, length-map h.0 Some))) ∙ ap Some (sym h.3))

-- ---- macros

pub macro_exactly : (pieces : List (List ℕ)) (parameters : Option (List ℕ)) (values : List (Option ℤ)) (found : List Fields) → parameters_of parameters ≡ Some values → (fields_from (lookup values) pieces ≡ Some found) ↔ IsMacro pieces parameters found
macro_exactly pieces parameters values found e = (
  λ h. (values, parameters_found parameters values e, pieces_found pieces (lookup values) found h),
  λ h. ap (λ vs. fields_from (lookup vs) pieces) (same_Some values h.0 (sym e ∙ parameters_given parameters h.0 h.1)) ∙ pieces_given pieces (lookup h.0) found h.2,
)

pub no_macro : (pieces : List (List ℕ)) (parameters : Option (List ℕ)) (found : List Fields) → parameters_of parameters ≡ None → IsMacro pieces parameters found → ⊥
no_macro pieces parameters found e h = none_some h.0 (sym e ∙ parameters_given parameters h.0 h.1)

-- ---- piece by piece

pub one_more : {A : Type 0} (done : List A) (x : A) (o : Option (List A)) → option_map (λ xs. (done ++ x ∷ []) ++ xs) o ≡ option_map (λ xs. done ++ xs) (option_map (λ xs. x ∷ xs) o)
one_more done x None = refl
one_more done x (Some xs) = ap Some (append_assoc done (x ∷ []) xs)

pub decimals_next : (done : List (Option ℤ)) (parts more : List (List ℕ)) (part : List ℕ) (v : ℤ) → parts ≡ part ∷ more → parse_decimal part ≡ Ok v
    → option_map (λ vs. (done ++ Some v ∷ []) ++ vs) (all_decimals more) ≡ option_map (λ vs. done ++ vs) (all_decimals parts)
decimals_next done parts more part v e h =
    one_more done (Some v) (all_decimals more)
    ∙ sym (ap (λ l. option_map (λ vs. done ++ vs) (all_decimals l)) e ∙ ap (λ r. option_map (λ vs. done ++ vs) (option_and_then (λ w. option_map (λ vs. Some w ∷ vs) (all_decimals more)) (result_ok r))) h)
