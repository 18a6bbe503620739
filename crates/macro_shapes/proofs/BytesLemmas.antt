-- Comments and definitions are what their bytes say one by one.
use Rattle.std.proofs.Common.{◌≡◌, ℕ, suc, ◌+◌, arith, Bool, true, false, cond, not, ◌&&◌, eqb, List, [], ◌∷◌, drop, take, Option, None, Some, refl, sym, ap, ◌∙◌}
use Rattle.std.specs.Prelude.{nat_le, option_and_then, option_map}
use Rattle.std.proofs.lemmas.Bool.{eqb-true, false≢true}
use Rattle.std.specs.Prelude.{bytes_eq, take_while}
use Rattle.std.specs.List.{prefix_len}
use Rattle.grid_units.specs.Numbers.{is_digit, is_digits, value}
use Rattle.grid_units.specs.Rows.{strip_prefix}
use Rattle.macro_shapes.specs.Pieces.{variable_definition, definition, is_comment, max_variables}
use Rattle.macro_shapes.specs.Inner.Bytes.{goes_on, is_field_byte, number_and_text, starts_comment, starts_definition}

-- ---- comments

one_more : (n : ℕ) → 1 + n ≡ suc n
one_more n = omega arith

nothing_more : (bs : List ℕ) → bytes_eq (take (prefix_len is_field_byte bs) bs) [] ≡ not (goes_on bs)
nothing_more [] = refl
nothing_more (c ∷ cs) = by (is_field_byte c)
  where
    by : (t : Bool) → bytes_eq (take (cond t (1 + prefix_len is_field_byte cs) 0) (c ∷ cs)) [] ≡ not t
    by true = ap (λ n. bytes_eq (take n (c ∷ cs)) []) (one_more (prefix_len is_field_byte cs))
    by false = refl

comment_by : (b : ℕ) (bs : List ℕ) → cond (eqb b 48) (not (goes_on bs)) false ≡ is_comment (b ∷ bs)
comment_by b bs = by (is_field_byte b) refl (eqb b 48) refl
  where
    zero_is_one : (t : Bool) → eqb b 48 ≡ true → is_field_byte b ≡ t → t ≡ true
    zero_is_one t e f = sym f ∙ ap is_field_byte (eqb-true b 48 e)

    more : (s : Bool) → eqb b 48 ≡ s → (s && bytes_eq (take (prefix_len is_field_byte bs) bs) []) ≡ bytes_eq (take (1 + prefix_len is_field_byte bs) (b ∷ bs)) (48 ∷ [])
    more s e = ap (λ (u : Bool). u && bytes_eq (take (prefix_len is_field_byte bs) bs) []) (sym e) ∙ ap (λ n. bytes_eq (take n (b ∷ bs)) (48 ∷ [])) (sym (one_more (prefix_len is_field_byte bs)))

    by : (t : Bool) → is_field_byte b ≡ t → (s : Bool) → eqb b 48 ≡ s → cond s (not (goes_on bs)) false ≡ bytes_eq (take (cond t (1 + prefix_len is_field_byte bs) 0) (b ∷ bs)) (48 ∷ [])
    by true f true e = sym (nothing_more bs) ∙ more true e
    by true f false e = more false e
    by false f true e = absurd (false≢true (zero_is_one false e f))
    by false f false e = refl

pub comment_is : (piece : List ℕ) → starts_comment piece ≡ is_comment piece
comment_is [] = refl
comment_is (b ∷ bs) = comment_by b bs

-- ---- definitions

strip_one : (b c : ℕ) (bs : List ℕ) → cond (eqb c b) (Some bs) None ≡ strip_prefix (b ∷ []) (c ∷ bs)
strip_one b c bs = by (eqb c b)
  where
    by : (t : Bool) → cond t (Some bs) None ≡ cond (t && true) (Some bs) None
    by true = refl
    by false = refl

defined_is : (digits rest : List ℕ) → number_and_text digits rest ≡ variable_definition digits rest
defined_is digits [] = by (is_digits digits && (nat_le 1 (value digits) && nat_le (value digits) max_variables))
  where
    by : (t : Bool) → None ≡ cond {A = Option (ℕ × List ℕ)} t None None
    by true = refl
    by false = refl
defined_is digits (b ∷ bs) =
    by (is_digits digits && (nat_le 1 (value digits) && nat_le (value digits) max_variables)) (eqb b 61)
    ∙ ap (λ o. cond (is_digits digits && (nat_le 1 (value digits) && nat_le (value digits) max_variables)) (option_map {U = ℕ × List ℕ} (λ text. (value digits, text)) o) None) (strip_one 61 b bs)
  where
    by : (t s : Bool) → cond s (option_map {U = ℕ × List ℕ} (λ n. (n, bs)) (cond t (Some (value digits)) None)) None ≡ cond t (option_map {U = ℕ × List ℕ} (λ text. (value digits, text)) (cond s (Some bs) None)) None
    by true true = refl
    by true false = refl
    by false true = refl
    by false false = refl

pub definition_is : (piece : List ℕ) → starts_definition piece ≡ definition piece
definition_is [] = refl
definition_is (b ∷ bs) = by (eqb b 36) ∙ ap (option_and_then after) (strip_one 36 b bs)
  where
    after : List ℕ → Option (ℕ × List ℕ)
    after rest = variable_definition (take_while is_digit rest) (drop (prefix_len is_digit rest) rest)

    by : (t : Bool) → cond t (number_and_text (take_while is_digit bs) (drop (prefix_len is_digit bs) bs)) None ≡ option_and_then after (cond t (Some bs) None)
    by true = defined_is (take_while is_digit bs) (drop (prefix_len is_digit bs) bs)
    by false = refl
