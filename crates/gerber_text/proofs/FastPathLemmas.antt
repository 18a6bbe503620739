-- Operations that are written as most are: `G01X10Y20D01*`.
use Rattle.gerber_text.proofs.Common.{◌≡◌, inl, inr, ℕ, zero, suc, ◌+◌, ◌-◌, ◌<◌, ◌≤◌, Bool, true, false, cond, eqb, ◌||◌, List, [], ◌∷◌, ◌++◌, length, take, drop, get_or, Option, None, Some, Result, Ok, refl, sym, ap, subst, ◌∙◌, arith, neg_ℤ, IfSome, option_map, list_all, list_any, AllByRecursion, false≢true, length-append, length-take, take-append-drop, take_all, take-append_seam, ◌>>=◌, is_digit, is_number_char, value, without_sign, is_negative, Reason, Profile, Strict, Command, Operate, Interpolation, Linear, Clockwise, Counterclockwise, Action, Plot, Move, Flash, int_of, modes_of, action_code, coordinate, is_plot, NamesInt, is_not_break, HasLeadingOperation, HasLeadingInt, HasLeadingCoordinate, coordinate_field, mode_prefix, IsItemIn, is_line_break, is_text_byte, is_finish, and_true, both_true, not_true, list_all_weaker, list_all_append, bind_ok, repeated_in}
use Rattle.std.specs.Prelude.{ℤ, pos, is_some, not}
use Rattle.gerber_text.proofs.GrammarItems.{item_means, item_ends}
use Rattle.gerber_text.proofs.ItemLemmas.{text_kept, text_no_star}
use Rattle.gerber_text.proofs.RunLemmas.{none_passes}
use Rattle.gerber_text.proofs.WordLemmas.{operation_word, word_written, AreNumbers, word_bytes, append_to_ended, word_ends}
use Rattle.gerber_commands.proofs.NumberLemmas.{spells}

-- ---- an integer

pub numbers_of : (xs : List ℕ) → AllByRecursion (λ b. is_digit b ≡ true) xs → AllByRecursion (λ b. is_number_char b ≡ true) xs
numbers_of [] h = tt
numbers_of (x ∷ xs) h = (ap (λ t. t || ((eqb x 43) || ((eqb x 45) || (eqb x 46)))) h.0, numbers_of xs h.1)

sign_is_number : (d t u : Bool) (v : Bool) → (t || u) ≡ true → (d || (t || (u || v))) ≡ true
sign_is_number true t u v h = refl
sign_is_number false true u v h = refl
sign_is_number false false true v h = refl
sign_is_number false false false v h = absurd (false≢true h)

begins : (t : Bool) (b : ℕ) (bs : List ℕ) (n len : ℕ) → (eqb b 43 || eqb b 45) ≡ t → 0 < len → len ≤ length (cond t bs (b ∷ bs)) → len ≤ 12 → AllByRecursion (λ x. is_digit x ≡ true) (take len (cond t bs (b ∷ bs))) → n ≡ value (take len (cond t bs (b ∷ bs)))
    → HasLeadingInt (b ∷ bs) (cond (eqb b 45) (neg_ℤ (pos n)) (pos n)) (drop len (cond t bs (b ∷ bs)))
begins true b bs n len e some le short digits n-is =
    let size : length (take len bs) ≡ len = omega (arith, length-take len bs, le) in
    record {
      run = b ∷ take len bs;
      whole = ap (λ (x : List ℕ). b ∷ x) (sym (take-append-drop len bs));
      numbers = (sign_is_number (is_digit b) (eqb b 43) (eqb b 45) (eqb b 46) e, numbers_of (take len bs) digits);
      short = omega (arith, size, short);
      value = spells (b ∷ take len bs) (take len bs) n (ap (λ t. cond t (take len bs) (b ∷ take len bs)) e) (omega (arith, size, some)) (omega (arith, size, short)) digits n-is;
    }
begins false b bs n zero e some le short digits n-is = absurd (omega arith)
begins false b bs n (suc m) e some le short digits n-is =
    let size : length (b ∷ take m bs) ≡ suc m = omega (arith, length-take m bs, le) in
    record {
      run = b ∷ take m bs;
      whole = ap (λ (x : List ℕ). b ∷ x) (sym (take-append-drop m bs));
      numbers = numbers_of (b ∷ take m bs) digits;
      short = omega (arith, size, short);
      value = spells (b ∷ take m bs) (b ∷ take m bs) n (ap (λ t. cond t (take m bs) (b ∷ take m bs)) e) (omega (arith, size)) (omega (arith, size, short)) digits n-is;
    }

pub begins_with_int : (bytes digits : List ℕ) (n len : ℕ) → digits ≡ without_sign bytes → 0 < len → len ≤ length digits → len ≤ 12 → AllByRecursion (λ x. is_digit x ≡ true) (take len digits) → n ≡ value (take len digits)
    → HasLeadingInt bytes (cond (is_negative bytes) (neg_ℤ (pos n)) (pos n)) (drop len digits)
begins_with_int [] digits n len is some le short all n-is = absurd (omega (arith, ap length is, some, le))
begins_with_int (b ∷ bs) digits n len is some le short all n-is =
    subst (λ (x : List ℕ). HasLeadingInt (b ∷ bs) (cond (eqb b 45) (neg_ℤ (pos n)) (pos n)) (drop len x)) (sym is)
    (begins (eqb b 43 || eqb b 45) b bs n len refl some (omega (arith, ap length is, le)) short (subst (λ (x : List ℕ). AllByRecursion (λ y. is_digit y ≡ true) (take len x)) is all) (n-is ∙ ap (λ (x : List ℕ). value (take len x)) is))

-- ---- a coordinate

omitted : coordinate None ≡ Ok None
unfolding coordinate
omitted = refl

abbrev pub ok : Option ℤ → Result (Option ℤ) Reason
ok v = Ok v

-- a coordinate that stands, and one that is left out
pub coordinate_there : (letter : ℕ) (bytes rest : List ℕ) (n z : ℤ) → 0 < length bytes → get_or bytes 0 0 ≡ letter → z ≡ n → HasLeadingInt (take (length bytes - 1) (drop 1 bytes)) n rest → HasLeadingCoordinate letter bytes (Some z) rest
unfolding coordinate
coordinate_there letter [] rest n z some is same h = absurd (omega arith)
coordinate_there letter (b ∷ bs) rest n z some is same h =
    let behind : take (length (b ∷ bs) - 1) bs ≡ bs = take_all (length (b ∷ bs) - 1) bs (omega arith) in
    record {
      run = Some h.run;
      whole = λ i. is i ∷ (sym behind ∙ h.whole) i;
      numbers = h.numbers;
      short = omega (arith, h.short);
      value_is = ap (λ r. r >>= λ (m : ℤ). Ok (Some m)) h.value ∙ ap (λ (m : ℤ). ok (Some m)) (sym same);
    }

pub coordinate_away : (letter : ℕ) (bytes : List ℕ) → HasLeadingCoordinate letter bytes None bytes
coordinate_away letter bytes = record { run = None; whole = refl; numbers = tt; short = omega arith; value_is = omitted }

value_named : (run : Option (List ℕ)) (v : Option ℤ) → coordinate run ≡ Ok v → NamesInt run v
unfolding coordinate
value_named None v e = let same : None ≡ v = cc in ap (λ (o : Option ℤ). option_map (λ n. let r : Result ℤ Reason = Ok n in r) o) same
value_named (Some run) v e =
    let b = bind_ok (int_of run) (λ n. Ok (Some n)) v e in
    let same : Some b.0 ≡ v = let k : ok (Some b.0) ≡ ok v = b.2 in cc in
    ap (λ r. Some r) b.1 ∙ ap (λ (o : Option ℤ). option_map (λ n. let r : Result ℤ Reason = Ok n in r) o) same

numbers_all : (run : List ℕ) → AllByRecursion (λ b. is_number_char b ≡ true) run → list_all is_number_char run ≡ true
numbers_all [] h = refl
numbers_all (b ∷ run) h = and_true (is_number_char b) (list_all is_number_char run) h.0 (numbers_all run h.1)

are_numbers : (run : Option (List ℕ)) → IfSome run (AllByRecursion (λ b. is_number_char b ≡ true)) → AreNumbers run
are_numbers None h = tt
are_numbers (Some run) h = numbers_all run h

-- ---- the item

none_breaks : (bytes : List ℕ) → list_all is_not_break bytes ≡ true → AllByRecursion (λ b. is_line_break b ≡ false) bytes
none_breaks [] h = tt
none_breaks (b ∷ bytes) h = let k = both_true (is_not_break b) (list_all is_not_break bytes) h in (not_true (is_line_break b) k.0, none_breaks bytes k.1)

goes_on : (m : Option Interpolation) (action : Action) (v w s t : Option ℤ) → list_any is_finish (modes_of m ++ Operate action v w s t ∷ []) ≡ false
goes_on None action v w s t = refl
goes_on (Some m) action v w s t = refl

code_long : (action : Action) → length (action_code action) ≡ 4
code_long Plot = refl
code_long Move = refl
code_long Flash = refl

front_long : (m : Option Interpolation) → length (mode_prefix m) ≤ 3
front_long None = omega arith
front_long (Some Linear) = omega arith
front_long (Some Clockwise) = omega arith
front_long (Some Counterclockwise) = omega arith

-- an optional interpolation, coordinates and a D code make an item
pub plain_item : (bytes after_m after_x after_y after_i rest more : List ℕ) (m : Option Interpolation) (v w s t : Option ℤ) (action : Action) → bytes ≡ mode_prefix m ++ after_m → HasLeadingCoordinate 88 after_m v after_x → HasLeadingCoordinate 89 after_x w after_y → HasLeadingCoordinate 73 after_y s after_i → HasLeadingCoordinate 74 after_i t rest
    → rest ≡ action_code action ++ more → (is_some m || (is_some v || is_some w)) ≡ true → (is_plot action || not (is_some s || is_some t)) ≡ true
    → HasLeadingOperation bytes (length bytes - length rest + 4) (modes_of m ++ Operate action v w s t ∷ [])
plain_item bytes after_m after_x after_y after_i rest more m v w s t action front_is hx hy hi hj e some may =
    let x = hx.run in
    let y = hy.run in
    let i = hi.run in
    let j = hj.run in
    let f = mode_prefix m in
    let cx = coordinate_field 88 x in
    let cy = coordinate_field 89 y in
    let ci = coordinate_field 73 i in
    let cj = coordinate_field 74 j in
    let c = action_code action in
    let item : List ℕ = f ++ (cx ++ (cy ++ (ci ++ (cj ++ c)))) in
    let whole : bytes ≡ item ++ more =
    front_is ∙ append_to_ended f after_m _ more (hx.whole ∙ append_to_ended cx after_x _ more (hy.whole ∙ append_to_ended cy after_y _ more (hi.whole ∙ append_to_ended ci after_i _ more (hj.whole ∙ append_to_ended cj rest c more e)))) in
    let size : length item ≡ length f + (length cx + (length cy + (length ci + (length cj + 4)))) =
    omega (arith, length-append f (cx ++ (cy ++ (ci ++ (cj ++ c)))), length-append cx (cy ++ (ci ++ (cj ++ c))), length-append cy (ci ++ (cj ++ c)), length-append ci (cj ++ c), length-append cj c, code_long action) in
    let len : length bytes - length rest + 4 ≡ length item = omega (arith, ap length whole, length-append item more, ap length e, length-append c more, code_long action, size) in
    let prefix : take (length bytes - length rest + 4) bytes ≡ item = (λ k. take (len k) (whole k)) ∙ take-append_seam item more in
    let what : List Command = modes_of m ++ Operate action v w s t ∷ [] in
    let word = operation_word m x y i j action in
    let text = word_bytes m x y i j action (are_numbers x hx.numbers) (are_numbers y hy.numbers) (are_numbers i hi.numbers) (are_numbers j hj.numbers) in
    let is : take (length bytes - length rest + 4) bytes ≡ word ++ 42 ∷ [] = prefix ∙ word_ends m x y i j action in
    let written : (profile : Profile) (latest : Option Action) → IsItemIn profile latest (take (length bytes - length rest + 4) bytes) what =
    λ profile latest. inl (word, is, none_passes is_text_byte (λ b. eqb b 42) text_no_star word text, inr (inr (inr (inr (word_written (repeated_in profile latest) m x y i j action v w s t (value_named x v hx.value_is) (value_named y w hy.value_is) (value_named i s hi.value_is) (value_named j t hj.value_is) may))))) in
    record {
      some = omega (arith, len, size);
      within = omega (arith, len, ap length whole, length-append item more);
      short = omega (arith, len, size, front_long m, hx.short, hy.short, hi.short, hj.short);
      one = (item_means Strict None _ what (written Strict None)).0;
      kept = none_breaks _ (ap (list_all is_not_break) is ∙ list_all_append is_not_break word (42 ∷ []) (list_all_weaker is_text_byte is_not_break text_kept word text) refl);
      goes_on = sym (item_ends Strict None _ what (written Strict None)) ∙ goes_on m action v w s t;
      parses = λ profile latest. (item_means profile latest _ what (written profile latest)).1;
    }
