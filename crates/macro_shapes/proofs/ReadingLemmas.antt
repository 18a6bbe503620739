-- Reading gives just the values of the expressions that are written so.
use Rattle.std.proofs.Common.{◌≡◌, ◌↔◌, ℕ, suc, ◌<◌, ℤ, pos, Bool, true, false, cond, ◌&&◌, eqb, ltb, List, [], ◌∷◌, ◌++◌, length, Option, Some, None, refl, sym, ap, subst, ◌∙◌, ◌⊎◌, inl, inr}
use Rattle.std.specs.Prelude.{is_some, is_none, option_map, option_and_then, ⊤}
use Rattle.std.specs.List.{list_any}
use Rattle.std.proofs.lemmas.Bool.{and_parts, or_parts, or_from, eqb-true, lt-ltb, ltb-true}
use Rattle.std.proofs.lemmas.Option.{cond_some, same_Some}
use Rattle.std.proofs.lemmas.List.{append-nil, append_assoc}
use Rattle.macro_shapes.specs.declared.sign.Sign.{Sign}
use Rattle.macro_shapes.specs.declared.sign.Sign.TheVariants.{Open, Close, Add, Multiply}
use Rattle.macro_shapes.specs.declared.sign.Addition.{Addition}
use Rattle.macro_shapes.specs.declared.sign.Addition.TheVariants.{Plus, Minus}
use Rattle.macro_shapes.specs.declared.sign.Multiplication.{Multiplication}
use Rattle.macro_shapes.specs.declared.sign.Multiplication.TheVariants.{Times, Over}
use Rattle.macro_shapes.specs.declared.reading.Frame.{Frame}
use Rattle.macro_shapes.specs.Signs.{sign_of}
use Rattle.macro_shapes.specs.Values.{Environment, IsFactor, IsRoundedProduct, IsSum, IsTerm, added_by, brackets, more_factors, more_terms, multiplied_by, one_factor, one_term, operand, operand_value, signed}
use Rattle.macro_shapes.specs.Inner.Reading.{sum_with, product_with}
use Rattle.macro_shapes.specs.Inner.Reading.{State, at, frame_after, fresh, start, closed_or, term_of, sum_of, is_before_factor, is_leading, open_bracket, after_brackets, close_bracket, before_sign, after_addition, multiplied_on, step, unless_open, final_value, rounded_with, final_product, on_byte, run}

-- ---- steps that may have no value

pub bind_some : {A B : Type 0} (f : A → Option B) (o : Option A) (y : B) → option_and_then f o ≡ Some y → (x : A) × (o ≡ Some x) × (f x ≡ Some y)
bind_some f None y e = absurd cc
bind_some f (Some x) y e = (x, refl, e)

pub map_some : {A B : Type 0} (f : A → B) (o : Option A) (y : B) → option_map f o ≡ Some y → (x : A) × (o ≡ Some x) × (f x ≡ y)
map_some f None y e = absurd cc
map_some f (Some x) y e = (x, refl, same_Some (f x) y e)

is_nothing : {A : Type 0} (o : Option A) → is_none o ≡ true → o ≡ None
is_nothing None e = refl
is_nothing (Some x) e = absurd cc

-- ---- signs

-- the byte is a sign
abbrev is_sign : ℕ → Bool
is_sign b = is_some (sign_of b)

-- what the row of a sign says
abbrev meant : Option (ℕ × Sign) → Option Sign
meant o = option_map (λ row. row.1) o

none_from : (o : Option Sign) → is_some o ≡ false → o ≡ None
none_from None h = refl
none_from (Some s) h = absurd cc

-- the sign of a sum that has a value, and the value by it
is_sum : (o : Option Sign) (u w v : ℤ) → added_by o u w ≡ Some v → (a : Addition) × (o ≡ Some (Add a)) × (sum_with (Some (u, a)) w ≡ Some v)
is_sum (Some (Add a)) u w v e = (a, refl, e)
is_sum o u w v e = absurd cc

sum_is : (o : Option Sign) (a : Addition) (u w v : ℤ) → o ≡ Some (Add a) → sum_with (Some (u, a)) w ≡ Some v → added_by o u w ≡ Some v
sum_is o a u w v k e = ap (λ p. added_by p u w) k ∙ e

-- and those of a product
is_product : (o : Option Sign) (u w v : ℤ) → multiplied_by o u w ≡ Some v → (m : Multiplication) × (o ≡ Some (Multiply m)) × (product_with (Some (u, m)) w ≡ Some v)
is_product (Some (Multiply m)) u w v e = (m, refl, e)
is_product o u w v e = absurd cc

product_is : (o : Option Sign) (m : Multiplication) (u w v : ℤ) → o ≡ Some (Multiply m) → product_with (Some (u, m)) w ≡ Some v → multiplied_by o u w ≡ Some v
product_is o m u w v k e = ap (λ p. multiplied_by p u w) k ∙ e

-- which of the first two rows of the signs is meant by a bracket
abbrev IsBracket : Sign → Bool → Bool → Type 0
IsBracket Open o c = o ≡ true
IsBracket Close o c = c ≡ true
IsBracket k o c = ⊤

bracket_is : (k : Sign) (o c p m x y s : Bool)
    → meant (cond o (Some (40, Open)) (cond c (Some (41, Close)) (cond p (Some (43, Add Plus)) (cond m (Some (45, Add Minus)) (cond x (Some (120, Multiply Times)) (cond y (Some (88, Multiply Times)) (cond s (Some (47, Multiply Over)) None))))))) ≡ Some k
    → IsBracket k o c
bracket_is k true c p m x y s e = subst (λ k. IsBracket k true c) (same_Some Open k e) refl
bracket_is k false true p m x y s e = subst (λ k. IsBracket k false true) (same_Some Close k e) refl
bracket_is k false false true m x y s e = subst (λ k. IsBracket k false false) (same_Some (Add Plus) k e) tt
bracket_is k false false false true x y s e = subst (λ k. IsBracket k false false) (same_Some (Add Minus) k e) tt
bracket_is k false false false false true y s e = subst (λ k. IsBracket k false false) (same_Some (Multiply Times) k e) tt
bracket_is k false false false false false true s e = subst (λ k. IsBracket k false false) (same_Some (Multiply Times) k e) tt
bracket_is k false false false false false false true e = subst (λ k. IsBracket k false false) (same_Some (Multiply Over) k e) tt
bracket_is k false false false false false false false e = absurd cc

opens : (b : ℕ) → sign_of b ≡ Some Open → b ≡ 40
unfolding sign_of
opens b h = eqb-true b 40 (bracket_is Open (eqb b 40) (eqb b 41) (eqb b 43) (eqb b 45) (eqb b 120) (eqb b 88) (eqb b 47) h)

closes : (b : ℕ) → sign_of b ≡ Some Close → b ≡ 41
unfolding sign_of
closes b h = eqb-true b 41 (bracket_is Close (eqb b 40) (eqb b 41) (eqb b 43) (eqb b 45) (eqb b 120) (eqb b 88) (eqb b 47) h)

open_sign : sign_of 40 ≡ Some Open
unfolding sign_of
open_sign = refl

close_sign : sign_of 41 ≡ Some Close
unfolding sign_of
close_sign = refl

-- ---- what is written so is read

-- a text leads from one state to another, whatever follows it
record Leads (variables : Environment) (s : State) (held : List ℕ) (text : List ℕ) (t : State) (after : List ℕ) : Type 0 where
  by : (rest : List ℕ) → run variables s held (text ++ rest) ≡ run variables t after rest

-- a factor was read, and has this value
record FactorRead (variables : Environment) (outer : List Frame) (frame : Frame) (text : List ℕ) (v : ℤ) : Type 0 where
  closed : Option ℤ
  held : List ℕ
  leads : Leads variables (at outer frame None) [] text (at outer frame closed) held
  gives : closed_or variables closed held ≡ Some v

-- a term was read
record TermRead (variables : Environment) (outer : List Frame) (before : Option (ℤ × Addition)) (text : List ℕ) (v : ℤ) : Type 0 where
  factors : Option (ℤ × Multiplication)
  closed : Option ℤ
  held : List ℕ
  leads : Leads variables (at outer (frame_after before None) None) [] text (at outer (frame_after before factors) closed) held
  gives : option_and_then (product_with factors) (closed_or variables closed held) ≡ Some v

-- a product up to its last factor was read, with the value of what stands before this, and the factor's
record ProductRead (variables : Environment) (outer : List Frame) (before : Option (ℤ × Addition)) (u : ℤ) (m : Multiplication) (text : List ℕ) (w : ℤ) : Type 0 where
  closed : Option ℤ
  held : List ℕ
  leads : Leads variables (at outer (frame_after before None) None) [] text (at outer (frame_after before (Some (u, m))) closed) held
  gives : closed_or variables closed held ≡ Some w

-- a sum was read
record SumRead (variables : Environment) (outer : List Frame) (text : List ℕ) (v : ℤ) : Type 0 where
  frame : Frame
  closed : Option ℤ
  held : List ℕ
  leads : Leads variables (at outer fresh None) [] text (at outer frame closed) held
  gives : sum_of variables (at outer frame closed) held ≡ Some v

module _ (variables : Environment) where
  joined : (s t u : State) (h i j a b : List ℕ) → Leads variables s h a t i → Leads variables t i b u j → Leads variables s h (a ++ b) u j
  joined s t u h i j a b l m = record { by = λ rest. ap (run variables s h) (append_assoc a b rest) ∙ (l.by (b ++ rest) ∙ m.by rest) }

  nothing_read : (s : State) (h : List ℕ) → Leads variables s h [] s h
  nothing_read s h = record { by = λ rest. refl }

  operand_read : (s : State) (held text : List ℕ) → list_any is_sign text ≡ false → (rest : List ℕ) → run variables s held (text ++ rest) ≡ run variables s (held ++ text) rest
  unfolding run
  operand_read s held [] h rest = ap (λ l. run variables s l rest) (sym (append-nil held))
  operand_read s held (b ∷ bs) h rest =
      let parts = or_parts (is_sign b) (list_any is_sign bs) h in
      ap (λ o. on_byte o (run variables s (held ++ b ∷ []) (bs ++ rest)) (λ k. option_and_then (λ t. run variables t [] (bs ++ rest)) (step variables s held k))) (none_from (sign_of b) parts.0)
      ∙ (operand_read s (held ++ b ∷ []) bs parts.1 rest ∙ ap (λ l. run variables s l rest) (append_assoc held (b ∷ []) bs))

  sign_read : (s t : State) (held : List ℕ) (b : ℕ) (k : Sign) → sign_of b ≡ Some k → step variables s held k ≡ Some t → Leads variables s held (b ∷ []) t []
  unfolding run
  sign_read s t held b k e h = record {
    by = λ rest.
        ap (λ o. on_byte o (run variables s (held ++ b ∷ []) rest) (λ k. option_and_then (λ t. run variables t [] rest) (step variables s held k))) e
        ∙ ap (option_and_then (λ t. run variables t [] rest)) h;
  }

  bracket_opens : (outer : List Frame) (frame : Frame) → length outer < 16 → step variables (at outer frame None) [] Open ≡ Some (at (frame ∷ outer) fresh None)
  unfolding open_bracket
  bracket_opens outer frame h = ap (λ t. cond t (Some (at (frame ∷ outer) fresh None)) None) (lt-ltb (length outer) 16 h)

  bracket_closes : (outer : List Frame) (frame inner : Frame) (closed : Option ℤ) (held : List ℕ) (v : ℤ) → sum_of variables (at (frame ∷ outer) inner closed) held ≡ Some v → step variables (at (frame ∷ outer) inner closed) held Close ≡ Some (at outer frame (Some v))
  unfolding close_bracket
  bracket_closes outer frame inner closed held v h = ap (option_and_then (after_brackets (frame ∷ outer))) h

  factor_goes_on : (outer : List Frame) (frame : Frame) (closed : Option ℤ) (held : List ℕ) (v : ℤ) (m : Multiplication) → term_of variables (at outer frame closed) held ≡ Some v
      → step variables (at outer frame closed) held (Multiply m) ≡ Some (at outer (frame_after frame.before_term (Some (v, m))) None)
  unfolding multiplied_on
  factor_goes_on outer frame closed held v m h = ap (option_map (λ w. at outer (frame_after frame.before_term (Some (w, m))) None)) h

  sum_ends : (outer : List Frame) (frame : Frame) (closed : Option ℤ) (held : List ℕ) (v : ℤ) → sum_of variables (at outer frame closed) held ≡ Some v → before_sign variables (at outer frame closed) held ≡ Some v
  unfolding operand_value
  sum_ends outer frame None [] v h = absurd cc
  sum_ends outer frame None (b ∷ bs) v h = h
  sum_ends outer frame (Some c) [] v h = h
  sum_ends outer frame (Some c) (b ∷ bs) v h = h

  sum_goes_on : (outer : List Frame) (frame : Frame) (closed : Option ℤ) (held : List ℕ) (v : ℤ) (a : Addition) → before_sign variables (at outer frame closed) held ≡ Some v
      → step variables (at outer frame closed) held (Add a) ≡ Some (at outer (frame_after (Some (v, a)) None) None)
  unfolding after_addition
  sum_goes_on outer frame closed held v a h = ap (option_map (λ w. at outer (frame_after (Some (w, a)) None) None)) h

  same_text : (s t : State) (h i whole text : List ℕ) → whole ≡ text → Leads variables s h text t i → Leads variables s h whole t i
  same_text s t h i whole text e l = subst (λ x. Leads variables s h x t i) (sym e) l

  product_read : (text first last : List ℕ) (b : ℕ) (u w : ℤ) (outer : List Frame) (before : Option (ℤ × Addition)) (m : Multiplication) → text ≡ first ++ b ∷ last → sign_of b ≡ Some (Multiply m)
      → TermRead variables outer before first u → FactorRead variables outer (frame_after before (Some (u, m))) last w → ProductRead variables outer before u m text w
  product_read text first last b u w outer before m is k r g =
      let here = at outer (frame_after before r.factors) r.closed in
      let signed_here = at outer (frame_after before (Some (u, m))) None in
      let l = sign_read here signed_here r.held b (Multiply m) k (factor_goes_on outer (frame_after before r.factors) r.closed r.held u m r.gives) in
      let end = at outer (frame_after before (Some (u, m))) g.closed in
      let rest = joined here signed_here end r.held [] g.held (b ∷ []) last l g.leads in
      record {
        closed = g.closed;
        held = g.held;
        leads = same_text (at outer (frame_after before None) None) end [] g.held text (first ++ b ∷ last) is (joined (at outer (frame_after before None) None) here end [] r.held g.held first (b ∷ last) r.leads rest);
        gives = g.gives;
      }

  mutual
    sum_read : (n : ℕ) (text : List ℕ) (v : ℤ) (outer : List Frame) → IsSum variables n text v → n ≡ length outer → SumRead variables outer text v
    sum_read n text v outer (one_term _ _ _ t) fits =
        let r = term_read n text v outer None t fits in
        record { frame = frame_after None r.factors; closed = r.closed; held = r.held; leads = r.leads; gives = ap (option_and_then (sum_with None)) r.gives }
    sum_read n text v outer (signed _ _ _ b last u is t e) fits =
        let k = is_sum (sign_of b) (pos 0) u v e in
        let l = sign_read (at outer fresh None) (at outer (frame_after (Some (pos 0, k.0)) None) None) [] b (Add k.0) k.1 (sum_goes_on outer fresh None [] (pos 0) k.0 refl) in
        let r = term_read n last u outer (Some (pos 0, k.0)) t fits in
        let end = at outer (frame_after (Some (pos 0, k.0)) r.factors) r.closed in
        record {
          frame = frame_after (Some (pos 0, k.0)) r.factors;
          closed = r.closed;
          held = r.held;
          leads = same_text (at outer fresh None) end [] r.held text (b ∷ last) is (joined (at outer fresh None) (at outer (frame_after (Some (pos 0, k.0)) None) None) end [] [] r.held (b ∷ []) last l r.leads);
          gives = ap (option_and_then (sum_with (Some (pos 0, k.0)))) r.gives ∙ k.2;
        }
    sum_read n text v outer (more_terms _ _ _ first last b u w is s t e) fits =
        let k = is_sum (sign_of b) u w v e in
        let r = sum_read n first u outer s fits in
        let here = at outer r.frame r.closed in
        let signed_here = at outer (frame_after (Some (u, k.0)) None) None in
        let l = sign_read here signed_here r.held b (Add k.0) k.1 (sum_goes_on outer r.frame r.closed r.held u k.0 (sum_ends outer r.frame r.closed r.held u r.gives)) in
        let q = term_read n last w outer (Some (u, k.0)) t fits in
        let end = at outer (frame_after (Some (u, k.0)) q.factors) q.closed in
        let rest = joined here signed_here end r.held [] q.held (b ∷ []) last l q.leads in
        record {
          frame = frame_after (Some (u, k.0)) q.factors;
          closed = q.closed;
          held = q.held;
          leads = same_text (at outer fresh None) end [] q.held text (first ++ b ∷ last) is (joined (at outer fresh None) here end [] r.held q.held first (b ∷ last) r.leads rest);
          gives = ap (option_and_then (sum_with (Some (u, k.0)))) q.gives ∙ k.2;
        }

    term_read : (n : ℕ) (text : List ℕ) (v : ℤ) (outer : List Frame) (before : Option (ℤ × Addition)) → IsTerm variables n text v → n ≡ length outer → TermRead variables outer before text v
    term_read n text v outer before (one_factor _ _ _ f) fits =
        let r = factor_read n text v outer (frame_after before None) f fits in
        record { factors = None; closed = r.closed; held = r.held; leads = r.leads; gives = ap (option_and_then (product_with None)) r.gives }
    term_read n text v outer before (more_factors _ _ _ first last b u w is t f e) fits =
        let k = is_product (sign_of b) u w v e in
        let p = product_read text first last b u w outer before k.0 is k.1 (term_read n first u outer before t fits) (factor_read n last w outer (frame_after before (Some (u, k.0))) f fits) in
        record { factors = Some (u, k.0); closed = p.closed; held = p.held; leads = p.leads; gives = ap (option_and_then (product_with (Some (u, k.0)))) p.gives ∙ k.2 }

    factor_read : (n : ℕ) (text : List ℕ) (v : ℤ) (outer : List Frame) (frame : Frame) → IsFactor variables n text v → n ≡ length outer → FactorRead variables outer frame text v
    factor_read n text v outer frame (operand _ _ _ plain value) fits = record { closed = None; held = text; leads = record { by = operand_read (at outer frame None) [] text plain }; gives = value }
    factor_read n text v outer frame (brackets _ _ _ inner is low s) fits =
        let r = sum_read (suc n) inner v (frame ∷ outer) s (ap suc fits) in
        let opened = sign_read (at outer frame None) (at (frame ∷ outer) fresh None) [] 40 Open open_sign (bracket_opens outer frame (subst (λ k. k < 16) fits low)) in
        let closed = sign_read (at (frame ∷ outer) r.frame r.closed) (at outer frame (Some v)) r.held 41 Close close_sign (bracket_closes outer frame r.frame r.closed r.held v r.gives) in
        let rest = joined (at (frame ∷ outer) fresh None) (at (frame ∷ outer) r.frame r.closed) (at outer frame (Some v)) [] r.held [] inner (41 ∷ []) r.leads closed in
        record {
          closed = Some v;
          held = [];
          leads = same_text (at outer frame None) (at outer frame (Some v)) [] [] text (40 ∷ (inner ++ 41 ∷ [])) is
              (joined (at outer frame None) (at (frame ∷ outer) fresh None) (at outer frame (Some v)) [] [] [] (40 ∷ []) (inner ++ 41 ∷ []) opened rest);
          gives = refl;
        }

  -- a text that leads to a state at its end is read up to there
  led_to : (t : State) (held text : List ℕ) → Leads variables start [] text t held → run variables start [] text ≡ Some (t, held)
  unfolding run
  led_to t held text l = ap (run variables start []) (sym (append-nil text)) ∙ l.by []

  written_read : (text : List ℕ) (v : ℤ) → IsSum variables 0 text v → option_and_then (λ e. final_value variables e.0 e.1) (run variables start [] text) ≡ Some v
  written_read text v h =
      let r = sum_read 0 text v [] h refl in
      ap (option_and_then (λ e. final_value variables e.0 e.1)) (led_to (at [] r.frame r.closed) r.held text r.leads) ∙ r.gives

  product_written_read : (text : List ℕ) (v : ℤ) → IsRoundedProduct variables text v → option_and_then (λ e. final_product variables e.0 e.1) (run variables start [] text) ≡ Some v
  product_written_read text v (first, last, b, u, w, is, k, t, f, e) =
      let p = product_read text first last b u w [] None Times is k (term_read 0 first u [] None t refl) (factor_read 0 last w [] (frame_after None (Some (u, Times))) f refl) in
      ap (option_and_then (λ e. final_product variables e.0 e.1)) (led_to (at [] (frame_after None (Some (u, Times))) p.closed) p.held text p.leads)
      ∙ (ap (option_and_then (rounded_with None (Some (u, Times)))) p.gives ∙ e)

-- ---- what is read is written so

-- what stands before a term was read from this text: nothing, a sign alone, which counts from 0, or a sum and a sign
abbrev IsBeforeTerm : Environment → ℕ → Option (ℤ × Addition) → List ℕ → Type 0
IsBeforeTerm variables n None text = text ≡ []
IsBeforeTerm variables n (Some (u, a)) text = (left : List ℕ) × (b : ℕ) × (text ≡ left ++ b ∷ []) × (sign_of b ≡ Some (Add a)) × (((left ≡ []) × (u ≡ pos 0)) ⊎ IsSum variables n left u)

-- what stands before a factor was read from this text: nothing, or a product and a sign
abbrev IsBeforeFactor : Environment → ℕ → Option (ℤ × Multiplication) → List ℕ → Type 0
IsBeforeFactor variables n None text = text ≡ []
IsBeforeFactor variables n (Some (u, m)) text = (left : List ℕ) × (b : ℕ) × (text ≡ left ++ b ∷ []) × (sign_of b ≡ Some (Multiply m)) × IsTerm variables n left u

-- what stands before an operand was read from this text
record IsFrame (variables : Environment) (n : ℕ) (frame : Frame) (text : List ℕ) : Type 0 where
  terms : List ℕ
  factors : List ℕ
  first : IsBeforeTerm variables n frame.before_term terms
  second : IsBeforeFactor variables n frame.before_factor factors
  written : text ≡ terms ++ factors

-- what stands before the open brackets was read from this text
abbrev IsOuter : Environment → List Frame → List ℕ → Type 0
IsOuter variables [] text = text ≡ []
IsOuter variables (frame ∷ outer) text = (a b : List ℕ) × IsOuter variables outer a × IsFrame variables (length outer) frame b × (length outer < 16) × (text ≡ (a ++ b) ++ 40 ∷ [])

-- what stands at the operand was read from this text
abbrev IsHeld : Environment → ℕ → Option ℤ → List ℕ → List ℕ → Type 0
IsHeld variables n None held text = (list_any is_sign held ≡ false) × (text ≡ held)
IsHeld variables n (Some v) held text = (f : List ℕ) × IsFactor variables n f v × (text ≡ f ++ held)

-- the state is reached by reading this text
record IsReached (variables : Environment) (s : State) (held : List ℕ) (done : List ℕ) : Type 0 where
  before : List ℕ
  here : List ℕ
  last : List ℕ
  outer : IsOuter variables s.outer before
  frame : IsFrame variables (length s.outer) s.frame here
  at_operand : IsHeld variables (length s.outer) s.closed held last
  written : done ≡ (before ++ here) ++ last

bracketed : (a s : List ℕ) → ((a ++ 40 ∷ []) ++ s) ++ 41 ∷ [] ≡ a ++ ((40 ∷ (s ++ 41 ∷ [])) ++ [])
bracketed a s = simp (append_assoc, append-nil)

extended : (a t f l : List ℕ) (b : ℕ) → ((a ++ (t ++ f)) ++ l) ++ b ∷ [] ≡ (a ++ (t ++ ((f ++ l) ++ b ∷ []))) ++ []
extended a t f l b = simp (append_assoc, append-nil)

ended : (a h l : List ℕ) (b : ℕ) → ((a ++ h) ++ l) ++ b ∷ [] ≡ (a ++ (((h ++ l) ++ b ∷ []) ++ [])) ++ []
ended a h l b = simp (append_assoc, append-nil)

some_sign : (b : ℕ) (held : List ℕ) → is_sign b ≡ false → list_any is_sign held ≡ false → list_any is_sign (held ++ b ∷ []) ≡ false
some_sign b [] h k = or_from (is_sign b) false h refl
some_sign b (x ∷ xs) h k =
    let parts = or_parts (is_sign x) (list_any is_sign xs) k in
    or_from (is_sign x) (list_any is_sign (xs ++ b ∷ [])) parts.0 (some_sign b xs h parts.1)

module _ (variables : Environment) where
  factor_written : (n : ℕ) (closed : Option ℤ) (held text : List ℕ) (v : ℤ) → IsHeld variables n closed held text → closed_or variables closed held ≡ Some v → IsFactor variables n text v
  factor_written n None held text v h e = subst (λ x. IsFactor variables n x v) (sym h.1) (operand n held v h.0 e)
  factor_written n (Some w) [] text v h e = subst (λ x. IsFactor variables n x v) (sym (h.2 ∙ append-nil h.0)) (subst (λ z. IsFactor variables n h.0 z) (same_Some w v e) h.1)
  factor_written n (Some w) (b ∷ bs) text v h e = absurd cc

  term_from : (n : ℕ) (before : Option (ℤ × Multiplication)) (factors last : List ℕ) (w v : ℤ) → IsBeforeFactor variables n before factors → IsFactor variables n last w → product_with before w ≡ Some v → IsTerm variables n (factors ++ last) v
  term_from n None factors last w v h f e =
      subst (λ x. IsTerm variables n (x ++ last) v) (sym h) (one_factor n last v (subst (λ z. IsFactor variables n last z) (same_Some w v e) f))
  term_from n (Some (u, m)) factors last w v h f e =
      more_factors n (factors ++ last) v h.0 last h.1 u w (ap (λ x. x ++ last) h.2 ∙ append_assoc h.0 (h.1 ∷ []) last) h.4 f (product_is (sign_of h.1) m u w v h.3 e)

  sum_from : (n : ℕ) (before : Option (ℤ × Addition)) (terms last : List ℕ) (w v : ℤ) → IsBeforeTerm variables n before terms → IsTerm variables n last w → sum_with before w ≡ Some v → IsSum variables n (terms ++ last) v
  sum_from n None terms last w v h t e =
      subst (λ x. IsSum variables n (x ++ last) v) (sym h) (one_term n last v (subst (λ z. IsTerm variables n last z) (same_Some w v e) t))
  sum_from n (Some (u, a)) terms last w v h t e = elim h.4 [
    | inl alone ↦
        signed n (terms ++ last) v h.1 last w (ap (λ x. x ++ last) (h.2 ∙ ap (λ l. l ++ h.1 ∷ []) alone.0)) t
        (sum_is (sign_of h.1) a (pos 0) w v h.3 (ap (λ (z : ℤ). sum_with (Some (z, a)) w) (sym alone.1) ∙ e))
    | inr s ↦ more_terms n (terms ++ last) v h.0 last h.1 u w (ap (λ x. x ++ last) h.2 ∙ append_assoc h.0 (h.1 ∷ []) last) s t (sum_is (sign_of h.1) a u w v h.3 e)
  ]

  term_written : (s : State) (held here last : List ℕ) (v : ℤ) (frame : IsFrame variables (length s.outer) s.frame here) → IsHeld variables (length s.outer) s.closed held last → term_of variables s held ≡ Some v
      → IsTerm variables (length s.outer) (frame.factors ++ last) v
  term_written s held here last v frame h e =
      let w = bind_some (product_with s.frame.before_factor) (closed_or variables s.closed held) v e in
      term_from (length s.outer) s.frame.before_factor frame.factors last w.0 v frame.second (factor_written (length s.outer) s.closed held last w.0 h w.1) w.2

  sum_written : (s : State) (held here last : List ℕ) (v : ℤ) → IsFrame variables (length s.outer) s.frame here → IsHeld variables (length s.outer) s.closed held last → sum_of variables s held ≡ Some v
      → IsSum variables (length s.outer) (here ++ last) v
  sum_written s held here last v frame h e =
      let w = bind_some (sum_with s.frame.before_term) (term_of variables s held) v e in
      subst (λ x. IsSum variables (length s.outer) x v) (sym (ap (λ l. l ++ last) frame.written ∙ append_assoc frame.terms frame.factors last))
      (sum_from (length s.outer) s.frame.before_term frame.terms (frame.factors ++ last) w.0 v frame.first (term_written s held here last w.0 frame h w.1) w.2)

  fresh_frame : (n : ℕ) → IsFrame variables n fresh []
  fresh_frame n = record { terms = []; factors = []; first = refl; second = refl; written = refl }

  none_held : (n : ℕ) → IsHeld variables n None [] []
  none_held n = (refl, refl)

  nothing_held : (n : ℕ) (outer : List Frame) (frame : Frame) (closed : Option ℤ) (held last : List ℕ) → is_before_factor (at outer frame closed) held ≡ true → IsHeld variables n closed held last → last ≡ []
  nothing_held n outer frame None [] last h g = g.1
  nothing_held n outer frame (Some v) [] last h g = absurd cc
  nothing_held n outer frame closed (x ∷ xs) last h g = absurd cc

  no_terms : (n : ℕ) (before : Option (ℤ × Addition)) (text : List ℕ) → before ≡ None → IsBeforeTerm variables n before text → text ≡ []
  no_terms n None text e h = h
  no_terms n (Some x) text e h = absurd cc

  no_factors : (n : ℕ) (before : Option (ℤ × Multiplication)) (text : List ℕ) → before ≡ None → IsBeforeFactor variables n before text → text ≡ []
  no_factors n None text e h = h
  no_factors n (Some x) text e h = absurd cc

  opened_reached : (s t : State) (held done : List ℕ) (b : ℕ) → sign_of b ≡ Some Open → open_bracket s held ≡ Some t → IsReached variables s held done → IsReached variables t [] (done ++ b ∷ [])
  unfolding open_bracket
  opened_reached s t held done b k e r =
      let p = cond_some (is_before_factor s held && ltb (length s.outer) 16) (at (s.frame ∷ s.outer) fresh None) t e in
      let q = and_parts (is_before_factor s held) (ltb (length s.outer) 16) p.0 in
      let none = nothing_held (length s.outer) s.outer s.frame s.closed held r.last q.0 r.at_operand in
      let text : done ++ b ∷ [] ≡ (((r.before ++ r.here) ++ 40 ∷ []) ++ []) ++ [] =
      ap (λ l. l ++ b ∷ []) (r.written ∙ (ap (λ l. (r.before ++ r.here) ++ l) none ∙ append-nil (r.before ++ r.here)))
      ∙ (ap (λ x. (r.before ++ r.here) ++ x ∷ []) (opens b k) ∙ (sym (append-nil ((r.before ++ r.here) ++ 40 ∷ [])) ∙ sym (append-nil (((r.before ++ r.here) ++ 40 ∷ []) ++ [])))) in
      subst (λ u. IsReached variables u [] (done ++ b ∷ [])) p.1
      (record {
        before = (r.before ++ r.here) ++ 40 ∷ [];
        here = [];
        last = [];
        outer = (r.before, r.here, r.outer, r.frame, ltb-true (length s.outer) 16 q.1, refl);
        frame = fresh_frame (length (s.frame ∷ s.outer));
        at_operand = none_held (length (s.frame ∷ s.outer));
        written = text;
      })

  closed_reached : (s t : State) (held done : List ℕ) (b : ℕ) → sign_of b ≡ Some Close → close_bracket variables s held ≡ Some t → IsReached variables s held done → IsReached variables t [] (done ++ b ∷ [])
  unfolding close_bracket
  closed_reached s t held done b k e r =
      let w = bind_some (after_brackets s.outer) (sum_of variables s held) t e in
      by w.0 s.outer (sum_written s held r.here r.last w.0 r.frame r.at_operand w.1) r.outer w.2
    where
      inner : List ℕ
      inner = r.here ++ r.last

      by : (v : ℤ) (outer : List Frame) → IsSum variables (length outer) inner v → IsOuter variables outer r.before → after_brackets outer v ≡ Some t → IsReached variables t [] (done ++ b ∷ [])
      by v [] x o h = absurd cc
      by v (frame ∷ outer) x o h =
          let whole : done ++ b ∷ [] ≡ (o.0 ++ o.1) ++ ((40 ∷ (inner ++ 41 ∷ [])) ++ []) =
          ap (λ l. l ++ b ∷ []) (r.written ∙ (append_assoc r.before r.here r.last ∙ ap (λ l. l ++ inner) o.5))
          ∙ (ap (λ y. (((o.0 ++ o.1) ++ 40 ∷ []) ++ inner) ++ y ∷ []) (closes b k) ∙ bracketed (o.0 ++ o.1) inner) in
          subst (λ u. IsReached variables u [] (done ++ b ∷ [])) (same_Some (at outer frame (Some v)) t h)
          (record {
            before = o.0;
            here = o.1;
            last = (40 ∷ (inner ++ 41 ∷ [])) ++ [];
            outer = o.2;
            frame = o.3;
            at_operand = (40 ∷ (inner ++ 41 ∷ []), brackets (length outer) (40 ∷ (inner ++ 41 ∷ [])) v inner refl o.4 x, refl);
            written = whole;
          })

  multiplied_reached : (s t : State) (held done : List ℕ) (b : ℕ) (m : Multiplication) → sign_of b ≡ Some (Multiply m) → multiplied_on variables s held m ≡ Some t → IsReached variables s held done → IsReached variables t [] (done ++ b ∷ [])
  unfolding multiplied_on
  multiplied_reached s t held done b m k e r =
      let w = map_some (λ v. at s.outer (frame_after s.frame.before_term (Some (v, m))) None) (term_of variables s held) t e in
      let terms = r.frame.terms in
      let left = r.frame.factors ++ r.last in
      let whole : done ++ b ∷ [] ≡ (r.before ++ (terms ++ (left ++ b ∷ []))) ++ [] =
      ap (λ l. l ++ b ∷ []) (r.written ∙ ap (λ l. (r.before ++ l) ++ r.last) r.frame.written) ∙ extended r.before terms r.frame.factors r.last b in
      subst (λ u. IsReached variables u [] (done ++ b ∷ [])) w.2
      (record {
        before = r.before;
        here = terms ++ (left ++ b ∷ []);
        last = [];
        outer = r.outer;
        frame = record { terms = terms; factors = left ++ b ∷ []; first = r.frame.first; second = (left, b, refl, k, term_written s held r.here r.last w.0 r.frame r.at_operand w.1); written = refl };
        at_operand = none_held (length s.outer);
        written = whole;
      })

  summed_reached : (s t : State) (held done : List ℕ) (b : ℕ) (a : Addition) → sign_of b ≡ Some (Add a) → after_addition variables s held a ≡ Some t → IsReached variables s held done → IsReached variables t [] (done ++ b ∷ [])
  unfolding after_addition
  summed_reached s t held done b a k e r =
      let w = map_some (λ v. at s.outer (frame_after (Some (v, a)) None) None) (before_sign variables s held) t e in
      by w.0 w.2 (is_leading s held) refl w.1
    where
      by : (v : ℤ) → at s.outer (frame_after (Some (v, a)) None) None ≡ t → (u : Bool) → is_leading s held ≡ u → cond u (Some (pos 0)) (sum_of variables s held) ≡ Some v → IsReached variables t [] (done ++ b ∷ [])
      by v same true leading h =
          let p = and_parts (is_before_factor s held) (is_none s.frame.before_term && is_none s.frame.before_factor) leading in
          let q = and_parts (is_none s.frame.before_term) (is_none s.frame.before_factor) p.1 in
          let last = nothing_held (length s.outer) s.outer s.frame s.closed held r.last p.0 r.at_operand in
          let terms = no_terms (length s.outer) s.frame.before_term r.frame.terms (is_nothing s.frame.before_term q.0) r.frame.first in
          let factors = no_factors (length s.outer) s.frame.before_factor r.frame.factors (is_nothing s.frame.before_factor q.1) r.frame.second in
          let whole : done ++ b ∷ [] ≡ (r.before ++ b ∷ []) ++ [] =
          ap (λ l. l ++ b ∷ []) (r.written ∙ (λ i. (r.before ++ (r.frame.written ∙ (λ j. terms j ++ factors j)) i) ++ last i))
          ∙ (ap (λ l. l ++ b ∷ []) (append-nil (r.before ++ []) ∙ append-nil r.before) ∙ sym (append-nil (r.before ++ b ∷ []))) in
          subst (λ u. IsReached variables u [] (done ++ b ∷ [])) (ap (λ n. at s.outer (frame_after (Some (n, a)) None) None) (same_Some (pos 0) v h) ∙ same)
          (record {
            before = r.before;
            here = b ∷ [];
            last = [];
            outer = r.outer;
            frame = record { terms = b ∷ []; factors = []; first = ([], b, refl, k, inl (refl, refl)); second = refl; written = refl };
            at_operand = none_held (length s.outer);
            written = whole;
          })
      by v same false leading h =
          let left = r.here ++ r.last in
          let whole : done ++ b ∷ [] ≡ (r.before ++ ((left ++ b ∷ []) ++ [])) ++ [] = ap (λ l. l ++ b ∷ []) r.written ∙ ended r.before r.here r.last b in
          subst (λ u. IsReached variables u [] (done ++ b ∷ [])) same
          (record {
            before = r.before;
            here = (left ++ b ∷ []) ++ [];
            last = [];
            outer = r.outer;
            frame = record { terms = left ++ b ∷ []; factors = []; first = (left, b, refl, k, inr (sum_written s held r.here r.last v r.frame r.at_operand h)); second = refl; written = refl };
            at_operand = none_held (length s.outer);
            written = whole;
          })

  step_reached : (s t : State) (held done : List ℕ) (b : ℕ) (k : Sign) → sign_of b ≡ Some k → step variables s held k ≡ Some t → IsReached variables s held done → IsReached variables t [] (done ++ b ∷ [])
  step_reached s t held done b Open e h r = opened_reached s t held done b e h r
  step_reached s t held done b Close e h r = closed_reached s t held done b e h r
  step_reached s t held done b (Add a) e h r = summed_reached s t held done b a e h r
  step_reached s t held done b (Multiply m) e h r = multiplied_reached s t held done b m e h r

  byte_reached : (s : State) (held done : List ℕ) (b : ℕ) → sign_of b ≡ None → IsReached variables s held done → IsReached variables s (held ++ b ∷ []) (done ++ b ∷ [])
  byte_reached s held done b e r = record {
    before = r.before;
    here = r.here;
    last = r.last ++ b ∷ [];
    outer = r.outer;
    frame = r.frame;
    at_operand = more s.closed r.at_operand;
    written = ap (λ l. l ++ b ∷ []) r.written ∙ append_assoc (r.before ++ r.here) r.last (b ∷ []);
  }
    where
      more : (closed : Option ℤ) → IsHeld variables (length s.outer) closed held r.last → IsHeld variables (length s.outer) closed (held ++ b ∷ []) (r.last ++ b ∷ [])
      more None h = (some_sign b held (ap is_some e) h.0, ap (λ l. l ++ b ∷ []) h.1)
      more (Some v) h = (h.0, h.1, ap (λ l. l ++ b ∷ []) h.2 ∙ append_assoc h.0 held (b ∷ []))

  -- at the end of a text no bracket is open, and it is what stands at the operand
  at_end : (s : State) (held done : List ℕ) (o : Option ℤ) (v : ℤ) (r : IsReached variables s held done) → unless_open s.outer o ≡ Some v → (length s.outer ≡ 0) × (done ≡ r.here ++ r.last) × (o ≡ Some v)
  at_end s held done o v r h = by s.outer refl r.outer h
    where
      by : (outer : List Frame) → s.outer ≡ outer → IsOuter variables outer r.before → unless_open outer o ≡ Some v → (length s.outer ≡ 0) × (done ≡ r.here ++ r.last) × (o ≡ Some v)
      by [] none before e = (ap length none, r.written ∙ ap (λ l. (l ++ r.here) ++ r.last) before, e)
      by (frame ∷ outer) some before e = absurd cc

  ended_written : (s : State) (held done : List ℕ) (v : ℤ) → IsReached variables s held done → final_value variables s held ≡ Some v → IsSum variables 0 done v
  ended_written s held done v r h =
      let e = at_end s held done (sum_of variables s held) v r h in
      subst (λ n. IsSum variables n done v) e.0 (subst (λ x. IsSum variables (length s.outer) x v) (sym e.1) (sum_written s held r.here r.last v r.frame r.at_operand e.2))

  product_from : (before : Option (ℤ × Addition)) (factors : Option (ℤ × Multiplication)) (here terms text last done : List ℕ) (w v : ℤ) → IsBeforeTerm variables 0 before terms → IsBeforeFactor variables 0 factors text → here ≡ terms ++ text
      → IsFactor variables 0 last w → done ≡ here ++ last → rounded_with before factors w ≡ Some v → IsRoundedProduct variables done v
  product_from None (Some (u, Times)) here terms text last done w v first (left, b, is, k, t) both f whole e =
      (left, last, b, u, w, whole ∙ (ap (λ l. l ++ last) (both ∙ (λ i. first i ++ is i)) ∙ append_assoc left (b ∷ []) last), k, t, f, e)
  product_from _ _ here terms text last done w v first second both f whole e = absurd cc

  product_ended : (s : State) (held done : List ℕ) (v : ℤ) → IsReached variables s held done → final_product variables s held ≡ Some v → IsRoundedProduct variables done v
  product_ended s held done v r h =
      let e = at_end s held done (option_and_then (rounded_with s.frame.before_term s.frame.before_factor) (closed_or variables s.closed held)) v r h in
      let w = bind_some (rounded_with s.frame.before_term s.frame.before_factor) (closed_or variables s.closed held) v e.2 in
      product_from s.frame.before_term s.frame.before_factor r.here r.frame.terms r.frame.factors r.last done w.0 v
      (subst (λ n. IsBeforeTerm variables n s.frame.before_term r.frame.terms) e.0 r.frame.first) (subst (λ n. IsBeforeFactor variables n s.frame.before_factor r.frame.factors) e.0 r.frame.second) r.frame.written
      (subst (λ n. IsFactor variables n r.last w.0) e.0 (factor_written (length s.outer) s.closed held r.last w.0 r.at_operand w.1)) e.1 w.2

  on_reached : (b : ℕ) (bs : List ℕ) (e : State × List ℕ) → ((s : State) (held done : List ℕ) → IsReached variables s held done → run variables s held bs ≡ Some e → IsReached variables e.0 e.1 (done ++ bs))
      → (s : State) (held done : List ℕ) → IsReached variables s held done → (k : Option Sign) → sign_of b ≡ k
      → on_byte k (run variables s (held ++ b ∷ []) bs) (λ k. option_and_then (λ t. run variables t [] bs) (step variables s held k)) ≡ Some e → IsReached variables e.0 e.1 (done ++ b ∷ bs)
  on_reached b bs e again s held done r None k h =
      subst (λ l. IsReached variables e.0 e.1 l) (append_assoc done (b ∷ []) bs) (again s (held ++ b ∷ []) (done ++ b ∷ []) (byte_reached s held done b k r) h)
  on_reached b bs e again s held done r (Some sign) k h =
      let w = bind_some (λ t. run variables t [] bs) (step variables s held sign) e h in
      subst (λ l. IsReached variables e.0 e.1 l) (append_assoc done (b ∷ []) bs) (again w.0 [] (done ++ b ∷ []) (step_reached s w.0 held done b sign k w.1 r) w.2)

  run_reached : (bs : List ℕ) (e : State × List ℕ) (s : State) (held done : List ℕ) → IsReached variables s held done → run variables s held bs ≡ Some e → IsReached variables e.0 e.1 (done ++ bs)
  unfolding run
  run_reached [] e s held done r h = subst (λ x. IsReached variables x.0 x.1 (done ++ [])) (same_Some (s, held) e h) (subst (λ l. IsReached variables s held l) (sym (append-nil done)) r)
  run_reached (b ∷ bs) e s held done r h = on_reached b bs e (run_reached bs e) s held done r (sign_of b) refl h

  start_reached : IsReached variables start [] []
  start_reached = record { before = []; here = []; last = []; outer = refl; frame = fresh_frame 0; at_operand = none_held 0; written = refl }

-- reading gives a value just where the text is the writing of an expression with it
pub read_exactly : (variables : Environment) (text : List ℕ) (v : ℤ) → (option_and_then (λ e. final_value variables e.0 e.1) (run variables start [] text) ≡ Some v) ↔ IsSum variables 0 text v
read_exactly variables text v = (
  λ h. let w = bind_some (λ e. final_value variables e.0 e.1) (run variables start [] text) v h in ended_written variables w.0.0 w.0.1 text v (run_reached variables text w.0 start [] [] (start_reached variables) w.1) w.2,
  written_read variables text v,
)

-- and a rounded product just where it is one as a whole
pub product_exactly : (variables : Environment) (text : List ℕ) (v : ℤ) → (option_and_then (λ e. final_product variables e.0 e.1) (run variables start [] text) ≡ Some v) ↔ IsRoundedProduct variables text v
product_exactly variables text v = (
  λ h. let w = bind_some (λ e. final_product variables e.0 e.1) (run variables start [] text) v h in product_ended variables w.0.0 w.0.1 text v (run_reached variables text w.0 start [] [] (start_reached variables) w.1) w.2,
  product_written_read variables text v,
)
