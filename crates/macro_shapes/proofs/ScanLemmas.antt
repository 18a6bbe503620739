-- One byte more of an expression that is read.
use Rattle.macro_shapes.proofs.Common.{◌≡◌, ℕ, ◌+◌, ◌-◌, ◌<◌, ◌≤◌, List, [], ◌∷◌, ◌++◌, length, take, drop, get_or, Option, Some, None, sym, ap, ◌∙◌, arith, option_and_then, drop_more, take_more, drop-take, take_rest, take_all, drop-append-le, drop_all, length-take, length-take-le, Environment, State, step, on_byte, run}
use Rattle.macro_shapes.specs.declared.sign.Sign.{Sign}
use Rattle.macro_shapes.specs.Signs.{sign_of}

module _ (variables : Environment) where
  -- what a byte makes of a state and of what is held
  next_byte : (s : State) (held : List ℕ) (text : List ℕ) (i d : ℕ) → i < length text
      → run variables s held (drop i text)
      ≡ on_byte (sign_of (get_or text i d)) (run variables s (held ++ get_or text i d ∷ []) (drop (i + 1) text)) (λ k. option_and_then (λ t. run variables t [] (drop (i + 1) text)) (step variables s held k))
  unfolding run
  next_byte s held text i d h = ap (run variables s held) (drop_more text i d h)

  held_more : (text : List ℕ) (begin i d : ℕ) → begin ≤ i → i < length text → drop begin (take i text) ++ get_or text i d ∷ [] ≡ drop begin (take (i + 1) text)
  held_more text begin i d h within =
      let long : begin ≤ length (take i text) = omega (arith, length-take-le i text (omega arith)) in
      sym (drop-append-le begin (take i text) (get_or text i d ∷ []) long) ∙ ap (drop begin) (sym (take_more text i d within))

  pub byte_on : (s : State) (text : List ℕ) (begin i d : ℕ) → begin ≤ i → i < length text → sign_of (get_or text i d) ≡ None
      → run variables s (drop begin (take (i + 1) text)) (drop (i + 1) text) ≡ run variables s (drop begin (take i text)) (drop i text)
  byte_on s text begin i d h within e =
      sym (next_byte s (drop begin (take i text)) text i d within
      ∙ (ap (λ o. on_byte o (run variables s (drop begin (take i text) ++ get_or text i d ∷ []) (drop (i + 1) text)) (λ k. option_and_then (λ t. run variables t [] (drop (i + 1) text)) (step variables s (drop begin (take i text)) k))) e
      ∙ ap (λ l. run variables s l (drop (i + 1) text)) (held_more text begin i d h within)))

  on_sign : (s : State) (held : List ℕ) (text : List ℕ) (i d : ℕ) (k : Sign) (o : Option State) → i < length text → sign_of (get_or text i d) ≡ Some k → step variables s held k ≡ o
      → run variables s held (drop i text) ≡ option_and_then (λ t. run variables t [] (drop (i + 1) text)) o
  on_sign s held text i d k o within e h =
      next_byte s held text i d within
      ∙ (ap (λ u. on_byte u (run variables s (held ++ get_or text i d ∷ []) (drop (i + 1) text)) (λ k. option_and_then (λ t. run variables t [] (drop (i + 1) text)) (step variables s held k))) e
      ∙ ap (option_and_then (λ t. run variables t [] (drop (i + 1) text))) h)

  pub sign_on : (s t : State) (text : List ℕ) (begin i d : ℕ) (k : Sign) → i < length text → sign_of (get_or text i d) ≡ Some k → step variables s (drop begin (take i text)) k ≡ Some t
      → run variables t (drop (i + 1) (take (i + 1) text)) (drop (i + 1) text) ≡ run variables s (drop begin (take i text)) (drop i text)
  sign_on s t text begin i d k within e h =
      let short : length (take (i + 1) text) ≤ i + 1 = omega (arith, length-take (i + 1) text) in
      ap (λ l. run variables t l (drop (i + 1) text)) (drop_all (i + 1) (take (i + 1) text) short) ∙ sym (on_sign s (drop begin (take i text)) text i d k (Some t) within e h)

  pub sign_fails : (s : State) (text : List ℕ) (begin i d : ℕ) (k : Sign) → i < length text → sign_of (get_or text i d) ≡ Some k → step variables s (drop begin (take i text)) k ≡ None
      → run variables s (drop begin (take i text)) (drop i text) ≡ None
  sign_fails s text begin i d k within e h = on_sign s (drop begin (take i text)) text i d k None within e h

  -- at the end of the text
  pub text_ends : (s : State) (text : List ℕ) (begin n : ℕ) → length text ≤ n → run variables s (drop begin (take n text)) (drop n text) ≡ Some (s, drop begin (take n text))
  unfolding run
  text_ends s text begin n h = ap (run variables s (drop begin (take n text))) (drop_all n text h)

pub slice_is : (text : List ℕ) (begin i : ℕ) → begin ≤ i → take (i - begin) (drop begin text) ≡ drop begin (take i text)
slice_is text begin i h = let e : begin + (i - begin) ≡ i = omega arith in sym (drop-take begin (i - begin) text) ∙ ap (λ n. drop begin (take n text)) e

pub rest_is : (text : List ℕ) (begin n : ℕ) → length text ≤ n → take (length text - begin) (drop begin text) ≡ drop begin (take n text)
rest_is text begin n h = take_rest text begin ∙ ap (drop begin) (sym (take_all n text h))
