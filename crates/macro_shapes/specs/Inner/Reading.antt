-- How an expression is read, from left to right: what each sign does with what stands before it.
use Rattle.std.specs.Prelude.{ℕ, ℤ, pos, Bool, false, ◌&&◌, nat_lt, List, [], ◌∷◌, ◌++◌, length, reverse, if◌then◌else◌, Option, None, Some, is_none, option_map, option_and_then}
use Rattle.macro_shapes.specs.declared.sign.Sign.{Sign}
use Rattle.macro_shapes.specs.declared.sign.Sign.TheVariants.{Open, Close, Add, Multiply}
use Rattle.macro_shapes.specs.declared.sign.Addition.{Addition}
use Rattle.macro_shapes.specs.declared.sign.Multiplication.{Multiplication}
use Rattle.macro_shapes.specs.declared.sign.Multiplication.TheVariants.{Times}
use Rattle.macro_shapes.specs.declared.reading.Frame.{Frame}
use Rattle.macro_shapes.specs.declared.reading.Reading.{Reading}
use Rattle.macro_shapes.specs.Signs.{sign_of}
use Rattle.macro_shapes.specs.Values.{Environment, added_by, multiplied_by, operand_value, product_below}

-- a term after what stands before it: `$1` alone, `-$1`, `2+$1`
abbrev pub sum_with : Option (ℤ × Addition) → ℤ → Option ℤ
sum_with None b = Some b
sum_with (Some (a, sign)) b = added_by (Some (Add sign)) a b

-- a factor after what stands before it: `$1` alone, `2x$1`, `2/$1`
abbrev pub product_with : Option (ℤ × Multiplication) → ℤ → Option ℤ
product_with None b = Some b
product_with (Some (a, sign)) b = multiplied_by (Some (Multiply sign)) a b

-- what was read up to an operand: what stands before each open bracket, the innermost first, and before the operand, and what brackets closed there
pub record State : Type 0 where
  pub outer : List Frame
  pub frame : Frame
  pub closed : Option ℤ

-- the state with these parts
abbrev pub at : List Frame → Frame → Option ℤ → State
at outer frame closed = record { outer = outer; frame = frame; closed = closed }

-- what stands before an operand inside of its brackets
abbrev pub frame_after : Option (ℤ × Addition) → Option (ℤ × Multiplication) → Frame
frame_after before_term before_factor = record { before_term = before_term; before_factor = before_factor }

-- the state that a reading stands in
abbrev pub state : Reading → State
state r = at (reverse r.outer.items) r.frame r.closed

-- nothing stands before the operand
abbrev pub fresh : Frame
fresh = frame_after None None

-- the state before the first byte
abbrev pub start : State
start = at [] fresh None

-- the value of what stands here: an operand, or brackets that closed
abbrev pub closed_or : Environment → Option ℤ → List ℕ → Option ℤ
closed_or variables None text = operand_value variables text
closed_or variables (Some v) [] = Some v
closed_or variables (Some v) (b ∷ bs) = None

-- the value of the factor that ends here
abbrev pub factor_of : Environment → State → List ℕ → Option ℤ
factor_of variables s text = closed_or variables s.closed text

-- the value of the term that ends here
abbrev pub term_of : Environment → State → List ℕ → Option ℤ
term_of variables s text = option_and_then (product_with s.frame.before_factor) (factor_of variables s text)

-- the value of the sum that ends here
abbrev pub sum_of : Environment → State → List ℕ → Option ℤ
sum_of variables s text = option_and_then (sum_with s.frame.before_term) (term_of variables s text)

-- no factor stands here yet
abbrev pub is_before_factor : State → List ℕ → Bool
is_before_factor s [] = is_none s.closed
is_before_factor s (b ∷ bs) = false

-- no term stands here yet
abbrev pub is_leading : State → List ℕ → Bool
is_leading s text = is_before_factor s text && (is_none s.frame.before_term && is_none s.frame.before_factor)

-- the state after `(`, which stands before a factor, with at most 16 brackets open
unfoldable pub open_bracket : State → List ℕ → Option State
open_bracket s text = if is_before_factor s text && nat_lt (length s.outer) 16 then Some (at (s.frame ∷ s.outer) fresh None) else None

-- the state after brackets with this value, back in what stands before them
abbrev pub after_brackets : List Frame → ℤ → Option State
after_brackets [] v = None
after_brackets (frame ∷ outer) v = Some (at outer frame (Some v))

-- the state after `)`, which ends a sum
unfoldable pub close_bracket : Environment → State → List ℕ → Option State
close_bracket variables s text = option_and_then (after_brackets s.outer) (sum_of variables s text)

-- the value before the sign of a sum: 0 before the first term
abbrev pub before_sign : Environment → State → List ℕ → Option ℤ
before_sign variables s text = if is_leading s text then Some (pos 0) else sum_of variables s text

-- the state after the sign of a sum
unfoldable pub after_addition : Environment → State → List ℕ → Addition → Option State
after_addition variables s text a = option_map (λ v. at s.outer (frame_after (Some (v, a)) None) None) (before_sign variables s text)

-- the state after the sign of a product
unfoldable pub multiplied_on : Environment → State → List ℕ → Multiplication → Option State
multiplied_on variables s text m = option_map (λ v. at s.outer (frame_after s.frame.before_term (Some (v, m))) None) (term_of variables s text)

-- the state after a sign
abbrev pub step : Environment → State → List ℕ → Sign → Option State
step variables s text Open = open_bracket s text
step variables s text Close = close_bracket variables s text
step variables s text (Add a) = after_addition variables s text a
step variables s text (Multiply m) = multiplied_on variables s text m

-- the value of what was read, where no bracket is open
abbrev pub unless_open : List Frame → Option ℤ → Option ℤ
unless_open [] v = v
unless_open (frame ∷ outer) v = None

-- the value at the end of the text
abbrev pub final_value : Environment → State → List ℕ → Option ℤ
final_value variables s text = unless_open s.outer (sum_of variables s text)

-- a product after which nothing stands, rounded down
abbrev pub rounded_with : Option (ℤ × Addition) → Option (ℤ × Multiplication) → ℤ → Option ℤ
rounded_with None (Some (a, Times)) b = product_below a b
rounded_with _ _ b = None

-- the product at the end of the text, where it is all of it, rounded down
abbrev pub final_product : Environment → State → List ℕ → Option ℤ
final_product variables s text = unless_open s.outer (option_and_then (rounded_with s.frame.before_term s.frame.before_factor) (factor_of variables s text))

-- goes on with a byte of an operand, or with a sign
abbrev pub on_byte : {A : Type 0} → Option Sign → A → (Sign → A) → A
on_byte None stay go = stay
on_byte (Some sign) stay go = go sign

-- the state before the last operand of what was read and what follows it, and that operand
unfoldable pub run : Environment → State → List ℕ → List ℕ → Option (State × List ℕ)
run variables s held [] = Some (s, held)
run variables s held (b ∷ bs) =
    on_byte (sign_of b) (run variables s (held ++ b ∷ []) bs) (λ k. option_and_then (λ t. run variables t [] bs) (step variables s held k))
