-- What a row answers is written: answers, rows, and what stands before and after a prefix.
use Rattle.gerber_commands.proofs.Common.{◌≡◌, ◌⊎◌, inl, inr, ℕ, Bool, true, false, cond, eqb, List, [], ◌∷◌, ◌++◌, length, take, drop, Option, Some, None, is_some, Result, Ok, Err, refl, sym, subst, ◌∙◌, append_assoc, codes, option_map, option_or, AllByRecursion, bytes_eq, take-append-drop, eqb-true, Reason, ◌>>=◌, strip_prefix, Command, Meaning, Row, first_match, fixed_pieces, SpellsOne, HasNoEffect, both_true}
use Rattle.std.specs.List.{Contains}

-- ---- what a test let through

pub guarded : {A : Type 0} (t : Bool) (x y : A) (e : Reason) → cond t (Ok x) (Err e) ≡ Ok y → (t ≡ true) × (x ≡ y)
guarded true x y e h = (refl, cc)
guarded false x y e h = absurd cc

pub refused : {A : Type 0} (t : Bool) (r : Result A Reason) (y : A) (e : Reason) → cond t (Err e) r ≡ Ok y → (t ≡ false) × (r ≡ Ok y)
refused true r y e h = absurd cc
refused false r y e h = (refl, h)

pub allowed : {A : Type 0} (t : Bool) (r : Result A Reason) (y : A) (e : Reason) → cond t r (Err e) ≡ Ok y → (t ≡ true) × (r ≡ Ok y)
allowed true r y e h = (refl, h)
allowed false r y e h = absurd cc

-- ---- texts

-- bytes that a test finds equal
pub bytes_are : (xs ys : List ℕ) → bytes_eq xs ys ≡ true → xs ≡ ys
bytes_are [] [] h = refl
bytes_are [] (y ∷ ys) h = absurd cc
bytes_are (x ∷ xs) [] h = absurd cc
bytes_are (x ∷ xs) (y ∷ ys) h = let k = both_true (eqb x y) (bytes_eq xs ys) h in λ i. eqb-true x y k.0 i ∷ bytes_are xs ys k.1 i

-- the fields of a block, one after the other
pub block_fields_are : (x y i j : List ℕ) → x ++ codes "Y" ++ y ++ codes "I" ++ i ++ codes "J" ++ j ≡ x ++ 89 ∷ (y ++ 73 ∷ (i ++ 74 ∷ j))
block_fields_are x y i j =
    let one = x ++ codes "Y" in
    let two = one ++ y ++ codes "I" in
    append_assoc (two ++ i) (codes "J") j ∙ append_assoc two i (74 ∷ j)
    ∙ append_assoc (one ++ y) (codes "I") (i ++ 74 ∷ j) ∙ append_assoc one y (73 ∷ (i ++ 74 ∷ j))
    ∙ append_assoc x (codes "Y") (y ++ 73 ∷ (i ++ 74 ∷ j))

-- a text with this prefix
pub begins : (prefix text rest : List ℕ) → strip_prefix prefix text ≡ Some rest → text ≡ prefix ++ rest
begins prefix text rest e = by (bytes_eq (take (length prefix) text) prefix) refl e
  where
    by : (t : Bool) → bytes_eq (take (length prefix) text) prefix ≡ t → cond t (Some (drop (length prefix) text)) None ≡ Some rest → text ≡ prefix ++ rest
    by true same h =
        let left : drop (length prefix) text ≡ rest = cc in
        sym (take-append-drop (length prefix) text) ∙ (λ i. bytes_are (take (length prefix) text) prefix same i ++ left i)
    by false same h = absurd cc

pub some_of : {A : Type 0} (o : Option A) → is_some o ≡ true → (x : A) × (o ≡ Some x)
some_of None h = absurd cc
some_of (Some x) h = (x, refl)

-- ---- what is said of an answer, of a row and of rows

-- a piece without `*` that is written for these commands
abbrev pub IsPlain : List ℕ → List Command → Type 0
IsPlain text spelled = Contains fixed_pieces (text, spelled) ⊎ (((c : Command) × SpellsOne text c × (spelled ≡ c ∷ [])) ⊎ (HasNoEffect text × (spelled ≡ [])))

-- the text is written for the commands of an answer
unfoldable pub MeaningIsWritten : List ℕ → Meaning → Type 0
MeaningIsWritten text (Ok cs) = IsPlain text cs
MeaningIsWritten text (Err r) = Unit {0}

-- and for those of a row, where it fits
unfoldable pub RowIsWritten : List ℕ → Row → Type 0
RowIsWritten text None = Unit {0}
RowIsWritten text (Some m) = MeaningIsWritten text m

pub answer_written : (text : List ℕ) (m : Meaning) (cs : List Command) → MeaningIsWritten text m → m ≡ Ok cs → IsPlain text cs
unfolding MeaningIsWritten
answer_written text m cs h e = subst (MeaningIsWritten text) e h

pub refusal_written : (text : List ℕ) (e : Reason) → MeaningIsWritten text (Err e)
unfolding MeaningIsWritten
refusal_written text e = tt

pub one_written : (text : List ℕ) (c : Command) → SpellsOne text c → MeaningIsWritten text (Ok (c ∷ []))
unfolding MeaningIsWritten
one_written text c h = inr (inl (c, h, refl))

pub idle_written : (text : List ℕ) → HasNoEffect text → MeaningIsWritten text (Ok [])
unfolding MeaningIsWritten
idle_written text h = inr (inr (h, refl))

pub fixed_written : (text : List ℕ) (cs : List Command) → Contains fixed_pieces (text, cs) → MeaningIsWritten text (Ok cs)
unfolding MeaningIsWritten
fixed_written text cs h = inl h

pub cond_written : (text : List ℕ) (t : Bool) (a b : Meaning) → (t ≡ true → MeaningIsWritten text a) → (t ≡ false → MeaningIsWritten text b) → MeaningIsWritten text (cond t a b)
cond_written text true a b h k = h refl
cond_written text false a b h k = k refl

pub bind_written : (text : List ℕ) {A : Type 0} (r : Result A Reason) (f : A → Meaning) → ((x : A) → r ≡ Ok x → MeaningIsWritten text (f x)) → MeaningIsWritten text (r >>= f)
unfolding MeaningIsWritten
bind_written text (Ok x) f h = h x refl
bind_written text (Err e) f h = tt

pub first_written : (text : List ℕ) (rows : List Row) → AllByRecursion (RowIsWritten text) rows → MeaningIsWritten text (first_match rows)
unfolding MeaningIsWritten RowIsWritten
first_written text [] h = tt
first_written text (None ∷ rows) h = first_written text rows h.1
first_written text (Some m ∷ rows) h = h.0

pub no_row : (text : List ℕ) → RowIsWritten text None
unfolding RowIsWritten
no_row text = tt

pub row_is : (text : List ℕ) (m : Meaning) → MeaningIsWritten text m → RowIsWritten text (Some m)
unfolding RowIsWritten
row_is text m h = h

-- a row that only refuses
pub row_refuses : (text : List ℕ) (t : Bool) (e : Reason) → RowIsWritten text (cond t (Some (Err e)) None)
unfolding RowIsWritten MeaningIsWritten
row_refuses text true e = tt
row_refuses text false e = tt

pub row_cond : (text : List ℕ) (t : Bool) (a b : Row) → (t ≡ true → RowIsWritten text a) → (t ≡ false → RowIsWritten text b) → RowIsWritten text (cond t a b)
row_cond text true a b h k = h refl
row_cond text false a b h k = k refl

pub row_map : (text : List ℕ) {A : Type 0} (f : A → Meaning) (o : Option A) → ((x : A) → o ≡ Some x → MeaningIsWritten text (f x)) → RowIsWritten text (option_map f o)
unfolding RowIsWritten
row_map text f None h = tt
row_map text f (Some x) h = h x refl

pub row_or : (text : List ℕ) (a b : Row) → RowIsWritten text a → RowIsWritten text b → RowIsWritten text (option_or a b)
unfolding RowIsWritten
row_or text None b h k = k
row_or text (Some m) b h k = h

-- a row that begins with a literal that is written for what it spells
pub row_literal : (text form : List ℕ) (m : Meaning) (rest : Row) → MeaningIsWritten form m → RowIsWritten text rest → RowIsWritten text (cond (bytes_eq text form) (Some m) rest)
unfolding RowIsWritten
row_literal text form m rest h k = row_cond text (bytes_eq text form) (Some m) rest (λ same. subst (λ (t : List ℕ). MeaningIsWritten t m) (sym (bytes_are text form same)) h) (λ _. k)
