-- Chains of steps that may be refused.
use Rattle.std.proofs.Common.{◌≡◌, ◌⊎◌, inl, inr, Bool, true, false, cond, Result, Ok, Err, refl, ap}
use Rattle.grid_units.specs.declared.fault.Reason.{Reason}
use Rattle.grid_units.specs.Results.{◌>>=◌, both}

pub bind_ok : {A B E : Type 0} (r : Result A E) (f : A → Result B E) (y : B) → (r >>= f) ≡ Ok y → (x : A) × (r ≡ Ok x) × (f x ≡ Ok y)
bind_ok (Ok x) f y e = (x, refl, e)
bind_ok (Err d) f y e = absurd cc

-- an error of a chain is that of its first step, or of the second
pub bind_err : {A B E : Type 0} (r : Result A E) (f : A → Result B E) (d : E) → (r >>= f) ≡ Err d → (r ≡ Err d) ⊎ ((x : A) × (r ≡ Ok x) × (f x ≡ Err d))
bind_err (Ok x) f d e = inr (x, refl, e)
bind_err (Err b) f d e = let same : b ≡ d = cc in inl (ap (λ z. Err z) same)

pub bind_assoc : {A B C E : Type 0} (r : Result A E) (f : A → Result B E) (g : B → Result C E) → ((r >>= f) >>= g) ≡ (r >>= λ x. (f x >>= g))
bind_assoc (Ok x) f g = refl
bind_assoc (Err d) f g = refl

-- a step that only tests
pub guard_ok : {A E : Type 0} (t : Bool) (d : E) (x y : A) → cond t (Err d) (Ok x) ≡ Ok y → (t ≡ false) × (x ≡ y)
guard_ok true d x y e = absurd cc
guard_ok false d x y e = (refl, cc)

pub guard_err : {A E : Type 0} (t : Bool) (d f : E) (x : A) → cond t (Err d) (Ok x) ≡ Err f → (t ≡ true) × (d ≡ f)
guard_err true d f x e = (refl, cc)
guard_err false d f x e = absurd cc

pub bind_cong : {A B E : Type 0} (r : Result A E) (f g : A → Result B E) → ((x : A) → f x ≡ g x) → (r >>= f) ≡ (r >>= g)
bind_cong (Ok x) f g h = h x
bind_cong (Err e) f g h = refl

pub bind_Ok : {A E : Type 0} (r : Result A E) → (r >>= λ x. Ok x) ≡ r
bind_Ok (Ok x) = refl
bind_Ok (Err e) = refl

-- both of two fields, where both are read
pub both_ok : {A B : Type 0} (a : Result A Reason) (b : Result B Reason) (x : A × B) → both a b ≡ Ok x → (a ≡ Ok x.0) × (b ≡ Ok x.1)
both_ok {A = A} {B = B} (Ok u) (Ok v) x e = let same : (let p : A × B = (u, v) in p ≡ x) = cc in (ap (λ (q : A × B). Ok q.0) same, ap (λ (q : A × B). Ok q.1) same)
both_ok (Ok u) (Err f) x e = absurd cc
both_ok (Err d) (Ok v) x e = absurd cc
both_ok (Err d) (Err f) x e = absurd cc
