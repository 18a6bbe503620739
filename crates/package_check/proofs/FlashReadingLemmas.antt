-- What holds of results.
use Rattle.package_check.proofs.Common.{◌≡◌, Result, Ok, Err, OnOk}

-- what holds anyway holds of a success
pub held : {T E : Type 0} (r : Result T E) (X : Type 0) → X → OnOk r X
held (Ok t) X h = h
held (Err e) X h = tt

-- what two successes hold that are the same, and what two failures do
pub ok_same : {A E : Type 0} {x y : A} → (let a : Result A E = Ok x in let b : Result A E = Ok y in a ≡ b) → x ≡ y
ok_same e = cc

pub err_same : {A E : Type 0} {f g : E} → (let a : Result A E = Err f in let b : Result A E = Err g in a ≡ b) → f ≡ g
err_same e = cc

pub ok_or_err : {A E : Type 0} {x : A} {f : E} → (let a : Result A E = Ok x in let b : Result A E = Err f in a ≡ b) → ⊥
ok_or_err e = cc
