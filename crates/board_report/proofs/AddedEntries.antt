-- The entries of findings, one after the other.
use Rattle.board_report.proofs.Common.{◌++◌, ◌∷◌, Bool, true, false, cond, List, [], sym, subst, AllZip, filter, append-nil, filter-append, Finding, AddsEntry}

module _ {T : Type 0} (R : Finding → T → Type 0) where
  zip_more : (xs : List Finding) (ts : List T) (x : Finding) (t : T) → AllZip R xs ts → R x t → AllZip R (xs ++ x ∷ []) (ts ++ t ∷ [])
  zip_more [] [] x t h r = (r, tt)
  zip_more [] (u ∷ us) x t h r = absurd h
  zip_more (y ∷ ys) [] x t h r = absurd h
  zip_more (y ∷ ys) (u ∷ us) x t h r = (h.0, zip_more ys us x t h.1 r)

  by_test : (b : Bool) (xs : List Finding) (x : Finding) (old new : List T) → AllZip R xs old → AddsEntry b R x old new → AllZip R (xs ++ cond b (x ∷ []) []) new
  by_test true xs x old new h a = subst (AllZip R (xs ++ x ∷ [])) (sym a.2) (zip_more xs old x a.0 h a.1)
  by_test false xs x old new h a = subst (λ (ys : List Finding). AllZip R ys new) (sym (append-nil xs)) (subst (AllZip R xs) (sym a) h)

  -- one more finding, with or without an entry
  pub added : (p : Finding → Bool) (xs : List Finding) (x : Finding) (old new : List T) → AllZip R (filter p xs) old → AddsEntry (p x) R x old new → AllZip R (filter p (xs ++ x ∷ [])) new
  added p xs x old new h a = subst (λ (ys : List Finding). AllZip R ys new) (sym (filter-append p xs (x ∷ []))) (by_test (p x) (filter p xs) x old new h a)
