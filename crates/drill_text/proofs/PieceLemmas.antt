-- What a text shows as it goes on: the first fault stays, and so do a reader's commands.
use Rattle.drill_text.proofs.Common.{◌≡◌, ◌≢◌, ℕ, inl, inr, Bool, true, false, eqb, List, [], ◌∷◌, ◌++◌, take, drop, Err, refl, sym, ap, subst, ◌∙◌, arith, append_assoc, append-nil, length-append, take-append-drop, eqb-true, eqb-false, Fault, Fail, Keep, Progress, Kind, spelled_in, shown_by, Holds, HasFault, Advances, Refuses}
use Rattle.grid_units.specs.declared.fault.Fail.TheVariants as fails
use Rattle.drill_text.proofs.SplitsLemmas.{Splits-grow, Splits-close}
use Rattle.drill_text.proofs.ProfileLemmas.{shown_by_ok, shown_by_err, show_by_err, show_by_long, show_by_push, show_by_push_err, too_long}

-- ---- a fault stays

fault_grows : (p : Kind) (text : List ℕ) (b : ℕ) (f : Fault) → b ≢ 10 → HasFault p text f → HasFault p (text ++ b ∷ []) f
fault_grows p text b f inside h = record {
  lines = h.lines;
  rest = h.rest ++ b ∷ [];
  splits = Splits-grow text h.lines h.rest (b ∷ []) h.splits (inside, tt);
  fault = elim (shown_by_err p h.lines h.rest f h.fault) [
    | inl k ↦ show_by_err p h.lines (h.rest ++ b ∷ []) f k
    | inr k ↦ show_by_long p h.lines (h.rest ++ b ∷ []) k.0 k.1 (omega (arith, k.2, length-append h.rest (b ∷ []))) ∙ ap (λ (g : Fault). Err g) k.3
  ];
}

fault_closes : (p : Kind) (text : List ℕ) (f : Fault) → HasFault p text f → HasFault p (text ++ 10 ∷ []) f
fault_closes p text f h = record {
  lines = h.lines ++ h.rest ∷ [];
  rest = [];
  splits = Splits-close text h.lines h.rest h.splits;
  fault = elim (shown_by_err p h.lines h.rest f h.fault) [
    | inl k ↦ show_by_push_err p h.lines h.rest f k
    | inr k ↦ show_by_push p h.lines h.rest k.0 k.1 ∙ (too_long p h.lines h.rest k.0 k.2 ∙ ap (λ (g : Fault). Err g) k.3)
  ];
}

one_more : (t : Bool) (p : Kind) (text : List ℕ) (b : ℕ) (f : Fault) → eqb b 10 ≡ t → HasFault p text f → HasFault p (text ++ b ∷ []) f
one_more true p text b f e h = subst (λ c. HasFault p (text ++ c ∷ []) f) (sym (eqb-true b 10 e)) (fault_closes p text f h)
one_more false p text b f e h = fault_grows p text b f (eqb-false b 10 e) h

pub fault_stays : (p : Kind) (text more : List ℕ) (f : Fault) → HasFault p text f → HasFault p (text ++ more) f
fault_stays p text [] f h = subst (λ (x : List ℕ). HasFault p x f) (sym (append-nil text)) h
fault_stays p text (b ∷ more) f h =
    subst (λ (x : List ℕ). HasFault p x f) (append_assoc text (b ∷ []) more)
    (fault_stays p (text ++ b ∷ []) more f (one_more (eqb b 10) p text b f refl h))

-- ---- readers

-- what is shown with one more line, by a reader that holds this text
pub closed : {p : Kind} {keep : Keep} (old : Progress) (text line : List ℕ) (h : Holds old p keep text) → shown_by p (h.lines ++ line ∷ []) [] ≡ spelled_in p h.lines line h.commands
closed {p = p} old text line h = show_by_push p h.lines line h.commands (shown_by_ok p h.lines old.line.items h.commands h.spelled).0

pub Refuses-longer : (old : Progress) (xs ys : List ℕ) (e : Fail) → Refuses old xs e → Refuses old (xs ++ ys) e
Refuses-longer old xs ys fails.Memory h = tt
Refuses-longer old xs ys (fails.Refused f) h = λ p keep text holds. subst (λ (x : List ℕ). HasFault p x f) (append_assoc text xs ys) (fault_stays p (text ++ xs) ys f (h p keep text holds))

pub Advances-then : (a b c : Progress) (xs ys : List ℕ) → Advances a b xs → Advances b c ys → Advances a c (xs ++ ys)
Advances-then a b c xs ys h k = λ p keep text holds. subst (Holds c p keep) (append_assoc text xs ys) (k p keep (text ++ xs) (h p keep text holds))

pub Refuses-then : (a b : Progress) (xs ys : List ℕ) (e : Fail) → Advances a b xs → Refuses b ys e → Refuses a (xs ++ ys) e
Refuses-then a b xs ys fails.Memory h k = tt
Refuses-then a b xs ys (fails.Refused f) h k = λ p keep text holds. subst (λ (x : List ℕ). HasFault p x f) (append_assoc text xs ys) (k p keep (text ++ xs) (h p keep text holds))

pub Refuses-prefix : (old : Progress) (bytes : List ℕ) (n : ℕ) (e : Fail) → Refuses old (take n bytes) e → Refuses old bytes e
Refuses-prefix old bytes n e h = subst (λ (x : List ℕ). Refuses old x e) (take-append-drop n bytes) (Refuses-longer old (take n bytes) (drop n bytes) e h)
