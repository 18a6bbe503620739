-- The reason of a fault is that of a rule, or of the text.
use Rattle.layer_image.proofs.Common.{◌≡◌, inl, inr, ℕ, suc, Bool, true, false, cond, List, [], ◌∷◌, ◌++◌, length, Option, Some, None, unwrap_or, slice_get, refl, sym, ap, subst, ◌∙◌, arith, filter_map, cons_option, find, Contains, option_map, violation_at, with_prefixes_from, fault, Fault, Reason, Command, Entries, fault_of, flashes_of, LayerReasonsIn, state_after, all_rules, breaks_rule, broken_rule_in, first_broken, may_define_again, template_numbered, Profile, without_places}

-- what a search finds is in the list
found : {A : Type 0} (p : A → Bool) (xs : List A) (x : A) → find p xs ≡ Some x → Contains xs x
found p [] x h = absurd cc
found p (y ∷ ys) x h = by (p y) refl (found p ys x)
  where
    by : (b : Bool) → p y ≡ b → (find p ys ≡ Some x → Contains ys x) → Contains (y ∷ ys) x
    by true e rest = (0, omega arith, cc)
    by false e rest = let r = rest (ap (λ b. cond b (Some y) (find p ys)) (sym e) ∙ h) in (suc r.0, omega (arith, r.1), r.2)

-- the rule that a command breaks is in the table
rule_listed : (profile : Profile) (before : List Command) (c : Command) (r : Reason) → broken_rule_in profile before c ≡ Some r → Contains all_rules r
unfolding first_broken
rule_listed profile before c r h = found (breaks_rule (may_define_again profile (template_numbered before) c) (state_after before) (length (flashes_of before)) c) all_rules r h

reason_is : (o q : Option (ℕ × Fault)) (g f : Fault) → o ≡ q → option_map (λ (p : ℕ × Fault). p.1) o ≡ Some g → option_map (λ (p : ℕ × Fault). p.1) q ≡ Some f → g.reason ≡ f.reason
reason_is o q g f e a b =
    let same : Some g ≡ Some f = sym a ∙ ap (option_map (λ (p : ℕ × Fault). p.1)) e ∙ b in
    ap (λ (h : Option Fault). unwrap_or (option_map (λ (d : Fault). d.reason) h) f.reason) same

first_listed : (profile : Profile) (first cs : Entries) (k : ℕ) (f : Fault) → slice_get (filter_map (violation_at (fault_of profile)) (with_prefixes_from first cs)) 0 ≡ Some (k, f) → Contains all_rules f.reason
first_listed profile first [] k f h = absurd cc
first_listed profile first (e ∷ cs) k f h = by (broken_rule_in profile (without_places first) e.what) refl (first_listed profile (first ++ e ∷ []) cs k f)
  where
    more : List (ℕ × Fault)
    more = filter_map (violation_at (fault_of profile)) (with_prefixes_from (first ++ e ∷ []) cs)

    head : (o : Option Reason) → broken_rule_in profile (without_places first) e.what ≡ o → slice_get (cons_option (option_map (λ g. (length first, g)) (option_map (fault e.place e.byte) o)) more) 0 ≡ Some (k, f)
    head o q = ap (λ p. slice_get (cons_option (option_map (λ g. (length first, g)) (option_map (fault e.place e.byte) p)) more) 0) (sym q) ∙ h

    by : (o : Option Reason) → broken_rule_in profile (without_places first) e.what ≡ o → (slice_get more 0 ≡ Some (k, f) → Contains all_rules f.reason) → Contains all_rules f.reason
    by None q rest = rest (head None q)
    by (Some r) q rest =
        subst (Contains all_rules) (reason_is _ _ (fault e.place e.byte r) f (head (Some r) q) refl refl) (rule_listed profile (without_places first) e.what r q)

pub reason_is_of_rule : LayerReasonsIn
reason_is_of_rule profile text f (inl h) = inl (first_listed profile [] h.1 h.3.0 f h.3.1)
reason_is_of_rule profile text f (inr h) = inr h.1
