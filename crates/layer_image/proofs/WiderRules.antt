-- A list that is legal in the strict profile is legal in the wide one.
use Rattle.layer_image.proofs.Common.{◌≡◌, ◌∙◌, ℕ, List, [], ◌∷◌, ◌++◌, length, Option, Some, None, Bool, true, false, cond, not, ◌&&◌, refl, ap, find, filter_map, cons_option, option_map, violation_at, with_prefixes_from, IsLegal, Strict, Wide, Reason, Command, GraphicsState, flashes_of, state_after, all_rules, breaks_rule, broken_rule_in, first_broken, may_define_again, template_numbered}
use Rattle.layer_features.proofs.LegalFlashes.{none_broken}
use Rattle.grid_units.specs.declared.fault.Reason.TheVariants as reason

first_fails : {A : Type 0} (b : Bool) (x : A) (o : Option A) → cond b (Some x) o ≡ None → (b ≡ false) × (o ≡ None)
first_fails true x o h = absurd cc
first_fails false x o h = (refl, h)

-- where nothing passes one test, nothing passes a stricter one
none_passes : {A : Type 0} (p q : A → Bool) (xs : List A) → ((x : A) → p x ≡ false → q x ≡ false) → find p xs ≡ None → find q xs ≡ None
none_passes p q [] fewer h = refl
none_passes p q (x ∷ xs) fewer h =
    let both = first_fails (p x) x (find p xs) h in
    (λ i. cond (fewer x both.0 i) (Some x) (find q xs)) ∙ none_passes p q xs fewer both.1

neither : (redefines again : Bool) → (redefines && true) ≡ false → (redefines && not again) ≡ false
neither true again h = absurd cc
neither false again h = refl

-- a rule that does not apply does not apply where a command may define again
fewer_apply : (again : Bool) (s : GraphicsState) (count : ℕ) (c : Command) (r : Reason) → breaks_rule false s count c r ≡ false → breaks_rule again s count c r ≡ false
fewer_apply again s count c reason.Redefined h = neither _ again h
fewer_apply again s count c r h = h

wider : (before : List Command) (c : Command) → broken_rule_in Strict before c ≡ None → broken_rule_in Wide before c ≡ None
unfolding first_broken
wider before c h =
    let again = may_define_again Wide (template_numbered before) c in
    let s = state_after before in
    let count = length (flashes_of before) in
    none_passes (breaks_rule false s count c) (breaks_rule again s count c) all_rules (fewer_apply again s count c) h

wider_from : (before cs : List Command) → filter_map (violation_at (broken_rule_in Strict)) (with_prefixes_from before cs) ≡ [] → filter_map (violation_at (broken_rule_in Wide)) (with_prefixes_from before cs) ≡ []
wider_from before [] h = refl
wider_from before (c ∷ cs) h =
    let both = none_broken (λ (r : Reason). (length before, r)) (broken_rule_in Strict before c) _ h in
    ap (λ (o : Option Reason). cons_option (option_map (λ (r : Reason). (length before, r)) o) (filter_map (violation_at (broken_rule_in Wide)) (with_prefixes_from (before ++ c ∷ []) cs))) (wider before c both.0)
    ∙ wider_from (before ++ c ∷ []) cs both.1

pub wider_legal : (commands : List Command) → IsLegal (broken_rule_in Strict) commands → IsLegal (broken_rule_in Wide) commands
wider_legal commands legal = wider_from [] commands legal
