-- What is drilled, and the first rule that it breaks.
use Rattle.drill_text.proofs.Common.{◌≡◌, ℕ, ℤ, Bool, true, false, cond, ◌||◌, ◌/◌, unsigned_abs, nat_le, [], ◌∷◌, Option, None, Some, Result, Ok, Err, refl, sym, ap, ◌∙◌, find, Profile, Strict, Wide, Reason, NoTool, BadSize, TooFar, TooManyHoles, ◌>>=◌, is_too_far, within_limit, GridHole, Coordinates, DrillCommand, StateView, DrillPath, hole_of, defines_alike, first_broken, first_broken_in, applies, has_no_tool, has_bad_size, redefines_tool, max_holes, path_between, no_point, hole_in, width_with, List, AllByRecursion}
use Rattle.grid_units.specs.Points.{GridPoint}
use Rattle.drill_lines.specs.declared.command.DrillCommand.TheVariants as command
use Rattle.drill_text.specs.Rules.{rules}

-- a value, unless a rule is broken
pub ok_unless : {A : Type 0} → Option Reason → A → Result A Reason
ok_unless None x = Ok x
ok_unless (Some r) x = Err r

pub unless_ok : {A : Type 0} (o : Option Reason) (x y : A) → ok_unless o x ≡ Ok y → (o ≡ None) × (x ≡ y)
unfolding ok_unless
unless_ok None x y e = (refl, cc)
unless_ok (Some r) x y e = absurd cc

pub unless_err : {A : Type 0} (o : Option Reason) (x : A) (r : Reason) → ok_unless o x ≡ Err r → o ≡ Some r
unfolding ok_unless
unless_err None x r e = absurd cc
unless_err (Some q) x r e = cc

-- the chain of tests is the list of rules
rule_order : {W P H : Type 0} (w : W) (from to : P) (hole : W → P → P → H) (no bad fw fx fy tx ty many : Bool)
    → (cond no (Err NoTool) (cond bad (Err BadSize) (cond fw (Err TooFar) (Ok w))) >>= λ width. (cond (fx || fy) (Err TooFar) (Ok from) >>= λ f. (cond (tx || ty) (Err TooFar) (Ok to) >>= λ t. cond many (Err TooManyHoles) (Ok (hole width f t)))))
    ≡ ok_unless (cond no (Some NoTool) (cond bad (Some BadSize) (cond (fx || (fy || (tx || (ty || fw)))) (Some TooFar) (cond many (Some TooManyHoles) None)))) (hole w from to)
unfolding ok_unless
rule_order w from to hole true bad fw fx fy tx ty many = refl
rule_order w from to hole false true fw fx fy tx ty many = refl
rule_order w from to hole false false true true fy tx ty many = refl
rule_order w from to hole false false true false true tx ty many = refl
rule_order w from to hole false false true false false true ty many = refl
rule_order w from to hole false false true false false false true many = refl
rule_order w from to hole false false true false false false false many = refl
rule_order w from to hole false false false true fy tx ty many = refl
rule_order w from to hole false false false false true tx ty many = refl
rule_order w from to hole false false false false false true ty many = refl
rule_order w from to hole false false false false false false true many = refl
rule_order w from to hole false false false false false false false true = refl
rule_order w from to hole false false false false false false false false = refl

-- a hole of a diameter from one point to another
whole : ℤ → GridPoint → GridPoint → GridHole
whole width from to = record { from = from; to = to; radius = unsigned_abs width / 2 }

-- a slot breaks the rules that its hole does
pub slot_rule : (s : StateView) (count : ℕ) (p q : Coordinates) → hole_in s count p q ≡ ok_unless (first_broken s count (Some (path_between s p q)) (command.Slot p q)) (hole_of (path_between s p q))
unfolding first_broken within_limit width_with whole
slot_rule s count p q =
    let d = path_between s p q in
    rule_order d.diameter d.from d.to whole (has_no_tool s) (has_bad_size d) (is_too_far d.diameter) (is_too_far d.from.x) (is_too_far d.from.y) (is_too_far d.to.x) (is_too_far d.to.y) (nat_le max_holes count)

pub hit_rule : (s : StateView) (count : ℕ) (p : Coordinates) → hole_in s count p no_point ≡ ok_unless (first_broken s count (Some (path_between s p no_point)) (command.Hit p)) (hole_of (path_between s p no_point))
unfolding first_broken within_limit width_with whole
hit_rule s count p =
    let d = path_between s p no_point in
    rule_order d.diameter d.from d.to whole (has_no_tool s) (has_bad_size d) (is_too_far d.diameter) (is_too_far d.from.x) (is_too_far d.from.y) (is_too_far d.to.x) (is_too_far d.to.y) (nat_le max_holes count)

-- a command that defines no tool again breaks the same rules in each profile
pub same_rules : (profile : Profile) (s : StateView) (count : ℕ) (drill_path : Option DrillPath) (c : DrillCommand) → defines_alike s c ≡ false → first_broken_in profile s count drill_path c ≡ first_broken s count drill_path c
same_rules Strict s count drill_path c none = refl
same_rules Wide s count drill_path c none = ap (λ t. cond t None (first_broken s count drill_path c)) none

-- where no element is found, each fails the test
fails_first : {A : Type 0} (t : Bool) (x : A) (rest : Option A) → cond t (Some x) rest ≡ None → (t ≡ false) × (rest ≡ None)
fails_first true x rest e = absurd cc
fails_first false x rest e = (refl, e)

pub none_found : {A : Type 0} (test : A → Bool) (xs : List A) → find test xs ≡ None → AllByRecursion (λ x. test x ≡ false) xs
none_found test [] e = tt
none_found test (x ∷ xs) e = let first = fails_first (test x) x (find test xs) e in (first.0, none_found test xs first.1)

-- a command that breaks no rule defines no tool again
not_redefined : (s : StateView) (count : ℕ) (drill_path : Option DrillPath) (c : DrillCommand) → first_broken s count drill_path c ≡ None → redefines_tool s c ≡ false
unfolding first_broken
not_redefined s count drill_path c e = (none_found (applies s count drill_path c) rules e).1.1.1.0

-- one that breaks no rule of its profile defines none again but with the diameter that it has
pub not_changed : (profile : Profile) (s : StateView) (count : ℕ) (drill_path : Option DrillPath) (c : DrillCommand) → first_broken_in profile s count drill_path c ≡ None → redefines_tool s c ≡ true → defines_alike s c ≡ true
not_changed Strict s count drill_path c e some = let no : true ≡ false = sym some ∙ not_redefined s count drill_path c e in absurd cc
not_changed Wide s count drill_path c e some = by (defines_alike s c) refl e
  where
    by : (t : Bool) → defines_alike s c ≡ t → cond t None (first_broken s count drill_path c) ≡ None → defines_alike s c ≡ true
    by true is k = is
    by false is k = let no : true ≡ false = sym some ∙ not_redefined s count drill_path c k in absurd cc
