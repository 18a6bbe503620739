use Rattle.ring_rules.proofs.Common.{◌≡◌, Bool, List, map, sym, subst, ◌∙◌, Result, Ok, Err, IfOk, GridRules, is_ring_finding, AreMarkedBy, HasTriedCoverings, IsSearchOver, Drilled}
use Rattle.ring_rules.proofs.layer_search.LayerSearch.over.Goals as goal

-- what follows from three facts of a value
from_three : {X E : Type 0} (r : Result X E) (P Q R T : X → Type 0) → ((x : X) → P x → Q x → R x → T x) → IfOk r P → IfOk r Q → IfOk r R → IfOk r T
from_three (Ok x) P Q R T so p q r = so x p q r
from_three (Err e) P Q R T so p q r = p

pub returns-clause-tried : goal.returns-clause-tried
returns-clause-tried c = λ layer tried was.
    let holes : List Drilled = c.args.holes.now in
    let index = c.args.index.now in
    let other = c.args.other.now in
    let test : Drilled → Bool = is_ring_finding (λ covering. covering) c.args.index.now.rules.profile c.args.index.now.rules.ring layer tried in
    let marked = subst (λ (ms : List Bool). AreMarkedBy test holes index ms) (sym c.deref.ensures.value) was.marks in
    let listed = c.in_ok-lacking.ensures.marks test marked in
    from_three c.from_marks.result (IsSearchOver other) (λ search. search.layer ≡ c.args.self.now.layer)
    (λ search. (tested : Drilled → Bool) → c.deref-2.result.now ≡ map tested holes → AreMarkedBy tested holes other search.marks.items) (HasTriedCoverings holes layer tried other)
    (λ search over same marks. record {
      listed = c.requires.other;
      over = over;
      same_layer = same ∙ was.same_layer;
      marks = subst (λ (rules : GridRules). AreMarkedBy (is_ring_finding (λ covering. covering) rules.profile rules.ring layer tried) holes other search.marks.items) (sym c.requires.rules)
          (marks test (c.deref-2.ensures.value ∙ listed));
    })
    c.from_marks.ensures.over c.from_marks.ensures.layer c.from_marks.ensures.marks
