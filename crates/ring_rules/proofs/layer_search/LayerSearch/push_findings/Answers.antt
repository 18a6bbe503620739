use Rattle.ring_rules.proofs.Common.{Bool, List, map, ◌++◌, sym, subst, ◌∙◌, filter, enumerate_from, on_ok_weaker, finding_of, is_ring_finding, AreMarkedBy, Drilled}
use Rattle.ring_rules.proofs.layer_search.LayerSearch.push_findings.Goals as goal

pub returns : goal.returns
returns c =
    let holes : List Drilled = c.args.holes.now in
    on_ok_weaker c.layer_findings.result (λ listed layer tried was.
    let test : Drilled → Bool = is_ring_finding (λ covering. covering) c.args.index.now.rules.profile c.args.index.now.rules.ring layer tried in
    let marked = subst (λ (ms : List Bool). AreMarkedBy test holes c.args.index.now ms) (sym c.deref.ensures.value) was.marks in
    listed test (c.deref-2.ensures.value ∙ c.in_ok-lacking.ensures.marks test marked)
    ∙ (λ j. c.args.findings.now.items ++ map (finding_of (c.profile.ensures j) (was.same_layer j)) (filter (λ hole. test hole.1) (enumerate_from 0 holes))))
    c.layer_findings.ensures
