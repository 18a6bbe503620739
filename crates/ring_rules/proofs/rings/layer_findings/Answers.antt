use Rattle.ring_rules.proofs.Common.{◌≡◌, ℕ, Bool, true, false, List, map, get_or, ◌++◌, ◌∷◌, [], ap, sym, ◌∙◌, get_or-map, finding_of, Drilled, Finding}
use Rattle.ring_rules.proofs.EnumeratedLists.{listed, listed_more, listed_more_none, enumerated_all}
use Rattle.ring_rules.proofs.rings.layer_findings.Goals as goal
use Rattle.ring_rules.proofs.rings.layer_findings.Goals.{then-lacking-hole+in_ok-push, else-lacking-hole}

pub loop-hole-preserved : goal.loop-hole-preserved
loop-hole-preserved c =
    let k = c.loop-hole.hole in
    let d = c.index-holes-hole.result in
    let at : get_or c.args.holes.now k d ≡ d = sym c.index-holes-hole.is in
    let mark : (test : Drilled → Bool) → c.args.lacking.now ≡ map test c.args.holes.now → (b : Bool) → get_or c.args.lacking.now k false ≡ b → test (get_or c.args.holes.now k d) ≡ b =
    λ test e b is. sym (get_or-map test c.args.holes.now k d false c.loop-hole-test.true) ∙ (ap (λ (bs : List Bool). get_or bs k false) (sym e) ∙ is) in
    elim c.if-lacking-hole.branch [
      | then-lacking-hole+in_ok-push w ↦ λ test e.
          ap (λ v. v.items) w.findings-is ∙ (w.in_ok-push.ensures.items
          ∙ (ap (λ (f : Finding). c.loop-hole.findings.items ++ f ∷ []) (w.finding_of.ensures ∙ ap (λ (x : Drilled). finding_of c.args.profile c.args.layer (k, x)) (sym at))
          ∙ listed_more (finding_of c.args.profile c.args.layer) (λ (hole : ℕ × Drilled). test hole.1) true _ _ c.args.holes.now k d c.loop-hole-test.true (mark test e true w.if-lacking-hole.true) (c.loop-hole.invariant test e)))
      | else-lacking-hole w ↦ λ test e. ap (λ v. v.items) w.findings-is ∙ listed_more_none (finding_of c.args.profile c.args.layer) (λ (hole : ℕ × Drilled). test hole.1) _ _ c.args.holes.now k d c.loop-hole-test.true (mark test e false w.if-lacking-hole.false) (c.loop-hole.invariant test e)
    ]

pub returns : goal.returns
returns c = λ test e.
    c.loop-hole.invariant test e ∙ ap (λ xs. c.args.findings.now.items ++ listed (finding_of c.args.profile c.args.layer) (λ (hole : ℕ × Drilled). test hole.1) xs) (enumerated_all c.args.holes.now c.loop-hole.hole c.loop-hole-test.false)
