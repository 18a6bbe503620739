use Rattle.ring_rules.proofs.Common.{◌≡◌, ℕ, List, map, ap, ◌∙◌, IfOk-weaker, Contains, gap_findings, IsClash, Drilled, Gap}
use Rattle.ring_rules.proofs.ClashLemmas.{gaps_listed}
use Rattle.ring_rules.proofs.gaps.gaps_of.Goals as goal

pub returns : goal.returns
returns c =
    IfOk-weaker c.gaps_at.result (λ v. v.items ≡ map (λ (p : ℕ × ℕ). Gap p.0 p.1) c.deref.result.now)
    (λ v. (gap : ℕ) (holes : List Drilled) → ((p : ℕ × ℕ) → Contains c.args.pairs.items p → IsClash gap holes p) → ((p : ℕ × ℕ) → IsClash gap holes p → Contains c.args.pairs.items p) → v.items ≡ gap_findings gap holes)
    (λ v h gap holes sound complete. h ∙ (ap (map (λ (p : ℕ × ℕ). Gap p.0 p.1)) c.deref.ensures.value ∙ gaps_listed gap holes c.args.pairs.items c.sort_pairs.new.pairs.items c.remove_duplicates.new.pairs.items sound complete c.sort_pairs.ensures.same c.remove_duplicates.ensures.rising c.remove_duplicates.ensures.kept c.remove_duplicates.ensures.none))
    c.gaps_at.ensures
