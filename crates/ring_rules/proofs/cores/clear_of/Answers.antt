use Rattle.ring_rules.proofs.Common.{◌∙◌, sym}
use Rattle.ring_rules.proofs.CoreLemmas.{clear_from_test, test_from_clear, clear_holes_are_apart}
use Rattle.ring_rules.proofs.cores.clear_of.Goals as goal

pub returns-clause-exact : goal.returns-clause-exact
returns-clause-exact c =
    (λ h. clear_from_test c.args.rules.gap c.args.a.now c.args.b.now (sym c.are_clear.ensures ∙ h), λ clear. c.are_clear.ensures ∙ test_from_clear c.args.rules.gap c.args.a.now c.args.b.now clear)

pub returns-clause-apart : goal.returns-clause-apart
returns-clause-apart c = λ h. clear_holes_are_apart c.args.rules.gap c.args.a.now c.args.b.now ((returns-clause-exact c).0 h)
