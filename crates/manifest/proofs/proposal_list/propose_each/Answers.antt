use Rattle.manifest.proofs.Common.{◌≡◌, ◌∙◌, ◌++◌, ◌∷◌, [], ap, sym, not, true, rules, is_ok}
use Rattle.manifest.proofs.DistinctFiles.{had_more, is_new, no_more, one_more}
use Rattle.manifest.proofs.proposal_list.propose_each.Goals as goal

pub loop-file-preserved-then-not-is_new : goal.loop-file-preserved-then-not-is_new
loop-file-preserved-then-not-is_new c =
    let files = c.args.files.now in
    let i = c.loop-file.file-index in
    let inv = c.loop-file.invariant in
    let was = is_new _ _ _ _ c.in_ok-is_new.is_new c.as_bytes.ensures.value c.in_ok-is_new.ensures.added (inv.had c.as_bytes.result.now) in
    record {
      had = λ name. had_more files i c.as_bytes.result.now name _ _ c.loop-file-test.true c.as_bytes.ensures.value (c.in_ok-is_new.ensures.updates.0 (record { ref_ptr = (0, 0); now = name })) (inv.had name);
      proposed = inv.proposed ∙ sym (no_more c.args.profile files i c.loop-file-test.true (was ∙ ap not c.if-not-is_new.true));
    }

pub loop-file-preserved : goal.loop-file-preserved
loop-file-preserved c =
    let files = c.args.files.now in
    let i = c.loop-file.file-index in
    let inv = c.loop-file.invariant in
    let was = is_new _ _ _ _ c.in_ok-is_new.is_new c.as_bytes.ensures.value c.in_ok-is_new.ensures.added (inv.had c.as_bytes.result.now) in
    let good : is_ok c.push.result ≡ true = search rules in
    let items = rw good at c.push.ensures.items in
    record {
      had = λ name. had_more files i c.as_bytes.result.now name _ _ c.loop-file-test.true c.as_bytes.ensures.value (c.in_ok-is_new.ensures.updates.0 (record { ref_ptr = (0, 0); now = name })) (inv.had name);
      proposed = items ∙ (λ k. inv.proposed k ++ c.in_ok-proposal.ensures k ∷ []) ∙ sym (one_more c.args.profile files i c.loop-file-test.true (was ∙ ap not c.if-not-is_new.false));
    }
