use Rattle.ringcheck_files.proofs.Appending.{appends_both}
use Rattle.ringcheck_files.proofs.proposed_manifest.print_held.Goals as goal

pub returns-in_default-clause-says : goal.returns-in_default-clause-says
returns-in_default-clause-says g c =
    let (files, same, is) = c.in_ok-text.ensures in
    (c.first_container.ensures.none c.in_default.is, (files, same, c.in_ok-text.text.items, is, rw c.as_slice.ensures.value at c.in_ok-write_all.ensures.bytes))

pub returns-clause-says : goal.returns-clause-says
returns-clause-says g c = (c.in-Some.ensures.one.0, rw c.in-Some.ensures.one.1 (appends_both _ _ _ _ _ c.in_ok-refuse_word.ensures c.in_ok-write.ensures.bytes))
