use Rattle.ringcheck.proofs.RewrittenPackages as rewritten
use Rattle.ringcheck.proofs.checks.rewriting_keeps_answers.Goals as goal

pub returns : goal.returns
returns c = rewritten.rewriting_keeps_answers c.readings_in_profiles.ensures.unique (λ text layer read. (c.strict_layers.ensures text layer read).wide) c.unique_reading.ensures.read c.readings_of_kinds.ensures.read c.wide_reads_more.ensures c.drill_texts.ensures c.readings_of_kinds.ensures.same c.unplated_files.ensures c.keeps_commands.ensures c.same_answers.ensures
