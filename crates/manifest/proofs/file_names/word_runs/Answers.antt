use Rattle.manifest.proofs.Common.{rules, tests, not, ◌==◌, length, YieldsList-from_slice_split, is_word_byte}
use Rattle.std.proofs.lemmas.Iterator.Consumers.{map_from_collect, YieldsList-at, YieldsList-from_filter}
use Rattle.manifest.proofs.file_names.word_runs.Goals as goal

pub returns : goal.returns
returns c =
    map_from_collect _ c.collect.ensures.ran (YieldsList-from_filter _ (λ run. not (length run == 0))
    (YieldsList-at c.filter.ensures.source (YieldsList-from_slice_split _ (λ b. not (is_word_byte b)) c.args.name.now c.split.ensures.rest c.split.ensures.done c.split.ensures.closure (λ x b q k. search (rules, tests))))
    c.filter.ensures.closure (λ x b q k. search (rules, tests)))
