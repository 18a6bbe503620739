use Rattle.package_check.proofs.Common.{Ok, Strict, Wide, mixed_in, unplated_in}
use Rattle.package_check.proofs.Uncontradicted.{read_is_uncontradicted}
use Rattle.package_check.proofs.WiderContents as wider
use Rattle.package_check.proofs.laws.wide_finds_no_more.Goals as goal

pub returns-clause-fewer : goal.returns-clause-fewer
returns-clause-fewer c =
    let same = c.readings_of_kinds.ensures.same in
    wider.wide_finds_no_more c.strict_layers.ensures c.drill_texts.ensures c.wide_reads_more.ensures
    (λ text commands h.
    let strict = (same (mixed_in Strict) text commands).0 h in
    (same (mixed_in Wide) text commands).1 (c.wide_reads_more.ensures text commands ((c.strict_profile.ensures.read text (Ok commands)).0 strict.0), strict.1))
    (λ text commands h silent. (same (unplated_in Wide) text commands).1 (c.wide_reads_more.ensures text commands h, (c.unplated_files.ensures commands).1 silent)) c.wide_finds_no_more.ensures.fewer c.wide_finds_no_more.ensures.oblique

pub returns-clause-uncontradicted : goal.returns-clause-uncontradicted
returns-clause-uncontradicted c = read_is_uncontradicted c.drill_texts.ensures c.wide_reads_more.ensures c.readings_in_profiles.ensures.read c.readings_of_kinds.ensures.same c.unplated_files.ensures
