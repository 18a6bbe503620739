use Rattle.print_text.proofs.Common.{◌≡◌, ◌∙◌, ◌++◌, List, ap, codes, filter_map, flat_map, map, rules, w64, has_written_of_eq, GapLack, RingLack, kind_line, ring_of, smallest, smallest_line}
use mir.Val.{to_z, of_z}
use Rattle.std.proofs.lemmas.Int.{to_z-of_z}
use Rattle.print_text.specs.Causes.{all_kinds}
use Rattle.print_text.proofs.report_text.CausesTextDisplay.fmt.Goals as goal

pub returns-clause-writes : goal.returns-clause-writes
returns-clause-writes g c = λ plain ok.
    let ring : to_z w64 (of_z w64 c.ring.result) ≡ c.ring.result = search (rules, to_z-of_z) in
    let gap : to_z w64 (of_z w64 c.gap.result) ≡ c.gap.result = search (rules, to_z-of_z) in
    let least_ring = c.smallest_ring.ensures ∙ ap (λ (rings : List RingLack). smallest (filter_map (λ lack. ring_of lack.cause) rings)) c.as_slice-rings.ensures.value in
    let least_gap = c.smallest_gap.ensures ∙ ap (λ (gaps : List GapLack). smallest (map (λ lack. lack.gap) gaps)) c.deref.ensures.value in
    has_written_of_eq _ _ _ _ _
    (λ i. flat_map (kind_line (c.profile.ensures i) (c.as_slice-rings.ensures.value i)) all_kinds
    ++ (smallest_line (codes "smallest ring ") ((ring ∙ c.ring.ensures.value) i) (least_ring i) ++ smallest_line (codes "smallest gap ") ((gap ∙ c.gap.ensures.value) i) (least_gap i)))
    (c.write.ensures.writes plain ok)
