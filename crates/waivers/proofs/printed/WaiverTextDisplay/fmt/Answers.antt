use Rattle.waivers.proofs.Common.{◌++◌, map, flat_map, has_written_of_eq, finding_record, gap_fields, ring_fields}
use Rattle.waivers.proofs.Quoted.{head_is}
use Rattle.waivers.proofs.printed.WaiverTextDisplay.fmt.Goals as goal

pub returns-clause-writes : goal.returns-clause-writes
returns-clause-writes g c = λ plain ok.
    let names = map (λ name. name.now) c.args.self.now.names.now in
    has_written_of_eq _ _ _ _ _
    (λ i. head_is i ++ (flat_map (λ lack. finding_record (ring_fields names (c.as_slice.ensures.value i) lack)) (c.as_slice-2.ensures.value i) ++ flat_map (λ lack. finding_record (gap_fields names lack)) (c.as_slice-3.ensures.value i)))
    (c.write.ensures.writes plain ok)
