-- What the findings of a report name.
use Rattle.package_check.proofs.Common.{◌≡◌, ◌++◌, length, sym, subst, All, length-map, All-append, wide_pad_covers, NamesPlaces, RingsNamePlaces, GapsNamePlaces, ring_findings, gap_findings, holes_of_all, layer_indexes, layers, numbered_holes, FindingsNameTheirPlaces}
use Rattle.package_check.proofs.LayerFiles.{indexed_from}

pub findings_name_their_places : RingsNamePlaces wide_pad_covers → GapsNamePlaces → FindingsNameTheirPlaces
findings_name_their_places rings gaps sources rules report is =
    let contents = is.contents in
    let ls = layers contents in
    let ds = holes_of_all contents in
    let named = All-append (NamesPlaces (length ls) (length ds)) (ring_findings wide_pad_covers rules.profile rules.ring ls ds) (gap_findings rules.gap ds) (rings rules.profile rules.ring ls ds) (gaps rules.gap (length ls) ds) in
    let all_layers : length ls ≡ length (layer_indexes contents) = indexed_from 0 contents in
    let all_holes : length ds ≡ length (numbered_holes contents) = length-map (numbered_holes contents) (λ hole. hole.drilled) in
    subst (λ account. All (NamesPlaces (length account.layers) (length account.holes)) account.findings) (sym is.is)
    (subst (λ n. All (NamesPlaces n (length (numbered_holes contents))) (ring_findings wide_pad_covers rules.profile rules.ring ls ds ++ gap_findings rules.gap ds)) all_layers
    (subst (λ n. All (NamesPlaces (length ls) n) (ring_findings wide_pad_covers rules.profile rules.ring ls ds ++ gap_findings rules.gap ds)) all_holes named))
