use Rattle.print_json.proofs.Common.{◌≡◌, ◌++◌, drop, map}
use Rattle.std.specs.Prelude.{option_map, string_bytes}
use Rattle.json.specs.Value.{items_view}
use Rattle.print_json.specs.ReadCertificates.{digests_of}
use Rattle.print_json.proofs.certified.digests_of.Given as goal

abbrev pub invariant-loop-file : goal.invariant-loop-file
invariant-loop-file l =
    digests_of (items_view l.files) ≡ option_map (λ rest. map string_bytes l.digests.items ++ rest) (digests_of (items_view (drop l.file-index l.files)))
