use Rattle.print_json.proofs.Common.{◌∙◌, Some, List, ℕ, ap, arith, map, print, json_tokens}
use mathlib.Core.List.{map-map}
use Rattle.std.specs.Prelude.{option_and_then}
use Rattle.hex.specs.Hex.{encode_lower}
use Rattle.json.specs.Json.{document}
use Rattle.print_json.specs.Certificates.{certificate_of, digest_of}
use Rattle.print_json.specs.ReadCertificates.{certified_in}
use Rattle.print_json.proofs.ReadBack.{line_end_off, reads_as_made}
use Rattle.print_json.proofs.certificate.Certificate.reads_as_made.Goals as goal

pub returns : goal.returns
returns c =
    let it = c.args.self.now in
    let made = reads_as_made it.program.now it.rules (map digest_of it.subjects.now) (digest_of it.manifest) (map (λ name. name.now) it.names.now) it.files.now
    (omega (arith, c.ring.ensures)) (omega (arith, c.gap.ensures)) (omega (arith, c.gap.ensures)) in
    ap (λ (text : List ℕ). option_and_then certified_in (document text)) (line_end_off (print (json_tokens (certificate_of it))))
    ∙ (ap (option_and_then certified_in) c.reads_back.ensures
    ∙ (made ∙ ap (λ (digests : List (List ℕ)). Some (record { manifest = it.manifest.name.now; rules = it.rules; digests = digests })) (map-map (λ file. encode_lower file.1) digest_of it.subjects.now)))
