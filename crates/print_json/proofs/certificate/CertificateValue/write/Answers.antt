use Rattle.print_json.proofs.Common.{◌∷◌, [], List, ap, codes, sym, has_written_of_eq, escape_byte, Json, array_of, value_text, word}
use mathlib.Core.List.{map-map}
use Rattle.print_json.specs.Certificates.{certificate_value, digest_of, file_digest_value, predicate_of, predicate_type, statement_type}
use Rattle.print_json.specs.Values.{object_of}
use Rattle.print_json.proofs.certificate.CertificateValue.write.Goals as goal

pub returns : goal.returns
unfolding certificate_value escape_byte
returns g c = λ plain ok.
    let it = c.args.self.now in
    has_written_of_eq _ _ _ _ _
    (ap (λ (vs : List Json). value_text (object_of ((codes "_type", word statement_type) ∷ (codes "subject", array_of vs) ∷ (codes "predicateType", word predicate_type) ∷ (codes "predicate", predicate_of it) ∷ [])))
    (sym (map-map file_digest_value digest_of it.subjects.now)))
    (c.write.ensures.writes plain ok)
