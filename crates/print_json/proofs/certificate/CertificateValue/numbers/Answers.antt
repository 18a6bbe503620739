use Rattle.print_json.proofs.Common.{List, subst, sym, Json, HasNumbers, array_of}
use mathlib.Core.List.{map-map}
use Rattle.print_json.specs.Certificates.{certificate_value, digest_of, file_digest_value}
use Rattle.print_json.proofs.certificate.CertificateValue.numbers.Goals as goal

pub returns : goal.returns
unfolding certificate_value
returns c =
    let subjects = subst (λ (vs : List Json). HasNumbers (array_of vs)) (sym (map-map file_digest_value digest_of c.args.self.now.subjects.now)) c.array_numbers.ensures in
    (tt, (subjects, (tt, (c.numbers.ensures, tt))))
