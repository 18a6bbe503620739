-- The JSON object of a certificate (docs/FORMATS.md, Certificates): an in-toto Statement, version 1, on the files of a package that passes a check.
-- A file is its name and the bytes of its SHA-256.
use Rattle.std.specs.Prelude.{ℕ, List, [], ◌∷◌, codes, map}
use Rattle.hex.specs.Hex.{encode_lower}
use Rattle.json.specs.Json.{Json}
use Rattle.board.specs.declared.FileSum.{FileSum}
use Rattle.grid_units.specs.Holes.{GridRules}
use Rattle.print_json.specs.Packages.{file_values, profile_value}
use Rattle.print_json.specs.Values.{array_of, object_of, rules_value, word}
use Rattle.print_json.specs.declared.certificate.Certificate.{Certificate}
use Rattle.print_json.specs.declared.certificate.FileDigest.{FileDigest}

-- the type of the statement, by which a reader knows it
abbrev pub statement_type : List ℕ
statement_type = codes "https://in-toto.io/Statement/v1"

-- the type of what the statement says of the files: the result of a test
abbrev pub predicate_type : List ℕ
predicate_type = codes "https://in-toto.io/attestation/test-result/v0.1"

-- a SHA-256, in hexadecimal digits of lower case: `{"sha256":"9f86d081.."}`
unfoldable pub digest_value : List ℕ → Json
digest_value bytes = object_of ((codes "sha256", word (encode_lower bytes)) ∷ [])

-- a file: `{"name":"top.gbr","digest":{"sha256":"9f86d081.."}}`
unfoldable pub file_digest_value : List ℕ × List ℕ → Json
file_digest_value file = object_of ((codes "name", word file.0) ∷ (codes "digest", digest_value file.1) ∷ [])

-- what the check found: that the files pass, the manifest that it was made by, the program, the rules with their profile, and what each file holds
unfoldable pub predicate_value : List ℕ → GridRules → List ℕ × List ℕ → List (List ℕ) → List FileSum → Json
predicate_value program rules manifest names files =
    object_of ((codes "result", word (codes "PASSED")) ∷ (codes "configuration", array_of (file_digest_value manifest ∷ []))
    ∷ (codes "program", word program) ∷ (codes "profile", profile_value rules.profile) ∷ (codes "rules", rules_value rules)
    ∷ (codes "files", array_of (file_values rules.profile names files)) ∷ [])

-- a certificate: the program, the rules, the files that it is on, the manifest, and the names and the contents of the package's files
unfoldable pub certificate_value : List ℕ → GridRules → List (List ℕ × List ℕ) → List ℕ × List ℕ → List (List ℕ) → List FileSum → Json
certificate_value program rules subjects manifest names files =
    object_of ((codes "_type", word statement_type) ∷ (codes "subject", array_of (map file_digest_value subjects))
    ∷ (codes "predicateType", word predicate_type) ∷ (codes "predicate", predicate_value program rules manifest names files) ∷ [])

-- a file as its name and the bytes of its digest
abbrev pub digest_of : FileDigest → List ℕ × List ℕ
digest_of file = (file.name.now, file.sha256)

-- what the check of a certificate found
abbrev pub predicate_of : Certificate → Json
predicate_of it = predicate_value it.program.now it.rules (digest_of it.manifest) (map (λ name. name.now) it.names.now) it.files.now

-- the object of a certificate
abbrev pub certificate_of : Certificate → Json
certificate_of it =
    certificate_value it.program.now it.rules (map digest_of it.subjects.now) (digest_of it.manifest) (map (λ name. name.now) it.names.now) it.files.now
