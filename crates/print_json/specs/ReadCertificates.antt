-- What a certificate names, of its object as it is read (docs/FORMATS.md, Certificates). A member is looked up by its name, wherever it stands.
use Rattle.std.specs.Prelude.{ℕ, ◌-◌, ◌&&◌, drop, length, take, Bool, false, List, [], ◌∷◌, Option, Some, None, codes, map, nat_le, option_and_then, option_map, string_bytes, if◌then◌else◌}
use Rattle.std.specs.Str.{bytes_eq}
use Rattle.hex.specs.Hex.{encode_lower}
use Rattle.json.specs.Json.{Json, Items, no_items, item, document}
use Rattle.json.specs.Find.{as_array, as_number, as_str, at, get}
use Rattle.grid_units.specs.Ascii as ascii
use Rattle.grid_units.specs.Holes.{GridRules}
use Rattle.grid_units.specs.Numbers.{is_digits, value}
use Rattle.grid_units.specs.Points.{max_coordinate}
use Rattle.grid_units.specs.declared.profile.Profile.{Profile}
use Rattle.grid_units.specs.declared.profile.Profile.TheVariants.{Strict, Wide}
use Rattle.print_json.specs.Certificates.{predicate_type, statement_type}
use Rattle.print_json.specs.declared.certificate.Certificate.{Certificate}
use Rattle.print_json.specs.declared.certified.Certified.{Certified}

-- what has to be checked anew, and what to compare: the name of the manifest, the rules with their profile, and the SHA-256 of each file in order, in
-- hexadecimal digits
pub record CertifiedView : Type 0 where
  pub manifest : List ℕ
  pub rules : GridRules
  pub digests : List (List ℕ)

-- what is read
abbrev pub certified_view : Certified → CertifiedView
certified_view it = record { manifest = string_bytes it.manifest; rules = it.rules; digests = map string_bytes it.digests.items }

-- the member of this name, if it is a string
abbrev pub text_member : List ℕ → Json → Option (List ℕ)
text_member name j = option_and_then as_str (get name j)

-- there is a text, and it is this one
abbrev pub is_text : List ℕ → Option (List ℕ) → Bool
is_text text None = false
is_text text (Some other) = bytes_eq other text

-- the object is a statement on the result of a test
abbrev pub is_statement : Json → Bool
is_statement j = is_text statement_type (text_member (codes "_type") j) && is_text predicate_type (text_member (codes "predicateType") j)

-- the length of a number in pm, if it has digits alone and is at most 10 m
abbrev pub length_of : List ℕ → Option ℕ
length_of digits = if is_digits digits && nat_le (value digits) max_coordinate then Some (value digits) else None

-- the member of this name, if it is such a length
abbrev pub length_member : List ℕ → Json → Option ℕ
length_member name j = option_and_then length_of (option_and_then as_number (get name j))

-- the profile of this name
abbrev pub profile_of : List ℕ → Option Profile
profile_of name = if bytes_eq name (codes "strict") then Some Strict else if bytes_eq name (codes "wide") then Some Wide else None

-- the rules of this ring and this gap; the gap is at least 1 pm
abbrev pub rules_of : ℕ → ℕ → Profile → Option GridRules
rules_of ring gap profile = if nat_le 1 gap then Some (record { ring = ring; gap = gap; profile = profile }) else None

-- the rules of a check, by their object and the profile
abbrev pub rules_between : Profile → Json → Option GridRules
rules_between profile j =
    option_and_then (λ ring. option_and_then (λ gap. rules_of ring gap profile) (length_member (codes "gap_pm") j)) (length_member (codes "ring_pm") j)

-- the rules of what the check found
abbrev pub rules_in : Json → Option GridRules
rules_in found =
    option_and_then (λ profile. option_and_then (rules_between profile) (get (codes "rules") found))
    (option_and_then profile_of (text_member (codes "profile") found))

-- the name of the manifest in what the check found: that of the first file of the configuration
abbrev pub manifest_in : Json → Option (List ℕ)
manifest_in found = option_and_then (text_member (codes "name")) (option_and_then (at 0) (get (codes "configuration") found))

-- the SHA-256 of a file, as it is written
abbrev pub digest_in : Json → Option (List ℕ)
digest_in file = option_and_then (text_member (codes "sha256")) (get (codes "digest") file)

-- those of files, in order; none where one of them lacks it
abbrev pub digests_of : Items → Option (List (List ℕ))
digests_of no_items = Some []
digests_of (item file rest) = option_and_then (λ digest. option_map (λ digests. digest ∷ digests) (digests_of rest)) (digest_in file)

-- what a statement on these files, with what the check found, names
abbrev pub named_in : Json → Json → Option CertifiedView
named_in files found =
    option_and_then (λ manifest. option_and_then (λ rules. option_map (λ digests. record { manifest = manifest; rules = rules; digests = digests })
    (option_and_then digests_of (as_array files))) (rules_in found)) (manifest_in found)

-- what a certificate names; nothing where the object is not one
abbrev pub certified_in : Json → Option CertifiedView
certified_in j =
    if is_statement j then option_and_then (λ files. option_and_then (named_in files) (get (codes "predicate") j)) (get (codes "subject") j) else None

-- a text without the line end after it, if there is one
abbrev pub without_line_end : List ℕ → List ℕ
without_line_end text = if bytes_eq (drop (length text - 1) text) (ascii.line_feed ∷ []) then take (length text - 1) text else text

-- what the certificate of a text names; nothing where the text is none
abbrev pub certified_by : List ℕ → Option CertifiedView
certified_by text = option_and_then certified_in (document (without_line_end text))

-- what a certificate is made of, of what its text names
abbrev pub named_by : Certificate → CertifiedView
named_by it = record { manifest = it.manifest.name.now; rules = it.rules; digests = map (λ file. encode_lower file.sha256) it.subjects.now }
