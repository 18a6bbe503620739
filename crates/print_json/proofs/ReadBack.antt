-- What is read of a certificate's text is what it is made of.
use Rattle.print_json.proofs.Common.{◌≡◌, ◌≤◌, ◌-◌, ◌++◌, ◌∙◌, ℕ, true, List, [], ◌∷◌, Option, Some, None, refl, ap, sym, arith, decimal, drop, drop_all, length, length-append, map, take, signed_decimal, items_of, rules_value}
use Rattle.std.specs.Prelude.{pos, Bool, if◌then◌else◌, nat_le, option_and_then, option_map}
use Rattle.std.specs.Str.{bytes_eq}
use Rattle.std.proofs.lemmas.Bool.{and_from, false_from_ne_true, le-leb}
use Rattle.std.proofs.lemmas.List.{drop-append-le}
use Rattle.std.proofs.lemmas.Slice.Eq.{bytes_eq-Decides}
use lib.ListN.{take-append-drop}
use lib.Seq.{take-append_seam}
use Rattle.hex.specs.Hex.{encode_lower}
use Rattle.json.specs.Find.{as_str}
use Rattle.grid_units.specs.Holes.{GridRules}
use Rattle.grid_units.specs.Numbers.{is_digits, value}
use Rattle.grid_units.specs.Points.{max_coordinate}
use Rattle.grid_units.specs.declared.profile.Profile.{Profile}
use Rattle.grid_units.specs.declared.profile.Profile.TheVariants.{Strict, Wide}
use Rattle.grid_units.proofs.SpellingsLemmas.{spells_decimal}
use Rattle.board.specs.declared.FileSum.{FileSum}
use Rattle.print_json.specs.Certificates.{certificate_value, digest_value, file_digest_value, predicate_value}
use Rattle.print_json.specs.Packages.{profile_value}
use Rattle.print_json.specs.ReadCertificates.{CertifiedView, certified_in, digests_of, length_of, profile_of, rules_of, without_line_end}

-- a line end falls away
pub line_end_off : (line : List ℕ) → without_line_end (line ++ 10 ∷ []) ≡ line
line_end_off line =
    let t = line ++ 10 ∷ [] in
    let long : length t - 1 ≡ length line = omega (arith, length-append line (10 ∷ [])) in
    let end : drop (length line) t ≡ 10 ∷ [] = drop-append-le (length line) line (10 ∷ []) (omega arith) ∙ ap (λ (none : List ℕ). none ++ 10 ∷ []) (drop_all (length line) line (omega arith)) in
    ap (λ (n : ℕ). if bytes_eq (drop n t) (10 ∷ []) then take n t else t) long
    ∙ (ap (λ (rest : List ℕ). if bytes_eq rest (10 ∷ []) then take (length line) t else t) end ∙ take-append_seam line (10 ∷ []))

-- a text that has one
pub ended : (text : List ℕ) (n : ℕ) → text ≡ take (length text - n) text ++ 10 ∷ [] → take (length text - n) text ≡ without_line_end text
ended text n e = sym (ap without_line_end e ∙ line_end_off (take (length text - n) text))

-- a text that has none
pub not_ended : (text : List ℕ) → ((front : List ℕ) → text ≡ front ++ 10 ∷ [] → ⊥) → text ≡ without_line_end text
not_ended text none = sym (ap (λ (b : Bool). if b then take (length text - 1) text else text) (false_from_ne_true _ other))
  where
    other : bytes_eq (drop (length text - 1) text) (10 ∷ []) ≡ true → ⊥
    other e =
        none (take (length text - 1) text)
        (sym (take-append-drop (length text - 1) text) ∙ ap (λ (rest : List ℕ). take (length text - 1) text ++ rest) ((bytes_eq-Decides _ _).0 e))

-- a profile's name
profile_back : (profile : Profile) → option_and_then profile_of (as_str (profile_value profile)) ≡ Some profile
profile_back Strict = refl
profile_back Wide = refl

-- a length
length_back : (n : ℕ) → n ≤ max_coordinate → length_of (signed_decimal (pos n)) ≡ Some n
length_back n le =
    let spelled = spells_decimal n (omega arith) in
    let fits : nat_le (value (decimal n)) max_coordinate ≡ true = le-leb _ _ (omega (arith, spelled.value)) in
    let digits : is_digits (decimal n) ≡ true = grind (arith, spelled.digits, spelled.some) in
    ap (λ (b : Bool). if b then Some (value (decimal n)) else None) (and_from _ _ digits fits) ∙ ap Some spelled.value

-- the digests of files
digests_back : (files : List (List ℕ × List ℕ)) → digests_of (items_of (map file_digest_value files)) ≡ Some (map (λ file. encode_lower file.1) files)
unfolding file_digest_value digest_value
digests_back [] = refl
digests_back (file ∷ files) = ap (option_map (λ digests. encode_lower file.1 ∷ digests)) (digests_back files)

-- the parts of what is read
abbrev put_together : List ℕ → Option Profile → Option ℕ → Option ℕ → Option (List (List ℕ)) → Option CertifiedView
put_together manifest profile ring gap digests =
    option_and_then (λ rules. option_map (λ all. record { manifest = manifest; rules = rules; digests = all }) digests)
    (option_and_then (λ p. option_and_then (λ r. option_and_then (λ g. rules_of r g p) gap) ring) profile)

module _ (program : List ℕ) (rules : GridRules) (subjects : List (List ℕ × List ℕ)) (manifest : List ℕ × List ℕ) (names : List (List ℕ)) (files : List FileSum) where
  -- the object of a certificate
  pub reads_as_made : rules.ring ≤ max_coordinate → 1 ≤ rules.gap → rules.gap ≤ max_coordinate
      → certified_in (certificate_value program rules subjects manifest names files) ≡ Some (record { manifest = manifest.0; rules = rules; digests = map (λ file. encode_lower file.1) subjects })
  unfolding certificate_value predicate_value rules_value file_digest_value digest_value
  reads_as_made ring some gap =
      let digests = map (λ (file : List ℕ × List ℕ). encode_lower file.1) subjects in
      ap (λ p. put_together manifest.0 p (length_of (signed_decimal (pos rules.ring))) (length_of (signed_decimal (pos rules.gap))) (digests_of (items_of (map file_digest_value subjects)))) (profile_back rules.profile)
      ∙ (ap (λ r. put_together manifest.0 (Some rules.profile) r (length_of (signed_decimal (pos rules.gap))) (digests_of (items_of (map file_digest_value subjects)))) (length_back rules.ring ring)
      ∙ (ap (λ g. put_together manifest.0 (Some rules.profile) (Some rules.ring) g (digests_of (items_of (map file_digest_value subjects)))) (length_back rules.gap gap)
      ∙ (ap (put_together manifest.0 (Some rules.profile) (Some rules.ring) (Some rules.gap)) (digests_back subjects)
      ∙ ap (λ (b : Bool). option_map (λ all. record { manifest = manifest.0; rules = all; digests = digests }) (if b then Some rules else None)) (le-leb 1 rules.gap some))))
