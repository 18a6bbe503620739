-- The rules, the profile, the drilling, the limit of findings and the format that words of the command line name (docs/FORMATS.md, The program).
use Rattle.std.specs.Prelude.{ℕ, ℤ, pos, Bool, ◌&&◌, not, is_some, List, Option, Some, None, Result, Ok, Err, length, codes, option_map, nat_le, unsigned_abs, int_le, if◌then◌else◌}
use Rattle.std.specs.Borrow.{Bor}
use Rattle.std.specs.Str.{bytes_eq}
use Rattle.grid_units.specs.declared.fault.Reason.{Reason}
use Rattle.grid_units.specs.declared.fault.Reason.TheVariants.{BadNumber, BadRole, BadRule}
use Rattle.grid_units.specs.declared.lengths.Unit.TheVariants.{Millimetre}
use Rattle.grid_units.specs.declared.profile.Profile.{Profile}
use Rattle.grid_units.specs.declared.profile.Profile.TheVariants.{Strict, Wide}
use Rattle.grid_units.specs.Points.{max_coordinate}
use Rattle.grid_units.specs.Holes.{GridRules}
use Rattle.grid_units.specs.Numbers.{parse_decimal, is_digits, picometres, value, within_limit}
use Rattle.grid_units.specs.Results.{◌>>=◌}
use Rattle.print_text.specs.Drilling.{DrillBounds, drilling_of}
use Rattle.ringcheck.specs.declared.parsed_words.MeasureFormat.{MeasureFormat}
use Rattle.ringcheck.specs.declared.parsed_words.MeasureFormat.TheVariants as measures
use Rattle.ringcheck.specs.declared.parsed_words.MeasureOrder.{MeasureOrder}
use Rattle.ringcheck.specs.declared.parsed_words.ReportFormat.{ReportFormat}
use Rattle.ringcheck.specs.declared.parsed_words.ReportFormat.TheVariants as format

-- the bytes of a word that may be left out
abbrev pub word_bytes : Option (Bor (List ℕ)) → Option (List ℕ)
word_bytes word = option_map (λ w. w.now) word

-- the length in pm of a word in millimetres, such as `0.125`, or why it has none: BadNumber, TooFine or TooFar
unfoldable pub parse_length : List ℕ → Result ℤ Reason
parse_length word = parse_decimal word >>= λ v. within_limit (picometres Millimetre 8 v)

-- whether a ring is 0 to 10^13 pm and a gap 1 to 10^13 pm
abbrev pub are_rules : ℤ → ℤ → Bool
are_rules ring gap = (int_le (pos 0) ring && int_le ring (pos max_coordinate)) && (int_le (pos 1) gap && int_le gap (pos max_coordinate))

-- the rules of a ring and a gap in pm, in the strict profile, or BadRule
unfoldable pub rules_of : ℤ → ℤ → Result GridRules Reason
rules_of ring gap = if are_rules ring gap then Ok (record { ring = unsigned_abs ring; gap = unsigned_abs gap; profile = Strict }) else Err BadRule

-- the rules that two words name in millimetres, or the first refusal: the ring's, the gap's, then that of both
unfoldable pub parse_rules : List ℕ → List ℕ → Result GridRules Reason
parse_rules ring gap = parse_length ring >>= λ r. (parse_length gap >>= λ g. rules_of r g)

-- the profile that a word names: `strict`, also without a word, or `wide`; another word names none
unfoldable pub profile_of : Option (List ℕ) → Option Profile
profile_of None = Some Strict
profile_of (Some word) = if bytes_eq word (codes "strict") then Some Strict else if bytes_eq word (codes "wide") then Some Wide else None

-- these rules in a profile
abbrev pub in_profile : Profile → GridRules → GridRules
in_profile profile rules = record { ring = rules.ring; gap = rules.gap; profile = profile }

-- the rules that two words name, in this profile; where there is no profile BadRole, whatever the two words are
unfoldable pub rules_in : Option Profile → List ℕ → List ℕ → Result GridRules Reason
rules_in None ring gap = Err BadRole
rules_in (Some profile) ring gap = parse_rules ring gap >>= λ rules. Ok (in_profile profile rules)

-- the rules of a check, of the word for its profile, if there is one, and those for the ring and the gap
abbrev pub parse_check : Option (List ℕ) → List ℕ → List ℕ → Result GridRules Reason
parse_check profile ring gap = rules_in (profile_of profile) ring gap

-- the number of findings that a word of one to nine digits names, such as `20`; another word is BadNumber
unfoldable pub parse_count : List ℕ → Result ℕ Reason
parse_count word = if is_digits word && nat_le (length word) 9 then Ok (value word) else Err BadNumber

-- the most findings that a report shows, where a word names it; without a word it shows all of them
unfoldable pub parse_limit : Option (List ℕ) → Result (Option ℕ) Reason
parse_limit None = Ok None
parse_limit (Some word) = parse_count word >>= λ n. Ok (Some n)

-- the format of a report: `text`, also without a word, `html`, `json`, or `waivers`, which is BadRole where a file of waivers is given too; where an
-- outline is given, each but `html` is BadRole
unfoldable pub parse_report_format : Bool → Bool → Option (List ℕ) → Result ReportFormat Reason
parse_report_format waives outlined None = if outlined then Err BadRole else Ok format.Text
parse_report_format waives outlined (Some word) =
    if bytes_eq word (codes "html") then Ok format.Html
    else if outlined then Err BadRole
    else if bytes_eq word (codes "text") then Ok format.Text
    else if bytes_eq word (codes "json") then Ok format.Json
    else if bytes_eq word (codes "waivers") && not waives then Ok format.Waivers else Err BadRole

-- the format of a measure: `text`, also without a word, or `json`; BadRole for any other
unfoldable pub parse_format : Option (List ℕ) → Result MeasureFormat Reason
parse_format None = Ok measures.Text
parse_format (Some word) =
    if bytes_eq word (codes "text") then Ok measures.Text else if bytes_eq word (codes "json") then Ok measures.Json else Err BadRole

-- what is asked of a measure in this profile; where there is no profile BadRole, whatever the word for the format is
unfoldable pub measured_in : Option Profile → Option (List ℕ) → Result MeasureOrder Reason
measured_in None form = Err BadRole
measured_in (Some profile) form = parse_format form >>= λ f. Ok (record { profile = profile; format = f })

-- what is asked of a measure, by the words for its profile and its format, if there are any
abbrev pub parse_measure : Option (List ℕ) → Option (List ℕ) → Result MeasureOrder Reason
parse_measure profile form = measured_in (profile_of profile) form

-- how holes may be drilled, by two lengths in millimetres, or by neither; one of these alone is BadRule
unfoldable pub parse_drilling : Option (List ℕ) → Option (List ℕ) → Result (Option DrillBounds) Reason
parse_drilling None None = Ok None
parse_drilling (Some off) (Some wide) = parse_length off >>= λ t. (parse_length wide >>= λ a. (drilling_of t a >>= λ drilling. Ok (Some drilling)))
parse_drilling (Some off) None = Err BadRule
parse_drilling None (Some wide) = Err BadRule

-- the rules in a profile, the drilling, the limit of findings and the format of a report, or the first refusal in this order, of which that of the
-- profile is the first; `waive` is the file of waivers and `outline` that of an outline, if there is one
unfoldable pub parse_report : Option (List ℕ) → List ℕ → List ℕ → Option (List ℕ) → Option (List ℕ) → Option (List ℕ) → Option (List ℕ) → Option (List ℕ) → Option (List ℕ)
    → Result (GridRules × Option DrillBounds × Option ℕ × ReportFormat) Reason
parse_report profile ring gap off wide limit waive outline form =
    parse_check profile ring gap >>= λ r. (parse_drilling off wide >>= λ d. (parse_limit limit >>= λ n.
    (parse_report_format (is_some waive) (is_some outline) form >>= λ f. Ok (r, d, n, f))))

-- the rules of a picture in a profile: those of a ring and a gap, or none; one of these alone is BadRule
unfoldable pub drawn_under : Profile → Option (List ℕ) → Option (List ℕ) → Result (Option GridRules) Reason
drawn_under profile None None = Ok None
drawn_under profile (Some ring) (Some gap) = parse_rules ring gap >>= λ rules. Ok (Some (in_profile profile rules))
drawn_under profile (Some ring) None = Err BadRule
drawn_under profile None (Some gap) = Err BadRule

-- the profile and the rules of a picture; where there is no profile BadRole, whatever the two words are
unfoldable pub drawn_in : Option Profile → Option (List ℕ) → Option (List ℕ) → Result (Profile × Option GridRules) Reason
drawn_in None ring gap = Err BadRole
drawn_in (Some profile) ring gap = drawn_under profile ring gap >>= λ rules. Ok (profile, rules)

-- the profile and the rules of a picture, by the words for them, if there are any
abbrev pub parse_draw : Option (List ℕ) → Option (List ℕ) → Option (List ℕ) → Result (Profile × Option GridRules) Reason
parse_draw profile ring gap = drawn_in (profile_of profile) ring gap
