-- What one record gives, in words for private functions alone (docs/FORMATS.md, Judging).
use Rattle.std.specs.Prelude.{ℕ, Bool, List, Option, Some, None, Result, Ok, Err, if◌then◌else◌}
use Rattle.grid_units.specs.Numbers.{value}
use Rattle.grid_units.specs.Spans.{LayerSpan}
use Rattle.grid_units.specs.declared.fault.Reason.{Reason}
use Rattle.grid_units.specs.declared.profile.Profile.{Profile}
use Rattle.grid_units.specs.declared.fault.Reason.TheVariants.{BadSpan}
use Rattle.drill_lines.specs.declared.command.CoordinateFormat.{CoordinateFormat}
use Rattle.manifest.specs.declared.Entry.{Entry}
use Rattle.manifest.specs.declared.Role.{Role}
use Rattle.manifest.specs.declared.validation.NamedFile.{NamedFile}
use Rattle.manifest.specs.Manifest.{CsvRecord, are_span_numbers, first_broken_rule, entry_of, format_of_fields, is_bad_span, may_say, span_of_fields}

-- the span of layers with these numbers, None where they are not those of a span
abbrev pub span_of_numbers : List ℕ → List ℕ → Option LayerSpan
span_of_numbers first last = if are_span_numbers first last then Some (record { first = value first; last = value last }) else None

-- the span that two fields of a file of this role name, none where both are empty, or BadSpan
abbrev pub span_or_reason : Role → List ℕ → List ℕ → Result (Option LayerSpan) Reason
span_or_reason role first last = if is_bad_span role first last then Err BadSpan else Ok (span_of_fields first last)

-- what is said of the coordinates of a file with this word for its role; None where it may not be said
abbrev pub said_format : List ℕ → List ℕ → List ℕ → List ℕ → Option (Option CoordinateFormat)
said_format role unit digits zeros = if may_say role unit digits zeros then Some (format_of_fields unit digits zeros) else None

-- the entry where no rule is broken, else the reason
abbrev pub entry_or_reason : Option Reason → Entry → Result Entry Reason
entry_or_reason None entry = Ok entry
entry_or_reason (Some why) entry = Err why

-- the file that a record names, or the first rule that it breaks in a profile; `repeated` says whether an earlier file has its name
abbrev pub checked_entry : Profile → ℕ → Bool → CsvRecord → Result Entry Reason
checked_entry profile width repeated row = entry_or_reason (first_broken_rule profile width repeated row) (entry_of row)

-- the file of which a record says this
abbrev pub entry_with : NamedFile → Entry
entry_with named = record { role = named.role; name = named.name.now; file = named.file.now; said = named.said }
