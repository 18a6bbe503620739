-- The numbers of a span, and what is said of coordinates.
use Rattle.manifest.proofs.Common.{◌≡◌, ℕ, List, Bool, true, false, Option, Some, None, Ok, Err, refl, if◌then◌else◌, Reason, BadSpan, format_of_fields, is_bad_span, may_say, span_of_fields}
use Rattle.manifest.specs.declared.Role.{Role}
use Rattle.drill_lines.specs.declared.command.CoordinateFormat.{CoordinateFormat}
use Rattle.manifest.specs.Inner.RecordEntry.{said_format, span_or_reason}

-- a span is refused where `is_bad_span` says so
pub bad_span : (role : Role) (first last : List ℕ) (why : Reason) → Err why ≡ span_or_reason role first last → is_bad_span role first last ≡ true
bad_span role first last why e = by (is_bad_span role first last) e
  where
    by : (b : Bool) → Err why ≡ (if b then Err BadSpan else Ok (span_of_fields first last)) → b ≡ true
    by true h = refl
    by false h = cc

-- what is said is what may be said
pub said_some : (role unit digits zeros : List ℕ) (said : Option CoordinateFormat) → Some said ≡ said_format role unit digits zeros → (may_say role unit digits zeros ≡ true) × (said ≡ format_of_fields unit digits zeros)
said_some role unit digits zeros said e = by (may_say role unit digits zeros) e
  where
    by : (b : Bool) → Some said ≡ (if b then Some (format_of_fields unit digits zeros) else None) → (b ≡ true) × (said ≡ format_of_fields unit digits zeros)
    by true h = (refl, cc)
    by false h = absurd cc

pub said_none : (role unit digits zeros : List ℕ) → None ≡ said_format role unit digits zeros → may_say role unit digits zeros ≡ false
said_none role unit digits zeros e = by (may_say role unit digits zeros) e
  where
    by : (b : Bool) → None ≡ (if b then Some (format_of_fields unit digits zeros) else None) → b ≡ false
    by true h = absurd cc
    by false h = refl
