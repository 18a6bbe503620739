use Rattle.manifest.proofs.Common.{◌≡◌, ◌++◌, drop, map}
use Rattle.std.specs.Char.{to_ascii_lowercase}
use Rattle.manifest.specs.Names.{base_name, spaced_words}
use Rattle.manifest.proofs.file_names.lower_base_name.Given as goal

abbrev pub invariant-loop-byte : goal.invariant-loop-byte
invariant-loop-byte l = l.lower.items ++ map to_ascii_lowercase (spaced_words l.before (drop l.byte-index (base_name l.name))) ≡ map to_ascii_lowercase (spaced_words 0 (base_name l.name))
