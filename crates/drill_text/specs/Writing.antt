-- The canonical text of a list of commands (docs/FORMATS.md, Canonical drill text).
use Rattle.std.specs.Prelude.{ℕ, Bool, true, false, ◌&&◌, nat_lt, List, [], ◌∷◌, length, map, unwrap_or, if◌then◌else◌, Result, Ok, Err}
use Rattle.std.specs.Global.{Vec}
use Rattle.grid_units.specs.declared.fault.Fault.{Fault}
use Rattle.grid_units.specs.declared.fault.Reason.TheVariants.{TooLong}
use Rattle.grid_units.specs.Results.{fault}
use Rattle.drill_lines.specs.declared.command.Part.{Part}
use Rattle.drill_lines.specs.declared.command.Part.TheVariants as part
use Rattle.drill_lines.specs.declared.command.DrillCommand.{DrillCommand}
use Rattle.drill_lines.specs.Writing.{canonical, is_sayable}
use Rattle.drill_text.specs.Lines.{bytes_of}
use Rattle.drill_text.specs.Lookback.{part_set}
use Rattle.grid_units.specs.Limits.{text_limit}

-- the part of a file after one more command
abbrev pub part_with : Part → DrillCommand → Part
part_with p c = unwrap_or (part_set c) p

-- the part of a file after more commands
abbrev pub part_from : Part → List DrillCommand → Part
part_from p [] = p
part_from p (c ∷ cs) = part_from (part_with p c) cs

-- each command is one that some line of its part of the file spells
abbrev pub are_sayable : Part → List DrillCommand → Bool
are_sayable p [] = true
are_sayable p (c ∷ cs) = is_sayable p c && are_sayable (part_with p c) cs

-- the part after `M30`
abbrev pub is_after_end : Part → Bool
is_after_end part.After = true
is_after_end _ = false

-- A list is sayable: comments, Start, commands of the header, HeaderEnd, those of the body and Finish, each one that a line of its part spells.
abbrev pub drill_sayable : List DrillCommand → Bool
drill_sayable commands = are_sayable part.Before commands && is_after_end (part_from part.Before commands)

-- each command as its canonical line, with an LF after it
abbrev pub canonical_lines : List DrillCommand → List ℕ
canonical_lines commands = bytes_of (map canonical commands)

-- these bytes; above 268,435,456 of them are TooLong at place 0 and byte 0
abbrev pub text_or_fault : List ℕ → Result (List ℕ) Fault
text_or_fault bytes = if nat_lt text_limit (length bytes) then Err (fault 0 0 TooLong) else Ok bytes

-- the canonical text, unless it is too long
abbrev pub rewritten_text : List DrillCommand → Result (List ℕ) Fault
rewritten_text commands = text_or_fault (canonical_lines commands)

-- the bytes that a vector holds, in order
abbrev pub vec_bytes : Vec ℕ → List ℕ
vec_bytes bytes = bytes.items
