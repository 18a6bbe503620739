-- The fields of an operation, as the code finds them in a word.
use Rattle.std.specs.Option.{option_copied}
use Rattle.gerber_commands.specs.declared.word.Runs.{Runs}
use Rattle.gerber_commands.specs.Words.{Fields}

-- the fields that the code found, with each run as the list of its bytes (docs/FORMATS.md, How a row fits and is read)
abbrev pub fields_of : Runs → Fields
fields_of r = record {
  x = option_copied r.x;
  y = option_copied r.y;
  i = option_copied r.i;
  j = option_copied r.j;
  d = option_copied r.d;
  rest = r.rest.now;
}
