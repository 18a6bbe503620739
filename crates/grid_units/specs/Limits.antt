-- How long a text and its parts may be, in bytes (docs/FORMATS.md, Limits).
use Rattle.std.specs.Prelude.{ℕ}

-- the longest text of a Gerber layer or a drill file: 256 MiB
abbrev pub text_limit : ℕ
text_limit = 268435456

-- the longest item of a Gerber text: its marks (`*` or both `%`) count, CR and LF do not
abbrev pub item_limit : ℕ
item_limit = 1048576

-- the longest line of a drill file, without its LF
abbrev pub line_limit : ℕ
line_limit = 1048576
