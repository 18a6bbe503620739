use Rattle.picture.proofs.Common.{◌≡◌, ◌++◌, ℕ, List, HasWritten, IsPlainFormatter, escaped_name, escaped_after}
use Rattle.std.specs.Str.Iter.{chars_rest}
use Rattle.picture.proofs.names.EscapedDisplay.fmt.Given as goal

-- the characters so far, and the rest as it is printed after some two bytes, are the whole name
abbrev pub invariant-loop-character : goal.invariant-loop-character
invariant-loop-character g l =
    IsPlainFormatter l.initial.f
    → (done : List ℕ) × (first : ℕ) × (second : ℕ) × HasWritten g.W.Write.write_str_gives l.initial.f done l.f × (done ++ escaped_after first second (chars_rest l.character-iterator) ≡ escaped_name l.fn.self.0.now)
