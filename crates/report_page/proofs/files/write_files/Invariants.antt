use Rattle.report_page.proofs.Common.{map, take, HasWritten, IsPlainFormatter, enumerate_from, file_items}
use Rattle.report_page.proofs.files.write_files.Given as goal

-- the files so far
abbrev pub invariant-loop-i : goal.invariant-loop-i
invariant-loop-i g l =
    IsPlainFormatter l.initial.f
    → HasWritten g.W.Write.write_str_gives l.initial.f (file_items l.text.profile (map (λ name. name.now) l.text.names.now) (take l.i (enumerate_from 0 l.text.files.now))) l.f
