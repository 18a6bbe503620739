use Rattle.package_check.proofs.Common.{◌≡◌, ◌++◌, ◌+◌, ℕ, List, drop, map, file_lines}
use Rattle.std.specs.Fmt.{HasWritten, IsPlainFormatter}
use Rattle.package_check.proofs.lines.FileLinesDisplay.fmt.Given as goal

abbrev pub invariant-loop-index : goal.invariant-loop-index
invariant-loop-index g l =
    IsPlainFormatter l.initial.f → (done : List ℕ) × HasWritten g.W.Write.write_str_gives l.initial.f done l.f
    × (file_lines l.fn.self.profile 1 (map (λ name. name.now) l.fn.self.names.now) l.fn.self.files.now ≡ done ++ file_lines l.fn.self.profile (l.index + 1) (drop l.index (map (λ name. name.now) l.fn.self.names.now)) (drop l.index l.fn.self.files.now))
