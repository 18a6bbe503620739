use Rattle.ringcheck_files.proofs.Common.{◌≤◌, ◌<◌, ◌+◌, ◌-◌, ◌++◌, ℕ, List, length, HasHandedOn, extra_reads}
use Rattle.ringcheck_files.proofs.reader_bytes.read_in_blocks.Given as goal

abbrev pub invariant-loop-read_counter : goal.invariant-loop-read_counter
invariant-loop-read_counter g l = record {
  block : 0 < length l.block;
  made : l.read_counter.made ≤ l.limit + extra_reads;
  within : l.total ≤ l.limit;
  so_far : HasHandedOn (g.R.Read.remaining l.fn.reader) (g.R.Read.remaining l.reader) (λ bytes. (start : g.row.S.Denot) (text : List ℕ) → g.S.Sink.has_taken start l.fn.sink text → g.S.Sink.has_taken start l.sink (text ++ bytes)) l.total;
}

abbrev pub decreases-loop-read_counter : goal.decreases-loop-read_counter
decreases-loop-read_counter g l = (l.limit + extra_reads) - l.read_counter.made
