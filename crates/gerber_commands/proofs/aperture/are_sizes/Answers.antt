use Rattle.gerber_commands.proofs.Common.{sym, ap, ◌∙◌, ◌&&◌}
use Rattle.gerber_commands.proofs.SplitLemmas.{sizes_are, sizes_are_not}
use Rattle.gerber_commands.proofs.aperture.are_sizes.Goals as goal

pub returns-then-are_size_bytes : goal.returns-then-are_size_bytes
returns-then-are_size_bytes c = sym (sizes_are c.args.aperture c.args.text.now c.separators.result c.are_size_bytes.result c.accepts_sizes.result c.are_size_bytes.ensures c.separators.ensures c.accepts_sizes.ensures ∙ ap (λ t. t && c.accepts_sizes.result) c.if-are_size_bytes.true)

pub returns-else-are_size_bytes : goal.returns-else-are_size_bytes
returns-else-are_size_bytes c = sizes_are_not c.args.aperture c.args.text.now c.are_size_bytes.result c.are_size_bytes.ensures c.if-are_size_bytes.false
