use Rattle.drill_lines.proofs.Common.{refl}
use Rattle.drill_lines.proofs.RouteLemmas.{starts_free}
use Rattle.drill_lines.proofs.line_reader.LineReader.new.Goals as goal

pub returns : goal.returns
returns c settings = record { in_profile = refl; route = starts_free c.args.profile settings }
