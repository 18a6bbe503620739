use Rattle.drill_text.proofs.Common.{◌≡◌, drop, are_sayable, part_from}
use Rattle.drill_lines.specs.declared.command.Part.TheVariants.{Before}
use Rattle.drill_text.proofs.writer.drill_sayable.Given as goal

abbrev pub invariant-loop-command : goal.invariant-loop-command
invariant-loop-command l = record {
  said : are_sayable Before l.commands ≡ are_sayable l.part (drop l.command-index l.commands);
  ends : part_from Before l.commands ≡ part_from l.part (drop l.command-index l.commands);
}
