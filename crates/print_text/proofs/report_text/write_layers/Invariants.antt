use Rattle.print_text.proofs.Common.{map, take, HasWritten, IsPlainFormatter, enumerate_from, flat_map, layer_text}
use Rattle.print_text.proofs.report_text.write_layers.Given as goal

abbrev pub invariant-loop-i : goal.invariant-loop-i
invariant-loop-i g l =
    IsPlainFormatter l.initial.f → HasWritten g.W.Write.write_str_gives l.initial.f (flat_map (layer_text (map (λ name. name.now) l.page.names.now) l.page.rules.now l.page.limit l.page.rings.now l.page.accepted.now) (take l.i (enumerate_from 0 l.layers))) l.f
