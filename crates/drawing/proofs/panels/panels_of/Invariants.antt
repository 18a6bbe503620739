use Rattle.drawing.proofs.Common.{map, take, AllZip, enumerate_from, IsPanel}
use Rattle.drawing.proofs.panels.panels_of.Given as goal

abbrev pub invariant-loop-layer : goal.invariant-loop-layer
invariant-loop-layer l = AllZip (IsPanel (map (λ name. name.now) l.names) l.board l.edge l.findings l.layout) (take l.layer (enumerate_from 0 l.files)) l.panels.items
