use Rattle.ring_rules.proofs.Common.{◌≡◌, ◌+◌, ◌*◌, length, get_or, ◌∙◌, arith, get_or_default}
use Rattle.ring_rules.proofs.SpotLemmas.{in_cells_of, run_begins, run_ends}
use Rattle.ring_rules.proofs.spots.Cells.run.Goals as goal

pub index-requires : goal.index-requires
index-requires c =
    let l = in_cells_of c.args.self.now.x c.args.self.now.y c.args.row c.args.left (length c.args.self.now.starts.items) c.requires.row c.requires.left c.requires.cells.size in omega (arith, l, c.args.self.now.starts.ok.0)

pub index-requires-2 : goal.index-requires-2
index-requires-2 c =
    let l = in_cells_of c.args.self.now.x c.args.self.now.y c.args.row c.args.right (length c.args.self.now.starts.items) c.requires.row c.requires.right c.requires.cells.size in omega (arith, l, c.args.self.now.starts.ok.0)

pub returns : goal.returns
returns c =
    let cells = c.args.self.now in
    let start : c.index.result.now ≡ get_or c.args.self.now.starts.items (c.args.row * (c.args.self.now.x.last + 1) + c.args.left) 0 =
    c.index.ensures ∙ get_or_default cells.starts.items _ c.index.result.now 0 (in_cells_of cells.x cells.y c.args.row c.args.left _ c.requires.row c.requires.left c.requires.cells.size) in
    let end : c.index-2.result.now ≡ get_or c.args.self.now.starts.items (c.args.row * (c.args.self.now.x.last + 1) + c.args.right) 0 =
    c.index-2.ensures ∙ get_or_default cells.starts.items _ c.index-2.result.now 0 (in_cells_of cells.x cells.y c.args.row c.args.right _ c.requires.row c.requires.right c.requires.cells.size) in
    let within = c.requires.cells.within (c.args.row * (c.args.self.now.x.last + 1) + c.args.right) in
    let from = run_begins cells.x cells.y cells.starts.items cells.spots c.requires.cells c.args.row c.args.left c.args.right c.requires.row c.requires.right in
    let to = run_ends cells.x cells.y cells.starts.items cells.spots c.requires.cells c.args.row c.args.left c.args.right c.requires.row c.requires.right in
    record { start = start; end = end; within = omega (arith, end, within); holds = λ i h at. (let f = from i h at in omega (arith, start, f), let t = to i h at in omega (arith, end, t)) }
