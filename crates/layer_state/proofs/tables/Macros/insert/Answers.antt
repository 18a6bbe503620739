-- The table has what it had, and one more name.
use Rattle.layer_state.proofs.Common.{◌∙◌, cond, Some, None, nat_eq, option_or}
use Rattle.std.specs.Cmp.Lexicographic.{pointwise}
use Rattle.layer_state.specs.Tables.{macro_at}
use Rattle.layer_state.proofs.NamesLemmas.{lookup_inserted}
use Rattle.layer_state.proofs.tables.Macros.insert.Goals as goal

pub returns : goal.returns
returns c = λ other.
    let old = c.args.self.now in
    let updates = c.in_ok-insert.ensures.updates in
    lookup_inserted other c.in_ok-from_slice.field-0 c.args.pieces old.table.entries c.insert.new.self.entries updates.1 updates.3
    ∙ (λ i. option_or (cond (pointwise nat_eq ((c.in_ok-from_slice.ensures.items ∙ c.bytes.ensures) i) other) (Some c.args.pieces) None) (macro_at old other))
