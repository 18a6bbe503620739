use Rattle.std.proofs.lemmas.Result.{on_ok_weaker}
use Rattle.gerber_commands.proofs.CanonicalLemmas.{sizes_parts}
use Rattle.gerber_commands.proofs.canonical.put_sizes.Goals as goal

pub returns-in_ok-put_dec-in-len1-up : goal.returns-in_ok-put_dec-in-len1-up
returns-in_ok-put_dec-in-len1-up c =
    on_ok_weaker c.put_further_sizes.result (sizes_parts c.args.sizes.now c.first-item.result c.args.out.now.items c.put_dec.new.out.items c.put_further_sizes.new.out.items c.in-len1-up.len_at_least c.first-item.is c.in_ok-put_dec-in-len1-up.ensures) c.put_further_sizes.ensures
