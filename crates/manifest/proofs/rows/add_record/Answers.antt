use Rattle.manifest.proofs.Common.{◌≡◌, true, rules, is_ok}
use Rattle.manifest.proofs.rows.add_record.Goals as goal

pub returns : goal.returns
returns c =
    let good : is_ok c.push.result ≡ true = search rules in
    (c.in-Ok.row, c.in-Ok.is, rw good at c.push.ensures.items)
