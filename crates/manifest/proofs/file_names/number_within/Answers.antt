use Rattle.manifest.proofs.Common.{◌≡◌, sym, true, arith, is_digits}
use Rattle.manifest.proofs.NamesLemmas.{number_is}
use Rattle.manifest.proofs.file_names.number_within.Goals as goal

pub returns : goal.returns
returns c =
    let digits : is_digits c.args.text.now ≡ true = sym c.if-not-is_digits.ensures in
    number_is c.args.limit c.args.text.now _ c.requires digits (omega arith) c.capped_value.ensures
