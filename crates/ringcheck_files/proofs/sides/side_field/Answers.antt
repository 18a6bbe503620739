use Rattle.ringcheck_files.proofs.Common.{pos, arith}
use Rattle.ringcheck_files.proofs.Plain.{millimetres_plain, same_plain}
use Rattle.ringcheck_files.proofs.SideLemmas.{side_is}
use Rattle.ringcheck_files.proofs.sides.side_field.Goals as goal

pub returns-clause-text : goal.returns-clause-text
returns-clause-text c = side_is c.args.side _ _ c.whole_text-text.ensures.text c.push_decimals.ensures

pub returns-clause-plain : goal.returns-clause-plain
returns-clause-plain c =
    same_plain _ _ (side_is c.args.side _ _ c.whole_text-text.ensures.text c.push_decimals.ensures) (millimetres_plain (pos c.args.side) (omega arith))
