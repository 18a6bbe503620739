use Rattle.gerber_text.proofs.Common.{◌+◌, length, ◌∙◌, leb, decimal}
use Rattle.gerber_text.proofs.LengthLemmas.{named_few, named_test, plain_test}
use Rattle.gerber_text.proofs.sayable_items.is_named_short.Goals as goal

pub returns-in-None : goal.returns-in-None
returns-in-None c = plain_test c.args.number c.args.name.now c.args.parameters.now c.in-None.is c.requires

pub is_text_short-requires : goal.is_text_short-requires
is_text_short-requires c = named_few c.args.number c.args.name.now c.in-Some.text c.args.parameters.now c.in-Some.is c.requires

pub returns-in-Some : goal.returns-in-Some
returns-in-Some c =
    c.is_text_short.ensures
    ∙ ((λ i. leb (7 + (length (decimal c.args.number) + (length c.args.name.now + length (c.bytes.ensures i)))) 1048576)
    ∙ named_test c.args.number c.args.name.now c.in-Some.text c.args.parameters.now c.in-Some.is c.requires)
