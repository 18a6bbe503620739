use Rattle.manifest.proofs.Common.{◌≡◌, ◌∙◌, ◌-◌, ◌+◌, length, drop, take, arith, take_all, length-drop}
use Rattle.manifest.proofs.BaseNameLemmas.{short_none, short_some}
use Rattle.manifest.proofs.file_names.base_name.Goals as goal

pub returns-in-Some : goal.returns-in-Some
returns-in-Some c =
    let name = c.args.name.now in
    let rest = drop (c.in-Some.at + 1) name in
    let all : take (length name - (c.in-Some.at + 1)) rest ≡ rest = take_all _ rest (omega (arith, length-drop (c.in-Some.at + 1) name)) in
    all ∙ short_some name c.in-Some.at c.in-Some.ensures

pub returns-in-None : goal.returns-in-None
returns-in-None c = short_none c.args.name.now c.in-None.ensures
