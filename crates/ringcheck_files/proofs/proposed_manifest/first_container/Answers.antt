use Rattle.ringcheck_files.proofs.Common.{◌∙◌, sym, IfSome_then}
use Rattle.ringcheck_files.proofs.ManifestStatus.{all_are, not_all, said_first}
use Rattle.ringcheck_files.proofs.proposed_manifest.first_container.Goals as goal

pub returns-clause-one : goal.returns-clause-one
returns-clause-one c =
    let names = c.args.names.now in
    let loaded = c.args.loaded.now in
    let one = c.in_ok-first.first.now in
    let at = sym c.in_ok-first.ensures.value in
    let hold = all_are names loaded one c.requires at (sym c.if-not-are_containers.ensures) in
    let first = said_first names loaded c.in_ok-name.name.now one (sym c.in_ok-name.ensures.value) at in
    IfSome_then c.container_of.result c.container_of.ensures.one (λ one said. (hold, first ∙ said))

pub returns-then-not-are_containers-clause-none : goal.returns-then-not-are_containers-clause-none
returns-then-not-are_containers-clause-none c = λ none. not_all c.args.names.now c.args.loaded.now c.requires (sym c.if-not-are_containers.ensures)
