use Rattle.std.specs.Prelude.{◌≡◌, ℕ, List}
use Rattle.waivers.proofs.Common.{◌∙◌, IfOk-weaker, unused_numbers, IsWaived, report_fields, idle_numbers, BoardReport}
use Rattle.waivers.proofs.IdlePlaces.{unused_is_idle}
use Rattle.waivers.proofs.waiving.idle.Goals as goal

pub returns : goal.returns
returns c =
    let all = c.args.waivers.now in
    let waived = c.args.waived.now in
    let used = c.in_ok-used.used in
    let firsts = c.as_slice.result.now in
    IfOk-weaker c.unused.result (λ numbers. numbers.items ≡ unused_numbers used firsts)
    (λ numbers. (names : List (List ℕ)) (report : BoardReport) → IsWaived all names report waived → numbers.items ≡ idle_numbers all (report_fields names report))
    (λ numbers is. unused_is_idle all used waived firsts numbers.items c.in_ok-used.ensures (c.as_slice.ensures.value ∙ c.in_ok-firsts.ensures) is)
    c.unused.ensures
