use Rattle.report.proofs.FirstInHole.{earlier_is, holds_new, widened}
use Rattle.report.proofs.bounds.Bounds.with.Goals as goal

pub returns-clause-within : goal.returns-clause-within
returns-clause-within c =
    holds_new c.args.self (record { least = c.lesser_corner.result; greatest = c.greater_corner.result; first = c.earlier_flash.result }) c.args.other
    c.lesser_corner.ensures.x c.lesser_corner.ensures.y c.greater_corner.ensures.x c.greater_corner.ensures.y (earlier_is c.args.self.first c.args.other c.earlier_flash.result c.earlier_flash.ensures).2

pub returns-clause-keeps : goal.returns-clause-keeps
returns-clause-keeps c = λ held w.
    widened c.args.self (record { least = c.lesser_corner.result; greatest = c.greater_corner.result; first = c.earlier_flash.result }) c.args.other held
    c.lesser_corner.ensures.x c.lesser_corner.ensures.y c.greater_corner.ensures.x c.greater_corner.ensures.y (earlier_is c.args.self.first c.args.other c.earlier_flash.result c.earlier_flash.ensures).1 w

pub returns-clause-first : goal.returns-clause-first
returns-clause-first c = (earlier_is c.args.self.first c.args.other c.earlier_flash.result c.earlier_flash.ensures).0
