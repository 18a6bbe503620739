use Rattle.package_check.proofs.Common.{[], Option, subst, sym, ◌∙◌, CoordinateFormat, Kind}
use Rattle.drill_text.specs.Holding.{StandsBy}
use Rattle.drill_text.specs.declared.kept.Keep.TheVariants as drill_keep
use Rattle.package_check.proofs.open_file.begin_drill.Goals as goal

pub returns-in_ok-say-in-Some-clause-stands : goal.returns-in_ok-say-in-Some-clause-stands
returns-in_ok-say-in-Some-clause-stands c =
    subst (λ (format : Option CoordinateFormat). StandsBy c.say.new.self (let kind : Kind = record { profile = c.args.profile; plating = c.args.known; format = format } in kind) drill_keep.Holes []) (sym c.in-Some.is ∙ c.format_in.ensures)
    (c.in_ok-say-in-Some.ensures.ok c.args.profile c.args.known drill_keep.Holes c.of_kind-reader.ensures)
