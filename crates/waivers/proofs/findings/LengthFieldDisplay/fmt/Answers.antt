use Rattle.waivers.proofs.Common.{◌≡◌, ◌∙◌, ap, rules, sym, w64, has_written_of_eq}
use mir.Val.{of_z, to_z}
use Rattle.std.proofs.lemmas.Int.{to_z-of_z}
use Rattle.grid_units.specs.LengthWords.{short_millimetres}
use Rattle.waivers.proofs.Quoted.{length_field}
use Rattle.waivers.proofs.findings.LengthFieldDisplay.fmt.Goals as goal

pub returns-clause-writes : goal.returns-clause-writes
returns-clause-writes g c = λ plain ok.
    let length = c.args.self.now.0 in
    let fits : to_z w64 (of_z w64 length) ≡ length = search (rules, to_z-of_z) in
    has_written_of_eq _ _ _ _ _ (ap short_millimetres fits ∙ sym (length_field length)) (c.write.ensures.writes plain ok)
