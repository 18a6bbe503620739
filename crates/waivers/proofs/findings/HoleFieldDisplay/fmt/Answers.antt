use Rattle.waivers.proofs.Common.{◌∙◌, ◌++◌, ◌∷◌, [], List, ℕ, ap, codes, map, sym, has_written_of_eq, default_writer, escaped, drilled_words, name_of}
use Rattle.waivers.proofs.Quoted.{hole_quoted}
use Rattle.waivers.proofs.findings.HoleFieldDisplay.fmt.Goals as goal

pub returns-clause-writes : goal.returns-clause-writes
returns-clause-writes g c = λ plain ok.
    let at = c.args.self.now.at in
    has_written_of_eq _ _ _ _ _
    (ap (λ (name : List ℕ). 34 ∷ (escaped default_writer name ++ (codes ", " ++ (drilled_words at.hole ++ 34 ∷ [])))) c.name_of.ensures ∙ sym (hole_quoted (name_of (map (λ name. name.now) c.args.self.now.names.now) at.place.drill) at.hole))
    (c.write.ensures.writes plain ok)
