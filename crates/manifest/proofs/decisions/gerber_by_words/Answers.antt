use Rattle.manifest.proofs.Common.{◌∙◌, ap, unwrap_or, Option, option_or, Decision, gerber_by_extension, gerber_by_stem, Undecided}
use Rattle.manifest.specs.declared.model.ProposalReason.TheVariants.{NothingSays}
use Rattle.manifest.proofs.decisions.gerber_by_words.Goals as goal

pub returns-in-Some : goal.returns-in-Some
returns-in-Some c =
    ap (λ (o : Option Decision). unwrap_or o (Undecided, NothingSays))
    (c.in-Some.ensures ∙ (λ k. option_or ((c.gerber_by_extension-by_end.ensures ∙ ap gerber_by_extension c.extension_of.ensures) k) ((c.gerber_by_stem-by_stem.ensures ∙ ap gerber_by_stem c.stem_of.ensures) k)))

pub returns-in-None : goal.returns-in-None
returns-in-None c =
    ap (λ (o : Option Decision). unwrap_or o (Undecided, NothingSays))
    (c.in-None.ensures ∙ (λ k. option_or ((c.gerber_by_extension-by_end.ensures ∙ ap gerber_by_extension c.extension_of.ensures) k) ((c.gerber_by_stem-by_stem.ensures ∙ ap gerber_by_stem c.stem_of.ensures) k)))
