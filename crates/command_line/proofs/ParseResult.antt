-- The answer to a line, from what `clap` answers.
use Rattle.command_line.proofs.Common.{◌≡◌, ◌∙◌, ap, sym, [], ◌∷◌, List, Option, App, Row, Text, fault_of, subcommand_of, IsLineOf, ringcheck_app}
use Rattle.std.proofs.Common.{◌⊎◌, inl, inr, subst, Ok, Err}
use Rattle.clap.specs.Kinds.{IsAmong, Kinds}
use Rattle.clap.specs.declared.error.kind.ErrorKind.{ErrorKind}
use Rattle.clap.specs.declared.error.kind.ErrorKind.TheVariants.{DisplayHelp, DisplayVersion, OutOfMemory}
use Rattle.command_line.specs.declared.CommandLine.{CommandLine}
use Rattle.command_line.specs.declared.Refusal.{Refusal}
use Rattle.command_line.specs.declared.Refusal.TheVariants.{Help, Version, Usage, Memory}
use Rattle.command_line.specs.ProgramArgs.{ParsesLine, ParsesAsVersion}
use Rattle.command_line.specs.RefusalTexts.{EndsUsageWith, TellsFault, below_text}
use Rattle.command_line.specs.Inner.RequestSteps.{IsRefusalFor}

pub line_is_parsed : (a : App) (words : List Text) (rows : Option (Text × List Row)) (line : CommandLine) → a ≡ ringcheck_app → fault_of a words ≡ [] → rows ≡ subcommand_of a words
    → IsLineOf rows line → ParsesLine words (Ok line)
line_is_parsed a words rows line e none is asks =
    (ap (λ (b : App). fault_of b words) (sym e) ∙ none, subst (λ o. IsLineOf o line) (is ∙ ap (λ (b : App). subcommand_of b words) e) asks)

pub refused : (a : App) (words : List Text) (kind : ErrorKind) (r : Refusal) → a ≡ ringcheck_app → (kind ≡ OutOfMemory) ⊎ IsAmong kind (fault_of a words) → IsRefusalFor kind r
    → (kind ≡ OutOfMemory → r ≡ Memory) → ParsesLine words (Err r)
refused a words kind Memory e has is memory = tt
refused a words kind (Help text) e (inl none) is memory = let h = memory none in cc
refused a words kind (Help text) e (inr among) is memory = subst (λ b. IsAmong DisplayHelp (fault_of b words)) e (subst (λ k. IsAmong k (fault_of a words)) is among)
refused a words kind Version e (inl none) is memory = let h = memory none in cc
refused a words kind Version e (inr among) is memory = subst (λ b. IsAmong DisplayVersion (fault_of b words)) e (subst (λ k. IsAmong k (fault_of a words)) is among)
refused a words kind (Usage text) e (inl none) is memory = let h = memory none in cc
refused a words kind (Usage text) e (inr among) is memory = (kind, subst (λ b. IsAmong kind (fault_of b words)) e among, is.0, is.1)

-- what stands below the text of the refusal
pub fault_told : (a : App) (words : List Text) (kind : ErrorKind) (r : Refusal) → a ≡ ringcheck_app → (kind ≡ OutOfMemory) ⊎ IsAmong kind (fault_of a words)
    → EndsUsageWith (below_text kind words) r → (kind ≡ OutOfMemory → r ≡ Memory) → TellsFault words (Err r)
fault_told a words kind Memory e has ends memory = tt
fault_told a words kind (Help text) e has ends memory = tt
fault_told a words kind Version e has ends memory = tt
fault_told a words kind (Usage text) e (inl none) ends memory = let h = memory none in cc
fault_told a words kind (Usage text) e (inr among) ends memory = (kind, subst (λ b. IsAmong kind (fault_of b words)) e among, ends)

-- the refusal of words of which asking for the version is the only fault
pub version_told : (words : List Text) (r : Refusal) → fault_of ringcheck_app words ≡ DisplayVersion ∷ [] → ParsesLine words (Err r) → ParsesAsVersion (Err r)
version_told words Memory e is = tt
version_told words Version e is = tt
version_told words (Help text) e is = elim (subst (λ (kinds : Kinds). IsAmong DisplayHelp kinds) e is) [ inl same ↦ cc | inr none ↦ absurd none ]
version_told words (Usage text) e is = elim (subst (λ (kinds : Kinds). IsAmong is.0 kinds) e is.1) [ inl same ↦ absurd (is.3 same) | inr none ↦ absurd none ]
