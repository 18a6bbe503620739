-- What is printed where a word is refused (docs/FORMATS.md, The program).
use Rattle.std.specs.Prelude.{◌≡◌, ◌++◌, ◌∷◌, ◌⊎◌, [], ℕ, Bool, true, false, List, Option, Some, None, codes}
use Rattle.std.specs.Io.KnownBytes.{Appends}
use Rattle.grid_units.specs.Ascii as ascii
use Rattle.grid_units.specs.Reasons.{reason_name}
use Rattle.grid_units.specs.declared.fault.Reason.{Reason}
use Rattle.ringcheck_files.specs.declared.Status.{Status}
use Rattle.ringcheck_files.specs.declared.Status.TheVariants as status
use Rattle.ringcheck_files.specs.Writers.{IsSilent, Written}

-- the line of a word that is refused: `usage reason=BadRole`
abbrev pub usage_line : Reason → List ℕ
usage_line why = codes "usage reason=" ++ (reason_name why ++ ascii.line_feed ∷ [])

-- what a status says where a word is refused: just its line was written, or the status is Device
abbrev pub IsUsageStatus : Reason → Option (List ℕ) → Option (List ℕ) → Status → Type 0
IsUsageStatus why before after s = ((s ≡ status.Usage) × Appends before after (usage_line why)) ⊎ (s ≡ status.Device)

-- a sentence below a line: two spaces, the sentence and LF
abbrev pub sentence_line : List ℕ → List ℕ
sentence_line sentence = codes "  " ++ (sentence ++ ascii.line_feed ∷ [])

-- to the writer beside the answer just this sentence was written, on a line, or nothing where there is none
abbrev pub Says : Option (List ℕ) → Option (List ℕ) → Option (List ℕ) → Type 0
Says None before after = after ≡ before
Says (Some sentence) before after = Appends before after (sentence_line sentence)

-- just the line of a word that is refused was written, with this sentence below it, or, if not `below`, beside it
abbrev pub PrintsUsage : Bool → Reason → List ℕ → Written → Written → Type 0
PrintsUsage true why sentence before after = Appends before.0 after.0 (usage_line why ++ sentence_line sentence) × IsSilent before after
PrintsUsage false why sentence before after = Appends before.0 after.0 (usage_line why) × Says (Some sentence) before.1 after.1

-- what a status says where a word is refused and a sentence says why: just both were written, or the status is Device
abbrev pub IsExplainedUsage : Bool → Reason → List ℕ → Written → Written → Status → Type 0
IsExplainedUsage below why sentence before after s = ((s ≡ status.Usage) × PrintsUsage below why sentence before after) ⊎ (s ≡ status.Device)
