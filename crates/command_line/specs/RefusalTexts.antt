-- What stands below the text of `clap` where words are refused (docs/FORMATS.md, The program).
use Rattle.std.specs.Prelude.{◌≡◌, ◌&&◌, ◌||◌, ◌++◌, Bool, false, List, [], ◌∷◌, Result, Ok, Err, codes, cond, string_bytes, take}
use Rattle.std.specs.List.{list_any}
use Rattle.std.specs.Str.{bytes_eq}
use Rattle.clap.specs.Words.{Text, fault_of}
use Rattle.clap.specs.Kinds.{IsAmong}
use Rattle.clap.specs.declared.error.kind.ErrorKind.{ErrorKind}
use Rattle.clap.specs.declared.error.kind.ErrorKind.TheVariants.{UnknownArgument}
use Rattle.command_line.specs.declared.CommandLine.{CommandLine}
use Rattle.command_line.specs.declared.Refusal.{Refusal}
use Rattle.command_line.specs.declared.Refusal.TheVariants.{Help, Version, Usage, Memory}
use Rattle.command_line.specs.ProgramArgs.{ringcheck_app}

-- where waivers belong, which is said to a check or a certificate that is asked for with some
abbrev pub waivers_in_check : Text
waivers_in_check = codes "\nOnly report takes waivers; it prints why each finding is accepted:\n  ringcheck report --ring MM --gap MM --waive FILE MANIFEST\n"

-- whether a word is the option for a file of waivers, alone or with its value: `--waive`, `--waive=accepted.csv`
abbrev pub is_waive_option : Text → Bool
is_waive_option word = bytes_eq word (codes "--waive") || bytes_eq (take 8 word) (codes "--waive=")

-- whether words are those of a check or a certificate that is asked for with waivers
abbrev pub is_check_with_waivers : List Text → Bool
is_check_with_waivers [] = false
is_check_with_waivers (command ∷ words) = (bytes_eq command (codes "check") || bytes_eq command (codes "certify")) && list_any is_waive_option words

-- what stands below the text for an error of this kind in these words: where waivers belong, for a check or a certificate that is asked for with some
abbrev pub below_text : ErrorKind → List Text → Text
below_text UnknownArgument words = cond (is_check_with_waivers words) waivers_in_check []
below_text kind words = []

-- a text ends with what stands below it
abbrev pub EndsWith : Text → Text → Type 0
EndsWith below text = (above : Text) × (text ≡ above ++ below)

-- where a refusal is a usage error, its text ends with what stands below it
abbrev pub EndsUsageWith : Text → Refusal → Type 0
EndsUsageWith below (Help text) = Unit {0}
EndsUsageWith below Version = Unit {0}
EndsUsageWith below (Usage text) = EndsWith below (string_bytes text)
EndsUsageWith below Memory = Unit {0}

-- the text of a usage error ends with what stands below it for a fault that `clap` finds in the words
abbrev pub TellsFault : List Text → Result CommandLine Refusal → Type 0
TellsFault words (Ok line) = Unit {0}
TellsFault words (Err (Help text)) = Unit {0}
TellsFault words (Err Version) = Unit {0}
TellsFault words (Err (Usage text)) = (kind : ErrorKind) × IsAmong kind (fault_of ringcheck_app words) × EndsWith (below_text kind words) (string_bytes text)
TellsFault words (Err Memory) = Unit {0}
