-- What a reader of a layer in pieces holds after the bytes so far.
use Rattle.std.specs.Prelude.{◌≡◌, ◌⊎◌, ℕ, Bool, false, List, [], ◌++◌, map, Option, None, Some, Err, if◌then◌else◌}
use Rattle.grid_units.specs.Lists.{IsLegal}
use Rattle.grid_units.specs.declared.fault.Fault.{Fault}
use Rattle.grid_units.specs.declared.fault.Fail.{Fail}
use Rattle.grid_units.specs.declared.fault.Fail.TheVariants as fails
use Rattle.grid_units.specs.declared.profile.Profile.{Profile}
use Rattle.pad_shapes.specs.declared.pad.Pad.{Pad}
use Rattle.pad_shapes.specs.declared.wide_pad.WidePad.{WidePad}
use Rattle.gerber_text.specs.Reading.{Entries, ShowsIn, SpellsPrefixIn, SpellsBeforeFaultIn}
use Rattle.gerber_text.specs.Holding.{StandsIn, held_entries}
use Rattle.gerber_text.specs.Writing.{without_places}
use Rattle.gerber_text.specs.declared.reader.WordReader.{WordReader}
use Rattle.layer_features.specs.CopperHolding.{HasMet, copper_pads, forgets_pads}
use Rattle.layer_state.specs.Faults.{IsFirstFault}
use Rattle.layer_state.specs.Flashes.{flashes_of}
use Rattle.layer_state.specs.Holding.{HasScannedLegal, scanned_pads}
use Rattle.layer_features.specs.Kept.{keeps_commands}
use Rattle.layer_state.specs.KeptFlashes.{without_flashes, without_pads}
use Rattle.layer_state.specs.Rules.{broken_rule_in}
use Rattle.layer_state.specs.declared.flash.FlashKeep.{FlashKeep}
use Rattle.layer_features.specs.declared.keep.Keep.{Keep}
use Rattle.layer_state.specs.declared.scan.Scan.{Scan}
use Rattle.layer_image.specs.Kept.{flashes_kept, plain}
use Rattle.layer_image.specs.declared.content.LayerContent.{LayerContent}
use Rattle.layer_image.specs.declared.content.LayerContent.TheVariants as content
use Rattle.layer_image.specs.declared.met.Met.{Met}
use Rattle.layer_image.specs.declared.reader.LayerReader.{LayerReader}

-- In a profile a text shows this fault of a layer, whatever follows: the first by the rules in what some first items spell, or its own after legal commands.
abbrev pub ShowsLayerFaultIn : Profile → List ℕ → Fault → Type 0
ShowsLayerFaultIn profile text f =
    ((kept : ℕ) × (entries : Entries) × SpellsPrefixIn profile text kept entries × IsFirstFault profile entries f)
    ⊎ ((entries : Entries) × ShowsIn profile text (Err f) × SpellsBeforeFaultIn profile text (fails.Refused f) entries × IsLegal (broken_rule_in profile) (without_places entries))

-- ---- judged commands

-- just these commands were met, none of them breaks a rule of the profile, and these pads were taken out on the way
pub record HasMetLegal (profile : Profile) (keep : Keep) (taken : List WidePad) (met : Met) (entries : Entries) : Type 0 where
  pub scanned : HasScannedLegal met.scan (without_flashes profile (flashes_of (without_places entries))) entries
  pub copper : HasMet keep taken met.copper (without_places entries)

-- the same, where the flashes of the strict profile are all that is needed
pub record HasScannedFor (profile : Profile) (keep : Keep) (taken : List WidePad) (scan : Scan) (entries : Entries) : Type 0 where
  pub kept : FlashKeep
  pub is : flashes_kept profile keep ≡ Some kept
  pub plain_taken : List Pad
  pub same : taken ≡ map plain plain_taken
  pub scanned : HasScannedLegal scan (without_pads profile kept plain_taken) entries

-- the commands so far are just these, none of them breaks a rule of the profile, and of what they make is held what is kept in the profile
abbrev pub HasContent : Profile → Keep → List WidePad → LayerContent → Entries → Type 0
HasContent profile keep taken (content.Flashes scan) entries = HasScannedFor profile keep taken scan entries
HasContent profile keep taken (content.Features met) entries = (flashes_kept profile keep ≡ None) × HasMetLegal profile keep taken met entries

-- the pads of standard apertures that are held in the strict profile
abbrev pub plain_in : LayerContent → List Pad
plain_in (content.Flashes scan) = scanned_pads scan
plain_in (content.Features met) = []

-- the pads that are held in the wide profile
abbrev pub wide_in : LayerContent → List WidePad
wide_in (content.Flashes scan) = []
wide_in (content.Features met) = copper_pads met.copper

-- clear polarity took away the pads that were taken out before
abbrev pub forgets_in : LayerContent → Bool
forgets_in (content.Flashes scan) = false
forgets_in (content.Features met) = forgets_pads met.copper

-- what is left of the pads that were taken out
abbrev pub left_in : LayerContent → List WidePad → List WidePad
left_in content taken = if forgets_in content then [] else taken

-- what is left of them, and the pads that are held
abbrev pub standing_in : LayerContent → List WidePad → List WidePad
standing_in content taken = left_in content taken ++ (map plain (plain_in content) ++ wide_in content)

-- ---- the reader

-- The reader reads in this profile and keeps these parts, and has read this text, which shows no fault; its commands were met, and are kept where that
-- is asked for. These pads were taken from it, as they stood then.
pub record LayerStands (reader : LayerReader) (profile : Profile) (keep : Keep) (taken : List WidePad) (text : List ℕ) : Type 0 where
  pub sound : reader.failed ≡ None
  pub same : reader.keep ≡ keep
  pub same_profile : reader.profile ≡ profile
  pub gone : Entries
  pub words : StandsIn reader.words profile gone text
  pub none : held_entries reader.words ≡ []
  pub content : HasContent profile keep taken reader.content gone
  pub kept : reader.kept.items ≡ (if keeps_commands keep then gone else [])

-- the parts of a reader that drops commands: a word reader has read this text, which shows no fault, and what takes in commands has met them all
pub record HasMetText {C : Type 0} (has_met : C → Entries → Type 0) (reader : WordReader) (content : C) (profile : Profile) (text : List ℕ) : Type 0 where
  pub gone : Entries
  pub words : StandsIn reader profile gone text
  pub none : held_entries reader ≡ []
  pub met : has_met content gone

-- the pads of standard apertures that a reader of the strict profile holds, without those that were taken from it
abbrev pub held_plain : LayerReader → List Pad
held_plain reader = plain_in reader.content

-- the pads that a reader of the wide profile holds
abbrev pub held_wide : LayerReader → List WidePad
held_wide reader = wide_in reader.content

-- clear polarity took away the pads that were taken from a reader
abbrev pub has_forgotten : LayerReader → Bool
has_forgotten reader = forgets_in reader.content

-- what is left of the pads that were taken from a reader
abbrev pub left_pads : LayerReader → List WidePad → List WidePad
left_pads reader taken = left_in reader.content taken

-- what is left of them, and those that the reader holds
abbrev pub standing_pads : LayerReader → List WidePad → List WidePad
standing_pads reader taken = standing_in reader.content taken

-- the failure of a reader, if it has failed
abbrev pub layer_failure : LayerReader → Option Fail
layer_failure reader = reader.failed
