-- Layers: what a whole text says in a profile, or its first fault. Where no profile is named, it is the strict one.
use Rattle.std.specs.Prelude.{◌≡◌, ◌⊎◌, ◌↔◌, ℕ, List, length, map, Option, Result, Ok, Err}
use Rattle.std.specs.List.{Contains}
use Rattle.grid_units.specs.declared.fault.Fault.{Fault}
use Rattle.grid_units.specs.declared.fault.Fail.TheVariants as fails
use Rattle.pad_shapes.specs.declared.pad.Pad.{Pad}
use Rattle.pad_shapes.specs.declared.wide_pad.WidePad.TheVariants.{Plain}
use Rattle.grid_units.specs.declared.profile.Profile.{Profile}
use Rattle.grid_units.specs.declared.profile.Profile.TheVariants.{Strict, Wide}
use Rattle.gerber_text.specs.Reading.{Entries, ReadsIn, SpellsTextIn, SpellsPrefixIn, SpellsBeforeFaultIn}
use Rattle.layer_state.specs.declared.flash.Flash.{Flash}
use Rattle.layer_state.specs.Flashes.{flashes_of, other_count, pads_of}
use Rattle.layer_features.specs.DrawnCopper.{uncleared_drawn}
use Rattle.layer_features.specs.Drawn.{drawn_of}
use Rattle.layer_features.specs.Features.{features_of, strict_view}
use Rattle.layer_features.specs.Features as feature_lists
use Rattle.layer_state.specs.Faults.{IsFirstFault}
use Rattle.layer_state.specs.FileFunction.{file_function_of}
use Rattle.layer_state.specs.Rules.{all_rules, broken_rule_in}
use Rattle.gerber_text.specs.Writing.{without_places}
use Rattle.grid_units.specs.Lists.{IsLegal}

-- a layer: commands, each with its place; flashes and pads in order; how many flashes are pads and how many are not; the text after `.FileFunction,`, if it
-- is named
pub record LayerImage : Type 0 where
  pub commands : Entries
  pub flashes : List Flash
  pub pads : List Pad
  pub pad_count : ℕ
  pub other : ℕ
  pub file_function : Option (List ℕ)

-- the layer of some commands: all the rest follows from them
abbrev pub image_of : Entries → LayerImage
image_of entries = record {
  commands = entries;
  flashes = flashes_of (without_places entries);
  pads = pads_of (flashes_of (without_places entries));
  pad_count = length (pads_of (flashes_of (without_places entries)));
  other = other_count (flashes_of (without_places entries));
  file_function = file_function_of (without_places entries);
}

-- a layer's text of these commands in a profile: it is cut into items that spell them, and they are legal
pub record IsLayerTextIn (profile : Profile) (text : List ℕ) (commands : Entries) : Type 0 where
  pub spells : SpellsTextIn profile text commands
  pub legal : IsLegal (broken_rule_in profile) (without_places commands)

-- the text is a layer's text of the image's commands in the profile, and the rest of the image follows from them
abbrev pub IsLayerIn : Profile → List ℕ → LayerImage → Type 0
IsLayerIn profile text image = IsLayerTextIn profile text image.commands × (image ≡ image_of image.commands)

-- the same in the strict profile
abbrev pub IsLayer : List ℕ → LayerImage → Type 0
IsLayer text image = IsLayerIn Strict text image

-- In the profile a text reads as the layer whose text it is; or it has this fault. Some first items spell commands, and this is their
-- first fault by the rules; or it is the fault of reading, and the commands before it are legal.
abbrev pub ReadsLayerIn : Profile → List ℕ → Result LayerImage Fault → Type 0
ReadsLayerIn profile text (Ok image) = IsLayerIn profile text image
ReadsLayerIn profile text (Err f) =
    ((kept : ℕ) × (entries : Entries) × SpellsPrefixIn profile text kept entries × IsFirstFault profile entries f)
    ⊎ ((entries : Entries) × ReadsIn profile text (Err f) × SpellsBeforeFaultIn profile text (fails.Refused f) entries × IsLegal (broken_rule_in profile) (without_places entries))

-- the same in the strict profile
abbrev pub ReadsLayer : List ℕ → Result LayerImage Fault → Type 0
ReadsLayer text answer = ReadsLayerIn Strict text answer

-- texts that spell equal commands, at whatever places, have equal flashes, pads, number of other flashes and file function
abbrev pub EqualCommands : Type 0
EqualCommands = (s t : List ℕ) (a b : LayerImage) → ReadsLayer s (Ok a) → ReadsLayer t (Ok b) → without_places a.commands ≡ without_places b.commands
    → (a.flashes ≡ b.flashes) × (a.pads ≡ b.pads) × (a.file_function ≡ b.file_function) × (a.other ≡ b.other)

-- ---- in each profile

-- in each profile a text is a layer's text of some commands just where reading it gives these and they are legal
abbrev pub LayerTexts : Type 0
LayerTexts = (profile : Profile) (text : List ℕ) (commands : Entries) → IsLayerTextIn profile text commands ↔ (ReadsIn profile text (Ok commands) × IsLegal (broken_rule_in profile) (without_places commands))

-- in each profile a text reads as one layer, or has one fault
abbrev pub ReadingIsUniqueIn : Type 0
ReadingIsUniqueIn = (profile : Profile) (text : List ℕ) (a b : Result LayerImage Fault) → ReadsLayerIn profile text a → ReadsLayerIn profile text b → a ≡ b

-- in each profile a text reads as a layer just where reading it gives legal commands, those of the layer, and the rest follows from them
abbrev pub LayersOfTextsIn : Type 0
LayersOfTextsIn = (profile : Profile) (text : List ℕ) (image : LayerImage)
    → ReadsLayerIn profile text (Ok image) ↔ (ReadsIn profile text (Ok image.commands) × IsLegal (broken_rule_in profile) (without_places image.commands) × (image ≡ image_of image.commands))

-- in each profile a fault of a layer has the reason of one of the fifteen rules, or it is the fault of its text
abbrev pub LayerReasonsIn : Type 0
LayerReasonsIn = (profile : Profile) (text : List ℕ) (f : Fault) → ReadsLayerIn profile text (Err f) → Contains all_rules f.reason ⊎ ReadsIn profile text (Err f)

-- in each profile each text reads as a layer, or has a fault
abbrev pub EachTextAnswersIn : Type 0
EachTextAnswersIn = (profile : Profile) (text : List ℕ) → (answer : Result LayerImage Fault) × ReadsLayerIn profile text answer

-- a text of the strict profile reads as the same layer in the wide one, where it draws nothing in clear polarity: so the strict view of its flashes
-- and contours there are those of the strict profile; its pads of standard apertures are the pads of the layer, and all that it draws stands
pub record IsStrictView (text : List ℕ) (layer : LayerImage) : Type 0 where
  pub wide : ReadsLayerIn Wide text (Ok layer)
  pub features : strict_view (features_of Wide (without_places layer.commands)) ≡ features_of Strict (without_places layer.commands)
  pub pads : feature_lists.pads_of (features_of Strict (without_places layer.commands)) ≡ map (λ (pad : Pad). Plain pad) layer.pads
  pub drawn : uncleared_drawn (without_places layer.commands) ≡ drawn_of (without_places layer.commands)

-- a text that reads as a layer in the strict profile has such a view
abbrev pub StrictLayers : Type 0
StrictLayers = (text : List ℕ) (layer : LayerImage) → ReadsLayer text (Ok layer) → IsStrictView text layer
