-- Laws of the pads of a list of commands.
use Rattle.std.specs.Prelude.{◌≡◌, ◌↔◌, ℕ, List, length}
use Rattle.std.specs.List.{AllByRecursion, Contains}
use Rattle.grid_units.specs.Lists.{IsLegal, with_prefixes}
use Rattle.grid_units.specs.declared.profile.Profile.{Profile}
use Rattle.pad_shapes.specs.declared.pad.Pad.{Pad}
use Rattle.gerber_commands.specs.declared.command.Command.{Command}
use Rattle.gerber_text.specs.Writing.{without_places}
use Rattle.layer_state.specs.Flashes.{added_flashes, flash_copies, flashes_of, pads_of}
use Rattle.layer_image.specs.Layers.{IsLayer, LayerImage}
use Rattle.layer_state.specs.Lookback.{state_after}
use Rattle.layer_state.specs.Pads.{ArePads, IsFlashed}
use Rattle.layer_state.specs.Rules.{broken_rule_in}

-- the pads among the flashes of a list that is legal in a profile are the pads that its commands make
abbrev pub LegalPads : Type 0
LegalPads = (profile : Profile) (commands : List Command) → IsLegal (broken_rule_in profile) commands → ArePads commands (pads_of (flashes_of commands))

-- a layer's pads are those that its commands make
abbrev pub LayerPads : Type 0
LayerPads = (text : List ℕ) (image : LayerImage) → IsLayer text image → ArePads (without_places image.commands) image.pads

-- commands make at most one list of pads
abbrev pub PadsAreUnique : Type 0
PadsAreUnique = (commands : List Command) (a b : List Pad) → ArePads commands a → ArePads commands b → a ≡ b

-- the list has just the pads that some command makes
abbrev pub PadsAreFlashed : Type 0
PadsAreFlashed = (commands : List Command) (made : List Pad) → ArePads commands made → (pad : Pad) → Contains made pad ↔ IsFlashed commands pad

-- each command of a list that is legal in a profile adds a flash for each copy that it makes
abbrev pub FlashesAreCopies : Type 0
FlashesAreCopies = (profile : Profile) (commands : List Command) → IsLegal (broken_rule_in profile) commands
    → AllByRecursion (λ p. length (added_flashes (state_after p.0) p.1) ≡ flash_copies (state_after p.0).block p.1) (with_prefixes commands)
