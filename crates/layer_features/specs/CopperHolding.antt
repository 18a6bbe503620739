-- What further copper holds of the commands that it has met.
use Rattle.std.specs.Prelude.{◌≡◌, Bool, false, List, [], ◌∷◌, ◌++◌, None, if◌then◌else◌}
use Rattle.gerber_commands.specs.declared.command.Command.{Command}
use Rattle.gerber_text.specs.declared.fast_path.LeadingOperation.{LeadingOperation}
use Rattle.pad_shapes.specs.declared.wide_pad.WidePad.{WidePad}
use Rattle.layer_state.specs.Lookback.{current_of, state_after}
use Rattle.layer_state.specs.declared.current.Current.{Current}
use Rattle.layer_state.specs.Shapes.{defined_numbered}
use Rattle.layer_state.specs.Tables.{defined_at}
use Rattle.layer_features.specs.DrawnCopper.{first_parts, uncleared_drawn}
use Rattle.layer_features.specs.Features.{counts_of, pads_of, wide_features_of}
use Rattle.layer_features.specs.FurtherPads.{copper_state_after}
use Rattle.layer_features.specs.Inner.Plotters.{selection_after}
use Rattle.layer_features.specs.Inner.States.{IsLike, with_capped_regions, copper_state}
use Rattle.layer_features.specs.Kept.{KeepsFeatures, keeps_drawn, keeps_rows, left_pads}
use Rattle.layer_features.specs.declared.copper.Copper.{Copper}
use Rattle.layer_features.specs.declared.copper.CopperParts.{CopperParts}
use Rattle.layer_features.specs.declared.keep.Keep.{Keep}
use Rattle.layer_features.specs.declared.plotter.Setting.{Setting}

-- Just these commands were met, and these pads were taken out on the way: the state is that of the commands, of their flashes and contours is
-- held what is asked for, and the first parts of what is drawn that is not taken away are kept where that is asked for.
pub record HasMet (keep : Keep) (taken : List WidePad) (copper : Copper) (commands : List Command) : Type 0 where
  pub state : IsLike (copper_state (selection_after commands) copper) (with_capped_regions (copper_state_after commands))
  pub rows : copper.kept.rows ≡ keeps_rows keep
  pub kept : KeepsFeatures copper.kept taken (wide_features_of commands)
  pub asked : copper.drawing.asked ≡ keeps_drawn keep
  pub drawn : copper.drawing.parts.items ≡ (if keeps_drawn keep then first_parts (uncleared_drawn commands) else [])

-- what these commands say last, and the apertures that they define with one more
pub record IsSettingOf (setting : Setting) (before : List Command) (c : Command) : Type 0 where
  pub current : setting.current.now ≡ current_of (state_after before)
  pub apertures : defined_at setting.apertures.now ≡ defined_numbered (before ++ c ∷ [])

-- An operation without an interpolation, met in this state, changes nothing of copper but by its flashes: it lies outside of regions, and nothing is
-- drawn or taken away.
pub record IsPassed (copper : Copper) (now : Current) (operation : LeadingOperation) : Type 0 where
  pub alone : operation.mode ≡ None
  pub closed : now.in_region ≡ false
  pub asked : copper.drawing.asked ≡ false
  pub clear : copper.clearing.clear ≡ false
  pub in_block : copper.clearing.in_block ≡ false

-- the pads that are held
abbrev pub copper_pads : Copper → List WidePad
copper_pads copper = copper.kept.pads.items

-- clear polarity took away the pads that were taken out before
abbrev pub forgets_pads : Copper → Bool
forgets_pads copper = copper.kept.forgets

-- what is left of the pads that were taken out before, and those that are held
abbrev pub standing_pads : Copper → List WidePad → List WidePad
standing_pads copper taken = left_pads copper.kept taken ++ copper_pads copper

-- what is kept of these commands, where this is left of the pads that were taken out
pub record IsCopperOf (keep : Keep) (left : List WidePad) (commands : List Command) (parts : CopperParts) : Type 0 where
  pub features : parts.features.items ≡ (if keeps_rows keep then wide_features_of commands else [])
  pub pads : left ++ parts.pads.items ≡ (if keeps_rows keep then [] else pads_of (wide_features_of commands))
  pub drawn : parts.drawn.items ≡ (if keeps_drawn keep then first_parts (uncleared_drawn commands) else [])
  pub counts : parts.counts ≡ counts_of (wide_features_of commands)
