-- How a setting, and the fields of a plotter, stand for the commands that were met.
use Rattle.std.specs.Prelude.{List, Option, unwrap_or}
use Rattle.std.specs.Option.{option_and_then, option_or}
use Rattle.gerber_commands.specs.declared.command.Command.{Command}
use Rattle.layer_features.specs.declared.plotter.Pencil.{Pencil}
use Rattle.layer_features.specs.declared.plotter.Plotter.{Plotter}
use Rattle.layer_features.specs.declared.plotter.Setting.{Setting}
use Rattle.layer_state.specs.declared.current.Current.{Current}
use Rattle.layer_state.specs.declared.tables.Defined.{Defined}
use Rattle.layer_state.specs.Lookback.{current_of, state_after}
use Rattle.layer_state.specs.Shapes.{selected_after}
use Rattle.layer_state.specs.Tables.{defined_at}
use Rattle.layer_features.specs.Drawn.{DrawState, mirroring_set, mode_set, quadrant_set}

-- what the commands so far say last, and the aperture that they have selected
pub record Selection : Type 0 where
  pub now : Current
  pub aperture : Option Defined

-- by these commands
abbrev pub selection_after : List Command → Selection
selection_after before = record { now = current_of (state_after before); aperture = selected_after before }

-- by a setting
abbrev pub selection : Setting → Selection
selection setting = record { now = setting.current.now; aperture = option_and_then (defined_at setting.apertures.now) setting.current.now.selected }

-- the state that the next command meets, by what the commands so far have selected and by a plotter
abbrev pub draw_state : Selection → Plotter → DrawState
draw_state s plotter = record { now = s.now; aperture = s.aperture; mode = plotter.mode; quadrant = plotter.quadrant; mirroring = plotter.mirroring }

-- the state that a pencil draws in
abbrev pub pencil_state : Pencil → DrawState
pencil_state pencil = draw_state (selection pencil.setting.now) pencil.plotter.now

-- the state after one more command, where this is selected after it
abbrev pub after_command : Selection → Command → DrawState → DrawState
after_command next c s = record {
  now = next.now;
  aperture = next.aperture;
  mode = unwrap_or (mode_set c) s.mode;
  quadrant = option_or (quadrant_set c) s.quadrant;
  mirroring = unwrap_or (mirroring_set c) s.mirroring;
}
