-- How the fields of further copper stand for the commands that it has met.
use Rattle.std.specs.Prelude.{◌≡◌, suc, min, ◌+◌, Bool, false, nat_le, ◌&&◌, ◌||◌, List, [], ◌++◌, length, unwrap_or, if◌then◌else◌}
use Rattle.std.specs.List.{cons_option}
use Rattle.gerber_commands.specs.declared.command.Command.{Command}
use Rattle.gerber_commands.specs.declared.command.Command.TheVariants as command
use Rattle.gerber_text.specs.declared.fast_path.LeadingOperation.{LeadingOperation}
use Rattle.layer_features.specs.Drawn.{DrawState}
use Rattle.layer_features.specs.Inner.Plotters.{Selection, after_command, draw_state, selection}
use Rattle.layer_features.specs.declared.clearing.Clearing.{Clearing}
use Rattle.layer_features.specs.declared.copper.Copper.{Copper}
use Rattle.layer_features.specs.declared.drawing.Drawing.{Drawing}
use Rattle.layer_features.specs.declared.part.Part.{Part}
use Rattle.layer_features.specs.declared.plotter.Setting.{Setting}
use Rattle.layer_features.specs.Clearing.{draws, polarity_set}
use Rattle.layer_features.specs.Contours.{contour_of, part_by, starts_region}
use Rattle.layer_features.specs.FurtherPads.{CopperState, ended_copies, plot_state}
use Rattle.layer_features.specs.Inner.Steps.{changes_block, max_regions}

-- the command of an operation that a reader has passed
abbrev pub command_of : LeadingOperation → Command
command_of operation = command.Operate operation.action operation.x operation.y operation.i operation.j

-- a state whose number of regions counts no further than one more than the most
abbrev pub with_capped_regions : CopperState → CopperState
with_capped_regions s = record { draw = s.draw; parts = s.parts; regions = min s.regions (suc max_regions); clearing = s.clearing }

-- one more part that is drawn is kept: it is asked for, and there are no more than a picture shows
abbrev pub takes_part : Drawing → Bool
takes_part drawing = drawing.asked && nat_le (length drawing.parts.items) 100000

-- the fields, and what the commands so far have selected, as the state that the next command meets
abbrev pub copper_state : Selection → Copper → CopperState
copper_state s c = record { draw = draw_state s c.plotter; parts = c.parts.items; regions = c.regions; clearing = c.clearing }

-- the same by a setting
abbrev pub copper_at : Setting → Copper → CopperState
copper_at setting c = copper_state (selection setting) c

-- the parts of the last region after one more command
abbrev pub parts_after : Command → DrawState → List Part → List Part
parts_after c s parts = if starts_region c then [] else parts ++ cons_option (part_by (plot_state s) c) []

-- polarity, and whether something of the open block was drawn in clear polarity, after one more command
abbrev pub clearing_with : Command → Clearing → Clearing
clearing_with c s = record { clear = unwrap_or (polarity_set c) s.clear; in_block = if changes_block c then false else ((draws c && s.clear) || s.in_block) }

-- the state after one more command, where this is selected after it
abbrev pub after : Selection → Command → CopperState → CopperState
after next c s = record {
  draw = after_command next c s.draw;
  parts = parts_after c s.draw s.parts;
  regions = min (s.regions + ended_copies s.draw.now.block c) (suc max_regions);
  clearing = clearing_with c s.clearing;
}

-- parts make the same contour as others, whatever parts follow them
abbrev pub MakeSameContour : List Part → List Part → Type 0
MakeSameContour kept parts = (more : List Part) → contour_of (kept ++ more) ≡ contour_of (parts ++ more)

-- a state with other parts of the last region
abbrev pub with_parts : List Part → CopperState → CopperState
with_parts parts s = record { draw = s.draw; parts = parts; regions = s.regions; clearing = s.clearing }

-- a state stands for another: it has parts that make the same contour as those of the other, and else it is the same
pub record IsLike (s t : CopperState) : Type 0 where
  pub rest : with_parts t.parts s ≡ t
  pub parts : MakeSameContour s.parts t.parts
