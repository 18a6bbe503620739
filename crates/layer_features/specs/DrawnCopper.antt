-- What a layer draws that is shown as copper: clear polarity takes away what was drawn before it, as it does pads (docs/FORMATS.md, Pictures).
use Rattle.std.specs.Prelude.{List, take, Option, None, if◌then◌else◌}
use Rattle.std.specs.List.{filter_map}
use Rattle.grid_units.specs.declared.profile.Profile.{Profile}
use Rattle.grid_units.specs.declared.profile.Profile.TheVariants.{Strict, Wide}
use Rattle.gerber_commands.specs.declared.command.Command.{Command}
use Rattle.layer_features.specs.Drawn.{drawn_by, drawn_of}
use Rattle.pad_shapes.specs.declared.drawn.Drawn.{Drawn}
use Rattle.layer_features.specs.Clearing.{positions_after_clearing}
use Rattle.layer_features.specs.FurtherPads.{CopperState, copper_state_after}

-- what a command draws in dark polarity; in clear polarity it draws no copper (Gerber format, Load polarity LP)
abbrev pub dark_part : CopperState → Command → Option Drawn
dark_part s c = if s.clearing.clear then None else drawn_by s.draw c

-- what a command draws after others
abbrev pub drawn_at : List Command × Command → Option Drawn
drawn_at p = dark_part (copper_state_after p.0) p.1

-- what a list of commands draws, in order: of those positions that count, with nothing drawn in clear polarity at them or after
abbrev pub uncleared_drawn : List Command → List Drawn
uncleared_drawn commands = filter_map drawn_at (positions_after_clearing commands)

-- the first parts of what is drawn, one more than a picture shows at most: that one tells that there are too many (docs/FORMATS.md, Pictures)
abbrev pub first_parts : List Drawn → List Drawn
first_parts parts = take 100001 parts

-- the first parts of what a layer of a profile draws; in the strict profile polarity is never clear
abbrev pub drawn_in : Profile → List Command → List Drawn
drawn_in Strict commands = first_parts (drawn_of commands)
drawn_in Wide commands = first_parts (uncleared_drawn commands)
