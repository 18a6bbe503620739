-- Pads of some commands.
use Rattle.layer_image.proofs.Common.{ℕ, pos, true, false, List, [], ◌∷◌, ◌++◌, refl, true≢false, Pad, Command, ArePads, ArePadsFrom, ArePadsOf, IsPadOf}
use Rattle.grid_units.specs.declared.lengths.Unit.TheVariants.{Millimetre}
use Rattle.pad_shapes.specs.declared.pad.Pad.TheVariants as pads
use Rattle.gerber_commands.specs.declared.command.Command.TheVariants as command
use Rattle.gerber_commands.specs.declared.command.Standard.TheVariants as standard
use Rattle.gerber_commands.specs.declared.command.Template.TheVariants as template
use Rattle.layer_state.specs.declared.aperture.Aperture.TheVariants as aperture
use Rattle.layer_features.proofs.WidePadExamples.{flash, nanometres, two}

-- `%MOMM*%`, `%FSLAX46Y46*%`, `%ADD10C,0.5*%`, `%ADD11R,1X0.5*%`, `%ADD12C,0.5X0.2*%`
abbrev start : List Command
start =
    command.UnitIs Millimetre ∷ command.FormatIs nanometres
    ∷ command.Define 10 (template.Standard standard.Circle (pos 50000000 ∷ []))
    ∷ command.Define 11 (template.Standard standard.Rectangle (pos 100000000 ∷ pos 50000000 ∷ []))
    ∷ command.Define 12 (template.Standard standard.Circle (pos 50000000 ∷ pos 20000000 ∷ [])) ∷ []

-- none of these makes a pad
after_start : (cs : List Command) (made : List Pad) → ArePadsFrom start cs made → ArePads (start ++ cs) made
after_start cs made rest = ([], made, refl, refl, ([], made, refl, refl, ([], made, refl, refl, ([], made, refl, refl, ([], made, refl, refl, rest)))))

-- a rectangle round (0, 0), of halves of its sides in pm
abbrev rectangle : ℕ → ℕ → Pad
rectangle x y = pads.Rect (record { centre = record { x = pos 0; y = pos 0 }; half_x = x; half_y = y })

-- a disc of 0.5 mm round a point, in pm
abbrev disc : ℕ → ℕ → Pad
disc x y = pads.Disc (record { centre = record { x = pos x; y = pos y }; radius = 250000000 })

-- `D10*`, `X1000000Y2000000D03*`: a disc of 0.5 mm round (1 mm, 2 mm)
pub disc_at_point : ArePads (start ++ command.Select 10 ∷ flash 1000000 2000000 ∷ []) (disc 1000000000 2000000000 ∷ [])
disc_at_point =
    let left : ArePadsOf (start ++ command.Select 10 ∷ []) (flash 1000000 2000000) (disc 1000000000 2000000000 ∷ []) =
    (Millimetre, nanometres, aperture.Circle (pos 50000000) false, record { outside = refl; in_unit = refl; in_format = refl; selected = refl }, refl) in
    after_start (command.Select 10 ∷ flash 1000000 2000000 ∷ []) (disc 1000000000 2000000000 ∷ []) ([], _, refl, refl, (_, [], refl, left, refl))

-- `D11*`, `%LR90*%`, `X0Y0D03*`: a rectangle of 1 mm by 0.5 mm, turned by a quarter, is 0.5 mm wide and 1 mm high
pub turned_rectangle : ArePads (start ++ command.Select 11 ∷ command.Turn (pos 9000000000) ∷ flash 0 0 ∷ []) (rectangle 250000000 500000000 ∷ [])
turned_rectangle =
    let left : ArePadsOf (start ++ command.Select 11 ∷ command.Turn (pos 9000000000) ∷ []) (flash 0 0) (rectangle 250000000 500000000 ∷ []) =
    (Millimetre, nanometres, aperture.Rectangle (pos 100000000) (pos 50000000) false, record { outside = refl; in_unit = refl; in_format = refl; selected = refl }, refl) in
    after_start (command.Select 11 ∷ command.Turn (pos 9000000000) ∷ flash 0 0 ∷ []) (rectangle 250000000 500000000 ∷ []) ([], _, refl, refl, ([], _, refl, refl, (_, [], refl, left, refl)))

-- `D10*`, `%SRX2Y1I5J0*%`, `X0Y0D03*`: two discs, 5 mm apart
pub repeated_disc : ArePads (start ++ command.Select 10 ∷ command.Repeat two ∷ flash 0 0 ∷ []) (disc 0 0 ∷ disc 5000000000 0 ∷ [])
repeated_disc =
    let left : ArePadsOf (start ++ command.Select 10 ∷ command.Repeat two ∷ []) (flash 0 0) (disc 0 0 ∷ disc 5000000000 0 ∷ []) =
    (Millimetre, nanometres, aperture.Circle (pos 50000000) false, record { outside = refl; in_unit = refl; in_format = refl; selected = refl }, refl) in
    after_start (command.Select 10 ∷ command.Repeat two ∷ flash 0 0 ∷ []) (disc 0 0 ∷ disc 5000000000 0 ∷ []) ([], _, refl, refl, ([], _, refl, refl, (_, [], refl, left, refl)))

-- `D12*`, `X0Y0D03*`: a disc with a hole is no pad
pub holed_disc : ArePads (start ++ command.Select 12 ∷ flash 0 0 ∷ []) []
holed_disc =
    let left : ArePadsOf (start ++ command.Select 12 ∷ []) (flash 0 0) [] =
    (Millimetre, nanometres, aperture.Circle (pos 50000000) true, record { outside = refl; in_unit = refl; in_format = refl; selected = refl }, refl) in
    after_start (command.Select 12 ∷ flash 0 0 ∷ []) [] ([], _, refl, refl, ([], [], refl, left, refl))

-- `D10*`, `G36*`, `X0Y0D03*`: a flash inside a region is no pad
pub flash_in_region : (pad : Pad) → IsPadOf (start ++ command.Select 10 ∷ command.RegionStart ∷ []) (flash 0 0) pad → ⊥
flash_in_region pad is = true≢false is.3.outside

-- and such commands have no list of pads
pub no_pads_with_flash_in_region : (made : List Pad) → ArePads (start ++ command.Select 10 ∷ command.RegionStart ∷ flash 0 0 ∷ []) made → ⊥
no_pads_with_flash_in_region made are = true≢false are.4.4.4.4.4.4.4.3.3.outside
