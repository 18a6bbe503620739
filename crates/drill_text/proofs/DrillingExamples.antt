-- Examples of holes.
use Rattle.drill_text.proofs.Common.{pos, List, [], ◌∷◌, None, Some, refl, GridHole, Millimetre, DrillCommand, Start, UnitLine, Tool, HeaderEnd, Pick, Hit, Finish}
use Rattle.drill_text.specs.Drilling.{AreHoles}

-- a hit at 1 mm, 2 mm
abbrev pub hit : DrillCommand
hit = Hit (record { x = Some (pos 100_000_000); y = Some (pos 200_000_000) })

-- with a tool of 0.4 mm
abbrev pub commands : List DrillCommand
commands = Start ∷ UnitLine Millimetre None None ∷ Tool 1 (pos 40_000_000) ∷ HeaderEnd ∷ Pick 1 ∷ hit ∷ Finish ∷ []

-- it is a round hole of radius 200,000,000 pm
round : AreHoles commands (record { from = record { x = pos 1_000_000_000; y = pos 2_000_000_000 }; to = record { x = pos 1_000_000_000; y = pos 2_000_000_000 }; radius = 200_000_000 } ∷ [])
round = (record { unit = Millimetre; unit_named = refl; tool = 1; tool_picked = refl; diameter = pos 40_000_000; diameter_given = refl; path = (refl, refl); radius = refl }, tt)

-- without a tool it is no hole: the commands have no list of holes
without_tool : (holes : List GridHole) → AreHoles (Start ∷ UnitLine Millimetre None None ∷ Tool 1 (pos 40_000_000) ∷ HeaderEnd ∷ hit ∷ []) holes → ⊥
without_tool [] h = h
without_tool (hole ∷ holes) h = let picked = h.0.tool_picked in cc

-- without a unit it is none either
without_unit : (holes : List GridHole) → AreHoles (Start ∷ Tool 1 (pos 40_000_000) ∷ HeaderEnd ∷ Pick 1 ∷ hit ∷ []) holes → ⊥
without_unit [] h = h
without_unit (hole ∷ holes) h = let named = h.0.unit_named in cc
