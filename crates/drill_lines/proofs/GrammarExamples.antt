-- Examples of the grammar: these lines are written for these commands.
use Rattle.drill_lines.proofs.Common.{◌≡◌, inr, [], ◌∷◌, None, Some, refl, sym, subst, arith, lit≤, codes, Millimetre, Trailing, Settings, Comment, Start, UnitLine, Tool, Pick, Hit, Slot, fixed_lines, IsPointText, IsLine}
use Rattle.std.proofs.Common.{pos}
use Rattle.std.specs.List.{Contains}
use Rattle.grid_units.specs.Numbers.{parse_decimal}
use Rattle.drill_lines.specs.declared.command.Part.TheVariants as part
use Rattle.drill_lines.specs.HoleLines.{coordinate_of}
use Rattle.drill_lines.specs.Repeats.{IsRepeatLine}

-- `M48` before the header begins it
start : (s : Settings) → s.part ≡ part.Before → IsLine s (codes "M48") (Some Start)
start s e = subst (λ p. Contains (([], None) ∷ fixed_lines p) (codes "M48", Some Start)) (sym e) (1, omega arith, refl)

-- `METRIC,TZ` in the header is millimetres with trailing zeros
unit_line : (s : Settings) → s.part ≡ part.Header → IsLine s (codes "METRIC,TZ") (Some (UnitLine Millimetre (Some Trailing) None))
unit_line s e = (e, (codes "METRIC", codes ",TZ", refl, (1, omega arith, refl), (2, omega arith, refl), tt))

-- `T1C0.4` in the header is tool 1 of 0.4
tool : (s : Settings) → s.part ≡ part.Header → IsLine s (codes "T1C0.4") (Some (Tool 1 (pos 40_000_000)))
unfolding parse_decimal
tool s e = (e, (codes "1", [], codes "0.4", [], refl, (refl, refl, lit≤ tt), lit≤ tt, (refl, refl), (refl, refl), refl, refl))

-- `T1` in the body picks tool 1
pick : (s : Settings) → s.part ≡ part.Body → IsLine s (codes "T1") (Some (Pick 1))
pick s e = (e, (codes "1", [], refl, (refl, refl, lit≤ tt), (refl, refl)))

-- `X1.0Y2.5` in the body is a hit
hit : (s : Settings) → s.part ≡ part.Body → IsLine s (codes "X1.0Y2.5") (Some (Hit (record { x = Some (pos 100_000_000); y = Some (pos 250_000_000) })))
unfolding coordinate_of parse_decimal
hit s e = (e, (codes "X1.0", codes "Y2.5", refl, (codes "1.0", refl, refl), (codes "2.5", refl, refl), refl))

-- `X1.0Y0.0G85X2.0` in the body is a slot, whose second point names no Y
slot : (s : Settings) → s.part ≡ part.Body → IsLine s (codes "X1.0Y0.0G85X2.0") (Some (Slot (record { x = Some (pos 100_000_000); y = Some (pos 0) }) (record { x = Some (pos 200_000_000); y = None })))
unfolding coordinate_of parse_decimal
slot s e =
    let from : IsPointText s (codes "X1.0Y0.0") (record { x = Some (pos 100_000_000); y = Some (pos 0) }) = (codes "X1.0", codes "Y0.0", refl, (codes "1.0", refl, refl), (codes "0.0", refl, refl), refl) in
    let to : IsPointText s (codes "X2.0") (record { x = Some (pos 200_000_000); y = None }) = (codes "X2.0", [], refl, (codes "2.0", refl, refl), refl, refl) in
    (e, (codes "X1.0Y0.0", codes "X2.0", refl, from, to))

-- `;comment` before the end is a comment
comment : (s : Settings) → s.part ≡ part.Header → IsLine s (codes ";comment") (Some (Comment (codes "comment")))
comment s e = (λ after. absurd cc, refl)

-- `G90` in the body spells nothing
absolute : (s : Settings) → s.part ≡ part.Body → IsLine s (codes "G90") None
absolute s e = subst (λ p. Contains (([], None) ∷ fixed_lines p) (codes "G90", None)) (sym e) (4, omega arith, refl)

-- `R3X2.54` repeats a hit three times, each 2.54 to the right of the one before
repeat : (s : Settings) → s.part ≡ part.Body → IsRepeatLine s (codes "R3X2.54") (record { count = 3; step = record { x = Some (pos 254_000_000); y = None } })
unfolding coordinate_of parse_decimal
repeat s body = (body, codes "3", codes "X2.54", refl, refl, refl, lit≤ tt, lit≤ tt, inr (codes "X2.54", [], refl, (codes "2.54", refl, refl), refl, refl))
