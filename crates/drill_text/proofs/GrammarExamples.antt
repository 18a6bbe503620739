-- An example of a drill text.
use Rattle.drill_text.proofs.Common.{◌≡◌, pos, ℕ, List, [], ◌∷◌, map, None, Some, refl, arith, lit≤, codes, Millimetre, parse_decimal, Start, UnitLine, Tool, HeaderEnd, Pick, Hit, Finish, further_hits, coordinate_of, Strict, IsText, lines_of}
use Rattle.drill_text.proofs.DrillingExamples.{hit, commands}

abbrev text : List ℕ
text = codes "M48\nMETRIC\nT1C0.4\n%\nT1\nX1.0Y2.0\nM30\n"

-- it is a text of these commands, which drill one hole (`DrillingExamples`)
written : IsText Strict None text commands
unfolding coordinate_of parse_decimal
written = record {
  entries = map (λ line. line ∷ []) (lines_of text);
  lines = refl;
  spells = (
    Start ∷ [],
    (Some Start, (1, omega arith, refl), refl),
    (
      UnitLine Millimetre None None ∷ [],
      (Some (UnitLine Millimetre None None), (refl, (codes "METRIC", [], refl, (1, omega arith, refl), (0, omega arith, refl), tt)), refl),
      (
        Tool 1 (pos 40_000_000) ∷ [],
        (Some (Tool 1 (pos 40_000_000)), (refl, (codes "1", [], codes "0.4", [], refl, (refl, refl, lit≤ tt), lit≤ tt, (refl, refl), (refl, refl), refl, refl)), refl),
        (
          HeaderEnd ∷ [],
          (Some HeaderEnd, (1, omega arith, refl), refl),
          (
            Pick 1 ∷ [],
            (Some (Pick 1), (refl, (codes "1", [], refl, (refl, refl, lit≤ tt), (refl, refl))), refl),
            (
              hit ∷ [],
              (Some hit, (refl, (codes "X1.0", codes "Y2.0", refl, (codes "1.0", refl, refl), (codes "2.0", refl, refl), refl)), refl),
              (Finish ∷ [], (Some Finish, (1, omega arith, refl), refl), ([], (None, (0, omega arith, refl), refl), refl)),
            ),
          ),
        ),
      ),
    ),
  );
  ends = (6, omega arith, refl);
}

-- `R2X0.5` after the hit at (1, 2) drills two further holes, at (1.5, 2) and (2, 2)
repeated : further_hits (Pick 1 ∷ hit ∷ []) (record { count = 2; step = record { x = Some (pos 50_000_000); y = None } })
    ≡ Hit (record { x = Some (pos 150_000_000); y = Some (pos 200_000_000) }) ∷ Hit (record { x = Some (pos 200_000_000); y = Some (pos 200_000_000) }) ∷ []
repeated = refl
