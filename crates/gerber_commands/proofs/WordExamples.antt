-- Words, and the commands that they are written for, or that they are written for none.
use Rattle.gerber_commands.proofs.Common.{◌≡◌, List, Option, [], ◌∷◌, Some, None, Ok, Err, inl, inr, refl, arith, codes, BadWord, BareCoordinate, Command, Comment, Mode, Quadrant, Select, Operate, Linear, Single, Action, Plot, Flash, IsWord}
use Rattle.std.proofs.Common.{pos}
use Rattle.gerber_commands.specs.Numbers.{int_of, nat_of}
use Rattle.gerber_commands.specs.Words.{no_effect_row, split_mode, mode_row, quadrant_row, region_row, unit_row, incremental_row, select_row, coordinate, kind, fields, operands, operate, operation_row, word}
use Rattle.gerber_commands.proofs.Exact.{word_exact}

-- ---- words, and their commands

quadrant : (last : Option Action) → IsWord last (codes "G74") (Quadrant Single ∷ [])
quadrant last = inl (2, omega arith, refl)

line : (last : Option Action) → IsWord last (codes "G01") (Mode Linear ∷ [])
line last = inr (inl (0, omega arith, refl))

comment : (last : Option Action) → IsWord last (codes "G04 x") (Comment (codes " x") ∷ [])
comment last = inr (inr (inl (codes " x", refl, refl, refl, refl)))

aperture : (last : Option Action) → IsWord last (codes "D10") (Select 10 ∷ [])
unfolding nat_of
aperture last = inr (inr (inr (inl (codes "10", 10, inl refl, refl, omega arith, refl))))

older_aperture : (last : Option Action) → IsWord last (codes "G54D10") (Select 10 ∷ [])
unfolding nat_of
older_aperture last = inr (inr (inr (inl (codes "10", 10, inr refl, refl, omega arith, refl))))

flash : (last : Option Action) → IsWord last (codes "X1Y2D03") (Operate Flash (Some (pos 1)) (Some (pos 2)) None None ∷ [])
unfolding int_of nat_of
flash last = inr (inr (inr (inr (record {
  mode = ([], []);
  x = Some (codes "1");
  y = Some (codes "2");
  i = None;
  j = None;
  d = Some (codes "03");
  what = Flash;
  at = (Some (pos 1), Some (pos 2));
  offset = (None, None);
  mode_is = (0, omega arith, refl);
  written = refl;
  some = refl;
  names = (refl, refl, refl, refl);
  does = inl refl;
  plots = inr (refl, refl);
  is = refl;
}))))

mode_and_plot : (last : Option Action) → IsWord last (codes "G01X1D1") (Mode Linear ∷ Operate Plot (Some (pos 1)) None None None ∷ [])
unfolding int_of nat_of
mode_and_plot last = inr (inr (inr (inr (record {
  mode = (codes "G01", Mode Linear ∷ []);
  x = Some (codes "1");
  y = None;
  i = None;
  j = None;
  d = Some (codes "1");
  what = Plot;
  at = (Some (pos 1), None);
  offset = (None, None);
  mode_is = (1, omega arith, refl);
  written = refl;
  some = refl;
  names = (refl, refl, refl, refl);
  does = inl refl;
  plots = inl refl;
  is = refl;
}))))

-- the last operation again
once_more : (what : Action) → IsWord (Some what) (codes "X5") (Operate what (Some (pos 5)) None None None ∷ [])
unfolding int_of
once_more what = inr (inr (inr (inr (record {
  mode = ([], []);
  x = Some (codes "5");
  y = None;
  i = None;
  j = None;
  d = None;
  what = what;
  at = (Some (pos 5), None);
  offset = (None, None);
  mode_is = (0, omega arith, refl);
  written = refl;
  some = refl;
  names = (refl, refl, refl, refl);
  does = inr (refl, refl);
  plots = inr (refl, refl);
  is = refl;
}))))

-- ---- words of no commands

-- only a plot has offsets
no_move_with_offset : (last : Option Action) (commands : List Command) → IsWord last (codes "I5D02") commands → ⊥
unfolding word no_effect_row mode_row split_mode quadrant_row region_row unit_row incremental_row select_row operation_row fields operate operands coordinate kind int_of nat_of
no_move_with_offset last commands h = let e : Err BadWord ≡ Ok commands = word_exact last (codes "I5D02") commands h in cc

-- none is repeated
no_bare_coordinate : (commands : List Command) → IsWord None (codes "X5") commands → ⊥
unfolding word no_effect_row mode_row split_mode quadrant_row region_row unit_row incremental_row select_row operation_row fields operate operands coordinate kind int_of
no_bare_coordinate commands h = let e : Err BareCoordinate ≡ Ok commands = word_exact None (codes "X5") commands h in cc

-- `%` stands in no word
no_percent : (last : Option Action) (commands : List Command) → IsWord last (codes "G04 5%") commands → ⊥
unfolding word
no_percent last commands h = let e : Err BadWord ≡ Ok commands = word_exact last (codes "G04 5%") commands h in cc
