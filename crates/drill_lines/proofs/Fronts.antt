-- A coordinate whose run is a decimal with a point.
use Rattle.drill_lines.proofs.Common.{◌≡◌, ℕ, ℤ, true, cond, List, Ok, ap, ◌∙◌, list_any, parse_decimal, parse_zero_filled, Settings, is_point, format_in, zeros_in}
use Rattle.drill_lines.specs.HoleLines.{coordinate_of}

-- a run with a point is read as a decimal, whatever the settings
pub pointed_coordinate : (settings : Settings) (run : List ℕ) (v : ℤ) → list_any is_point run ≡ true → parse_decimal run ≡ Ok v → coordinate_of settings run ≡ Ok v
unfolding coordinate_of
pointed_coordinate settings run v point reads = ap (λ t. cond t (parse_decimal run) (parse_zero_filled run (format_in settings).whole (format_in settings).decimals (zeros_in settings))) point ∙ reads
