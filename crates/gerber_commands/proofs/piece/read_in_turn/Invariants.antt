use Rattle.gerber_commands.proofs.Common.{◌≡◌, ◌++◌, Ok, map, option_copied, ◌>>=◌, spelled_in_turn, split_by, split_by_if, left_of}
use Rattle.gerber_commands.specs.Profiles.{piece_among}
use Rattle.gerber_commands.proofs.piece.read_in_turn.Given as goal

abbrev pub invariant-loop-left : goal.invariant-loop-left
invariant-loop-left l =
    spelled_in_turn (map piece_among (split_by 42 l.text)) ≡ (spelled_in_turn (map piece_among (split_by_if 42 (option_copied l.left))) >>= λ more. Ok (l.commands.items ++ more))

abbrev pub decreases-loop-left : goal.decreases-loop-left
decreases-loop-left l = left_of (option_copied l.left)
