use Rattle.gerber_commands.proofs.Common.{◌+◌, ◌≤◌, List, ℕ, map, length, sym, ap, subst, ◌∙◌, IfOk, option_copied, all_values, split_by_if}
use Rattle.grid_units.specs.Numbers.{parse_decimal}
use Rattle.gerber_commands.proofs.Parameters.{joined, one_more, room_left}
use Rattle.gerber_commands.proofs.aperture.read_sizes.Goals as goal

pub loop-left-preserved : goal.loop-left-preserved
loop-left-preserved c =
    let run = c.split_first.result.0.now in
    let left = split_by_if 88 (option_copied c.split_first.result.1) in
    record {
      same = ap (λ s. joined s (all_values (map parse_decimal left))) c.add_size-sizes.ensures
          ∙ (one_more c.loop-left.sizes (parse_decimal run) (all_values (map parse_decimal left))
          ∙ (ap (λ (l : List (List ℕ)). joined c.loop-left.sizes (all_values (map parse_decimal l))) (sym c.split_first.ensures.parts)
          ∙ (ap (λ o. joined c.loop-left.sizes (all_values (map parse_decimal (split_by_if 88 (option_copied o))))) (sym c.in-Some.is)
          ∙ c.loop-left.invariant.same)));
      room = subst (λ r. IfOk r (λ s. length s + length left ≤ 5)) (sym c.add_size-sizes.ensures) (room_left c.loop-left.sizes (parse_decimal run) _ (length left) c.loop-left.invariant.room (ap (λ o. length (split_by_if 88 (option_copied o))) c.in-Some.is ∙ ap length c.split_first.ensures.parts));
    }
