-- The best pads of one layer of a board.
use Rattle.board_report.proofs.Common.{◌≡◌, ◌<◌, ℕ, List, [], Option, Bor, length, get_or, map, ap, sym, subst, ◌∙◌, arith, Vec, get_or-map, length-map, wide_pad_covers, WidePad, Drilled, AreBestPads, BestPad, BoardView, AreBoardBests}

module _ (board : BoardView) where
  -- the best pads at the place of a layer are those of its pads
  pub bests_at : (bests : List (Vec (Option BestPad))) (layer : ℕ) (its : Vec (Option BestPad)) (found : List (Option BestPad)) → AreBoardBests board bests → layer < length bests → its ≡ get_or bests layer its → found ≡ its.items
      → AreBestPads wide_pad_covers (get_or board.layers layer []) board.holes found
  bests_at bests layer its found are within stands is =
      subst (λ (bs : List (Option BestPad)). AreBestPads wide_pad_covers (get_or board.layers layer []) board.holes bs) kept (are.each layer below)
    where
      below : layer < length board.layers
      below = (let all = are.size in let size = length-map bests (λ (its : Vec (Option BestPad)). its.items) in omega (arith, size, all, within))

      kept : get_or (map (λ its. its.items) bests) layer [] ≡ found
      kept = get_or-map (λ its. its.items) bests layer its [] within ∙ sym (ap (λ its. its.items) stands) ∙ sym is
